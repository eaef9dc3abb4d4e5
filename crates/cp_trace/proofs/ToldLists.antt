-- Lines behind each other: which may stand there, and where they end.
use Rattle.std.proofs.Common.{◌≡◌, ℕ, zero, suc, ◌+◌, ◌<◌, List, [], ◌∷◌, ◌++◌, length, map, take, drop, get_or, sym, refl, ap, ◌∙◌, subst, arith, append_assoc}
use Rattle.std.specs.Prelude.{Option, Some, slice_index}
use Rattle.std.specs.List.{AllByRecursion}
use Rattle.std.specs.List.Sorted.{IsStrictlyIncreasing}
use Rattle.std.proofs.lemmas.List.{append-nil, map-append, take-append-drop, take_more}
use Rattle.std.proofs.lemmas.List.Concat.{flat_map-append}
use Rattle.std.proofs.Math.Seq.{drop-cons}
use Rattle.cp_board.specs.declared.parts.Vert.{Vert}
use Rattle.cp_board.specs.declared.parts.EdgeRow.{EdgeRow}
use Rattle.cp_board.specs.declared.parts.Pipe.{Pipe}
use Rattle.cp_trace.specs.Faults.{AreToldEdges, AreToldPipes, AreToldVerts, IsToldEdge, IsToldPipe, IsToldVert}
use Rattle.cp_trace.specs.Reading.{AreLines, GoesNoFurther, IsAbove, Lacks, last_of}
use Rattle.cp_trace.specs.Texts.{text_of}
use Rattle.cp_trace.proofs.CutLemmas.{cut_unique, lacks_not}

-- one item more that has a property
pub all_push : {A : Type 0} (Q : A → Type 0) (xs : List A) (x : A) → AllByRecursion Q xs → Q x
    → AllByRecursion Q (xs ++ x ∷ [])
all_push Q [] x all q = (q, tt)
all_push Q (y ∷ xs) x all q = (all.0, all_push Q xs x all.1 q)

-- what holds of all items of two lists holds of the first of the second
pub all_at : {A : Type 0} (Q : A → Type 0) (xs : List A) (x : A) (ys : List A) → AllByRecursion Q (xs ++ x ∷ ys) → Q x
all_at Q [] x ys all = all.0
all_at Q (y ∷ xs) x ys all = all_at Q xs x ys all.1

-- and of those of the first
pub all_front : {A : Type 0} (Q : A → Type 0) (xs ys : List A) → AllByRecursion Q (xs ++ ys) → AllByRecursion Q xs
all_front Q [] ys all = tt
all_front Q (x ∷ xs) ys all = (all.0, all_front Q xs ys all.1)

-- and of those of the second
pub all_behind : {A : Type 0} (Q : A → Type 0) (xs ys : List A) → AllByRecursion Q (xs ++ ys) → AllByRecursion Q ys
all_behind Q [] ys all = all
all_behind Q (x ∷ xs) ys all = all_behind Q xs ys all.1

-- the rest of rising numbers rises
pub rest_rises : (n : ℕ) (ns : List ℕ) → IsStrictlyIncreasing (n ∷ ns) → IsStrictlyIncreasing ns
rest_rises n ns up k lt =
    subst (λ j. slice_index ns k < slice_index (n ∷ ns) j) (let e : suc k + 1 ≡ suc (k + 1) = omega arith in e)
    (up (suc k) (omega (arith, lt)))

-- a number less than the first of rising numbers in front of them
rises_cons : (m n : ℕ) (ns : List ℕ) → m < n → IsStrictlyIncreasing (n ∷ ns) → IsStrictlyIncreasing (m ∷ n ∷ ns)
rises_cons m n ns less up zero lt = less
rises_cons m n ns less up (suc k) lt =
    subst (λ j. slice_index (n ∷ ns) k < slice_index (m ∷ n ∷ ns) j)
    (let e : suc (k + 1) ≡ suc k + 1 = omega arith in e) (up k (omega (arith, lt)))

-- one number more rises, where it is greater than the last
pub rises_push : (ns : List ℕ) (n : ℕ) → IsStrictlyIncreasing ns → IsAbove (last_of ns) n
    → IsStrictlyIncreasing (ns ++ n ∷ [])
rises_push [] n up above = λ k lt. absurd (omega (arith, lt))
rises_push (m ∷ []) n up above = rises_cons m n [] above (λ k lt. absurd (omega (arith, lt)))
rises_push (m ∷ l ∷ ns) n up above =
    rises_cons m l (ns ++ n ∷ []) (up 0 (omega arith)) (rises_push (l ∷ ns) n (rest_rises m (l ∷ ns) up) above)

-- and where it rises it is greater
pub above_last : (ns : List ℕ) (n : ℕ) (more : List ℕ) → IsStrictlyIncreasing (ns ++ n ∷ more) → IsAbove (last_of ns) n
above_last [] n more up = tt
above_last (m ∷ []) n more up = up 0 (omega arith)
above_last (m ∷ l ∷ ns) n more up = above_last (l ∷ ns) n more (rest_rises m (l ∷ ns ++ n ∷ more) up)

-- rising numbers rise from the front on
pub front_rises : (ns ms : List ℕ) → IsStrictlyIncreasing (ns ++ ms) → IsStrictlyIncreasing ns
front_rises [] ms up = λ k lt. absurd (omega (arith, lt))
front_rises (n ∷ []) ms up = λ k lt. absurd (omega (arith, lt))
front_rises (n ∷ m ∷ ns) ms up =
    rises_cons n m ns (up 0 (omega arith)) (front_rises (m ∷ ns) ms (rest_rises n (m ∷ ns ++ ms) up))

-- the last number of a list
pub last_push : (ns : List ℕ) (n : ℕ) → last_of (ns ++ n ∷ []) ≡ Some n
last_push [] n = refl
last_push (m ∷ []) n = refl
last_push (m ∷ l ∷ ns) n = last_push (l ∷ ns) n

-- the last name, behind one item more
pub last_name : {A : Type 0} (name : A → ℕ) (xs : List A) (x : A) → last_of (map name (xs ++ x ∷ [])) ≡ Some (name x)
last_name name xs x = ap last_of (map-append name xs (x ∷ [])) ∙ last_push (map name xs) (name x)

-- one vertex more
pub verts_push : (vs : List Vert) (v : Vert) → AreToldVerts vs → IsToldVert v
    → IsAbove (last_of (map (λ x. x.name) vs)) v.name
    → AreToldVerts (vs ++ v ∷ [])
verts_push vs v are told above = record {
  rise = subst IsStrictlyIncreasing (sym (map-append (λ (x : Vert). x.name) vs (v ∷ [])))
      (rises_push (map (λ x. x.name) vs) v.name are.rise above);
  told = all_push IsToldVert vs v are.told told;
}

-- the next vertex
pub next_vert : (vs : List Vert) (v : Vert) (more : List Vert) → AreToldVerts (vs ++ v ∷ more)
    → IsToldVert v × IsAbove (last_of (map (λ x. x.name) vs)) v.name
next_vert vs v more are = (
  all_at IsToldVert vs v more are.told,
  above_last (map (λ x. x.name) vs) v.name (map (λ x. x.name) more)
      (subst IsStrictlyIncreasing (map-append (λ (x : Vert). x.name) vs (v ∷ more)) are.rise),
)

-- one edge more
pub edges_push : (es : List EdgeRow) (e : EdgeRow) → AreToldEdges es → IsToldEdge e
    → IsAbove (last_of (map (λ x. x.name) es)) e.name → AreToldEdges (es ++ e ∷ [])
edges_push es e are told above = record {
  rise = subst IsStrictlyIncreasing (sym (map-append (λ (x : EdgeRow). x.name) es (e ∷ [])))
      (rises_push (map (λ x. x.name) es) e.name are.rise above);
  told = all_push IsToldEdge es e are.told told;
}

-- the next edge
pub next_edge : (es : List EdgeRow) (e : EdgeRow) (more : List EdgeRow) → AreToldEdges (es ++ e ∷ more)
    → IsToldEdge e × IsAbove (last_of (map (λ x. x.name) es)) e.name
next_edge es e more are = (
  all_at IsToldEdge es e more are.told,
  above_last (map (λ x. x.name) es) e.name (map (λ x. x.name) more)
      (subst IsStrictlyIncreasing (map-append (λ (x : EdgeRow). x.name) es (e ∷ more)) are.rise),
)

-- one pipe more
pub pipes_push : (ps : List Pipe) (p : Pipe) → AreToldPipes ps → IsToldPipe p
    → IsAbove (last_of (map (λ x. x.name) ps)) p.name → AreToldPipes (ps ++ p ∷ [])
pipes_push ps p are told above = record {
  rise = subst IsStrictlyIncreasing (sym (map-append (λ (x : Pipe). x.name) ps (p ∷ [])))
      (rises_push (map (λ x. x.name) ps) p.name are.rise above);
  told = all_push IsToldPipe ps p are.told told;
}

-- the next pipe
pub next_pipe : (ps : List Pipe) (p : Pipe) (more : List Pipe) → AreToldPipes (ps ++ p ∷ more)
    → IsToldPipe p × IsAbove (last_of (map (λ x. x.name) ps)) p.name
next_pipe ps p more are = (
  all_at IsToldPipe ps p more are.told,
  above_last (map (λ x. x.name) ps) p.name (map (λ x. x.name) more)
      (subst IsStrictlyIncreasing (map-append (λ (x : Pipe). x.name) ps (p ∷ more)) are.rise),
)

-- no lines are read at first
pub no_lines : {A : Type 0} (spell : A → List ℕ) (May : List A → Type 0) (text : List ℕ) → May []
    → AreLines spell May text [] text
no_lines spell May text may = record { may = may; spelled = refl }

-- the text of one line more
text_push : {A : Type 0} (spell : A → List ℕ) (xs : List A) (x : A)
    → text_of (map spell (xs ++ x ∷ [])) ≡ text_of (map spell xs) ++ (spell x ++ 10 ∷ [])
text_push spell xs x =
    ap text_of (map-append spell xs (x ∷ []))
    ∙ flat_map-append (λ l. l ++ 10 ∷ []) (map spell xs) (spell x ∷ [])
    ∙ ap (λ t. text_of (map spell xs) ++ t) (append-nil (spell x ++ 10 ∷ []))

-- one line more is read
pub one_line_more : {A : Type 0} (spell : A → List ℕ) (May : List A → Type 0) (text : List ℕ) (xs : List A)
    (rest line after : List ℕ) (x : A) → AreLines spell May text xs rest → rest ≡ line ++ 10 ∷ after → line ≡ spell x
    → May (xs ++ x ∷ []) → AreLines spell May text (xs ++ x ∷ []) after
one_line_more spell May text xs rest line after x lines cut is may = record {
  may = may;
  spelled =
      lines.spelled
      ∙ ap (λ t. text_of (map spell xs) ++ t)
      (cut ∙ ap (λ t. t ++ 10 ∷ after) is ∙ sym (append_assoc (spell x) (10 ∷ []) after))
      ∙ sym (append_assoc (text_of (map spell xs)) (spell x ++ 10 ∷ []) after)
      ∙ ap (λ t. t ++ after) (sym (text_push spell xs x));
}

-- a first line that is none of the next item
pub no_line_more : {A : Type 0} (spell : A → List ℕ) (May : List A → Type 0) (xs : List A) (rest line after : List ℕ)
    → ((x : A) → May (xs ++ x ∷ []) → Lacks 10 (spell x)) → Lacks 10 line → rest ≡ line ++ 10 ∷ after
    → ((x : A) → May (xs ++ x ∷ []) → line ≡ spell x → ⊥) → GoesNoFurther spell May xs rest
no_line_more spell May xs rest line after free lacks cut none x later may spelled =
    none x may (cut_unique 10 line (spell x) after later lacks (free x may) (sym cut ∙ spelled)).0

-- without a line feed there is no line more
pub no_line_left : {A : Type 0} (spell : A → List ℕ) (May : List A → Type 0) (xs : List A) (rest : List ℕ)
    → Lacks 10 rest → GoesNoFurther spell May xs rest
no_line_left spell May xs rest lacks x later may spelled = lacks_not 10 (spell x) later (subst (Lacks 10) spelled lacks)

-- a number less than or equal to the last one breaks the order
pub falls_at : {A : Type 0} (name : A → ℕ) (xs : List A) (k : ℕ) (x : A) (last : Option ℕ) → k < length xs
    → x ≡ get_or xs k x → last ≡ last_of (map name (take k xs)) → (IsAbove last (name x) → ⊥)
    → IsStrictlyIncreasing (map name xs) → ⊥
falls_at name xs k x last lt at is none up =
    let rest : List _ = drop (suc k) xs in
    let whole : xs ≡ take k xs ++ x ∷ rest =
    sym (take-append-drop k xs) ∙ ap (λ ys. take k xs ++ ys) (drop-cons xs k x lt ∙ ap (λ y. y ∷ rest) (sym at)) in
    let named : map name xs ≡ map name (take k xs) ++ name x ∷ map name rest =
    ap (map name) whole ∙ map-append name (take k xs) (x ∷ rest) in
    none (subst (λ o. IsAbove o (name x)) (sym is) (above_last (map name (take k xs)) (name x) (map name rest)
    (subst IsStrictlyIncreasing named up)))

-- one item more in order
pub rises_on : {A : Type 0} (name : A → ℕ) (xs : List A) (k : ℕ) (x : A) (last : Option ℕ) → k < length xs
    → x ≡ get_or xs k x → last ≡ last_of (map name (take k xs)) → IsAbove last (name x)
    → IsStrictlyIncreasing (map name (take k xs))
    → IsStrictlyIncreasing (map name (take (k + 1) xs)) × (Some (name x) ≡ last_of (map name (take (k + 1) xs)))
rises_on name xs k x last lt at is above up =
    let front : take (k + 1) xs ≡ take k xs ++ x ∷ [] = take_more xs k x lt ∙ ap (λ y. take k xs ++ y ∷ []) (sym at) in
    let named : map name (take (k + 1) xs) ≡ map name (take k xs) ++ name x ∷ [] =
    ap (map name) front ∙ map-append name (take k xs) (x ∷ []) in (
      subst IsStrictlyIncreasing (sym named) (rises_push (map name (take k xs)) (name x) up
          (subst (λ o. IsAbove o (name x)) is above)),
      sym (ap last_of named ∙ last_push (map name (take k xs)) (name x)),
    )
