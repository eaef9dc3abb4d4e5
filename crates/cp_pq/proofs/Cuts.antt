-- Rows of compared nodes that are cut where they enter and leave a set.
use Rattle.std.proofs.Common.{◌≡◌, ◌≢◌, ℕ, ◌≤◌, Bool, true, false, cond, not, ◌&&◌, ◌⊎◌, List, [], ◌∷◌, ◌++◌, length}
use Rattle.std.proofs.Common.{length-append, map, filter, inl, inr, ⊎_elim, refl, sym, ap, ◌∙◌, subst, append_assoc}
use Rattle.std.proofs.Common.{append-nil, arith}
use Rattle.std.specs.List.{list_all, AllZip}
use Rattle.std.proofs.lemmas.Bool.{both_ways, and_parts, and_from}
use Rattle.std.proofs.lemmas.List.Elements.{filter-append}
use Rattle.cp_pq.specs.declared.node.Node.{Node}
use Rattle.cp_pq.specs.declared.found.Found.{Found}
use Rattle.cp_pq.specs.Words.{has_all, is_clear, is_met}
use Rattle.cp_pq.specs.Founds.{IsGiven, out_node, in_node}
use Rattle.cp_pq.specs.Cuts.{IsCut}
use Rattle.cp_pq.proofs.FilledRows.{not_nil}
use Rattle.cp_pq.proofs.AlwaysTogether.{Run}

module _ (q p : ℕ → Bool) where
  -- nodes outside were found outside
  outs_found : (ks : List Node) (fs : List Found) → AllZip (IsGiven q p) ks fs → list_all (has_all q) ks ≡ true
      → fs ≡ map Found.Out ks
  outs_found [] [] z h = refl
  outs_found [] (f ∷ fs) z h = absurd z
  outs_found (k ∷ ks) [] z h = absurd z
  outs_found (k ∷ ks) (f ∷ fs) z h = let g = and_parts (has_all q k) (list_all (has_all q) ks) h in
      one f z.0 g.0 (outs_found ks fs z.1 g.1)
    where
      one : (f : Found) → IsGiven q p k f → has_all q k ≡ true → fs ≡ map Found.Out ks
          → f ∷ fs ≡ Found.Out k ∷ map Found.Out ks
      one (Found.Out m) g o e = let same : m ≡ k = g.2 in cc
      one (Found.In m) g o e = absurd (both_ways (has_all q k) g.0 o)
      one (Found.Line front back ties) g o e = absurd (both_ways (has_all q k) g.0 o)
      one Found.Torn g o e = absurd (both_ways (has_all q k) g.0 o)

  -- nodes inside were found inside
  ins_found : (ks : List Node) (fs : List Found) → AllZip (IsGiven q p) ks fs → list_all (has_all p) ks ≡ true
      → fs ≡ map Found.In ks
  ins_found [] [] z h = refl
  ins_found [] (f ∷ fs) z h = absurd z
  ins_found (k ∷ ks) [] z h = absurd z
  ins_found (k ∷ ks) (f ∷ fs) z h = let g = and_parts (has_all p k) (list_all (has_all p) ks) h in
      one f z.0 g.0 (ins_found ks fs z.1 g.1)
    where
      one : (f : Found) → IsGiven q p k f → has_all p k ≡ true → fs ≡ map Found.In ks
          → f ∷ fs ≡ Found.In k ∷ map Found.In ks
      one (Found.In m) g o e = let same : m ≡ k = g.2 in cc
      one (Found.Out m) g o e = absurd (both_ways (has_all p k) g.1 o)
      one (Found.Line front back ties) g o e = absurd (both_ways (has_all p k) g.1 o)
      one Found.Torn g o e = absurd (both_ways (has_all p k) g.1 o)

  -- two rows one behind the other were compared one behind the other
  zip_parts : (xs ys : List Node) (fs : List Found) → AllZip (IsGiven q p) (xs ++ ys) fs
      → (f g : List Found) × (fs ≡ f ++ g) × AllZip (IsGiven q p) xs f × AllZip (IsGiven q p) ys g
  zip_parts [] ys fs z = ([], fs, refl, tt, z)
  zip_parts (k ∷ xs) ys [] z = absurd z
  zip_parts (k ∷ xs) ys (x ∷ fs) z = let h = zip_parts xs ys fs z.1 in
      (x ∷ h.0, h.1, ap (λ w. x ∷ w) h.2, (z.0, h.3), h.4)

  -- a row of nodes outside, inside, outside was found as such
  pub cut_found : (ks : List Node) (fs : List Found) → AllZip (IsGiven q p) ks fs → (r : Run q p ks)
      → IsCut fs r.before r.run r.after
  cut_found ks fs z r =
      let a = zip_parts r.before (r.run ++ r.after) fs (subst (λ w. AllZip (IsGiven q p) w fs) r.is z) in
      let b = zip_parts r.run r.after a.1 a.4 in
      let x = outs_found r.before a.0 a.3 r.out_before in
      let y = ins_found r.run b.0 b.3 r.all_in in
      let w = outs_found r.after b.1 b.4 r.out_after in
      let e = a.2 in let f = b.2 in
      cc

  -- a compared node is not outside and inside at once
  pub zip_clear : (ks : List Node) (fs : List Found) → AllZip (IsGiven q p) ks fs → list_all (is_clear q p) ks ≡ true
  zip_clear [] [] z = refl
  zip_clear [] (f ∷ fs) z = absurd z
  zip_clear (k ∷ ks) [] z = absurd z
  zip_clear (k ∷ ks) (f ∷ fs) z =
      and_from (is_clear q p k) (list_all (is_clear q p) ks) (one f z.0) (zip_clear ks fs z.1)
    where
      second : (a b : Bool) → b ≡ false → not (a && b) ≡ true
      second true b e = ap (λ c. not c) e
      second false b e = refl

      first : (a b : Bool) → a ≡ false → not (a && b) ≡ true
      first a b e = ap (λ c. not (c && b)) e

      one : (f : Found) → IsGiven q p k f → is_clear q p k ≡ true
      one (Found.Out m) g = second (has_all q k) (has_all p k) g.1
      one (Found.In m) g = first (has_all q k) (has_all p k) g.0
      one (Found.Line front back ties) g = first (has_all q k) (has_all p k) g.0
      one Found.Torn g = first (has_all q k) (has_all p k) g.0

  -- some of the nodes are not more than all
  filter_short : (t : Node → Bool) (ks : List Node) → length (filter t ks) ≤ length ks
  filter_short t [] = omega arith
  filter_short t (k ∷ ks) = let l = filter_short t ks in
      elim (t k) as (λ b. length (cond b (k ∷ filter t ks) (filter t ks)) ≤ length (k ∷ ks))
      [ true ↦ omega (arith, l) | false ↦ omega (arith, l) ]

  -- no node outside is met
  none_met : (ks : List Node) → list_all (has_all q) ks ≡ true → filter (is_met q) ks ≡ []
  none_met [] h = refl
  none_met (k ∷ ks) h =
      let g = and_parts (has_all q k) (list_all (has_all q) ks) h in
      ap (λ b. cond (not b) (k ∷ filter (is_met q) ks) (filter (is_met q) ks)) g.0 ∙ none_met ks g.1

  -- the run has all nodes that meet the set
  pub run_long : (ks : List Node) (r : Run q p ks) → 2 ≤ length (filter (is_met q) ks) → 2 ≤ length r.run
  run_long ks r two =
      let f = is_met q in
      let e : filter f ks ≡ filter f r.before ++ (filter f r.run ++ filter f r.after) =
      ap (filter f) r.is ∙ filter-append f r.before (r.run ++ r.after)
      ∙ ap (λ z. filter f r.before ++ z) (filter-append f r.run r.after) in
      let l = ap length e in
      let a = length-append (filter f r.before) (filter f r.run ++ filter f r.after) in
      let b = length-append (filter f r.run) (filter f r.after) in
      let x = ap length (none_met r.before r.out_before) in
      let y = ap length (none_met r.after r.out_after) in
      let s = filter_short f r.run in
      omega (arith, l, a, b, x, y, s, two)

  -- where not all is inside, something stands beside the run
  pub run_beside : (ks : List Node) (r : Run q p ks) → list_all (has_all p) ks ≡ false
      → 1 ≤ length (r.before ++ r.after)
  run_beside ks r part = go r.before r.after r.is
    where
      go : (before after : List Node) → ks ≡ before ++ (r.run ++ after) → 1 ≤ length (before ++ after)
      go [] [] e = absurd (both_ways (list_all (has_all p) ks) part
          (ap (list_all (has_all p)) e ∙ ap (list_all (has_all p)) (append-nil r.run) ∙ r.all_in))
      go [] (x ∷ after) e = omega arith
      go (x ∷ before) after e = omega arith

-- what is left to be cut, when part of a row has been cut
pub record Remains (before run after parts_before parts_run parts_after : List Node) (left : List Found) : Type 0 where
  pub more_before : List Node
  pub more_run : List Node
  pub more_after : List Node
  pub left_is : IsCut left more_before more_run more_after
  pub before_is : before ≡ parts_before ++ more_before
  pub run_is : run ≡ parts_run ++ more_run
  pub after_is : after ≡ parts_after ++ more_after
  pub entered : parts_run ≢ [] → more_before ≡ []
  pub out : parts_after ≢ [] → more_run ≡ []

-- how one more node is added to the parts
pub record IsAdded (b r a b2 r2 a2 : List Node) (f : Found) : Type 0 where
  pub before : r ≡ [] → b2 ≡ b ++ out_node f
  pub no_more_before : r ≢ [] → b2 ≡ b
  pub run : r2 ≡ r ++ in_node f
  pub not_yet_after : r ≡ [] → a2 ≡ a
  pub after : r ≢ [] → a2 ≡ a ++ out_node f

-- a row is empty or not
nil_or : (xs : List Node) → (xs ≡ []) ⊎ (xs ≢ [])
nil_or [] = inl refl
nil_or (x ∷ xs) = inr (λ e. cc)

-- one more node is added where it belongs
pub add_remains : (before run after b r a b2 r2 a2 : List Node) (f : Found) (left : List Found) → run ≢ []
    → Remains before run after b r a (f ∷ left) → IsAdded b r a b2 r2 a2 f → (r ≡ [] → a ≡ [])
    → Remains before run after b2 r2 a2 left × (r2 ≡ [] → a2 ≡ [])
add_remains before run after b r a b2 r2 a2 f left some m d none =
    go m.more_before m.more_run m.more_after m.left_is m.before_is m.run_is m.after_is m.entered m.out
  where
    go : (mb mr ma : List Node) → IsCut (f ∷ left) mb mr ma → before ≡ b ++ mb → run ≡ r ++ mr → after ≡ a ++ ma
        → (r ≢ [] → mb ≡ []) → (a ≢ [] → mr ≡ []) → Remains before run after b2 r2 a2 left × (r2 ≡ [] → a2 ≡ [])
    go (x ∷ mb) mr ma e eb er ea entered out =
        let h : f ≡ Found.Out x = cc in
        let t : left ≡ map Found.Out mb ++ (map Found.In mr ++ map Found.Out ma) = cc in
        let empty : r ≡ [] = ⊎_elim (λ n. n) (λ n. let z : x ∷ mb ≡ [] = entered n in absurd cc) (nil_or r) in
        let b2_is : b2 ≡ b ++ x ∷ [] = d.before empty ∙ ap (λ z. b ++ out_node z) h in
        let r2_is : r2 ≡ r = d.run ∙ ap (λ z. r ++ in_node z) h ∙ append-nil r in
        let a2_is : a2 ≡ a = d.not_yet_after empty in (
          record {
            more_before = mb;
            more_run = mr;
            more_after = ma;
            left_is = t;
            before_is = eb ∙ sym (append_assoc b (x ∷ []) mb) ∙ ap (λ z. z ++ mb) (sym b2_is);
            run_is = er ∙ ap (λ z. z ++ mr) (sym r2_is);
            after_is = ea ∙ ap (λ z. z ++ ma) (sym a2_is);
            entered = λ n. absurd (n (r2_is ∙ empty));
            out = λ n. out (λ z. n (a2_is ∙ z));
          },
          λ n. a2_is ∙ none empty,
        )
    go [] (x ∷ mr) ma e eb er ea entered out =
        let h : f ≡ Found.In x = cc in
        let t : left ≡ map Found.In mr ++ map Found.Out ma = cc in
        let r2_is : r2 ≡ r ++ x ∷ [] = d.run ∙ ap (λ z. r ++ in_node z) h in
        let none_behind : a ≡ [] = ⊎_elim (λ n. n) (λ n. let z : x ∷ mr ≡ [] = out n in absurd cc) (nil_or a) in
        let b2_is : b2 ≡ b = ⊎_elim (λ n. d.before n ∙ ap (λ z. b ++ out_node z) h ∙ append-nil b)
        (λ n. d.no_more_before n) (nil_or r) in
        let a2_is : a2 ≡ a = ⊎_elim (λ n. d.not_yet_after n)
        (λ n. d.after n ∙ ap (λ z. a ++ out_node z) h ∙ append-nil a) (nil_or r) in (
          record {
            more_before = [];
            more_run = mr;
            more_after = ma;
            left_is = t;
            before_is = eb ∙ ap (λ z. z ++ []) (sym b2_is);
            run_is = er ∙ sym (append_assoc r (x ∷ []) mr) ∙ ap (λ z. z ++ mr) (sym r2_is);
            after_is = ea ∙ ap (λ z. z ++ ma) (sym a2_is);
            entered = λ n. refl;
            out = λ n. absurd (n (a2_is ∙ none_behind));
          },
          λ n. absurd (not_nil r x (sym r2_is ∙ n)),
        )
    go [] [] (x ∷ ma) e eb er ea entered out =
        let h : f ≡ Found.Out x = cc in
        let t : left ≡ map Found.Out ma = cc in
        let full : r ≢ [] = (λ n. some (er ∙ append-nil r ∙ n)) in
        let b2_is : b2 ≡ b = d.no_more_before full in
        let r2_is : r2 ≡ r = d.run ∙ ap (λ z. r ++ in_node z) h ∙ append-nil r in
        let a2_is : a2 ≡ a ++ x ∷ [] = d.after full ∙ ap (λ z. a ++ out_node z) h in (
          record {
            more_before = [];
            more_run = [];
            more_after = ma;
            left_is = t;
            before_is = eb ∙ ap (λ z. z ++ []) (sym b2_is);
            run_is = er ∙ ap (λ z. z ++ []) (sym r2_is);
            after_is = ea ∙ sym (append_assoc a (x ∷ []) ma) ∙ ap (λ z. z ++ ma) (sym a2_is);
            entered = λ n. refl;
            out = λ n. refl;
          },
          λ n. absurd (full (sym r2_is ∙ n)),
        )
    go [] [] [] e eb er ea entered out = absurd cc

-- where nothing is left the parts are whole
pub none_remains : (before run after b r a : List Node) (left : List Found) → left ≡ []
    → Remains before run after b r a left
    → (b ≡ before) × (r ≡ run) × (a ≡ after)
none_remains before run after b r a left nil m =
    go m.more_before m.more_run m.more_after m.left_is m.before_is m.run_is m.after_is
  where
    go : (mb mr ma : List Node) → IsCut left mb mr ma → before ≡ b ++ mb → run ≡ r ++ mr → after ≡ a ++ ma
        → (b ≡ before) × (r ≡ run) × (a ≡ after)
    go [] [] [] e eb er ea = (sym (eb ∙ append-nil b), sym (er ∙ append-nil r), sym (ea ∙ append-nil a))
    go (x ∷ mb) mr ma e eb er ea = absurd cc
    go [] (x ∷ mr) ma e eb er ea = absurd cc
    go [] [] (x ∷ ma) e eb er ea = absurd cc
