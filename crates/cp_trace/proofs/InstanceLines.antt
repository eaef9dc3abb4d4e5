-- Which line may stand behind some lines of an instance.
use Rattle.std.proofs.Common.{◌≡◌, ◌≢◌, ℕ, codes, List, [], ◌∷◌, ◌++◌, length, map, sym, refl, ap, ◌∙◌, subst, arith, append_assoc}
use Rattle.std.specs.List.{AllByRecursion}
use Rattle.std.proofs.lemmas.List.{append-nil}
use Rattle.std.proofs.lemmas.List.Concat.{flat_map-append}
use Rattle.cp_board.specs.declared.parts.Vert.{Vert}
use Rattle.cp_board.specs.declared.parts.EdgeRow.{EdgeRow}
use Rattle.cp_board.specs.declared.parts.Pipe.{Pipe}
use Rattle.cp_board.specs.Instances.{Synchronized, IsSynchronized}
use Rattle.cp_trace.specs.Faults.{AreToldEdges, AreToldPipes, AreToldVerts, IsToldEdge, IsToldInstance, IsToldPipe, IsToldVert}
use Rattle.cp_trace.specs.Reading.{AreParts, GoesNoFurther, StopsInInstance}
use Rattle.cp_trace.specs.Texts.{edge_line, instance_lines, pipe_line, text_of, vert_line}
use Rattle.cp_trace.proofs.LineValues.{edge_same, pipe_same, vert_same}
use Rattle.cp_trace.proofs.ToldLists.{edges_push, next_edge, next_pipe, next_vert, pipes_push, verts_push}

-- the first byte of the first line
abbrev pub head_byte : List (List ℕ) → ℕ
head_byte [] = 0
head_byte ([] ∷ lines) = 0
head_byte ((byte ∷ bytes) ∷ lines) = byte

-- the first of some lines
abbrev pub first_line : List (List ℕ) → List ℕ
first_line [] = []
first_line (line ∷ lines) = line

-- the lines behind the first
abbrev pub lines_after : List (List ℕ) → List (List ℕ)
lines_after [] = []
lines_after (line ∷ lines) = lines

-- two numbers are the same
abbrev pub Same : ℕ → ℕ → Type 0
Same a b = a ≡ b

-- two rows of lines of one kind, each told by its first byte, of which the first one ends: it goes on behind the second
pub rows_compare : {A : Type 0} (spell : A → List ℕ) (Told : A → Type 0) (byte : ℕ)
    → ((x : A) (lines : List (List ℕ)) → head_byte (spell x ∷ lines) ≡ byte)
    → ((x y : A) → Told x → Told y → spell x ≡ spell y → x ≡ y)
    → (xs ys : List A) (x y : List (List ℕ)) → AllByRecursion Told xs → AllByRecursion Told ys → head_byte x ≢ byte
    → map spell xs ++ x ≡ map spell ys ++ y
    → (more : List A) × (xs ≡ ys ++ more) × (map spell more ++ x ≡ y)
rows_compare spell Told byte head same xs [] x y tx ty ends h = (xs, refl, h)
rows_compare spell Told byte head same [] (b ∷ ys) x y tx ty ends h =
    absurd (ends (ap head_byte h ∙ head b (map spell ys ++ y)))
rows_compare spell Told byte head same (a ∷ xs) (b ∷ ys) x y tx ty ends h =
    let line : spell a ≡ spell b = cc in
    let tails : map spell xs ++ x ≡ map spell ys ++ y = cc in
    let first : a ≡ b = same a b tx.0 ty.0 line in
    let rest = rows_compare spell Told byte head same xs ys x y tx.1 ty.1 ends tails in
    (rest.0, ap (λ z. z ∷ xs) first ∙ ap (λ zs. b ∷ zs) rest.1, rest.2)

-- the lines of the pipes and then the last line
abbrev pub pipe_rows : List Pipe → List (List ℕ) → List (List ℕ)
pipe_rows ps x = map pipe_line ps ++ x

-- the lines of the edges and the pipes and then the last line
abbrev pub edge_rows : List EdgeRow → List Pipe → List (List ℕ) → List (List ℕ)
edge_rows es ps x = map edge_line es ++ pipe_rows ps x

-- the last line of an instance, and what stands behind it
abbrev pub end_lines : List (List ℕ) → List (List ℕ)
end_lines behind = codes "instance end" ∷ behind

-- an instance of these parts
abbrev pub instance_with : List Vert → List EdgeRow → List Pipe → Synchronized
instance_with vs es ps = record { verts = vs; edges = es; pipes = ps }

-- the instance without parts
abbrev pub nothing : Synchronized
nothing = instance_with [] [] []

-- its lines are right
pub nothing_told : IsToldInstance nothing
nothing_told = record {
  verts = record { rise = λ k lt. absurd (omega (arith, lt)); told = tt };
  edges = record { rise = λ k lt. absurd (omega (arith, lt)); told = tt };
  pipes = record { rise = λ k lt. absurd (omega (arith, lt)); told = tt };
}

-- the last line is none of pipes
pub end_not_pipe : (behind : List (List ℕ)) → head_byte (end_lines behind) ≢ 112
end_not_pipe behind e = (let f : Same 105 112 = e in omega arith)

-- the lines of pipes and the last line are none of edges
pub pipes_not_edge : (ps : List Pipe) (behind : List (List ℕ)) → head_byte (pipe_rows ps (end_lines behind)) ≢ 101
pipes_not_edge [] behind e = (let f : Same 105 101 = e in omega arith)
pipes_not_edge (p ∷ ps) behind e = (let f : Same 112 101 = e in omega arith)

-- the lines of edges, of pipes and the last line are none of vertices
pub edges_not_vert : (es : List EdgeRow) (ps : List Pipe) (behind : List (List ℕ))
    → head_byte (edge_rows es ps (end_lines behind)) ≢ 118
edges_not_vert [] [] behind e = (let f : Same 105 118 = e in omega arith)
edges_not_vert [] (p ∷ ps) behind e = (let f : Same 112 118 = e in omega arith)
edges_not_vert (x ∷ es) ps behind e = (let f : Same 101 118 = e in omega arith)

-- what is read of lines, and the line that comes next
module _ (vs : List Vert) (es : List EdgeRow) (ps : List Pipe) (behind_verts behind_edges rest line after : List ℕ)
    (more : List (List ℕ)) (is_line : rest ≡ line ++ 10 ∷ after) where
  -- behind the pipes comes the last line
  after_pipes : (zs : List Pipe) (behind : List (List ℕ)) → AreToldPipes (ps ++ zs) → AreToldPipes ps
      → GoesNoFurther pipe_line AreToldPipes ps rest → pipe_rows zs (end_lines behind) ≡ line ∷ more
      → (zs ≡ []) × (end_lines behind ≡ line ∷ more)
  after_pipes [] behind told are none h = (refl, h)
  after_pipes (z ∷ zs) behind told are none h =
      let at = next_pipe ps z zs told in
      absurd (none z after (pipes_push ps z are at.0 at.1)
      (is_line ∙ ap (λ t. t ++ 10 ∷ after) (sym (ap first_line h))))

  -- behind the edges come those lines of pipes that were read
  after_edges : (zs : List EdgeRow) (qs : List Pipe) (behind : List (List ℕ)) → AreToldEdges (es ++ zs)
      → AreToldEdges es
      → GoesNoFurther edge_line AreToldEdges es behind_edges → behind_edges ≡ text_of (map pipe_line ps) ++ rest
      → edge_rows zs qs (end_lines behind) ≡ pipe_rows ps (line ∷ more)
      → (zs ≡ []) × (pipe_rows qs (end_lines behind) ≡ pipe_rows ps (line ∷ more))
  after_edges [] qs behind told are none text h = (refl, h)
  after_edges (z ∷ zs) qs behind told are none text h = absurd (no_edge ps text h)
    where
      no_edge : (ks : List Pipe) → behind_edges ≡ text_of (map pipe_line ks) ++ rest
          → edge_rows (z ∷ zs) qs (end_lines behind) ≡ pipe_rows ks (line ∷ more) → ⊥
      no_edge [] t e =
          let at = next_edge es z zs told in
          none z after (edges_push es z are at.0 at.1)
          (t ∙ is_line ∙ ap (λ u. u ++ 10 ∷ after) (sym (ap first_line e)))
      no_edge (k ∷ ks) t e = (let f : Same 101 112 = ap head_byte e in omega arith)

  -- behind the vertices come those lines of edges and pipes that were read
  after_verts : (zs : List Vert) (fs : List EdgeRow) (qs : List Pipe) (behind : List (List ℕ))
      → AreToldVerts (vs ++ zs) → AreToldVerts vs → GoesNoFurther vert_line AreToldVerts vs behind_verts
      → behind_verts ≡ text_of (map edge_line es) ++ behind_edges → behind_edges ≡ text_of (map pipe_line ps) ++ rest
      → map vert_line zs ++ edge_rows fs qs (end_lines behind) ≡ edge_rows es ps (line ∷ more)
      → (zs ≡ []) × (edge_rows fs qs (end_lines behind) ≡ edge_rows es ps (line ∷ more))
  after_verts [] fs qs behind told are none text text_too h = (refl, h)
  after_verts (z ∷ zs) fs qs behind told are none text text_too h = absurd (no_vert es ps text text_too h)
    where
      no_vert : (gs : List EdgeRow) (ks : List Pipe) → behind_verts ≡ text_of (map edge_line gs) ++ behind_edges
          → behind_edges ≡ text_of (map pipe_line ks) ++ rest
          → map vert_line (z ∷ zs) ++ edge_rows fs qs (end_lines behind) ≡ edge_rows gs ks (line ∷ more) → ⊥
      no_vert [] [] t u e =
          let at = next_vert vs z zs told in
          none z after (verts_push vs z are at.0 at.1)
          (t ∙ u ∙ is_line ∙ ap (λ w. w ++ 10 ∷ after) (sym (ap first_line e)))
      no_vert [] (k ∷ ks) t u e = (let f : Same 118 112 = ap head_byte e in omega arith)
      no_vert (g ∷ gs) ks t u e = (let f : Same 118 101 = ap head_byte e in omega arith)

-- the lines of an instance, from the first on
abbrev pub begun_lines : Synchronized → List (List ℕ)
begun_lines i = codes "instance" ∷ map vert_line i.verts ++ map edge_line i.edges ++ map pipe_line i.pipes

-- they stand before the last line
pub grouped_lines : (i : Synchronized) (x : List (List ℕ))
    → begun_lines i ++ x ≡ codes "instance" ∷ (map vert_line i.verts ++ edge_rows i.edges i.pipes x)
grouped_lines i x =
    append_assoc (codes "instance" ∷ map vert_line i.verts ++ map edge_line i.edges) (map pipe_line i.pipes) x
    ∙ append_assoc (codes "instance" ∷ map vert_line i.verts) (map edge_line i.edges) (map pipe_line i.pipes ++ x)

-- an instance whose lines begin with those that were read has just these parts, and the next line is its last
pub next_is_end : (i j : Synchronized) (text rest line after : List ℕ) (behind more : List (List ℕ))
    → AreParts text i rest → rest ≡ line ++ 10 ∷ after → IsToldInstance j
    → instance_lines j ++ behind ≡ begun_lines i ++ line ∷ more
    → (j ≡ i) × (line ≡ codes "instance end") × (behind ≡ more)
next_is_end i j text rest line after behind more are is_line told h =
    let whole : codes "instance" ∷ (map vert_line j.verts ++ edge_rows j.edges j.pipes (end_lines behind))
    ≡ codes "instance" ∷ (map vert_line i.verts ++ edge_rows i.edges i.pipes (line ∷ more)) =
    sym (append_assoc (begun_lines j) (codes "instance end" ∷ []) behind ∙ grouped_lines j (end_lines behind)) ∙ h
    ∙ grouped_lines i (line ∷ more) in
    let rows = ap lines_after whole in
    let v = rows_compare vert_line IsToldVert 118 (λ x lines. refl) vert_same j.verts i.verts
    (edge_rows j.edges j.pipes (end_lines behind)) (edge_rows i.edges i.pipes (line ∷ more)) told.verts.told
    are.verts.may.told (edges_not_vert j.edges j.pipes behind) rows in
    let vz = after_verts i.verts i.edges i.pipes are.behind_verts are.behind_edges rest line after more is_line v.0
    j.edges
    j.pipes behind (subst AreToldVerts v.1 told.verts) are.verts.may are.no_vert are.edges.spelled are.pipes.spelled
    v.2 in
    let e = rows_compare edge_line IsToldEdge 101 (λ x lines. refl) edge_same j.edges i.edges
    (pipe_rows j.pipes (end_lines behind)) (pipe_rows i.pipes (line ∷ more)) told.edges.told
    are.edges.may.told (pipes_not_edge j.pipes behind) vz.1 in
    let ez = after_edges i.verts i.edges i.pipes are.behind_verts are.behind_edges rest line after more is_line e.0
    j.pipes
    behind (subst AreToldEdges e.1 told.edges) are.edges.may are.no_edge are.pipes.spelled e.2 in
    let p = rows_compare pipe_line IsToldPipe 112 (λ x lines. refl) pipe_same j.pipes i.pipes
    (end_lines behind) (line ∷ more) told.pipes.told are.pipes.may.told (end_not_pipe behind) ez.1 in
    let pz = after_pipes i.verts i.edges i.pipes are.behind_verts are.behind_edges rest line after more is_line p.0
    behind (subst AreToldPipes p.1 told.pipes) are.pipes.may are.no_pipe p.2 in
    let verts : j.verts ≡ i.verts = v.1 ∙ ap (λ zs. i.verts ++ zs) vz.0 ∙ append-nil i.verts in
    let edges : j.edges ≡ i.edges = e.1 ∙ ap (λ zs. i.edges ++ zs) ez.0 ∙ append-nil i.edges in
    let pipes : j.pipes ≡ i.pipes = p.1 ∙ ap (λ zs. i.pipes ++ zs) pz.0 ∙ append-nil i.pipes in
    let one : j ≡ instance_with i.verts j.edges j.pipes = ap (λ zs. instance_with zs j.edges j.pipes) verts in
    let two : instance_with i.verts j.edges j.pipes ≡ instance_with i.verts i.edges j.pipes =
    ap (λ zs. instance_with i.verts zs j.pipes) edges in
    let three : instance_with i.verts i.edges j.pipes ≡ i = ap (λ zs. instance_with i.verts i.edges zs) pipes in
    (one ∙ two ∙ three, sym (ap first_line pz.1), ap lines_after pz.1)

-- an instance of right lines that were read
parts_told : (text rest : List ℕ) (i : Synchronized) → AreParts text i rest → IsToldInstance i
parts_told text rest i are = record { verts = are.verts.may; edges = are.edges.may; pipes = are.pipes.may }

-- the text of lines behind lines
pub text-append : (a b : List (List ℕ)) (rest : List ℕ) → text_of (a ++ b) ++ rest ≡ text_of a ++ (text_of b ++ rest)
text-append a b rest = ap (λ t. t ++ rest) (flat_map-append (λ l. l ++ 10 ∷ []) a b)
    ∙ append_assoc (text_of a) (text_of b) rest

-- the text of one line and what stands behind it
pub line_and_rest : (line rest : List ℕ) → text_of (line ∷ []) ++ rest ≡ line ++ 10 ∷ rest
line_and_rest line rest = append_assoc (line ++ 10 ∷ []) [] rest ∙ append_assoc line (10 ∷ []) rest

-- the text of the lines that were read
begun_text : (bytes text rest : List ℕ) (i : Synchronized) → bytes ≡ codes "instance" ++ 10 ∷ text
    → AreParts text i rest
    → bytes ≡ text_of (begun_lines i) ++ rest
begun_text bytes text rest i cut are =
    let inside : text ≡ text_of (map vert_line i.verts) ++ (text_of (map edge_line i.edges)
    ++ (text_of (map pipe_line i.pipes) ++ rest)) =
    are.verts.spelled ∙ ap (λ t. text_of (map vert_line i.verts) ++ t) (are.edges.spelled
    ∙ ap (λ t. text_of (map edge_line i.edges) ++ t) are.pipes.spelled) in
    let head : List (List ℕ) = codes "instance" ∷ map vert_line i.verts in
    cut ∙ ap (λ t. codes "instance" ++ 10 ∷ t) inside
    ∙ sym (text-append (head ++ map edge_line i.edges) (map pipe_line i.pipes) rest
    ∙ text-append head (map edge_line i.edges) (text_of (map pipe_line i.pipes) ++ rest)
    ∙ text-append (codes "instance" ∷ []) (map vert_line i.verts) (text_of (map edge_line i.edges)
    ++ (text_of (map pipe_line i.pipes) ++ rest)))

-- no instance begins without the first line
pub no_first_line : (bytes : List ℕ) → ((after : List ℕ) → bytes ≡ codes "instance" ++ 10 ∷ after → ⊥)
    → StopsInInstance bytes bytes
no_first_line bytes none = record {
  before = [];
  next = codes "instance";
  later = codes "instance end" ∷ [];
  part = nothing;
  front = refl;
  told = nothing_told;
  begun = refl;
  stops = λ i line after behind more told cut h rules. none after (cut ∙ ap (λ t. t ++ 10 ∷ after) (sym (ap
      first_line h)));
}

-- without its last line an instance does not go on
pub no_last_line : (bytes text rest : List ℕ) (i : Synchronized) → bytes ≡ codes "instance" ++ 10 ∷ text
    → AreParts text i rest → ((after : List ℕ) → rest ≡ codes "instance end" ++ 10 ∷ after → ⊥)
    → StopsInInstance bytes rest
no_last_line bytes text rest i cut are none = record {
  before = begun_lines i;
  next = codes "instance end";
  later = [];
  part = i;
  front = begun_text bytes text rest i cut are;
  told = parts_told text rest i are;
  begun = refl;
  stops = λ j line after behind more told is_line h rules.
      let end = next_is_end i j text rest line after behind more are is_line told h in
      none after (is_line ∙ ap (λ t. t ++ 10 ∷ after) end.1);
}

-- nor where it breaks a rule
pub rules_broken : (bytes text rest : List ℕ) (i : Synchronized) → bytes ≡ codes "instance" ++ 10 ∷ text
    → AreParts text i rest → (IsSynchronized i → ⊥) → StopsInInstance bytes rest
rules_broken bytes text rest i cut are broken = record {
  before = begun_lines i;
  next = codes "instance end";
  later = [];
  part = i;
  front = begun_text bytes text rest i cut are;
  told = parts_told text rest i are;
  begun = refl;
  stops = λ j line after behind more told is_line h rules.
      let end = next_is_end i j text rest line after behind more are is_line told h in
      broken (subst IsSynchronized end.0 (rules (omega (arith, ap (length {A = List ℕ}) end.2))));
}

-- all lines of an instance
pub instance_read : (bytes text rest after : List ℕ) (i : Synchronized) → bytes ≡ codes "instance" ++ 10 ∷ text
    → AreParts text i rest → rest ≡ codes "instance end" ++ 10 ∷ after → bytes ≡ text_of (instance_lines i) ++ after
instance_read bytes text rest after i cut are end =
    begun_text bytes text rest i cut are
    ∙ ap (λ t. text_of (begun_lines i) ++ t) (end ∙ sym (line_and_rest (codes "instance end") after))
    ∙ sym (text-append (begun_lines i) (codes "instance end" ∷ []) after)
