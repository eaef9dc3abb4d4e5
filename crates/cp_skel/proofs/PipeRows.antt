-- The pipes of the skeletons, cluster by cluster.
use Rattle.std.proofs.Common.{◌≡◌, ℕ, suc, ◌+◌, ◌<◌, ◌≤◌, List, [], ◌∷◌, ◌++◌, length, map, sym, refl, ap, ap₂, ◌∙◌, arith}
use Rattle.std.specs.Prelude.{false, slice_index_or, slice_set, true}
use Rattle.std.specs.List.{filter, range_with_len, zip}
use Rattle.std.proofs.lemmas.Bool.{cond-false, cond-true}
use Rattle.std.proofs.lemmas.List.{append-nil, get_or-set_other, length-map, map-append}
use Rattle.cp_board.specs.declared.parts.Pipe.{Pipe}
use Rattle.cp_cgraph.specs.Clustered.{Clustered}
use Rattle.cp_skel.specs.declared.vertex.Vertex.TheVariants.{Child, Outside}
use Rattle.cp_skel.specs.Skeletons.{below, border_pairs, is_left, skeleton_pipe, vertex_name}
use Rattle.cp_skel.specs.SkeletonTables.{pipes_of}
use Rattle.cp_skel.proofs.GatheredLists.{kept_more}

-- numbers and clusters side by side, and one more
zip_more : (a : ℕ) (cs : List ℕ) (c : ℕ) → zip (range_with_len a (length (cs ++ c ∷ []))) (cs ++ c ∷ [])
    ≡ zip (range_with_len a (length cs)) cs ++ (a + length cs, c) ∷ []
zip_more a [] c = ap (λ (m : ℕ). (m, c) ∷ []) (let h : a ≡ a + 0 = omega arith in h)
zip_more a (b ∷ cs) c =
    ap (λ (xs : List (ℕ × ℕ)). (a, b) ∷ xs)
    (zip_more (a + 1) cs c
    ∙ ap (λ (m : ℕ). zip (range_with_len (a + 1) (length cs)) cs ++ (m, c) ∷ [])
    (let h : a + 1 + length cs ≡ a + suc (length cs) = omega arith in h))

-- one pipe more
pipes_of-more : (g : Clustered) (cs : List ℕ) (c : ℕ) → pipes_of g (cs ++ c ∷ [])
    ≡ pipes_of g cs ++ skeleton_pipe g (length cs) c ∷ []
pipes_of-more g cs c =
    let row : ℕ × ℕ → Pipe = λ x. skeleton_pipe g x.0 x.1 in
    ap (map (λ x. skeleton_pipe g x.0 x.1)) (zip_more 0 cs c)
    ∙ map-append row (zip (below (length cs)) cs) ((0 + length cs, c) ∷ [])
    ∙ ap (λ (m : ℕ). pipes_of g cs ++ skeleton_pipe g m c ∷ []) (let h : 0 + length cs ≡ length cs = omega arith in h)

-- as many pipes as clusters
length-zip : (a : ℕ) (cs : List ℕ) → length (zip (range_with_len a (length cs)) cs) ≡ length cs
length-zip a [] = refl
length-zip a (c ∷ cs) = ap suc (length-zip (a + 1) cs)

-- some clusters have as many pipes
pub length-pipes_of : (g : Clustered) (cs : List ℕ) → length (pipes_of g cs) ≡ length cs
length-pipes_of g cs =
    let row : ℕ × ℕ → Pipe = λ x. skeleton_pipe g x.0 x.1 in
    length-map (zip (below (length cs)) cs) row ∙ length-zip 0 cs

-- the pipes of the clusters up to one that some edge leaves
pub pipes-left : (g : Clustered) (c : ℕ) (pipes : List Pipe) (pipe : Pipe) → is_left g c ≡ true
    → pipes ≡ pipes_of g (filter (is_left g) (below c))
    → pipe ≡ skeleton_pipe g (length pipes) c
    → pipes ++ pipe ∷ [] ≡ pipes_of g (filter (is_left g) (below (c + 1)))
pipes-left g c pipes pipe left is is_pipe =
    let cs : List ℕ = filter (is_left g) (below c) in
    ap₂ (λ (ps : List Pipe) (p : Pipe). ps ++ p ∷ []) is
    (is_pipe ∙ ap (λ (m : ℕ). skeleton_pipe g m c) (ap length is ∙ length-pipes_of g cs))
    ∙ sym (pipes_of-more g cs c)
    ∙ ap (λ (ds : List ℕ). pipes_of g (cs ++ ds)) (sym (cond-true (is_left g c) (c ∷ []) [] left))
    ∙ ap (pipes_of g) (sym (kept_more (is_left g) c))

-- the same by the parts of the pipe
pub pipes-left_row : (g : Clustered) (c : ℕ) (pipes : List Pipe) (name a b : ℕ) (pairs : List (ℕ × ℕ))
    → is_left g c ≡ true
    → pipes ≡ pipes_of g (filter (is_left g) (below c)) → name ≡ length pipes → a ≡ vertex_name g (Child c)
    → b ≡ vertex_name g (Outside c) → pairs ≡ border_pairs g c
    → (let pipe : Pipe = record { name = name; a = a; b = b; pairs = pairs } in
    pipes ++ pipe ∷ [] ≡ pipes_of g (filter (is_left g) (below (c + 1))))
pipes-left_row g c pipes name a b pairs left is is_name is_a is_b is_pairs =
    let pipe : Pipe = record { name = name; a = a; b = b; pairs = pairs } in
    let ends : pipe ≡ (let p : Pipe = record {
      name = length pipes;
      a = vertex_name g (Child c);
      b = b;
      pairs =
          pairs;
    } in p) =
    ap₂ (λ (m n : ℕ). let p : Pipe = record { name = m; a = n; b = b; pairs = pairs } in p) is_name is_a in
    let rest : (let p : Pipe = record { name = length pipes; a = vertex_name g (Child c); b = b; pairs = pairs } in p)
    ≡ skeleton_pipe g (length pipes) c =
    ap₂ (λ (n : ℕ) (ps : List (ℕ × ℕ)).
    let p : Pipe = record { name = length pipes; a = vertex_name g (Child c); b = n; pairs = ps } in p) is_b is_pairs in
    pipes-left g c pipes pipe left is (ends ∙ rest)

-- and up to one that none leaves
pub pipes-not_left : (g : Clustered) (c : ℕ) (pipes : List Pipe) → is_left g c ≡ false
    → pipes ≡ pipes_of g (filter (is_left g) (below c))
    → pipes ≡ pipes_of g (filter (is_left g) (below (c + 1)))
pipes-not_left g c pipes not_left is =
    let cs : List ℕ = filter (is_left g) (below c) in
    is
    ∙ ap (pipes_of g) (sym (append-nil cs)
    ∙ ap (λ (ds : List ℕ). cs ++ ds) (sym (cond-false (is_left g c) (c ∷ []) [] not_left))
    ∙ sym (kept_more (is_left g) c))

-- the pairs behind cluster c stay where those at c are taken out
pub pairs-rest : (g : Clustered) (c n : ℕ) (pairs : List (List (ℕ × ℕ))) (taken : List (ℕ × ℕ))
    → ((d : ℕ) → c ≤ d → d < n → slice_index_or pairs d [] ≡ border_pairs g d) → (d : ℕ) → c + 1 ≤ d → d < n
    → slice_index_or (slice_set pairs c taken) d [] ≡ border_pairs g d
pairs-rest g c n pairs taken rest d le lt =
    get_or-set_other pairs c d taken [] (λ e. let no : d ≡ c = e in omega (arith, no, le)) ∙ rest d (omega arith) lt
