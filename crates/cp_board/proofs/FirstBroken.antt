-- The first part that breaks a rule, by its place among the vertices, the edges or the pipes.
use Rattle.std.proofs.Common.{◌≡◌, ℕ, ◌+◌, ◌-◌, ◌<◌, ◌≤◌, ◌++◌, List, length, map, slice_index, slice_index_or, sym, refl, ap, ◌∙◌, subst, ⊎_elim, arith}
use Rattle.std.specs.List.{All, range_with_len}
use Rattle.std.proofs.lemmas.Bool.{cases_lt}
use Rattle.std.proofs.lemmas.List.{get_or-append-add, length-append, length-map}
use Rattle.std.proofs.Math.ListN.{get_or-append}
use Rattle.std.proofs.lemmas.List.FromFn.{get_or-map-range_with_len, length-range_with_len}
use Rattle.cp_board.specs.Instances.{Synchronized, vert_names, edge_names, pipe_names}
use Rattle.cp_board.specs.Faults.{Part, VertAt, EdgeAt, PipeAt, parts, name_of, Rule, number, Keeps, IsFirstBroken}

-- the parts of one kind
abbrev kind_parts : (ℕ → Part) → ℕ → List Part
kind_parts f n = map f (range_with_len 0 n)

-- there are as many of them as their number tells
length-kind_parts : (f : ℕ → Part) (n : ℕ) → length (kind_parts f n) ≡ n
length-kind_parts f n = length-map (range_with_len 0 n) f ∙ length-range_with_len 0 n

-- and the one at a place is the part of this place
kind_part : (f : ℕ → Part) (n k : ℕ) (d : Part) → k < n → slice_index_or (kind_parts f n) k d ≡ f k
kind_part f n k d lt = get_or-map-range_with_len f 0 n k k d lt (omega arith)

-- an item of the second list by its place in both
second_part : (xs ys : List Part) (n k : ℕ) (d : Part) → length xs ≡ n
    → slice_index_or (xs ++ ys) (n + k) d ≡ slice_index_or ys k d
second_part xs ys n k d e = ap (λ m. slice_index_or (xs ++ ys) (m + k) d) (sym e) ∙ get_or-append-add xs ys k d

module _ (i : Synchronized) where
  -- the parts that are vertices
  abbrev vert_parts : List Part
  vert_parts = kind_parts VertAt (length i.verts)

  -- the parts that are edges
  abbrev edge_parts : List Part
  edge_parts = kind_parts EdgeAt (length i.edges)

  -- the parts that are pipes
  abbrev pipe_parts : List Part
  pipe_parts = kind_parts PipeAt (length i.pipes)

  -- before the pipes stand as many parts as there are vertices and edges
  before_pipes : length (vert_parts ++ edge_parts) ≡ length i.verts + length i.edges
  before_pipes =
      length-append vert_parts edge_parts
      ∙ ap (λ n. n + length edge_parts) (length-kind_parts VertAt (length i.verts))
      ∙ ap (λ n. length i.verts + n) (length-kind_parts EdgeAt (length i.edges))

  -- there are as many parts as vertices, edges and pipes
  length-parts : length (parts i) ≡ length i.verts + length i.edges + length i.pipes
  length-parts =
      length-append (vert_parts ++ edge_parts) pipe_parts
      ∙ ap (λ n. n + length pipe_parts) before_pipes
      ∙ ap (λ n. length i.verts + length i.edges + n) (length-kind_parts PipeAt (length i.pipes))

  -- each part by its place
  part_vert : (k : ℕ) (d : Part) → k < length i.verts → slice_index_or (parts i) k d ≡ VertAt k
  part_vert k d lt =
      get_or-append (vert_parts ++ edge_parts) pipe_parts d k (omega (arith, lt, before_pipes))
      ∙ get_or-append vert_parts edge_parts d k (omega (arith, lt, length-kind_parts VertAt (length i.verts)))
      ∙ kind_part VertAt (length i.verts) k d lt

  -- and each edge behind the vertices
  part_edge : (k : ℕ) (d : Part) → k < length i.edges → slice_index_or (parts i) (length i.verts + k) d ≡ EdgeAt k
  part_edge k d lt =
      get_or-append (vert_parts ++ edge_parts) pipe_parts d (length i.verts + k) (omega (arith, lt, before_pipes))
      ∙ second_part vert_parts edge_parts (length i.verts) k d (length-kind_parts VertAt (length i.verts))
      ∙ kind_part EdgeAt (length i.edges) k d lt

  -- and each pipe behind the edges
  part_pipe : (k : ℕ) (d : Part) → k < length i.pipes
      → slice_index_or (parts i) (length i.verts + length i.edges + k) d ≡ PipeAt k
  part_pipe k d lt =
      second_part (vert_parts ++ edge_parts) pipe_parts (length i.verts + length i.edges) k d before_pipes
      ∙ kind_part PipeAt (length i.pipes) k d lt

module _ (i : Synchronized) (rule : Rule) (least : (other : Rule) → number other < number rule → All (Keeps i other)
    (parts i)) where
  -- a vertex breaks the rule first
  pub IsFirstBroken-vert : (k : ℕ) → k < length i.verts → ¬ Keeps i rule (VertAt k)
      → ((j : ℕ) → j < k → Keeps i rule (VertAt j))
      → IsFirstBroken i (number rule) (slice_index (vert_names i) k)
  IsFirstBroken-vert k lt fails before = record {
    rule = rule;
    numbered = refl;
    place = k;
    within = omega (arith, lt, length-parts i);
    named = ap (name_of i) (part_vert i k (VertAt 0) lt);
    breaks = λ h. fails (subst (Keeps i rule) (part_vert i k (VertAt 0) lt) h);
    first = λ j l. subst (Keeps i rule) (sym (part_vert i j (VertAt 0) (omega (arith, l, lt)))) (before j l);
    least = least;
  }

  -- an edge does, and no vertex
  pub IsFirstBroken-edge : ((j : ℕ) → j < length i.verts → Keeps i rule (VertAt j))
      → (k : ℕ) → k < length i.edges → ¬ Keeps i rule (EdgeAt k)
      → ((j : ℕ) → j < k → Keeps i rule (EdgeAt j))
      → IsFirstBroken i (number rule) (slice_index (edge_names i) k)
  IsFirstBroken-edge verts k lt fails before = record {
    rule = rule;
    numbered = refl;
    place = length i.verts + k;
    within = omega (arith, lt, length-parts i);
    named = ap (name_of i) (part_edge i k (VertAt 0) lt);
    breaks = λ h. fails (subst (Keeps i rule) (part_edge i k (VertAt 0) lt) h);
    first = λ j l. ⊎_elim
        (λ (v : j < length i.verts). subst (Keeps i rule) (sym (part_vert i j (VertAt 0) v)) (verts j v))
        (λ (g : length i.verts ≤ j).
        let at : length i.verts + (j - length i.verts) ≡ j = omega (arith, g) in
        subst (λ n. Keeps i rule (slice_index_or (parts i) n (VertAt 0))) at
        (subst (Keeps i rule) (sym (part_edge i (j - length i.verts) (VertAt 0) (omega (arith, l, lt, g)))) (before (j - length i.verts) (omega (arith, l, g)))))
        (cases_lt j (length i.verts));
    least = least;
  }

  -- a pipe does, and no vertex and no edge
  pub IsFirstBroken-pipe : ((j : ℕ) → j < length i.verts → Keeps i rule (VertAt j))
      → ((j : ℕ) → j < length i.edges → Keeps i rule (EdgeAt j))
      → (k : ℕ) → k < length i.pipes → ¬ Keeps i rule (PipeAt k)
      → ((j : ℕ) → j < k → Keeps i rule (PipeAt j))
      → IsFirstBroken i (number rule) (slice_index (pipe_names i) k)
  IsFirstBroken-pipe verts edges k lt fails before = record {
    rule = rule;
    numbered = refl;
    place = length i.verts + length i.edges + k;
    within = omega (arith, lt, length-parts i);
    named = ap (name_of i) (part_pipe i k (VertAt 0) lt);
    breaks = λ h. fails (subst (Keeps i rule) (part_pipe i k (VertAt 0) lt) h);
    first = λ j l. ⊎_elim
        (λ (v : j < length i.verts). subst (Keeps i rule) (sym (part_vert i j (VertAt 0) v)) (verts j v))
        (λ (g : length i.verts ≤ j). ⊎_elim
        (λ (v : j < length i.verts + length i.edges).
        let at : length i.verts + (j - length i.verts) ≡ j = omega (arith, g) in
        let in_edges : j - length i.verts < length i.edges = omega (arith, g, v) in
        subst (λ n. Keeps i rule (slice_index_or (parts i) n (VertAt 0))) at
        (subst (Keeps i rule) (sym (part_edge i (j - length i.verts) (VertAt 0) in_edges)) (edges (j - length i.verts) in_edges)))
        (λ (h : length i.verts + length i.edges ≤ j).
        let m = length i.verts + length i.edges in
        let at : m + (j - m) ≡ j = omega (arith, h) in
        subst (λ n. Keeps i rule (slice_index_or (parts i) n (VertAt 0))) at
        (subst (Keeps i rule) (sym (part_pipe i (j - m) (VertAt 0) (omega (arith, l, lt, h)))) (before (j - m) (omega (arith, l, h)))))
        (cases_lt j (length i.verts + length i.edges)))
        (cases_lt j (length i.verts));
    least = least;
  }
