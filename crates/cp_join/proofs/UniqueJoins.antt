-- What Join makes of an instance is told by the instance: new names that are asked for are those that the step gave.
use Rattle.std.proofs.Common.{◌≡◌, ℕ, cond, eqb, List, [], ◌∷◌, ◌++◌, length, map, sym, refl, ap, ap₂, ◌∙◌, arith, length-append}
use Rattle.std.specs.Prelude.{Some}
use Rattle.cp_board.specs.declared.parts.Pipe.{Pipe}
use Rattle.cp_board.specs.Names.{AreNew, new_names}
use Rattle.cp_board.specs.Changes.{edges_by_name, free_vert, moved_edges, other_pipes, other_verts, pipes_by_name, verts_by_name}
use Rattle.cp_board.specs.Instances.{IsSynchronized, Synchronized, edge_names, edges_of, graph, pipe_named, pipe_names, vert_names}
use Rattle.cp_board.specs.Joins.{IsJoined, bipartite_edge, edge_for, part_pipes, vertex_for}
use Rattle.cp_board.specs.Steps.{partner}
use Rattle.cp_join.specs.declared.parted_ends.Parting.{Parting}
use Rattle.cp_join.specs.Partings.{new_verts}
use Rattle.cp_join.proofs.JoinNames.{HasPartings}
use Rattle.cp_join.proofs.JoinedGraph.{joined}
use Rattle.cp_join.proofs.SolvableJoins.{after_joined, after_partings, first_parting, second_parting}
use Rattle.cp_join.proofs.UniqueParts.{parts_unique}

-- two lists of one length in front of others
split_same : {A : Type 0} (xs zs ys ws : List A) → length xs ≡ length zs → xs ++ ys ≡ zs ++ ws → (xs ≡ zs) × (ys ≡ ws)
split_same [] [] ys ws size same = (refl, same)
split_same [] (z ∷ zs) ys ws size same = absurd (omega (arith, size))
split_same (x ∷ xs) [] ys ws size same = absurd (omega (arith, size))
split_same {A} (x ∷ xs) (z ∷ zs) ys ws size same =
    let rest = split_same xs zs ys ws (omega (arith, size)) (ap tail same) in
    (ap₂ (λ (y : A) (us : List A). y ∷ us) (ap (head x) same) rest.0, rest.1)
  where
    head : A → List A → A
    head d [] = d
    head d (u ∷ us) = u

    tail : List A → List A
    tail [] = []
    tail (u ∷ us) = us

-- as many new names are the same
new_same : (live xs ys : List ℕ) → AreNew live xs → AreNew live ys → length xs ≡ length ys → xs ≡ ys
new_same live xs ys one two size = one ∙ ap (new_names live) size ∙ sym two

-- partings are told by their fields
parting_same : (s t : Parting) → s.parts ≡ t.parts → s.outer ≡ t.outer → s.inner ≡ t.inner → s.names ≡ t.names → s ≡ t
parting_same s t parts outer inner names =
    ap (λ z. record { parts = z; outer = s.outer; inner = s.inner; names = s.names }) parts
    ∙ ap (λ z. record { parts = t.parts; outer = z; inner = s.inner; names = s.names }) outer
    ∙ ap (λ z. record { parts = t.parts; outer = t.outer; inner = z; names = s.names }) inner
    ∙ ap (λ z. record { parts = t.parts; outer = t.outer; inner = t.inner; names = z }) names

-- what is made of an instance with these partings and new edges
abbrev made : Synchronized → Pipe → Parting → Parting → List ℕ → Synchronized
made i p x y z = record {
  verts = verts_by_name (other_verts i (p.a ∷ p.b ∷ []) ++ map free_vert (new_verts x y));
  edges = edges_by_name (moved_edges i (λ e v.
      cond (eqb v p.a) (vertex_for x.parts x.outer e) (cond (eqb v p.b) (vertex_for y.parts y.outer e) v))
      ++ map (bipartite_edge i p z x.parts x.inner y.parts y.inner) (edges_of i p.a));
  pipes = pipes_by_name (other_pipes i (p.name ∷ [])
      ++ part_pipes (edge_for i p z) x.names x.outer x.inner x.parts
      ++ part_pipes (λ e. edge_for i p z (partner p p.b e)) y.names y.outer y.inner y.parts);
}

-- partings of the same ends, with new names, are the same
module _ (i : Synchronized) (p : Pipe) (s t s' t' : Parting) (hats hats' : List ℕ) (h : HasPartings i p s t hats)
    (h' : HasPartings i p s' t' hats') where
  -- the parts of the first end are the same
  same_parts_a : s.parts ≡ s'.parts
  same_parts_a = parts_unique (graph i) p.a h.rules.edges_named.rise s.parts s'.parts h.parts_a h'.parts_a

  -- the parts of the second end are the same
  same_parts_b : t.parts ≡ t'.parts
  same_parts_b = parts_unique (graph i) p.b h.rules.edges_named.rise t.parts t'.parts h.parts_b h'.parts_b

  -- so the first end has as many outer vertices in both
  outer_size_a : length s.outer ≡ length s'.outer
  outer_size_a = h.parted.first_end.outer_each ∙ ap length same_parts_a ∙ sym h'.parted.first_end.outer_each

  -- it has as many inner vertices
  inner_size_a : length s.inner ≡ length s'.inner
  inner_size_a = h.parted.first_end.inner_each ∙ ap length same_parts_a ∙ sym h'.parted.first_end.inner_each

  -- and as many names of pipes
  name_size_a : length s.names ≡ length s'.names
  name_size_a = h.parted.first_end.name_each ∙ ap length same_parts_a ∙ sym h'.parted.first_end.name_each

  -- the second end has as many outer vertices in both
  outer_size_b : length t.outer ≡ length t'.outer
  outer_size_b = h.parted.second_end.outer_each ∙ ap length same_parts_b ∙ sym h'.parted.second_end.outer_each

  -- it has as many inner vertices
  inner_size_b : length t.inner ≡ length t'.inner
  inner_size_b = h.parted.second_end.inner_each ∙ ap length same_parts_b ∙ sym h'.parted.second_end.inner_each

  -- and as many names of pipes
  name_size_b : length t.names ≡ length t'.names
  name_size_b = h.parted.second_end.name_each ∙ ap length same_parts_b ∙ sym h'.parted.second_end.name_each

  -- the outer and inner vertices of the first end are as many together
  two_size : length (s.outer ++ s.inner) ≡ length (s'.outer ++ s'.inner)
  two_size = omega (arith, length-append s.outer s.inner, length-append s'.outer s'.inner, outer_size_a, inner_size_a)

  -- and with the outer vertices of the second end behind them
  three_size : length (s.outer ++ s.inner ++ t.outer) ≡ length (s'.outer ++ s'.inner ++ t'.outer)
  three_size = omega (
    arith,
    length-append (s.outer ++ s.inner) t.outer,
    length-append (s'.outer ++ s'.inner) t'.outer,
    two_size,
    outer_size_b,
  )

  -- the new vertices are the same
  same_verts : new_verts s t ≡ new_verts s' t'
  same_verts = new_same (vert_names i) (new_verts s t) (new_verts s' t') h.parted.new_verts h'.parted.new_verts
      (omega (
        arith,
        length-append (s.outer ++ s.inner ++ t.outer) t.inner,
        length-append (s'.outer ++ s'.inner ++ t'.outer) t'.inner,
        three_size,
        inner_size_b,
      ))

  -- the first three kinds of them are the same together, and so are the inner vertices of the second end
  same_three : (s.outer ++ s.inner ++ t.outer ≡ s'.outer ++ s'.inner ++ t'.outer) × (t.inner ≡ t'.inner)
  same_three = split_same (s.outer ++ s.inner ++ t.outer) (s'.outer ++ s'.inner ++ t'.outer) t.inner t'.inner three_size
      same_verts

  -- so are the vertices of the first end together, and the outer vertices of the second end
  same_two : (s.outer ++ s.inner ≡ s'.outer ++ s'.inner) × (t.outer ≡ t'.outer)
  same_two = split_same (s.outer ++ s.inner) (s'.outer ++ s'.inner) t.outer t'.outer two_size same_three.0

  -- and the outer vertices of the first end, and its inner vertices
  same_one : (s.outer ≡ s'.outer) × (s.inner ≡ s'.inner)
  same_one = split_same s.outer s'.outer s.inner s'.inner outer_size_a same_two.0

  -- so are the names of the new pipes
  same_names : (s.names ≡ s'.names) × (t.names ≡ t'.names)
  same_names = split_same s.names s'.names t.names t'.names name_size_a
      (new_same (pipe_names i) (s.names ++ t.names) (s'.names ++ t'.names) h.parted.new_pipes h'.parted.new_pipes
      (omega (arith, length-append s.names t.names, length-append s'.names t'.names, name_size_a, name_size_b)))

  -- and those of the new edges
  same_hats : hats ≡ hats'
  same_hats = new_same (edge_names i) hats hats' h.hats_new h'.hats_new (h.hats_each ∙ sym h'.hats_each)

  -- so the partings of the first end are the same
  pub same_first : s ≡ s'
  same_first = parting_same s s' same_parts_a same_one.0 same_one.1 same_names.0

  -- and those of the second end
  pub same_second : t ≡ t'
  same_second = parting_same t t' same_parts_b same_two.1 same_three.1 same_names.1

  -- so what they make of the instance is the same
  pub joined_same : joined i p s t hats h ≡ joined i p s' t' hats' h'
  joined_same =
      ap (λ z. made i p z t hats) same_first ∙ ap (λ z. made i p s' z hats) same_second ∙ ap (λ z. made i p s' t' z)
      same_hats

-- partings with new names make the instance that the step made
pub joined_as : (i : Synchronized) (pipe : ℕ) (p : Pipe) (j : Synchronized) (is : IsSynchronized i)
    (live : pipe_named i pipe ≡ Some p) (joined_to : IsJoined i p j) (s t : Parting) (hats : List ℕ)
    (h : HasPartings i p s t hats) → j ≡ joined i p s t hats h
joined_as i pipe p j is live joined_to s t hats h =
    after_joined i pipe p j is live joined_to
    ∙ joined_same i p (first_parting i pipe p j is live joined_to) (second_parting i pipe p j is live joined_to) s t
    joined_to.hats hats (after_partings i pipe p j is live joined_to) h
