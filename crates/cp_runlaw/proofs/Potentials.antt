-- Each allowed step lowers the potential: the sum of three to the degree over all pipes.
use Rattle.std.proofs.Common.{◌≡◌, ℕ, ◌+◌, ◌^◌, ◌<◌, ◌≤◌, Bool, true, false, not, ◌||◌, eqb, List, [], ◌∷◌, ◌++◌, length, map, sym, refl, ap, ◌∙◌, subst, inl, inr, arith}
use Rattle.std.specs.Prelude.{filter, Option, Some}
use Rattle.std.specs.List.{flat_map, sum_by}
use Rattle.std.proofs.lemmas.Bool.{eq-eqb, eqb-true, ne_eqb}
use Rattle.std.proofs.lemmas.List.{length-map}
use Rattle.std.proofs.lemmas.List.Sorted.{length_permutation, sum_by-IsPermutation}
use Rattle.std.proofs.lemmas.List.Sums.{sum_by-cons, sum_by-append}
use Rattle.cp_base.specs.declared.shape.Shape.{Shape}
use Rattle.cp_base.specs.Shapes.{leaves}
use Rattle.cp_board.specs.declared.parts.Pipe.{Pipe}
use Rattle.cp_board.specs.declared.steps.Step.{Step}
use Rattle.cp_board.specs.declared.steps.Step.TheVariants.{Small, FreePole, FusePoles, Toroidal, Join, Propagate}
use Rattle.cp_board.specs.Names.{has, rising}
use Rattle.cp_board.specs.Instances.{Synchronized, IsSynchronized, HasRightPairs, graph, edges_of, pipe_in, pipe_named, pipe_at}
use Rattle.cp_board.specs.Steps.{degree, opposite, partner, IsEnd, IsFitting, IsJoinable, IsFusible}
use Rattle.cp_board.specs.Joins.{IsJoined, part_pipes, edge_for}
use Rattle.cp_board.specs.Plantings.{free_nodes}
use Rattle.cp_board.specs.Propagations.{IsPropagated, node_pipes}
use Rattle.cp_board.specs.Effects.{HasFixedEnds, IsFused}
use Rattle.cp_board.specs.Changes.{IsWithoutPipe, other_pipes, pairs_by_first, pipes_by_name}
use Rattle.cp_board.specs.Runs.{potential}
use Rattle.cp_board.specs.Reductions.{LowersPotential}
use Rattle.cp_board.proofs.NamedLists.{by_name_keeps, filter_true}
use Rattle.cp_runlaw.proofs.Powers.{three_more, three_pos}
use Rattle.cp_runlaw.proofs.FoundPipes.{All-find, find-passes, length-right_end}
use Rattle.cp_runlaw.proofs.Weights.{fewer_by}
use Rattle.cp_runlaw.proofs.PartWeights.{two_parts, parts_half, part_pipes_le}
use Rattle.cp_runlaw.proofs.PlantedWeights.{planted_less, node_pipes_le}

-- two pipes of one place are one
one_pipe : (o : ℕ) (i : Synchronized) (p q : Pipe) → pipe_named i o ≡ Some p → pipe_named i o ≡ Some q → p ≡ q
one_pipe o i p q e f = cc

-- the pipe that is found has the name
found_name : (n : ℕ) (ps : List Pipe) (p : Pipe) → pipe_in ps n ≡ Some p → p.name ≡ n
found_name n ps p found = eqb-true p.name n (find-passes (λ q. eqb q.name n) ps p found)

-- three to the degree
abbrev weight : Pipe → ℕ
weight p = 3 ^ degree p

-- the sum of it over some pipes
abbrev weights : List Pipe → ℕ
weights ps = sum_by (λ (p : Pipe). 3 ^ degree p) ps

-- the order of names keeps the sum
weights-by_name : (ps : List Pipe) → weights (pipes_by_name ps) ≡ weights ps
weights-by_name ps =
    sum_by-IsPermutation weight ps (pipes_by_name ps) (by_name_keeps (λ (p : Pipe). p.name) ps)

-- a pipe that is not passed is missing in the sum
weights-without : (n : ℕ) (ps : List Pipe) (p : Pipe) → pipe_in ps n ≡ Some p
    → weights (filter (λ (q : Pipe). not (has (n ∷ []) q.name)) ps) + weight p ≤ weights ps
weights-without n ps p found =
    let named = found_name n ps p found in
    let gone : not (has (n ∷ []) p.name) ≡ false = ap (λ b. not (b || false)) (eq-eqb p.name n named) in
    let le = fewer_by weight (λ (q : Pipe). eqb q.name n) (λ (q : Pipe). not (has (n ∷ []) q.name))
    (λ (q : Pipe). true) (λ q e. refl) ps p found refl gone in
    omega (arith, le, ap weights (filter_true ps))

-- each end of a live pipe has as many edges as the pipe has pairs
length-end : (i : Synchronized) → IsSynchronized i → (n : ℕ) (p : Pipe) → pipe_named i n ≡ Some p → (u : ℕ) → IsEnd p u
    → length (edges_of i u) ≡ degree p
length-end i is n p found u end =
    length-right_end i p u (All-find (HasRightPairs (graph i)) (λ q. eqb q.name n) i.pipes p is.pairs_right found) end

-- the steps at the pipe p
module _ (i j : Synchronized) (is : IsSynchronized i) (n : ℕ) (p : Pipe) (found : pipe_named i n ≡ Some p) where
  -- where the pipe goes and nothing comes
  potential-without : j.pipes ≡ other_pipes i (n ∷ []) → potential j < potential i
  potential-without e =
      let le = weights-without n i.pipes p found in
      let pos = three_pos (degree p) in
      omega (arith, le, pos, ap weights e)

  -- two pipes go and one of their degree comes
  potential-fused : (q : Pipe) (u v : ℕ) → IsFusible i p q u v → IsFused i p q u v j → potential j < potential i
  potential-fused q u v fits w =
      let named : p.name ≡ n = found_name n i.pipes p found in
      let both : Pipe → Bool = λ r. not (has (p.name ∷ q.name ∷ []) r.name) in
      let first : Pipe → Bool = λ r. not (has (n ∷ []) r.name) in
      let new : Pipe = record {
        name = w.name;
        a = opposite p u;
        b = opposite q v;
        pairs = pairs_by_first (map (λ x. (partner p u x, partner q v (w.along x))) (edges_of i u));
      } in
      let apart : first q ≡ true = ap (λ b. not (b || false)) (ne_eqb q.name n (λ e. fits.another (e ∙ sym named))) in
      let gone : both q ≡ false = not_second (eqb q.name p.name) (eqb q.name q.name) (eq-eqb q.name q.name refl) in
      let less : (r : Pipe) → both r ≡ true → first r ≡ true = λ r e.
      subst (λ m. not (has (m ∷ []) r.name) ≡ true) named
      (not_first (eqb r.name p.name) (has (q.name ∷ []) r.name) e) in
      let le = weights-without n i.pipes p found in
      let at_pole : Pipe → Bool = λ r. eqb r.a v || eqb r.b v in
      let le_two = fewer_by weight at_pole both first less i.pipes q fits.matched apart gone in
      let size : degree new ≡ degree p =
      length_permutation (map (λ x. (partner p u x, partner q v (w.along x))) (edges_of i u)) new.pairs
      (by_name_keeps (λ x. x.0) (map (λ x. (partner p u x, partner q v (w.along x))) (edges_of i u)))
      ∙ length-map (edges_of i u) (λ x. (partner p u x, partner q v (w.along x)))
      ∙ length-end i is n p found u fits.end in
      let pos = three_pos (degree q) in
      omega (
        arith,
        le,
        le_two,
        pos,
        ap (λ k. 3 ^ k) size,
        ap weights w.pipes
            ∙ weights-by_name (new ∷ filter both i.pipes),
        sum_by-cons weight new (filter both i.pipes),
      )
    where
      not_first : (x y : Bool) → not (x || y) ≡ true → not (x || false) ≡ true
      not_first true y e = e
      not_first false y e = refl

      not_second : (x y : Bool) → y ≡ true → not (x || (y || false)) ≡ false
      not_second true y e = refl
      not_second false y e = ap (λ b. not (b || false)) e

  -- a pipe comes for each part of both ends
  potential-joined : IsJoinable i p → IsJoined i p j → potential j < potential i
  potential-joined fits w =
      let named : p.name ≡ n = found_name n i.pipes p found in
      let da = length_permutation (edges_of i p.a) (flat_map (λ part. part) w.parts_a) w.are_parts_a.whole
      ∙ length-end i is n p found p.a (inl refl) in
      let db = length_permutation (edges_of i p.b) (flat_map (λ part. part) w.parts_b) w.are_parts_b.whole
      ∙ length-end i is n p found p.b (inr refl) in
      let large : 4 ≤ degree p = fits.large in
      let half_a = parts_half w.parts_a w.are_parts_a.filled
      (two_parts (graph i) p.a w.parts_a w.are_parts_a fits.cut_a) (omega (arith, da, large)) in
      let half_b = parts_half w.parts_b w.are_parts_b.filled
      (two_parts (graph i) p.b w.parts_b w.are_parts_b fits.cut_b) (omega (arith, db, large)) in
      let pipes_a : List Pipe = part_pipes (edge_for i p w.hats) w.names_a w.outer_a w.inner_a w.parts_a in
      let pipes_b : List Pipe = part_pipes
      (λ y. edge_for i p w.hats (partner p p.b y)) w.names_b w.outer_b w.inner_b w.parts_b in
      let le_a = part_pipes_le (edge_for i p w.hats) w.names_a w.outer_a w.inner_a w.parts_a in
      let le_b = part_pipes_le (λ y. edge_for i p w.hats (partner p p.b y)) w.names_b w.outer_b w.inner_b w.parts_b in
      let others : List Pipe = other_pipes i (n ∷ []) in
      let le = weights-without n i.pipes p found in
      let same : weights j.pipes ≡ weights ((others ++ pipes_a) ++ pipes_b) =
      ap weights (w.pipes ∙ ap (λ m. pipes_by_name ((other_pipes i (m ∷ []) ++ pipes_a) ++ pipes_b)) named)
      ∙ weights-by_name ((others ++ pipes_a) ++ pipes_b) in
      omega (
        arith,
        half_a,
        half_b,
        le_a,
        le_b,
        le,
        same,
        ap (λ k. 3 ^ k) da,
        ap (λ k. 3 ^ k) db,
        sum_by-append weight
            (others ++ pipes_a) pipes_b,
        sum_by-append weight others pipes_a,
      )

  -- a pipe comes for each P-node
  potential-propagated : (u : ℕ) (shape : Shape) → IsFitting i p u shape → IsPropagated i p u shape j
      → potential j < potential i
  potential-propagated u shape fits w =
      let named : p.name ≡ n = found_name n i.pipes p found in
      let all : length (rising (shape.root ∷ leaves shape.body)) ≡ length (shape.root ∷ leaves shape.body) =
      length_permutation (shape.root ∷ leaves shape.body) (rising (shape.root ∷ leaves shape.body))
      (by_name_keeps (λ (x : ℕ). x) (shape.root ∷ leaves shape.body)) in
      let d = sym (length-end i is n p found u fits.end) ∙ sym (ap length fits.leaves) ∙ all in
      let more = three_more (length (leaves shape.body)) (degree p) (omega (arith, d)) in
      let less = planted_less (λ x. x) shape.body shape.root w.at_u
      (shape.root ∷ w.edges_u) w.rows_u w.planted_u fits.branching fits.no_star in
      let new : List Pipe = node_pipes w.names (free_nodes w.rows_u) (free_nodes w.rows_w) in
      let le_new = node_pipes_le w.names (free_nodes w.rows_u) (free_nodes w.rows_w) in
      let others : List Pipe = other_pipes i (n ∷ []) in
      let le = weights-without n i.pipes p found in
      let same : weights j.pipes ≡ weights (others ++ new) =
      ap weights (w.pipes ∙ ap (λ m. pipes_by_name (other_pipes i (m ∷ []) ++ new)) named)
      ∙ weights-by_name (others ++ new) in
      omega (arith, less, more, le_new, le, same, sum_by-append weight others new)

  -- Small with three pairs or fewer
  potential-small : (b : Bool) → (elim b as
      (λ b. Type 0) [ true ↦ HasFixedEnds i p j | false ↦ IsWithoutPipe i p.name j ])
      → potential j < potential i
  potential-small true w =
      potential-without (w.pipes ∙ ap (λ m. other_pipes i (m ∷ [])) (found_name n i.pipes p found))
  potential-small false w =
      potential-without (w.pipes ∙ ap (λ m. other_pipes i (m ∷ [])) (found_name n i.pipes p found))

-- each step lowers the potential
pub lowers : (step : Step) → LowersPotential step
lowers (Small n) i j is allowed after = potential-small i j is n after.0 after.1 (eqb (degree after.0) 3) after.2
lowers (FreePole n end pole) i j is allowed after = potential-without i j is n after.0 after.1 after.2.pipes
lowers (FusePoles n end pole) i j is allowed after =
    let p : Pipe = allowed.0 in
    let q : Pipe = allowed.2.0 in
    let same : after.0 ≡ p = one_pipe n i after.0 p after.1 allowed.1 in
    let same_other : after.2.0 ≡ q = other (pipe_at i pole) after.2.0 q after.2.1 allowed.2.1.matched in
    potential-fused i j is n p allowed.1 q end pole allowed.2.1
    (subst (λ z. IsFused i z q end pole j) same (subst (λ z. IsFused i after.0 z end pole j) same_other after.2.2))
  where
    other : (o : Option Pipe) (x y : Pipe) → o ≡ Some x → o ≡ Some y → x ≡ y
    other o x y e f = cc
lowers (Toroidal n) i j is allowed after = potential-without i j is n after.0 after.1 after.2.pipes
lowers (Join n) i j is allowed after =
    potential-joined i j is n allowed.0 allowed.1 allowed.2
    (subst (λ z. IsJoined i z j) (one_pipe n i after.0 allowed.0 after.1 allowed.1) after.2)
lowers (Propagate n end shape) i j is allowed after =
    potential-propagated i j is n allowed.0 allowed.1 end shape allowed.2
    (subst (λ z. IsPropagated i z end shape j) (one_pipe n i after.0 allowed.0 after.1 allowed.1) after.2)
