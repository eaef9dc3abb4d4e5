-- What Join makes of an instance is solvable exactly where the instance is.
use Rattle.std.proofs.Common.{◌≡◌, ℕ, ◌<◌, cond, eqb, List, [], ◌∷◌, length, sym, refl, ap, ◌∙◌, subst, arith}
use Rattle.std.specs.Prelude.{Some}
use Rattle.std.specs.Option.{option_map_or}
use Rattle.std.proofs.lemmas.Bool.{cond-false, cond-true, eq-eqb, ne_eqb}
use Rattle.std.proofs.lemmas.List.{length-map}
use Rattle.std.proofs.lemmas.List.Sorted.{length_permutation}
use Rattle.cp_board.specs.declared.parts.Pipe.{Pipe}
use Rattle.cp_board.specs.declared.steps.Step.TheVariants.{Join}
use Rattle.cp_board.specs.Effects.{After}
use Rattle.cp_board.specs.Instances.{IsSynchronized, Synchronized, edges_of, pipe_named}
use Rattle.cp_board.specs.Joins.{IsJoined}
use Rattle.cp_board.specs.Reductions.{KeepsSolvable}
use Rattle.cp_board.specs.Solutions.{IsSolvable, Solves}
use Rattle.cp_board.specs.Steps.{Allowed}
use Rattle.cp_join.specs.declared.parted_ends.Parting.{Parting}
use Rattle.cp_join.proofs.EarlierSolutions.{Solves-earlier, inner-IsMergedSide, perm_a, perm_b}
use Rattle.cp_join.proofs.JoinNames.{HasPartings}
use Rattle.cp_join.proofs.JoinedGraph.{joined}
use Rattle.cp_join.proofs.JoinedInner.{order_a, order_b}
use Rattle.cp_join.proofs.JoinedOuter.{kept-Has}
use Rattle.cp_join.proofs.JoinedPipes.{has_partings}
use Rattle.cp_join.proofs.LaterSolutions.{Solves-later}
use Rattle.cp_join.proofs.LaterLists.{later}
use Rattle.cp_join.proofs.PartLists.{all_of}

-- lists with other ones at two vertices
abbrev pub with_orders : ℕ → ℕ → List ℕ → List ℕ → (ℕ → List ℕ) → ℕ → List ℕ
with_orders u w first second lists v = cond (eqb v u) first (cond (eqb v w) second (lists v))

-- an instance after Join
module _ (i : Synchronized) (pipe : ℕ) (p : Pipe) (j : Synchronized) (is : IsSynchronized i)
    (live : pipe_named i pipe ≡ Some p) (joined_to : IsJoined i p j) where
  -- what its two ends became
  abbrev pub first_parting : Parting
  first_parting = record {
    parts = joined_to.parts_a;
    outer = joined_to.outer_a;
    inner = joined_to.inner_a;
    names = joined_to.names_a;
  }

  -- and the second
  abbrev pub second_parting : Parting
  second_parting = record {
    parts = joined_to.parts_b;
    outer = joined_to.outer_b;
    inner = joined_to.inner_b;
    names = joined_to.names_b;
  }

  -- they are partings of the ends
  pub after_partings : HasPartings i p first_parting second_parting joined_to.hats
  after_partings =
      has_partings i pipe p is live joined_to.parts_a joined_to.parts_b first_parting second_parting joined_to.hats
      joined_to.are_parts_a joined_to.are_parts_b record {
        first_end = record {
          same = refl;
          outer_each = joined_to.one_each_a.0;
          inner_each = joined_to.one_each_a.1;
          name_each = joined_to.one_name_each.0;
        };
        second_end = record {
          same = refl;
          outer_each = joined_to.one_each_b.0;
          inner_each = joined_to.one_each_b.1;
          name_each = joined_to.one_name_each.1;
        };
        new_verts = joined_to.new_verts;
        new_pipes = joined_to.new_pipes;
      } joined_to.one_hat_each joined_to.new_edges

  -- what is made with them
  abbrev made : Synchronized
  made = joined i p first_parting second_parting joined_to.hats after_partings

  -- so the instance is the one that is made with them
  pub after_joined : j ≡ joined i p first_parting second_parting joined_to.hats after_partings
  after_joined =
      ap (λ z. record { verts = z; edges = j.edges; pipes = j.pipes }) joined_to.verts
      ∙ ap (λ z. record { verts = made.verts; edges = z; pipes = j.pipes }) joined_to.edges
      ∙ ap (λ z. record { verts = made.verts; edges = made.edges; pipes = z }) joined_to.pipes

-- an end with an edge has a part
pub some_part : (i : Synchronized) (p : Pipe) (s t : Parting) (hats : List ℕ) (h : HasPartings i p s t hats)
    → 0 < length p.pairs → 0 < length s.parts
some_part i p s t hats h some =
    has_part s.parts (omega (
      arith,
      some,
      length-map p.pairs (λ (x : ℕ × ℕ). x.0),
      ap length h.pairs.first,
      length_permutation (edges_of i p.a) (all_of s.parts) h.parts_a.whole,
    ))
  where
    has_part : (parts : List (List ℕ)) → 0 < length (all_of parts) → 0 < length parts
    has_part [] none = none
    has_part (part ∷ parts) more = omega arith

-- the pipe of a step that is allowed has pairs
pub allowed-large : (i : Synchronized) (pipe : ℕ) (j : Synchronized) → Allowed i (Join pipe)
    → (step : After i (Join pipe) j) → 0 < length step.0.pairs
allowed-large i pipe j allowed step =
    let one : allowed.0 ≡ step.0 = ap (λ o. option_map_or (λ (z : Pipe). z) o step.0) (sym allowed.1 ∙ step.1) in
    let four = allowed.2.large in let size = ap (λ (q : Pipe). length q.pairs) one in omega (arith, four, size)

-- Join keeps solvability, in both directions
pub KeepsSolvable-join : (pipe : ℕ) → KeepsSolvable (Join pipe)
KeepsSolvable-join pipe i j is allowed after = (
  λ solved. subst IsSolvable (sym same) (later i p s t hats h solved.0, Solves-later i p s t hats h solved.0 solved.1),
  λ solved.
      let there : Solves (joined i p s t hats h) solved.0 = subst (λ x. Solves x solved.0) same solved.1 in
      let merged = inner-IsMergedSide i p s t hats h solved.0 there (some_part i p s t hats h
      (allowed-large i pipe j allowed after)) in
      let a : List ℕ = order_a i p s t hats h solved.0 (perm_a i p s t hats h solved.0 there)
      (perm_b i p s t hats h solved.0 there) merged.0 merged.1 in
      let b : List ℕ = order_b i p s t hats h solved.0 (perm_a i p s t hats h solved.0 there)
      (perm_b i p s t hats h solved.0 there) merged.0 merged.1 in (
        with_orders p.a p.b a b solved.0,
        Solves-earlier i p s t hats h solved.0 there merged.0 merged.1 (with_orders p.a p.b a b solved.0)
            (cond-true (eqb p.a p.a) a (cond (eqb p.a p.b) b (solved.0 p.a)) (eq-eqb p.a p.a refl))
            (cond-false (eqb p.b p.a) a (cond (eqb p.b p.b) b (solved.0 p.b))
            (ne_eqb p.b p.a (λ q. h.ends.differ (sym q)))
            ∙ cond-true (eqb p.b p.b) b (solved.0 p.b) (eq-eqb p.b p.b refl))
            (λ v k. let off = kept-Has i p s t hats h v k in
            cond-false (eqb v p.a) a (cond (eqb v p.b) b (solved.0 v)) (ne_eqb v p.a off.1)
            ∙ cond-false (eqb v p.b) b (solved.0 v) (ne_eqb v p.b off.2)),
      ),
)
  where
    p : Pipe
    p = after.0

    s : Parting
    s = first_parting i pipe after.0 j is after.1 after.2

    t : Parting
    t = second_parting i pipe after.0 j is after.1 after.2

    hats : List ℕ
    hats = after.2.hats

    h : HasPartings i p s t hats
    h = after_partings i pipe after.0 j is after.1 after.2

    same : j ≡ joined i p s t hats h
    same = after_joined i pipe after.0 j is after.1 after.2
