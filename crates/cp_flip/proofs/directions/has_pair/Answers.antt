-- Bits that meet the equations give an order, and a pair has such bits.
use Rattle.std.proofs.Common.{◌≡◌, ℕ, Bool, List, ◌∷◌, length, sym, refl, ap, ◌∙◌, subst}
use Rattle.std.specs.List.{All, AllByRecursion}
use Rattle.cp_base.specs.declared.equation.Equation.{Equation}
use Rattle.cp_parity.specs.Equations as parity
use Rattle.cp_pq.specs.Bits.{IsMet, IsOverVars}
use Rattle.cp_pq.specs.Nodes.{has_vars_below}
use Rattle.cp_pq.specs.Trees.{PQTree}
use Rattle.cp_force.specs.Words.{word_by}
use Rattle.cp_force.proofs.Words.{Reads-word}
use Rattle.cp_flip.proofs.MetEquations.{parity-met, met-parity, over_vars}
use Rattle.cp_flip.proofs.directions.has_pair.Goals as goal

-- equations over the vars, in the code's own terms
over_own : (vars n : ℕ) (equations slice : List Equation) → n ≡ vars → slice ≡ equations
    → AllByRecursion (IsOverVars vars) equations → All (parity.IsOverVars n) slice
over_own vars n equations slice n_is slice_is over =
    subst (λ m. All (parity.IsOverVars m) slice) (sym n_is)
    (subst (All (parity.IsOverVars vars)) (sym slice_is) (over_vars vars equations over))

-- bits that meet them, in the code's own terms
met_own : (equations slice : List Equation) (bits : List Bool) → slice ≡ equations → All (parity.IsMet bits) slice
    → AllByRecursion (IsMet bits) equations
met_own equations slice bits slice_is met = parity-met bits equations (subst (All (parity.IsMet bits)) slice_is met)

-- no bits meet them, in the code's own terms
none_own : (equations slice : List Equation) (bits : List Bool) → slice ≡ equations
    → ((row : List Bool) → All (parity.IsMet row) slice → ⊥) → AllByRecursion (IsMet bits) equations → ⊥
none_own equations slice bits slice_is none met =
    none bits (subst (All (parity.IsMet bits)) (sym slice_is) (met-parity bits equations met))

pub solve-requires : goal.solve-requires
solve-requires g c =
    over_own (g.T.OrderTree.tree c.args.tree.now).vars c.vars.result (g.T.OrderTree.tree c.args.tree.now).equations
    c.equations.result.now c.vars.ensures.value c.equations.ensures.value c.vars.ensures.well_formed.equations_below

pub returns-in-Ok-clause-some : goal.returns-in-Ok-clause-some
returns-in-Ok-clause-some g c =
    let tree : PQTree = g.T.OrderTree.tree c.args.tree.now in
    let bits : List Bool = c.in-Ok.field-0.items in
    let each : length bits ≡ tree.vars = c.in-Ok.ensures.size ∙ c.vars.ensures.value in (
      tree.root ∷ word_by bits tree.body,
      bits,
      record {
        word = word_by bits tree.body;
        order_is = refl;
        bits_count = each;
        reads = Reads-word bits tree.body (ap (λ n. has_vars_below n tree.body) each
            ∙ c.vars.ensures.well_formed.vars_below);
        met = met_own tree.equations c.equations.result.now bits c.equations.ensures.value c.in-Ok.ensures.met;
      },
    )

pub returns-in-Err-Conflict-clause-none : goal.returns-in-Err-Conflict-clause-none
returns-in-Err-Conflict-clause-none g c = λ same some.
    none_own (g.T.OrderTree.tree c.args.tree.now).equations c.equations.result.now some.1 c.equations.ensures.value
    (subst (parity.HaveNoBits c.equations.result.now) c.in-Err-Conflict.field-0-is c.in-Err-Conflict.ensures.none)
    some.2.met
