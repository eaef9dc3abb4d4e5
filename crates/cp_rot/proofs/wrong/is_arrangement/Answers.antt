use Rattle.std.proofs.Common.{arith, sym, ◌∙◌, subst, length, ◌≡◌, ◌≤◌, refl}
use Rattle.std.proofs.lemmas.Bool.{false≢true}
use Rattle.cp_lists.specs.Count.{count}
use Rattle.cp_lists.proofs.ExactLists.{SoFar, SoFar-all, stopped_length}
use Rattle.cp_rot.specs.Tables.{stands_at}
use Rattle.cp_rot.proofs.wrong.is_arrangement.Goals as goal

pub returns-then-items-degree-clause-exact : goal.returns-then-items-degree-clause-exact
returns-then-items-degree-clause-exact c = (
  λ t. absurd (false≢true t),
  λ ex. absurd (stopped_length (length c.args.at.now) (stands_at c.args.at.now c.args.v) c.args.items.now (λ e. c.if-items-degree.true (e ∙ sym c.requires.degree)) ex),
)

pub returns-clause-exact : goal.returns-clause-exact
returns-clause-exact c =
    let all : c.loop-d.d-index ≡ length c.args.items.now = omega arith in
    let enough : count (length c.args.at.now) (stands_at c.args.at.now c.args.v) ≤ length c.args.items.now = omega (arith, c.requires.degree) in (
      λ t. SoFar-all (length c.args.at.now) (stands_at c.args.at.now c.args.v) c.args.items.now c.args.seen.now c.loop-d.seen
          (subst (λ i. SoFar (length c.args.at.now) (stands_at c.args.at.now c.args.v) c.args.items.now i c.args.seen.now c.loop-d.seen) all c.loop-d.invariant) enough,
      λ ex. refl,
    )
