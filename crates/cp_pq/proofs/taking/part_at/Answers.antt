use Rattle.std.proofs.Common.{sym, subst}
use Rattle.cp_pq.specs.Cuts.{IsTaken}
use Rattle.cp_pq.proofs.TakenParts.{inner_together, outer_taken}
use Rattle.cp_pq.proofs.taking.part_at.Goals as goal

pub top_part-requires : goal.top_part-requires
top_part-requires c =
    let r = c.requires in let at = r.4 in
    (r.0, r.1, at.0, r.3, at.3, inner_together r.0 r.1 r.3 c.args.place.frames at.0 r.2 at.1 r.5)

pub returns : goal.returns
returns c = λ q p n opp at f.
    let inner = c.in_ok-inner.ensures q p at.0 opp at.3 (inner_together q p opp c.args.place.frames at.0 n at.1 f) in
    subst (λ z. IsTaken q p n z c.in_ok-inner.part) (sym c.in_ok-all.ensures)
    (outer_taken q p c.in_ok-inner.inner c.args.place.frames at.0 n c.in_ok-inner.part at.1 at.2 inner)
