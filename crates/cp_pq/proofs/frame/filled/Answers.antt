use Rattle.std.proofs.Common.{◌≡◌, [], ◌∷◌, sym, ap, ◌∙◌}
use Rattle.cp_pq.specs.Frames.{fill}
use Rattle.cp_pq.proofs.FilledRows.{fill_one, last_one}
use Rattle.cp_pq.proofs.frame.filled.Goals as goal

pub unreachable-requires : goal.unreachable-requires
unreachable-requires c =
    let g = fill_one c.args.frames c.args.node in
    let e : [] ≡ g.0 ∷ [] = sym c.in_default.ensures.0 ∙ c.in_ok-whole.ensures ∙ ap (fill c.args.frames) c.in_ok-row.ensures ∙ g.1 in
    cc

pub returns : goal.returns
returns c =
    let g = fill_one c.args.frames c.args.node in
    let e = c.in_ok-whole.ensures ∙ ap (fill c.args.frames) c.in_ok-row.ensures ∙ g.1 in
    ap (λ z. z ∷ []) (last_one _ c.in-Some.body g.0 (sym c.in-Some.ensures ∙ e)) ∙ sym g.1
