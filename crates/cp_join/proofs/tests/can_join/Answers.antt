-- The pipe is live, and several parts make its ends cut vertices.
use Rattle.std.proofs.Common.{◌≡◌, ℕ, [], ◌∙◌, sym, ap, subst, length, arith}
use Rattle.std.specs.List.{Contains}
use Rattle.std.specs.Option.{option_map_or}
use Rattle.cp_board.specs.declared.parts.Pipe.{Pipe}
use Rattle.cp_board.specs.Instances.{graph, vert_names}
use Rattle.cp_board.specs.Joins.{ArePartsAt}
use Rattle.cp_board.specs.Steps.{degree}
use Rattle.cp_join.proofs.CutParts.{pipe-named, several_parts-IsCut}
use Rattle.cp_join.proofs.JoinedPipes.{live_a, live_b, told_ends}
use Rattle.cp_join.proofs.tests.can_join.Goals as goal

pub parts_among-requires : goal.parts_among-requires
parts_among-requires c =
    let i = c.args.i.now in
    let rules = c.pipe_ends-ends.ensures.rules in
    let p = pipe-named i rules c.args.pipe c.requires in
    subst (λ (x : ℕ × ℕ). Contains (vert_names i) x.0)
    (sym (c.pipe_ends-ends.ensures.value ∙ told_ends i c.args.pipe p.0 rules p.1)) (live_a i c.args.pipe p.0 rules p.1)

pub parts_among-requires-2 : goal.parts_among-requires-2
parts_among-requires-2 c =
    let i = c.args.i.now in
    let rules = c.pipe_ends-ends.ensures.rules in
    let p = pipe-named i rules c.args.pipe c.requires in
    subst (λ (x : ℕ × ℕ). Contains (vert_names i) x.1)
    (sym (c.pipe_ends-ends.ensures.value ∙ told_ends i c.args.pipe p.0 rules p.1)) (live_b i c.args.pipe p.0 rules p.1)

pub returns : goal.returns
returns c =
    let i = c.args.i.now in
    let rules = c.pipe_ends-ends.ensures.rules in
    let p = pipe-named i rules c.args.pipe c.requires in
    let ends = c.pipe_ends-ends.ensures.value ∙ told_ends i c.args.pipe p.0 rules p.1 in
    let pairs : length c.pairs-pairs.result.now ≡ degree p.0 =
    ap length c.pairs-pairs.ensures ∙ ap (λ o. length (option_map_or (λ (x : Pipe). x.pairs) o [])) p.1 in
    λ t. (
      p.0,
      p.1,
      record {
        large = omega (arith, pairs, c.are_several.ensures.pairs t);
        cut_a = several_parts-IsCut i rules p.0.a c.in_ok-first.first
            (subst (λ (x : ℕ × ℕ). ArePartsAt (graph i) x.0 c.in_ok-first.first) ends c.in_ok-first.ensures.parts)
            (omega (arith, c.are_several.ensures.first t));
        cut_b = several_parts-IsCut i rules p.0.b c.in_ok-second.second
            (subst (λ (x : ℕ × ℕ). ArePartsAt (graph i) x.1 c.in_ok-second.second) ends c.in_ok-second.ensures.parts)
            (omega (arith, c.are_several.ensures.second t));
      },
    )
