-- What the board tells gives the pipe past the two poles.
use Rattle.std.proofs.Common.{◌∙◌, ap, ap₂, length, map, sym, true}
use Rattle.std.specs.List.{zip}
use Rattle.std.proofs.lemmas.List.{length-map}
use Rattle.cp_poles.specs.Fused.{partner_told}
use Rattle.cp_poles.specs.Wanted.{other_of, partner_in}
use Rattle.cp_poles.proofs.ToldPipes.{fused-end_live, fused-other_live, fused-pipe_live, fused-pole_live, fused-second_live, told-pipe_past}
use Rattle.cp_poles.proofs.fused_poles.pipe_past.Goals as goal

pub pipe_ends-requires : goal.pipe_ends-requires
pipe_ends-requires g c =
    fused-pipe_live (g.B.Board.instance c.args.board.now) c.args.pipe c.args.end c.args.pole c.follows_rules.ensures
    c.requires

pub pipe_ends-requires-2 : goal.pipe_ends-requires-2
pipe_ends-requires-2 g c =
    let q = c.pipe_of_pole-other.ensures in
    fused-second_live (g.B.Board.instance c.args.board.now) c.args.pipe c.args.end c.args.pole c.follows_rules.ensures
    c.requires c.pipe_of_pole-other.result q.0 q.1 q.2

pub bond_pairs-requires-clause-live_u : goal.bond_pairs-requires-clause-live_u
bond_pairs-requires-clause-live_u g c =
    fused-end_live (g.B.Board.instance c.args.board.now) c.args.pipe c.args.end c.args.pole c.follows_rules.ensures
    c.requires

pub bond_pairs-requires-clause-live_v : goal.bond_pairs-requires-clause-live_v
bond_pairs-requires-clause-live_v g c =
    fused-pole_live (g.B.Board.instance c.args.board.now) c.args.pipe c.args.end c.args.pole c.follows_rules.ensures
    c.requires

pub bond_pairs-requires-clause-bond : goal.bond_pairs-requires-clause-bond
bond_pairs-requires-clause-bond g c = c.requires.2.1.bond

pub edges_at-requires : goal.edges_at-requires
edges_at-requires g c =
    fused-other_live (g.B.Board.instance c.args.board.now) c.args.pipe c.args.end c.args.pole c.follows_rules.ensures
    c.requires c.other_end-a.result
    (c.other_end-a.ensures ∙ ap (λ z. other_of z c.args.end) c.pipe_ends.ensures.value)

pub partners_at-requires : goal.partners_at-requires
partners_at-requires g c =
    fused-pipe_live (g.B.Board.instance c.args.board.now) c.args.pipe c.args.end c.args.pole c.follows_rules.ensures
    c.requires

pub partners_at-requires-2 : goal.partners_at-requires-2
partners_at-requires-2 g c =
    let q = c.pipe_of_pole-other.ensures in
    fused-second_live (g.B.Board.instance c.args.board.now) c.args.pipe c.args.end c.args.pole c.follows_rules.ensures
    c.requires c.pipe_of_pole-other.result q.0 q.1 q.2

-- the partners at the end, the edges of the pole, and the partners beyond it
pub paired-requires : goal.paired-requires
paired-requires g c =
    let i = g.B.Board.instance c.args.board.now in
    let other = c.pipe_of_pole-other.result in
    let a = c.other_end-a.result in
    ap length (c.items-3.ensures ∙ c.in_ok-seconds.ensures)
    ∙ length-map c.items-2.result.now (partner_told i other c.args.pole)
    ∙ ap length (c.items-2.ensures ∙ c.in_ok-at_pole.ensures)
    ∙ length-map c.items.result.now (partner_in c.as_slice-2.result.now true)
    ∙ ap length (c.items.ensures ∙ c.in_ok-at_end.ensures)
    ∙ length-map c.as_slice.result.now (partner_told i c.args.pipe a)
    ∙ ap length (c.as_slice.ensures.value ∙ sym c.as_slice-3.ensures.value)

pub returns : goal.returns
returns g c =
    let i = g.B.Board.instance c.args.board.now in
    let q = c.pipe_of_pole-other.ensures in
    let other = c.pipe_of_pole-other.result in
    let a = c.other_end-a.result in
    let along = c.in_ok-along.along.items in
    record {
      first = c.requires.0;
      first_named = c.requires.1;
      second = c.requires.2.0;
      second_at = c.requires.2.1.matched;
      along = along;
      is_along = c.in_ok-along.ensures;
      is = ap (λ ps. record { name = c.in_ok-name.name; a = a; b = c.other_end-b.result; pairs = ps })
          (c.in_ok-pairs.ensures ∙ ap₂ (λ xs ys. zip xs ys) c.as_slice-3.ensures.value c.items-3.ensures)
          ∙ told-pipe_past i c.args.pipe c.args.end c.args.pole c.follows_rules.ensures c.requires other
          c.in_ok-name.name a c.other_end-b.result along c.in_ok-edges.edges.items c.in_ok-at_end.at_end c.in_ok-at_pole.at_pole
          c.in_ok-seconds.seconds q.0 q.1 q.2 c.in_ok-name.ensures
          (c.other_end-a.ensures ∙ ap (λ z. other_of z c.args.end) c.pipe_ends.ensures.value)
          (c.other_end-b.ensures ∙ ap (λ z. other_of z c.args.pole) c.pipe_ends-2.ensures.value)
          c.in_ok-edges.ensures.names
          (c.in_ok-at_end.ensures ∙ ap (map (partner_told i c.args.pipe a)) c.as_slice.ensures.value)
          (c.in_ok-at_pole.ensures
          ∙ ap (λ xs. map (partner_in xs true) c.items.result.now) c.as_slice-2.ensures.value
          ∙ ap (map (partner_in along true)) c.items.ensures)
          (c.in_ok-seconds.ensures ∙ ap (map (partner_told i other c.args.pole)) c.items-2.ensures);
    }
