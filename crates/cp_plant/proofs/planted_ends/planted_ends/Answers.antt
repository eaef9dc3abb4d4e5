-- What the board tells of the pipe and of new names plants the shape at both ends.
use Rattle.std.proofs.Common.{◌≡◌, ℕ, ◌+◌, ◌-◌, List, ◌∷◌, ◌++◌, length, sym, ap, ap₂, ◌∙◌, subst, arith}
use Rattle.std.specs.Prelude.{Some}
use Rattle.std.proofs.lemmas.List.{take-append-drop}
use Rattle.cp_board.specs.Instances.{edge_names, vert_names}
use Rattle.cp_board.specs.Plantings.{Plants}
use Rattle.cp_board.specs.Steps.{IsFitting}
use Rattle.cp_board.proofs.NumberOfNewNames.{length-new_names}
use Rattle.cp_plant.specs.Growing.{partner_in}
use Rattle.cp_plant.proofs.ToldEnds.{inner_some, live_end, live_other, live_pipe, told_planted}
use Rattle.cp_plant.proofs.planted_ends.planted_ends.Goals as goal

pub pipe_ends-ends-requires : goal.pipe_ends-ends-requires
pipe_ends-ends-requires g c =
    live_pipe (g.B.Board.instance c.args.board.now) c.follows_rules.ensures c.args.pipe c.requires.0 c.requires.1 c.args.end c.args.shape.now c.requires.2

pub pairs-pairs-requires : goal.pairs-pairs-requires
pairs-pairs-requires g c =
    live_pipe (g.B.Board.instance c.args.board.now) c.pipe_ends-ends.ensures.rules c.args.pipe c.requires.0 c.requires.1
    c.args.end c.args.shape.now c.requires.2

pub edges_at-requires : goal.edges_at-requires
edges_at-requires g c =
    live_end (g.B.Board.instance c.args.board.now) c.pipe_ends-ends.ensures.rules c.args.pipe c.requires.0 c.requires.1
    c.args.end c.args.shape.now c.requires.2

pub edges_at-requires-2 : goal.edges_at-requires-2
edges_at-requires-2 g c =
    live_other (g.B.Board.instance c.args.board.now) c.pipe_ends-ends.ensures.rules c.args.pipe c.requires.0 c.requires.1
    c.args.end c.args.shape.now c.requires.2 c.pipe_ends-ends.result c.end_beside-other.result
    c.pipe_ends-ends.ensures.value c.end_beside-other.ensures

pub overflow_sub-count : goal.overflow_sub-count
overflow_sub-count g c =
    inner_some (g.B.Board.instance c.args.board.now) c.pipe_ends-ends.ensures.rules c.args.pipe c.requires.0 c.requires.1
    c.args.end c.args.shape.now c.requires.2 c.in_ok-count.count c.in_ok-count.ensures.leaf

pub overflow_sub-count-2 : goal.overflow_sub-count-2
overflow_sub-count-2 g c =
    inner_some (g.B.Board.instance c.args.board.now) c.pipe_ends-ends.ensures.rules c.args.pipe c.requires.0 c.requires.1
    c.args.end c.args.shape.now c.requires.2 c.in_ok-count.count c.in_ok-count.ensures.leaf

pub split_at-requires : goal.split_at-requires
split_at-requires g c = omega (
  arith,
  ap length (c.as_slice-3.ensures.value ∙ c.in_ok-verts.ensures),
  length-new_names (vert_names (g.B.Board.instance c.args.board.now)) (c.in_ok-count.count + c.in_ok-count.count),
)

pub overflow_sub-count-3 : goal.overflow_sub-count-3
overflow_sub-count-3 g c =
    inner_some (g.B.Board.instance c.args.board.now) c.pipe_ends-ends.ensures.rules c.args.pipe c.requires.0 c.requires.1
    c.args.end c.args.shape.now c.requires.2 c.in_ok-count.count c.in_ok-count.ensures.leaf

pub split_at-requires-2 : goal.split_at-requires-2
split_at-requires-2 g c = omega (
  arith,
  ap length (c.as_slice-4.ensures.value ∙ c.in_ok-edges.ensures),
  length-new_names (edge_names (g.B.Board.instance c.args.board.now))
      ((c.in_ok-count.count - 1) + (c.in_ok-count.count - 1)),
)

pub planted_end-requires-clause-edges : goal.planted_end-requires-clause-edges
planted_end-requires-clause-edges g c = omega (
  arith,
  c.split_at-2.ensures.front_len,
  c.in_ok-count.ensures.value,
  inner_some (g.B.Board.instance c.args.board.now) c.pipe_ends-ends.ensures.rules c.args.pipe c.requires.0 c.requires.1
      c.args.end c.args.shape.now c.requires.2 c.in_ok-count.count c.in_ok-count.ensures.leaf,
)

pub planted_end-requires-2-clause-verts : goal.planted_end-requires-2-clause-verts
planted_end-requires-2-clause-verts g c = omega (
  arith,
  c.split_at.ensures.back_len,
  c.in_ok-count.ensures.value,
  ap length (c.as_slice-3.ensures.value ∙ c.in_ok-verts.ensures),
  length-new_names (vert_names (g.B.Board.instance c.args.board.now)) (c.in_ok-count.count + c.in_ok-count.count),
)

pub planted_end-requires-2-clause-edges : goal.planted_end-requires-2-clause-edges
planted_end-requires-2-clause-edges g c = omega (
  arith,
  c.split_at-2.ensures.back_len,
  c.in_ok-count.ensures.value,
  ap length (c.as_slice-4.ensures.value ∙ c.in_ok-edges.ensures),
  length-new_names (edge_names (g.B.Board.instance c.args.board.now))
      ((c.in_ok-count.count - 1) + (c.in_ok-count.count - 1)),
  inner_some (g.B.Board.instance c.args.board.now) c.pipe_ends-ends.ensures.rules c.args.pipe c.requires.0 c.requires.1
      c.args.end c.args.shape.now c.requires.2 c.in_ok-count.count c.in_ok-count.ensures.leaf,
)

pub returns : goal.returns
returns g c p live =
    let i = g.B.Board.instance c.args.board.now in
    let n : ℕ = c.in_ok-count.count in
    let both : Some c.requires.0 ≡ Some p = sym c.requires.1 ∙ live in
    let same : c.requires.0 ≡ p = cc in
    let fits : IsFitting i p c.args.end c.args.shape.now =
    subst (λ q. IsFitting i q c.args.end c.args.shape.now) same c.requires.2 in
    told_planted i c.pipe_ends-ends.ensures.rules c.args.pipe p live c.args.end c.args.shape.now fits
    c.pipe_ends-ends.result c.pairs-pairs.result.now c.as_slice.result.now c.end_beside-other.result
    c.in_ok-own_other.own_other.items c.in_ok-partners.partners.items c.partner_of-top.result (n + n) ((n - 1) + (n - 1))
    c.as_slice-3.result.now c.as_slice-4.result.now
    c.split_at.result.0.now c.split_at.result.1.now c.split_at-2.result.0.now c.split_at-2.result.1.now
    c.in_ok-u.u c.in_ok-w.w
    c.pipe_ends-ends.ensures.value c.pairs-pairs.ensures c.end_beside-other.ensures
    (c.as_slice.ensures.value ∙ c.in_ok-own.ensures.names) c.in_ok-own_other.ensures.names c.in_ok-partners.ensures
    (c.partner_of-top.ensures ∙ ap (λ xs. partner_in xs c.args.shape.now.root) c.as_slice-2.ensures.value)
    (c.as_slice-3.ensures.value ∙ c.in_ok-verts.ensures) (c.as_slice-4.ensures.value ∙ c.in_ok-edges.ensures)
    (ap₂ (λ (xs ys : List ℕ). xs ++ ys) c.split_at.ensures.front c.split_at.ensures.back
    ∙ take-append-drop n c.as_slice-3.result.now)
    (ap₂ (λ (xs ys : List ℕ). xs ++ ys) c.split_at-2.ensures.front c.split_at-2.ensures.back
    ∙ take-append-drop (n - 1) c.as_slice-4.result.now)
    (omega (arith, ap length c.as_slice-3.ensures.value, c.in_ok-verts.verts.small))
    (omega (arith, ap length c.as_slice-4.ensures.value, c.in_ok-edges.edges.small))
    (c.in_ok-u.ensures.end, c.in_ok-u.ensures.own ∙ sym c.as_slice.ensures.value, c.in_ok-u.ensures.edges)
    (c.in_ok-w.ensures.end, c.in_ok-w.ensures.own, c.in_ok-w.ensures.edges)
    c.in_ok-u.ensures.rows
    (subst (λ xs. Plants (partner_in xs) c.args.shape.now.body c.partner_of-top.result c.split_at.result.1.now
    (c.partner_of-top.result ∷ c.split_at-2.result.1.now) c.in_ok-w.w.rows) c.as_slice-5.ensures.value c.in_ok-w.ensures.rows)
