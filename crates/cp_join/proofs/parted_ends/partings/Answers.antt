-- The new names are cut into those for the parts of both ends.
use Rattle.std.proofs.Common.{◌≡◌, ◌+◌, ◌*◌, ◌∙◌, length, take, drop, ap, ap₂, arith}
use Rattle.cp_board.specs.Names.{new_names}
use Rattle.cp_board.specs.Instances.{pipe_names, vert_names}
use Rattle.cp_board.proofs.NumberOfNewNames.{length-new_names}
use Rattle.cp_join.proofs.NewPartings.{AreParted-cut}
use Rattle.cp_join.proofs.parted_ends.partings.Goals as goal

pub split_at-requires : goal.split_at-requires
split_at-requires g c =
    omega (
      arith,
      ap length (c.as_slice.ensures.value ∙ c.in_ok-verts.ensures),
      length-new_names (vert_names (g.B.Board.instance c.args.board.now)) (2 * (c.len-number.result + c.len.result)),
    )

pub split_at-requires-2 : goal.split_at-requires-2
split_at-requires-2 g c =
    omega (
      arith,
      ap length (c.as_slice-2.ensures.value ∙ c.in_ok-pipes.ensures),
      length-new_names (pipe_names (g.B.Board.instance c.args.board.now)) (c.len-number.result + c.len.result),
    )

pub parting_of-requires-2 : goal.parting_of-requires-2
parting_of-requires-2 g c = record {
  verts = omega (
    arith,
    c.split_at.ensures.back_len,
    c.len.ensures,
    ap length (c.as_slice.ensures.value ∙ c.in_ok-verts.ensures),
    length-new_names (vert_names (g.B.Board.instance c.args.board.now)) (2 * (c.len-number.result + c.len.result)),
  );
}

pub returns : goal.returns
returns g c =
    let i = g.B.Board.instance c.args.board.now in
    let vs = c.in_ok-verts.verts.items in
    let ps = c.in_ok-pipes.pipes.items in
    let front : c.split_at.result.0.now ≡ take (2 * length c.args.first) vs =
    c.split_at.ensures.front ∙ ap₂ (λ n xs. take (2 * n) xs) c.len-number.ensures c.as_slice.ensures.value in
    let back : c.split_at.result.1.now ≡ drop (2 * length c.args.first) vs =
    c.split_at.ensures.back ∙ ap₂ (λ n xs. drop (2 * n) xs) c.len-number.ensures c.as_slice.ensures.value in
    AreParted-cut i c.args.first c.args.second c.in_ok-one.one c.in_ok-two.two vs ps
    (c.in_ok-verts.ensures ∙ ap₂ (λ m n. new_names (vert_names i) (2 * (m + n))) c.len-number.ensures c.len.ensures)
    (c.in_ok-pipes.ensures ∙ ap₂ (λ m n. new_names (pipe_names i) (m + n)) c.len-number.ensures c.len.ensures)
    c.in_ok-one.ensures.parts c.in_ok-two.ensures.parts
    (c.in_ok-one.ensures.outer ∙ ap (take (length c.args.first)) front)
    (c.in_ok-one.ensures.inner ∙ ap (drop (length c.args.first)) front)
    (c.in_ok-two.ensures.outer ∙ ap (take (length c.args.second)) back)
    (c.in_ok-two.ensures.inner ∙ ap (drop (length c.args.second)) back)
    (c.in_ok-one.ensures.names ∙ c.split_at-2.ensures.front
    ∙ ap₂ (λ n xs. take n xs) c.len-number.ensures c.as_slice-2.ensures.value)
    (c.in_ok-two.ensures.names ∙ c.split_at-2.ensures.back
    ∙ ap₂ (λ n xs. drop n xs) c.len-number.ensures c.as_slice-2.ensures.value)
