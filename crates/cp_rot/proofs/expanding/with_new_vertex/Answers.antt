use Rattle.std.proofs.Common.{◌∙◌, ◌∷◌, ◌+◌, ap, sym, List, ℕ, [], length, slice_index}
use Rattle.std.proofs.lemmas.List.{get_or_default}
use Rattle.cp_rot.specs.Rewrites.{others_from}
use Rattle.cp_rot.specs.RewriteTables.{row_of}
use Rattle.cp_rot.proofs.InsertCode.{contains_f, row_below, expanded_is}
use Rattle.cp_rot.proofs.expanding.with_new_vertex.Goals as goal

pub row_up_to-requires : goal.row_up_to-requires
row_up_to-requires c =
    let at = c.args.at.now in
    let lists = c.args.lists.now in
    let from = c.items.ensures ∙ c.index-lists-w.is ∙ get_or_default {X = List ℕ} lists (slice_index at c.args.d) c.index-lists-w.result [] (c.requires.rotation.placed c.args.d c.requires.first) in
    let rest = c.in_ok-items.ensures ∙ ap (others_from c.args.d) from in
    contains_f c.args.d c.args.f at lists c.requires.rotation c.requires.first c.requires.second c.requires.together (c.as_slice.ensures.value ∙ rest)

pub list_left-requires : goal.list_left-requires
list_left-requires c =
    let at = c.args.at.now in
    let lists = c.args.lists.now in
    let from = c.items.ensures ∙ c.index-lists-w.is ∙ get_or_default {X = List ℕ} lists (slice_index at c.args.d) c.index-lists-w.result [] (c.requires.rotation.placed c.args.d c.requires.first) in
    let rest = c.in_ok-items.ensures ∙ ap (others_from c.args.d) from in
    contains_f c.args.d c.args.f at lists c.requires.rotation c.requires.first c.requires.second c.requires.together (c.as_slice-2.ensures.value ∙ rest)

pub vertices_with_row-requires : goal.vertices_with_row-requires
vertices_with_row-requires c =
    let at = c.args.at.now in
    let lists = c.args.lists.now in
    let from = c.items.ensures ∙ c.index-lists-w.is ∙ get_or_default {X = List ℕ} lists (slice_index at c.args.d) c.index-lists-w.result [] (c.requires.rotation.placed c.args.d c.requires.first) in
    let rest = c.in_ok-items.ensures ∙ ap (others_from c.args.d) from in
    let row = c.in_ok-row.ensures ∙ ap (row_of c.args.d c.args.f) (c.as_slice.ensures.value ∙ rest) in
    row_below c.args.d c.args.f at lists c.requires.rotation c.requires.first c.requires.second c.requires.together (c.as_slice-4.ensures.value ∙ row)

pub returns : goal.returns
returns c =
    let at = c.args.at.now in
    let lists = c.args.lists.now in
    let from = c.items.ensures ∙ c.index-lists-w.is ∙ get_or_default {X = List ℕ} lists (slice_index at c.args.d) c.index-lists-w.result [] (c.requires.rotation.placed c.args.d c.requires.first) in
    let rest = c.in_ok-items.ensures ∙ ap (others_from c.args.d) from in
    let row = c.in_ok-row.ensures ∙ ap (row_of c.args.d c.args.f) (c.as_slice.ensures.value ∙ rest) in
    let moved = c.in_ok-moved.ensures ∙ ap (λ xs. (length at + 1) ∷ xs) (c.as_slice-3.ensures.value ∙ sym c.as_slice-4.ensures.value) in
    expanded_is c.args.d c.args.f at lists c.requires.rotation c.requires.first c.requires.second c.requires.together
    (c.as_slice-2.ensures.value ∙ rest) (c.as_slice-4.ensures.value ∙ row) c.in_ok-left.ensures moved c.in_ok-new_at.ensures c.in_ok-new_lists.ensures
