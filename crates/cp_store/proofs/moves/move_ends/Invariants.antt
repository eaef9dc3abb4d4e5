use Rattle.std.proofs.Common.{◌≡◌, ◌+◌, ◌≤◌, take, length}
use Rattle.std.specs.List.{All}
use Rattle.std.specs.Vec.{vec_len, vec_capacity}
use Rattle.cp_board.specs.Rewrites.{after_moves}
use Rattle.cp_store.specs.Exchanges.{taken_back, entry_names, items_of, IsTable, IsReserved}
use Rattle.cp_store.proofs.EdgeMoves.{row_name}
use Rattle.cp_store.proofs.moves.move_ends.Given as goal

abbrev pub invariant-loop-m : goal.invariant-loop-m
invariant-loop-m l =
    IsTable row_name l.edges.entries.items
    × (entry_names l.edges.entries.items ≡ entry_names l.initial.edges.entries.items)
    × (items_of l.edges.entries.items ≡ after_moves (take l.m-index l.moves) (items_of l.initial.edges.entries.items))
    × (taken_back row_name l.done.items (items_of l.edges.entries.items) ≡ taken_back row_name l.initial.done.items (items_of l.initial.edges.entries.items))
    × All (IsReserved row_name (entry_names l.initial.edges.entries.items)) l.done.items
    × (vec_len l.done + length l.moves ≤ vec_capacity l.done + l.m-index)
