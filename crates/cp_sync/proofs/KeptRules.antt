-- The third, the fourth and the fifth rule: kept by all parts, or broken first by one, by what passes over them find.
use Rattle.std.proofs.Common.{ℕ, ◌<◌, List, length, slice_index, arith}
use Rattle.std.specs.List.{All}
use Rattle.std.specs.List.Sorted.{IsStrictlyIncreasing}
use Rattle.cp_board.specs.Instances.{Synchronized, IsSynchronized, vert_names, edge_names, pipe_names}
use Rattle.cp_board.specs.Faults.{parts, EdgeAt, PipeAt, Names, Ends, Lists, PipeEnds, Partners, Keeps, IsFirstBroken}
use Rattle.cp_board.proofs.FirstBroken.{IsFirstBroken-vert, IsFirstBroken-edge, IsFirstBroken-pipe}
use Rattle.cp_board.proofs.Rules.{IsSynchronized-from_parts}
use Rattle.cp_sync.specs.Tables.{AreAdjacent}
use Rattle.cp_sync.specs.Checks.{AllBelow, IsFirstFailing, HasRightList, HasRightPartners}
use Rattle.cp_sync.proofs.RuleTables.{Keeps-all, before_ends, before_lists, before_pipe_ends, before_partners, all_rules, Lists-from, Lists-to, Partners-at, Partners-to}

module _ (i : Synchronized) (names : All (Keeps i Names) (parts i)) where
  -- all edges keep the second rule
  pub ends_kept : AllBelow (λ k. Keeps i Ends (EdgeAt k)) (length i.edges) → All (Keeps i Ends) (parts i)
  ends_kept all = Keeps-all i Ends (λ k lt. tt) all (λ k lt. tt)

  -- an edge breaks it first
  pub ends_broken : (k : ℕ) → IsFirstFailing (λ j. Keeps i Ends (EdgeAt j)) (length i.edges) k
      → IsFirstBroken i 2 (slice_index (edge_names i) k)
  ends_broken k first =
      IsFirstBroken-edge i Ends (before_ends i names) (λ j lt. tt) k first.within first.fails first.before

module _
    (i : Synchronized)
    (names : All (Keeps i Names) (parts i))
    (ends : All (Keeps i Ends) (parts i))
    (at : List (List ℕ))
    (up : IsStrictlyIncreasing (edge_names i))
    (adjacent : AreAdjacent i.verts i.edges at) where
  -- all lists are right
  pub lists_kept : AllBelow (HasRightList i.verts at) (length i.verts) → All (Keeps i Lists) (parts i)
  lists_kept all = Keeps-all i Lists (λ k lt. Lists-from i at up adjacent k lt (all k lt)) (λ k lt. tt) (λ k lt. tt)

  -- a vertex breaks the third rule first
  pub lists_broken : (k : ℕ) → IsFirstFailing (HasRightList i.verts at) (length i.verts) k
      → IsFirstBroken i 3 (slice_index (vert_names i) k)
  lists_broken k first =
      let within : k < length i.verts = first.within in
      IsFirstBroken-vert i Lists (before_lists i names ends) k within
      (λ keep. first.fails (Lists-to i at up adjacent k within keep))
      (λ j l. Lists-from i at up adjacent j (omega (arith, l, within)) (first.before j l))

  -- all ends of pipes are right
  pub pipe_ends_kept : AllBelow (λ k. Keeps i PipeEnds (PipeAt k)) (length i.pipes) → All (Keeps i PipeEnds) (parts i)
  pipe_ends_kept all = Keeps-all i PipeEnds (λ k lt. tt) (λ k lt. tt) all

  -- a pipe breaks the fourth rule first
  pub pipe_ends_broken : All (Keeps i Lists) (parts i)
      → (k : ℕ) → IsFirstFailing (λ j. Keeps i PipeEnds (PipeAt j)) (length i.pipes) k
      → IsFirstBroken i 4 (slice_index (pipe_names i) k)
  pipe_ends_broken lists k first =
      IsFirstBroken-pipe i PipeEnds (before_pipe_ends i names ends lists) (λ j lt. tt) (λ j lt. tt) k first.within first.fails first.before

  -- a pipe breaks the fifth rule first
  pub partners_broken : All (Keeps i Lists) (parts i)
      → AllBelow (λ k. Keeps i PipeEnds (PipeAt k)) (length i.pipes)
      → (k : ℕ) → IsFirstFailing (HasRightPartners i.verts at i.pipes) (length i.pipes) k
      → IsFirstBroken i 5 (slice_index (pipe_names i) k)
  partners_broken lists free k first =
      let within : k < length i.pipes = first.within in
      IsFirstBroken-pipe i Partners (before_partners i names ends lists (pipe_ends_kept free)) (λ j lt. tt) (λ j lt. tt) k within
      (λ keep. first.fails (Partners-to i at up adjacent k keep))
      (λ j l. Partners-at i at j up adjacent (free j (omega (arith, l, within))) (first.before j l))

  -- all five rules are kept
  pub rules_kept : All (Keeps i Lists) (parts i) → AllBelow (λ k. Keeps i PipeEnds (PipeAt k)) (length i.pipes)
      → AllBelow (HasRightPartners i.verts at i.pipes) (length i.pipes)
      → IsSynchronized i
  rules_kept lists free right =
      IsSynchronized-from_parts i
      (all_rules i names ends lists (pipe_ends_kept free)
      (Keeps-all i Partners (λ k lt. tt) (λ k lt. tt) (λ k lt. Partners-at i at k up adjacent (free k lt) (right k lt))))
