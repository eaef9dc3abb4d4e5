-- The search among rising names finds the place.
use Rattle.std.proofs.Common.{◌≡◌, ℕ, true, false, subst, Result, MatchResult}
use Rattle.cp_conn.specs.NamedGraphs.{rank}
use Rattle.cp_board.specs.Names.{has}
use Rattle.cp_embed.proofs.BoardBlockCuts.{searched_place}
use Rattle.cp_embed.proofs.board_blocks.place_among.Goals as goal

pub returns-in-Ok : goal.returns-in-Ok
returns-in-Ok c =
    let names = c.args.names.now in
    subst (λ (r : Result ℕ ℕ). MatchResult r (λ k. (has names c.args.name ≡ true) × (k ≡ rank names c.args.name))
    (λ k. has names c.args.name ≡ false))
    c.in-Ok.is
    (searched_place names c.args.name c.binary_search.result c.requires c.binary_search.ensures.position)

pub returns-in-Err : goal.returns-in-Err
returns-in-Err c =
    let names = c.args.names.now in
    subst (λ (r : Result ℕ ℕ). MatchResult r (λ k. (has names c.args.name ≡ true) × (k ≡ rank names c.args.name))
    (λ k. has names c.args.name ≡ false))
    c.in-Err.is
    (searched_place names c.args.name c.binary_search.result c.requires c.binary_search.ensures.position)
