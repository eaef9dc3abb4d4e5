-- A search by halves finds the place of an edge.
use Rattle.std.proofs.Common.{◌<◌, ◌≤◌, ◌≡◌, ℕ, get_or, length, subst, sym, ◌∷◌, arith}
use Rattle.std.specs.Prelude.{MatchResult}
use Rattle.std.proofs.lemmas.List.Sorted.{searched}
use Rattle.cp_lists.proofs.DistinctLists.{Has-Contains, Lacks-from}
use Rattle.cp_board.proofs.NamedLists.{rises_from}
use Rattle.cp_board.proofs.NumberOfNewNames.{Distinct-from_rises}
use Rattle.cp_plant.proofs.FoundVertices.{found_behind, found_first, found_none, rising_le, rising_missed}
use Rattle.cp_plant.proofs.reading.found_vertex.Goals as goal

pub returns-then-x-root : goal.returns-then-x-root
returns-then-x-root c =
    sym (found_first c.args.root c.args.edges.now c.args.verts.now c.args.x c.requires.one_each c.if-x-root.true)

pub returns-in-Ok : goal.returns-in-Ok
returns-in-Ok c =
    let names = c.args.edges.now in
    let n = c.args.x in
    let found = subst (λ r. MatchResult r (λ i. (i < length names) × (get_or names i 0 ≡ n))
    (λ i. (i ≤ length names) × ((k : ℕ) → k < i → get_or names k 0 < n)
    × ((k : ℕ) → i ≤ k → k < length names → n < get_or names k 0)))
    c.in-Ok.is
    (searched names n c.binary_search.result c.binary_search.ensures.position (rising_le names c.requires.rising)) in
    sym (found_behind c.args.root names c.args.verts.now c.in-Ok.place n
    (Distinct-from_rises names (rises_from names c.requires.rising)) c.requires.one_each (λ e. c.if-x-root.false e) found.0
    found.1)

pub returns-in-Err : goal.returns-in-Err
returns-in-Err c =
    let names = c.args.edges.now in
    let n = c.args.x in
    let found = subst (λ r. MatchResult r (λ i. (i < length names) × (get_or names i 0 ≡ n))
    (λ i. (i ≤ length names) × ((k : ℕ) → k < i → get_or names k 0 < n)
    × ((k : ℕ) → i ≤ k → k < length names → n < get_or names k 0)))
    c.in-Err.is
    (searched names n c.binary_search.result c.binary_search.ensures.position (rising_le names c.requires.rising)) in
    sym (found_none (c.args.root ∷ names) c.args.verts.now n (omega (arith, c.requires.one_each)) (
      (λ e. c.if-x-root.false (sym e)),
      Lacks-from n names (λ h.
          rising_missed names c.in-Err.field-0 n ((Has-Contains n names).0 h) found.1 found.2),
    ))
