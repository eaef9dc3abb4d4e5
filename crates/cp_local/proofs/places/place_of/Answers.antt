-- A binary search finds each number that is one of those that rise.
use Rattle.std.proofs.Common.{◌<◌, ◌≤◌, Ok, Err, arith, ⊎_elim}
use Rattle.std.proofs.lemmas.Bool.{cases_lt}
use Rattle.std.proofs.lemmas.List.Sorted.{searched}
use Rattle.cp_lists.proofs.DistinctLists.{Has-Contains, Has-place}
use Rattle.cp_local.proofs.RisingNames.{found_rank, rising_weakly}
use Rattle.cp_local.proofs.places.place_of.Goals as goal

pub unreachable-requires : goal.unreachable-requires
unreachable-requires c =
    let names = c.args.names.now in
    let told = searched names c.args.name (Err c.in-Err.field-0) c.in-Err.ensures.position
    (rising_weakly names c.requires.rising) in
    let w = Has-place c.args.name names ((Has-Contains c.args.name names).1 c.requires.live) in
    ⊎_elim
    (λ (lt : w.0 < c.in-Err.field-0). let less = told.1 w.0 lt in omega (arith, less, w.2))
    (λ (ge : c.in-Err.field-0 ≤ w.0). let more = told.2 w.0 ge w.1 in omega (arith, more, w.2))
    (cases_lt w.0 c.in-Err.field-0)

pub returns-clause-value : goal.returns-clause-value
returns-clause-value c =
    let names = c.args.names.now in
    let told = searched names c.args.name (Ok c.in-Ok.place) c.in-Ok.ensures.position
    (rising_weakly names c.requires.rising) in
    found_rank names c.args.name c.in-Ok.place c.requires.rising told.0 told.1
