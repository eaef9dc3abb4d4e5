use Rattle.std.proofs.Common.{◌≡◌, ◌≤◌, ◌<◌, ℕ, List, get_or, length, subst, sym}
use Rattle.cp_conn.proofs.Classes.{labelled-le, labelled_leads, numbered_parts}
use Rattle.cp_conn.proofs.component_numbers.numbers_of_components.Goals as goal

pub numbers_of-requires-clause-lower : goal.numbers_of-requires-clause-lower
numbers_of-requires-clause-lower c =
    subst (λ (xs : List ℕ). (x : ℕ) → x < length xs → get_or xs x 0 ≤ x) (sym c.as_slice.ensures.value)
    (labelled-le c.args.ends.now c.args.vertices c.in_ok-least.least.items
    c.in_ok-least.ensures.size c.in_ok-least.ensures.labelled)

pub numbers_of-requires-clause-leads : goal.numbers_of-requires-clause-leads
numbers_of-requires-clause-leads c =
    subst
    (λ (xs : List ℕ). (x : ℕ) → x < length xs → get_or xs (get_or xs x 0) 0 ≡ get_or xs x 0)
    (sym c.as_slice.ensures.value)
    (labelled_leads c.args.ends.now c.args.vertices c.in_ok-least.least.items
    c.in_ok-least.ensures.size c.in_ok-least.ensures.labelled)

pub returns : goal.returns
returns c =
    numbered_parts c.args.ends.now c.args.vertices c.in_ok-least.least.items c.as_slice.result.now
    c.in_ok-numbers.numbers.items c.as_slice.ensures.value c.in_ok-least.ensures.size c.in_ok-least.ensures.labelled
    c.in_ok-numbers.ensures.size c.in_ok-numbers.ensures.counted
