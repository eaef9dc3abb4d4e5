use Rattle.std.proofs.Common.{◌≡◌, ◌≤◌, ◌<◌, ℕ, List, get_or, length, subst, sym, refl, ap}
use Rattle.cp_base.specs.Graphs.{AreWithin}
use Rattle.cp_conn.proofs.Classes.{labelled-le, labelled_leads}
use Rattle.cp_conn.proofs.BlockNumbers.{links_within, numbered_blocks}
use Rattle.cp_conn.proofs.block_numbers.blocks.Goals as goal

pub least_connected-requires : goal.least_connected-requires
least_connected-requires c =
    subst (λ (n : ℕ). AreWithin n c.as_slice.result.now) (sym (ap length c.ends-edges.ensures.value))
    (subst (AreWithin (length c.args.g.now.ends)) (sym c.as_slice.ensures.value)
    (links_within c.args.g.now.ends c.in_ok-links.links.items c.args.g.now.vertices c.in_ok-links.ensures))

pub numbers_of-requires-clause-lower : goal.numbers_of-requires-clause-lower
numbers_of-requires-clause-lower c =
    subst (λ (xs : List ℕ). (x : ℕ) → x < length xs → get_or xs x 0 ≤ x) (sym c.as_slice-2.ensures.value)
    (labelled-le c.as_slice.result.now
    (length c.ends-edges.result.now) c.in_ok-least.least.items c.in_ok-least.ensures.size
    c.in_ok-least.ensures.labelled)

pub numbers_of-requires-clause-leads : goal.numbers_of-requires-clause-leads
numbers_of-requires-clause-leads c =
    subst (λ (xs : List ℕ). (x : ℕ) → x < length xs → get_or xs (get_or xs x 0) 0 ≡ get_or xs x 0)
    (sym c.as_slice-2.ensures.value)
    (labelled_leads c.as_slice.result.now
    (length c.ends-edges.result.now) c.in_ok-least.least.items c.in_ok-least.ensures.size
    c.in_ok-least.ensures.labelled)

pub returns : goal.returns
returns c =
    numbered_blocks c.args.g.now.ends c.ends-edges.result.now c.in_ok-links.links.items c.as_slice.result.now
    c.args.g.now.vertices (length c.ends-edges.result.now) c.in_ok-least.least.items c.as_slice-2.result.now
    c.in_ok-numbers.numbers.items
    c.ends-edges.ensures.value refl c.as_slice.ensures.value c.ends-edges.ensures.within c.requires
    c.in_ok-links.ensures c.in_ok-least.ensures.size c.in_ok-least.ensures.labelled c.as_slice-2.ensures.value
    c.in_ok-numbers.ensures.size c.in_ok-numbers.ensures.counted
