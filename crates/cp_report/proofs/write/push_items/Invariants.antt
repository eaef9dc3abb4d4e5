use Rattle.std.proofs.Common.{◌≡◌, ◌++◌, ◌∷◌, take}
use Rattle.std.specs.List.{flat_map}
use Rattle.cp_report.specs.Reading.{row_item}
use Rattle.cp_report.proofs.write.push_items.Given as goal

-- the items so far are written
abbrev pub invariant-loop-item : goal.invariant-loop-item
invariant-loop-item l = l.text.items ≡ l.fn.text.items ++ flat_map (λ item. 32 ∷ row_item l.row item)
    (take l.item-index l.items)
