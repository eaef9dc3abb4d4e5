-- The lines that a run writes, each ended by one line feed.
use Rattle.std.specs.Prelude.{ℕ, List, [], ◌∷◌, ◌++◌, codes}
use Rattle.std.specs.Fmt.{decimal}
use Rattle.cp_check.specs.declared.verdict.Reject.{Reject}
use Rattle.cp_check.specs.declared.verdict.Reject.TheVariants.{NoLayout, NodeLine, ClusterLine, Genus}

-- a text with the line feed that ends it
abbrev pub line : List ℕ → List ℕ
line text = text ++ 10 ∷ []

-- the line for words that are no command
abbrev pub usage_line : List ℕ
usage_line = line (codes "usage: cplan COMMAND [N]")

-- the line of a good layout
abbrev pub accepted_line : List ℕ
accepted_line = line (codes "accepted")

-- the line of a report at fault: the number of the kind, and the line
abbrev pub bad_report_line : ℕ → ℕ → List ℕ
bad_report_line kind number = line (codes "bad report " ++ decimal kind ++ codes " line " ++ decimal number)

-- the name of the fault, with the number of its kind
abbrev pub refused_line : List ℕ → ℕ → ℕ → List ℕ
refused_line name kind at = line (codes "refused " ++ decimal kind ++ codes " " ++ name ++ codes " at " ++ decimal at)

-- the line of a layout that is not good, with the reason
abbrev pub rejected_line : Reject → List ℕ
rejected_line NoLayout = line (codes "rejected no layout")
rejected_line (NodeLine i) = line (codes "rejected node " ++ decimal i)
rejected_line (ClusterLine k) = line (codes "rejected cluster " ++ decimal k)
rejected_line (Genus v e f c) =
    line (codes "rejected genus v " ++ decimal v ++ codes " e " ++ decimal e ++ codes " f " ++ decimal f ++ codes " c "
    ++ decimal c)
