-- The numbers and the names of the faults of a text.
use Rattle.std.specs.Prelude.{ℕ, List, codes}
use Rattle.cp_gml.specs.declared.kind.GrammarKind.{GrammarKind}
use Rattle.cp_gml.specs.declared.kind.GrammarKind.TheVariants.{BadByte, OpenString, BadNumber, KeyExpected, ValueExpected, ListOpen, StrayClose, TooDeep}

-- the number of a kind in the format
abbrev pub grammar_number : GrammarKind → ℕ
grammar_number BadByte = 1
grammar_number OpenString = 2
grammar_number BadNumber = 3
grammar_number KeyExpected = 4
grammar_number ValueExpected = 5
grammar_number ListOpen = 6
grammar_number StrayClose = 7
grammar_number TooDeep = 8

-- the name of a kind
abbrev pub grammar_name : GrammarKind → List ℕ
grammar_name BadByte = codes "BadByte"
grammar_name OpenString = codes "OpenString"
grammar_name BadNumber = codes "BadNumber"
grammar_name KeyExpected = codes "KeyExpected"
grammar_name ValueExpected = codes "ValueExpected"
grammar_name ListOpen = codes "ListOpen"
grammar_name StrayClose = codes "StrayClose"
grammar_name TooDeep = codes "TooDeep"
