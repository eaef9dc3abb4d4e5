-- What the parts of the reader say of words and lines.
use Rattle.std.specs.Prelude.{◌≡◌, ◌≢◌, ℕ, ◌+◌, ◌^◌, ◌<◌, ◌≤◌, ◌==◌, codes, List, [], ◌∷◌, ◌++◌, length}
use Rattle.std.specs.List.{AllByRecursion, slice_split}
use Rattle.std.specs.Fmt.{decimal}
use Rattle.cp_report.specs.declared.kind.ReportKind.{ReportKind}
use Rattle.cp_report.specs.declared.kind.ReportKind.TheVariants.{WrongLine, NoLine}
use Rattle.cp_report.specs.declared.row.Row.{Row}
use Rattle.cp_report.specs.declared.row.Row.TheVariants.{Nodes, Clusters}
use Rattle.cp_report.specs.Texts.{dart_text, list_line, numbered, text_of}

-- the byte stands nowhere
abbrev pub Lacks : ℕ → List ℕ → Type 0
Lacks byte bytes = AllByRecursion (λ b. b ≢ byte) bytes

-- the bytes between blanks
unfoldable pub words : List ℕ → List (List ℕ)
words bytes = slice_split (λ byte. byte == 32) bytes

-- the first word of a line
abbrev pub row_key : Row → List ℕ
row_key Nodes = codes "node"
row_key Clusters = codes "cluster"

-- the text of an item
abbrev pub row_item : Row → ℕ → List ℕ
row_item Nodes = dart_text
row_item Clusters = decimal

-- items are below this
abbrev pub row_limit : Row → ℕ
row_limit Nodes = 2 ^ 33
row_limit Clusters = 2 ^ 32

-- the line of a list
abbrev pub row_line : Row → ℕ → List ℕ → List ℕ
row_line row = list_line (row_key row) (row_item row)

-- each item is within the limits
abbrev pub AreItems : Row → List ℕ → Type 0
AreItems row items = AllByRecursion (λ item. item < row_limit row) items

-- the line has this number and these items, all within the limits
pub record IsListLine (row : Row) (number : ℕ) (line items : List ℕ) : Type 0 where
  pub fits : number < 2 ^ 32
  pub items_fit : AreItems row items
  pub spelled : line ≡ row_line row number items

-- the text has lines for the lists, numbered from first on, and then the rest
pub record AreListLines (row : Row) (first : ℕ) (text : List ℕ) (lists : List (List ℕ)) (rest : List ℕ) : Type 0 where
  pub fit : first + length lists ≤ 2 ^ 32
  pub items_fit : AllByRecursion (AreItems row) lists
  pub spelled : text ≡ text_of (numbered (row_line row) first lists) ++ rest

-- no line of this number stands at the front
abbrev pub HasNoRow : Row → ℕ → List ℕ → Type 0
HasNoRow row number text = (items after : List ℕ) → number < 2 ^ 32 → AreItems row items
    → text ≡ row_line row number items ++ 10 ∷ after → ⊥

-- the front of a number: a zero alone, or another digit
abbrev pub IsPlain : List ℕ → Type 0
IsPlain [] = ⊥
IsPlain (first ∷ []) = (48 ≤ first) × (first ≤ 57)
IsPlain (first ∷ second ∷ rest) = (49 ≤ first) × (first ≤ 57)

-- a line that is none of those due stands at the front, or no whole line
pub data IsLate (rest : List ℕ) (kind : ReportKind) : Type 0 where
  other_line : (line after : List ℕ) → Lacks 10 line → rest ≡ line ++ 10 ∷ after → kind ≡ WrongLine → IsLate rest kind
  no_line : Lacks 10 rest → kind ≡ NoLine → IsLate rest kind

-- the text behind the heading, and behind a verdict
abbrev pub behind_heading : List ℕ → List ℕ
behind_heading bytes = text_of (codes "cplan-report 1" ∷ []) ++ bytes

-- the text behind the verdict `yes`
abbrev pub behind_yes : List ℕ → List ℕ
behind_yes bytes = text_of (codes "cplan-report 1" ∷ codes "yes" ∷ []) ++ bytes

-- the text behind the verdict `no`
abbrev pub behind_no : List ℕ → List ℕ
behind_no bytes = text_of (codes "cplan-report 1" ∷ codes "no" ∷ []) ++ bytes
