-- What the parts of the reader say of words, numbers and lines.
use Rattle.std.specs.Prelude.{◌≡◌, ◌≢◌, ℕ, ◌+◌, ◌<◌, ◌≤◌, ◌==◌, codes, List, [], ◌∷◌, ◌++◌, length, map, Option, Some, None}
use Rattle.std.specs.List.{AllByRecursion, count_by, slice_split}
use Rattle.std.specs.Fmt.{decimal}
use Rattle.cp_board.specs.declared.parts.Kind.{Kind}
use Rattle.cp_board.specs.declared.parts.Kind.TheVariants.{P, Q}
use Rattle.cp_board.specs.declared.parts.Vert.{Vert}
use Rattle.cp_board.specs.declared.parts.EdgeRow.{EdgeRow}
use Rattle.cp_board.specs.declared.parts.Pipe.{Pipe}
use Rattle.cp_board.specs.Instances.{Synchronized, IsSynchronized}
use Rattle.cp_trace.specs.Faults.{AreToldEdges, AreToldPipes, AreToldVerts, IsFaultAt, IsLine, IsToldInstance}
use Rattle.cp_trace.specs.Texts.{edge_line, instance_lines, pipe_line, text_of, vert_line}

-- the byte stands nowhere
abbrev pub Lacks : ℕ → List ℕ → Type 0
Lacks byte bytes = AllByRecursion (λ b. b ≢ byte) bytes

-- the bytes between blanks
unfoldable pub words : List ℕ → List (List ℕ)
words bytes = slice_split (λ byte. byte == 32) bytes

-- the front of a number: a zero alone, or another digit
abbrev pub IsPlain : List ℕ → Type 0
IsPlain [] = ⊥
IsPlain (first ∷ []) = (48 ≤ first) × (first ≤ 57)
IsPlain (first ∷ second ∷ rest) = (49 ≤ first) × (first ≤ 57)

-- a number with a colon behind it
abbrev pub label_word : ℕ → List ℕ
label_word number = decimal number ++ 58 ∷ []

-- a pair
abbrev pub pair_word : ℕ × ℕ → List ℕ
pair_word pair = decimal pair.0 ++ 47 ∷ decimal pair.1

-- the words of what is asked of the order of a vertex
abbrev pub kind_words : Kind → List (List ℕ)
kind_words P = codes "P" ∷ []
kind_words (Q cell psi) = codes "Q" ∷ label_word cell ∷ map decimal psi

-- the words of the line of a vertex
abbrev pub vert_words : Vert → List (List ℕ)
vert_words v = codes "vertex" ∷ decimal v.name ∷ kind_words v.kind

-- of an edge
abbrev pub edge_words : EdgeRow → List (List ℕ)
edge_words e = codes "edge" ∷ decimal e.name ∷ decimal e.a ∷ decimal e.b ∷ []

-- of a pipe
abbrev pub pipe_words : Pipe → List (List ℕ)
pipe_words p = codes "pipe" ∷ decimal p.name ∷ decimal p.a ∷ label_word p.b ∷ map pair_word p.pairs

-- lines for some items, which may stand behind each other, and then the rest
pub record AreLines {A : Type 0} (spell : A → List ℕ) (May : List A → Type 0) (text : List ℕ) (items : List A)
    (rest : List ℕ) : Type 0 where
  pub may : May items
  pub spelled : text ≡ text_of (map spell items) ++ rest

-- no line of one item more stands at the front
abbrev pub GoesNoFurther : {A : Type 0} → (A → List ℕ) → (List A → Type 0) → List A → List ℕ → Type 0
GoesNoFurther {A} spell May items rest =
    (item : A) (after : List ℕ) → May (items ++ item ∷ []) → rest ≡ spell item ++ 10 ∷ after → ⊥

-- the last of some numbers
abbrev pub last_of : List ℕ → Option ℕ
last_of [] = None
last_of (first ∷ []) = Some first
last_of (first ∷ second ∷ rest) = last_of (second ∷ rest)

-- the number is greater than the last one, if there is one
abbrev pub IsAbove : Option ℕ → ℕ → Type 0
IsAbove None number = Unit {0}
IsAbove (Some last) number = last < number

-- the lines of the vertices, the edges and the pipes stand at the front, as far as they go, and then the rest
pub record AreParts (text : List ℕ) (i : Synchronized) (rest : List ℕ) : Type 0 where
  pub behind_verts : List ℕ
  pub behind_edges : List ℕ
  pub verts : AreLines vert_line AreToldVerts text i.verts behind_verts
  pub edges : AreLines edge_line AreToldEdges behind_verts i.edges behind_edges
  pub pipes : AreLines pipe_line AreToldPipes behind_edges i.pipes rest
  pub no_vert : GoesNoFurther vert_line AreToldVerts i.verts behind_verts
  pub no_edge : GoesNoFurther edge_line AreToldEdges i.edges behind_edges
  pub no_pipe : GoesNoFurther pipe_line AreToldPipes i.pipes rest

-- the text begins with some lines of an instance, and no instance goes on with the next line; where this would be the
-- last line, none that keeps the rules
pub record StopsInInstance (text rest : List ℕ) : Type 0 where
  pub before : List (List ℕ)
  pub next : List ℕ
  pub later : List (List ℕ)
  pub part : Synchronized
  pub front : text ≡ text_of before ++ rest
  pub told : IsToldInstance part
  pub begun : instance_lines part ≡ before ++ next ∷ later
  pub stops : (i : Synchronized) (line after : List ℕ) (behind more : List (List ℕ)) → IsToldInstance i
      → rest ≡ line ++ 10 ∷ after → instance_lines i ++ behind ≡ before ++ line ∷ more
      → (length more ≤ length behind → IsSynchronized i) → ⊥

-- how many lines end in the bytes
abbrev pub feeds : List ℕ → ℕ
feeds bytes = count_by (λ byte. byte == 10) bytes

-- the bytes are some whole lines and the rest, and the line that begins there is at fault
pub record StopsInRun (bytes rest : List ℕ) : Type 0 where
  pub before : List (List ℕ)
  pub whole : AllByRecursion IsLine before
  pub front : bytes ≡ text_of before ++ rest
  pub fault : IsFaultAt bytes (length before + 1)
