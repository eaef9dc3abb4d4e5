-- What the code tells of a piece, and what that means over the bytes.
use Rattle.std.specs.Prelude.{◌≡◌, ℕ, ◌+◌, ◌<◌, ◌≤◌, List, take, drop}
use Rattle.cp_gml.specs.declared.scan.Plain.{Plain}
use Rattle.cp_gml.specs.declared.scan.Plain.TheVariants.{Quoted, Integer, Real}
use Rattle.cp_gml.specs.declared.scan.Scan.{Scan}
use Rattle.cp_gml.specs.declared.scan.Scan.TheVariants.{Opening, Closing, Name, Valued, Wrong, Over}
use Rattle.cp_gml.specs.Tokens.{Leaf, Open, Close, Word, Value, Chars, Whole, Other, Piece, Found, Stops, Ends}

-- the leaf that the code tells of, over the bytes that begin with it
abbrev pub leaf_over : Plain → List ℕ → Leaf
leaf_over (Quoted len) bs = Chars (take len (drop 1 bs))
leaf_over (Integer n) bs = Whole n
leaf_over Real bs = Other

-- the piece that the code tells of
abbrev pub piece_of : Scan → List ℕ → Piece
piece_of Opening bs = Found Open 1
piece_of Closing bs = Found Close 1
piece_of (Name len) bs = Found (Word (take len bs)) len
piece_of (Valued plain len) bs = Found (Value (leaf_over plain bs)) len
piece_of (Wrong kind) bs = Stops kind
piece_of Over bs = Ends

-- a string stands within so many bytes, with its quotes
abbrev pub IsInside : Plain → ℕ → Type 0
IsInside (Quoted len) total = len + 2 ≤ total
IsInside (Integer n) total = Unit {0}
IsInside Real total = Unit {0}

-- a token is not empty and ends within the text
abbrev pub IsWithin : Scan → ℕ → Type 0
IsWithin Opening total = 1 ≤ total
IsWithin Closing total = 1 ≤ total
IsWithin (Name len) total = (0 < len) × (len ≤ total)
IsWithin (Valued plain len) total = (0 < len) × (len ≤ total) × IsInside plain total
IsWithin (Wrong kind) total = 1 ≤ total
IsWithin Over total = total ≡ 0
