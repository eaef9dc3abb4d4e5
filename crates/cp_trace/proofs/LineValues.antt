-- The lines of an instance tell its parts.
use Rattle.std.proofs.Common.{◌≡◌, ℕ, List, [], ◌∷◌, length, map, inl, sym, refl, ap, ◌∙◌, arith}
use Rattle.std.specs.List.{AllByRecursion}
use Rattle.std.specs.Fmt.{decimal}
use Rattle.std.proofs.lemmas.Fmt.{decimal_injective}
use Rattle.std.proofs.lemmas.List.{same_from_push}
use Rattle.cp_board.specs.declared.parts.Kind.{Kind}
use Rattle.cp_board.specs.declared.parts.Kind.TheVariants.{P, Q}
use Rattle.cp_board.specs.declared.parts.Vert.{Vert}
use Rattle.cp_board.specs.declared.parts.EdgeRow.{EdgeRow}
use Rattle.cp_board.specs.declared.parts.Pipe.{Pipe}
use Rattle.cp_trace.specs.Faults.{IsNumber, IsPair, IsToldEdge, IsToldKind, IsToldPipe, IsToldVert}
use Rattle.cp_trace.specs.Reading.{Lacks, edge_words, kind_words, label_word, pair_word, pipe_words, vert_words, words}
use Rattle.cp_trace.specs.Texts.{edge_line, pipe_line, vert_line}
use Rattle.cp_trace.proofs.CutLemmas.{cut_unique}
use Rattle.cp_trace.proofs.NumberLemmas.{lacks-decimal}
use Rattle.cp_trace.proofs.LineWords.{words-vert_line, words-edge_line, words-pipe_line}

-- numbers that are spelled alike are the same
pub number_same : (m n : ℕ) → IsNumber m → IsNumber n → decimal m ≡ decimal n → m ≡ n
number_same m n sm sn h = decimal_injective m n (omega (arith, sm)) (omega (arith, sn)) h

-- and with a colon behind them
pub label_same : (m n : ℕ) → IsNumber m → IsNumber n → label_word m ≡ label_word n → m ≡ n
label_same m n sm sn h = number_same m n sm sn (same_from_push (decimal m) (decimal n) 58 58 h).0

-- no slash stands in a number
slash_free : (n : ℕ) → IsNumber n → Lacks 47 (decimal n)
slash_free n small = lacks-decimal 47 n (inl (omega arith)) (omega (arith, small))

-- pairs that are spelled alike are the same
pub pair_same : (p q : ℕ × ℕ) → IsPair p → IsPair q → pair_word p ≡ pair_word q → p ≡ q
pair_same p q sp sq h =
    let parts = cut_unique 47 (decimal p.0) (decimal q.0) (decimal p.1) (decimal q.1) (slash_free p.0 sp.0)
    (slash_free q.0 sq.0) h in
    let first : p.0 ≡ q.0 = number_same p.0 q.0 sp.0 sq.0 parts.0 in
    let second : p.1 ≡ q.1 = number_same p.1 q.1 sp.1 sq.1 parts.1 in
    let one : (p.0, p.1) ≡ (q.0, p.1) = ap (λ (n : ℕ). (n, p.1)) first in
    let two : (q.0, p.1) ≡ (q.0, q.1) = ap (λ (n : ℕ). (q.0, n)) second in
    one ∙ two

-- lists that are spelled alike are the same
pub list_same : {A : Type 0} (spelled : A → List ℕ) (Small : A → Type 0)
    → ((x y : A) → Small x → Small y → spelled x ≡ spelled y → x ≡ y)
    → (xs ys : List A) → AllByRecursion Small xs → AllByRecursion Small ys → map spelled xs ≡ map spelled ys → xs ≡ ys
list_same spelled Small same [] [] sx sy h = refl
list_same spelled Small same [] (y ∷ ys) sx sy h = absurd cc
list_same spelled Small same (x ∷ xs) [] sx sy h = absurd cc
list_same spelled Small same (x ∷ xs) (y ∷ ys) sx sy h =
    let head : x ≡ y = same x y sx.0 sy.0 cc in
    let tails : xs ≡ ys = list_same spelled Small same xs ys sx.1 sy.1 cc in
    cc

-- kinds that are told alike are the same
kind_same : (k l : Kind) → IsToldKind k → IsToldKind l → kind_words k ≡ kind_words l → k ≡ l
kind_same P P tk tl h = refl
kind_same P (Q cell psi) tk tl h = absurd (omega (arith, ap (length {A = List ℕ}) h))
kind_same (Q cell psi) P tk tl h = absurd (omega (arith, ap (length {A = List ℕ}) h))
kind_same (Q c xs) (Q d ys) tk tl h =
    let cells : c ≡ d = label_same c d tk.0 tl.0 cc in
    let lists : xs ≡ ys = list_same decimal IsNumber number_same xs ys tk.1 tl.1 cc in
    ap (λ (n : ℕ). Q n xs) cells ∙ ap (λ (zs : List ℕ). Q d zs) lists

-- vertices that are told alike are the same
pub vert_same : (v w : Vert) → IsToldVert v → IsToldVert w → vert_line v ≡ vert_line w → v ≡ w
vert_same v w tv tw h =
    let all : vert_words v ≡ vert_words w = sym (words-vert_line v tv) ∙ ap words h ∙ words-vert_line w tw in
    let name : v.name ≡ w.name = number_same v.name w.name tv.name tw.name cc in
    let kind : v.kind ≡ w.kind = kind_same v.kind w.kind tv.kind tw.kind cc in
    let mid : Vert = record { name = w.name; kind = v.kind } in
    let one : v ≡ mid = ap (λ (n : ℕ). let x : Vert = record { name = n; kind = v.kind } in x) name in
    let two : mid ≡ w = ap (λ (k : Kind). let x : Vert = record { name = w.name; kind = k } in x) kind in
    one ∙ two

-- edges that are told alike are the same
pub edge_same : (e f : EdgeRow) → IsToldEdge e → IsToldEdge f → edge_line e ≡ edge_line f → e ≡ f
edge_same e f te tf h =
    let all : edge_words e ≡ edge_words f = sym (words-edge_line e te) ∙ ap words h ∙ words-edge_line f tf in
    let name : e.name ≡ f.name = number_same e.name f.name te.name tf.name cc in
    let a : e.a ≡ f.a = number_same e.a f.a te.a tf.a cc in
    let b : e.b ≡ f.b = number_same e.b f.b te.b tf.b cc in
    let first : EdgeRow = record { name = f.name; a = e.a; b = e.b } in
    let second : EdgeRow = record { name = f.name; a = f.a; b = e.b } in
    let one : e ≡ first = ap (λ (n : ℕ). let x : EdgeRow = record { name = n; a = e.a; b = e.b } in x) name in
    let two : first ≡ second = ap (λ (n : ℕ). let x : EdgeRow = record { name = f.name; a = n; b = e.b } in x) a in
    let three : second ≡ f = ap (λ (n : ℕ). let x : EdgeRow = record { name = f.name; a = f.a; b = n } in x) b in
    one ∙ two ∙ three

-- pipes that are told alike are the same
pub pipe_same : (p q : Pipe) → IsToldPipe p → IsToldPipe q → pipe_line p ≡ pipe_line q → p ≡ q
pipe_same p q tp tq h =
    let all : pipe_words p ≡ pipe_words q = sym (words-pipe_line p tp) ∙ ap words h ∙ words-pipe_line q tq in
    let name : p.name ≡ q.name = number_same p.name q.name tp.name tq.name cc in
    let a : p.a ≡ q.a = number_same p.a q.a tp.a tq.a cc in
    let b : p.b ≡ q.b = label_same p.b q.b tp.b tq.b cc in
    let pairs : p.pairs ≡ q.pairs = list_same pair_word IsPair pair_same p.pairs q.pairs tp.pairs.0 tq.pairs.0 cc in
    let first : Pipe = record { name = q.name; a = p.a; b = p.b; pairs = p.pairs } in
    let second : Pipe = record { name = q.name; a = q.a; b = p.b; pairs = p.pairs } in
    let third : Pipe = record { name = q.name; a = q.a; b = q.b; pairs = p.pairs } in
    let one : p ≡ first = ap (λ (n : ℕ). let x : Pipe = record { name = n; a = p.a; b = p.b; pairs = p.pairs } in x)
    name in
    let two : first ≡ second = ap (λ (n : ℕ). let x : Pipe = record {
      name = q.name;
      a = n;
      b = p.b;
      pairs = p.pairs;
    } in x) a in
    let three : second ≡ third = ap (λ (n : ℕ). let x : Pipe = record {
      name = q.name;
      a = q.a;
      b = n;
      pairs =
          p.pairs;
    } in x) b in
    let four : third ≡ q = ap (λ (z : List (ℕ × ℕ)). let x : Pipe = record {
      name = q.name;
      a = q.a;
      b = q.b;
      pairs =
          z;
    } in x)
    pairs in
    one ∙ two ∙ three ∙ four
