-- One part or one pair more: what is added to the moves, the pipes and the new edges.
use Rattle.std.proofs.Common.{◌≡◌, ℕ, zero, suc, ◌+◌, ◌<◌, List, [], ◌∷◌, ◌++◌, length, map, take, slice_index, slice_index_or, sym, refl, ap, ◌∙◌, arith, append_assoc}
use Rattle.std.specs.List.{zip}
use Rattle.std.proofs.lemmas.List.{append-nil, take_more}
use Rattle.std.proofs.lemmas.Grind.{flat_map-append}
use Rattle.cp_board.specs.declared.parts.EdgeRow.{EdgeRow}
use Rattle.cp_board.specs.declared.parts.Pipe.{Pipe}
use Rattle.cp_board.specs.Joins.{part_of, part_pipes}
use Rattle.cp_join.specs.declared.parted_ends.Parting.{Parting}
use Rattle.cp_join.specs.InnerSystems.{inner_at}
use Rattle.cp_join.specs.Joining.{moves_to, part_moves}

-- what holds of the next number, as programs count
pub counted : {A : Type 0} (f : ℕ → A) (x : A) (k : ℕ) → f (suc k) ≡ x → f (k + 1) ≡ x
counted f x k e = ap f (let s : k + 1 ≡ suc k = omega arith in s) ∙ e

-- without parts there are no moves
pub no_moves : (u : ℕ) (verts : List ℕ) → part_moves u verts [] ≡ []
no_moves u [] = refl
no_moves u (v ∷ vs) = refl

-- the moves of one part more
moves_suc : (u : ℕ) (verts : List ℕ) (parts : List (List ℕ)) (k : ℕ) (d : List ℕ) → k < length parts
    → length verts ≡ length parts
    → part_moves u verts (take (suc k) parts)
    ≡ part_moves u verts (take k parts) ++ moves_to u (slice_index verts k) (slice_index_or parts k d)
moves_suc u verts [] k d lt size = absurd (omega (arith, lt))
moves_suc u [] (q ∷ qs) k d lt size = absurd (omega (arith, size))
moves_suc u (v ∷ vs) (q ∷ qs) zero d lt size =
    ap (λ ms. moves_to u v q ++ ms) (no_moves u vs) ∙ append-nil (moves_to u v q)
moves_suc u (v ∷ vs) (q ∷ qs) (suc k) d lt size =
    ap (λ ms. moves_to u v q ++ ms) (moves_suc u vs qs k d (omega (arith, lt)) (omega (arith, size)))
    ∙ sym (append_assoc (moves_to u v q) (part_moves u vs (take k qs)) (moves_to u (slice_index vs k) (slice_index_or qs k d)))

-- the moves of one part more
pub part_moves-more : (u : ℕ) (verts : List ℕ) (parts : List (List ℕ)) (k : ℕ) (d : List ℕ) → k < length parts
    → length verts ≡ length parts
    → part_moves u verts (take (k + 1) parts)
    ≡ part_moves u verts (take k parts) ++ moves_to u (slice_index verts k) (slice_index_or parts k d)
part_moves-more u verts parts k d lt size =
    counted (λ n. part_moves u verts (take n parts))
    (part_moves u verts (take k parts) ++ moves_to u (slice_index verts k) (slice_index_or parts k d)) k
    (moves_suc u verts parts k d lt size)

-- the pipe of a part
abbrev pub pipe_of : (ℕ → ℕ) → ℕ → ℕ → ℕ → List ℕ → Pipe
pipe_of hat n o m part = record { name = n; a = o; b = m; pairs = map (λ e. (e, hat e)) part }

-- without parts there are no pipes
pub no_pipes : (hat : ℕ → ℕ) (names outer inner : List ℕ) → part_pipes hat names outer inner [] ≡ []
no_pipes hat [] outer inner = refl
no_pipes hat (x ∷ xs) [] inner = refl
no_pipes hat (x ∷ xs) (y ∷ ys) [] = refl
no_pipes hat (x ∷ xs) (y ∷ ys) (z ∷ zs) = refl

-- the pipes of one part more
pipes_suc : (hat : ℕ → ℕ) (names outer inner : List ℕ) (parts : List (List ℕ)) (k : ℕ) (d : List ℕ) → k < length parts
    → length names ≡ length parts → length outer ≡ length parts → length inner ≡ length parts
    → part_pipes hat names outer inner (take (suc k) parts)
    ≡ part_pipes hat names outer inner (take k parts)
    ++ pipe_of hat (slice_index names k) (slice_index outer k) (slice_index inner k) (slice_index_or parts k d) ∷ []
pipes_suc hat names outer inner [] k d lt n o m = absurd (omega (arith, lt))
pipes_suc hat [] outer inner (p ∷ ps) k d lt n o m = absurd (omega (arith, n))
pipes_suc hat (x ∷ xs) [] inner (p ∷ ps) k d lt n o m = absurd (omega (arith, o))
pipes_suc hat (x ∷ xs) (y ∷ ys) [] (p ∷ ps) k d lt n o m = absurd (omega (arith, m))
pipes_suc hat (x ∷ xs) (y ∷ ys) (z ∷ zs) (p ∷ ps) zero d lt n o m =
    ap (λ qs. pipe_of hat x y z p ∷ qs) (no_pipes hat xs ys zs)
pipes_suc hat (x ∷ xs) (y ∷ ys) (z ∷ zs) (p ∷ ps) (suc k) d lt n o m =
    ap (λ qs. pipe_of hat x y z p ∷ qs)
    (pipes_suc hat xs ys zs ps k d (omega (arith, lt)) (omega (arith, n)) (omega (arith, o)) (omega (arith, m)))

-- the pipes of one part more
pub part_pipes-more : (hat : ℕ → ℕ) (names outer inner : List ℕ) (parts : List (List ℕ)) (k : ℕ) (d : List ℕ)
    → k < length parts
    → length names ≡ length parts → length outer ≡ length parts → length inner ≡ length parts
    → part_pipes hat names outer inner (take (k + 1) parts)
    ≡ part_pipes hat names outer inner (take k parts)
    ++ pipe_of hat (slice_index names k) (slice_index outer k) (slice_index inner k) (slice_index_or parts k d) ∷ []
part_pipes-more hat names outer inner parts k d lt n o m =
    counted (λ j. part_pipes hat names outer inner (take j parts))
    (part_pipes hat names outer inner (take k parts)
    ++ pipe_of hat (slice_index names k) (slice_index outer k) (slice_index inner k) (slice_index_or parts k d) ∷ []) k
    (pipes_suc hat names outer inner parts k d lt n o m)

-- without pairs there are no new rows
pub no_rows : (f : ℕ × (ℕ × ℕ) → EdgeRow) (hats : List ℕ) → map f (zip hats []) ≡ []
no_rows f [] = refl
no_rows f (n ∷ ns) = refl

-- the row of one pair more
rows_suc : (f : ℕ × (ℕ × ℕ) → EdgeRow) (hats : List ℕ) (pairs : List (ℕ × ℕ)) (k : ℕ) (d : ℕ × ℕ) → k < length pairs
    → length hats ≡ length pairs
    → map f (zip hats (take (suc k) pairs))
    ≡ map f (zip hats (take k pairs)) ++ f (slice_index hats k, slice_index_or pairs k d) ∷ []
rows_suc f hats [] k d lt size = absurd (omega (arith, lt))
rows_suc f [] (x ∷ xs) k d lt size = absurd (omega (arith, size))
rows_suc f (n ∷ ns) (x ∷ xs) zero d lt size = ap (λ rs. f (n, x) ∷ rs) (no_rows f ns)
rows_suc f (n ∷ ns) (x ∷ xs) (suc k) d lt size =
    ap (λ rs. f (n, x) ∷ rs) (rows_suc f ns xs k d (omega (arith, lt)) (omega (arith, size)))

-- the new edge of one pair more
pub hat_rows-more : (f : ℕ × (ℕ × ℕ) → EdgeRow) (hats : List ℕ) (pairs : List (ℕ × ℕ)) (k : ℕ) (d : ℕ × ℕ)
    → k < length pairs
    → length hats ≡ length pairs
    → map f (zip hats (take (k + 1) pairs))
    ≡ map f (zip hats (take k pairs)) ++ f (slice_index hats k, slice_index_or pairs k d) ∷ []
hat_rows-more f hats pairs k d lt size =
    counted (λ j. map f (zip hats (take j pairs)))
    (map f (zip hats (take k pairs)) ++ f (slice_index hats k, slice_index_or pairs k d) ∷ []) k
    (rows_suc f hats pairs k d lt size)

-- the ends of the new edges of one pair more
pub inner_at-more : (pairs : List (ℕ × ℕ)) (s t : Parting) (k : ℕ) → k < length pairs
    → inner_at (take (k + 1) pairs) s t
    ≡ inner_at (take k pairs) s t
    ++ part_of s.parts (slice_index_or pairs k (0, 0)).0
    ∷ (length s.parts + part_of t.parts (slice_index_or pairs k (0, 0)).1) ∷ []
inner_at-more pairs s t k lt =
    ap (λ xs. inner_at xs s t) (take_more pairs k (0, 0) lt)
    ∙ flat_map-append (λ (x : ℕ × ℕ). part_of s.parts x.0 ∷ (length s.parts + part_of t.parts x.1) ∷ [])
    (take k pairs) (slice_index_or pairs k (0, 0) ∷ [])
