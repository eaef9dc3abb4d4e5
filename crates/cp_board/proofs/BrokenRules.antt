-- An edge whose two ends are one vertex breaks the second rule.
use Rattle.std.proofs.Common.{ℕ, zero, suc, ◌<◌, [], ◌∷◌, refl, arith}
use Rattle.std.specs.Prelude.{slice_index_or}
use Rattle.std.specs.List.{All}
use Rattle.std.proofs.lemmas.List.Elements.{All-nil}
use Rattle.cp_board.specs.Instances.{Synchronized}
use Rattle.cp_board.specs.Faults.{Rule, Names, Ends, Lists, PipeEnds, Partners, Keeps, IsFirstBroken, VertAt, number, parts}
use Rattle.cp_board.specs.Rows.{vert, edge}

-- two vertices, and an edge with one vertex at both ends
abbrev looped : Synchronized
looped = record { verts = vert 0 ∷ vert 1 ∷ []; edges = edge 5 0 0 ∷ []; pipes = [] }

-- rule 2 is the first that is broken there, at the edge 5
looped_broken : IsFirstBroken looped 2 5
looped_broken = record {
  rule = Ends;
  numbered = refl;
  place = 2;
  within = omega arith;
  named = refl;
  breaks = λ h. h.2 refl;
  first = verts_keep;
  least = names_keep;
}
  where
    verts_keep : (k : ℕ) → k < 2 → Keeps looped Ends (slice_index_or (parts looped) k (VertAt 0))
    verts_keep zero lt = tt
    verts_keep (suc zero) lt = tt
    verts_keep (suc (suc k)) lt = absurd (omega arith)

    one_before : (n : ℕ) → 0 < n → All (λ m. m < n) (0 ∷ [])
    one_before n lt zero d l = lt
    one_before n lt (suc k) d l = absurd (omega arith)

    names_keep : (other : Rule) → number other < 2 → All (Keeps looped other) (parts looped)
    names_keep Names lt zero d l = ((omega arith, All-nil _), All-nil _)
    names_keep Names lt (suc zero) d l = ((omega arith, one_before 1 (omega arith)), All-nil _)
    names_keep Names lt (suc (suc zero)) d l = (omega arith, All-nil _)
    names_keep Names lt (suc (suc (suc k))) d l = absurd (omega arith)
    names_keep Ends lt k d l = absurd (omega arith)
    names_keep Lists lt k d l = absurd (omega arith)
    names_keep PipeEnds lt k d l = absurd (omega arith)
    names_keep Partners lt k d l = absurd (omega arith)
