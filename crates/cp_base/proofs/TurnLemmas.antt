-- Turning a list, by its two parts.
use Rattle.std.proofs.Common.{◌≡◌, ℕ, List, ◌++◌, length, take, drop, sym, ap, ap₂, ◌∙◌, take-append-drop}
use Rattle.std.proofs.Math.Seq.{take-append_seam, drop-append_seam}
use Rattle.cp_lists.specs.Turns.{IsTurnBy}

-- a list whose parts are those of another, exchanged, is a turn of it
pub turned : (xs ys front back first second : List ℕ) (i : ℕ) → front ≡ take i xs → back ≡ drop i xs →
    first ≡ take (length back) ys → second ≡ drop (length back) ys → first ≡ back → second ≡ front → IsTurnBy xs ys i
turned xs ys front back first second i f b p q e h =
    sym (take-append-drop (length back) ys) ∙ ap₂ (λ (u v : List ℕ). u ++ v) (sym p ∙ e ∙ b) (sym q ∙ h ∙ f)

-- and the parts of a turn are so
pub turned_first : (xs ys front back first second : List ℕ) (i : ℕ) → front ≡ take i xs → back ≡ drop i xs →
    first ≡ take (length back) ys → IsTurnBy xs ys i → first ≡ back
turned_first xs ys front back first second i f b p is =
    p ∙ ap (λ zs. take (length back) zs) (is ∙ ap₂ (λ (u v : List ℕ). u ++ v) (sym b) (sym f)) ∙ take-append_seam back front

-- and the second part of a turn is the front of the list
pub turned_second : (xs ys front back first second : List ℕ) (i : ℕ) → front ≡ take i xs → back ≡ drop i xs →
    second ≡ drop (length back) ys → IsTurnBy xs ys i → second ≡ front
turned_second xs ys front back first second i f b q is =
    q ∙ ap (λ zs. drop (length back) zs) (is ∙ ap₂ (λ (u v : List ℕ). u ++ v) (sym b) (sym f)) ∙ drop-append_seam back front
