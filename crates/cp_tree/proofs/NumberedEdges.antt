-- The edges of a number among the first ones.
use Rattle.std.proofs.Common.{◌≡◌, ◌≢◌, ℕ, ◌+◌, ◌<◌, eqb, List, [], ◌∷◌, ◌++◌, length, filter, slice_index, take, sym, refl, ap, ◌∙◌}
use Rattle.std.specs.List.Sorted.{IsStrictlyIncreasing}
use Rattle.std.proofs.lemmas.Bool.{eq-eqb, ne_eqb}
use Rattle.std.proofs.lemmas.List.{append-nil, take_more}
use Rattle.std.proofs.lemmas.List.Elements.{filter-append}
use Rattle.cp_lists.proofs.FilteredLists.{filter_no, filter_yes}
use Rattle.cp_conn.specs.NamedGraphs.{rank}
use Rattle.cp_conn.proofs.NamedGraphs.{rank_is}
use Rattle.cp_embed.proofs.BoardBlocks.{rising_distinct}

-- whether the name at a place has the number
name_passes : (names numbers : List ℕ) (number k : ℕ) → IsStrictlyIncreasing names → k < length names
    → eqb (slice_index numbers (rank names (slice_index names k))) number ≡ eqb (slice_index numbers k) number
name_passes names numbers number k up lt =
    ap (λ j. eqb (slice_index numbers j) number) (rank_is names k (slice_index names k) (rising_distinct names up) lt
    refl)

-- one name more that has the number
pub numbered-more : (names numbers kept : List ℕ) (number k : ℕ) → IsStrictlyIncreasing names → k < length names
    → slice_index numbers k ≡ number
    → kept ≡ filter (λ e. eqb (slice_index numbers (rank names e)) number) (take k names)
    → kept ++ slice_index names k ∷ [] ≡ filter (λ e. eqb (slice_index numbers (rank names e)) number)
    (take (k + 1) names)
numbered-more names numbers kept number k up lt is so_far =
    let p = λ (e : ℕ). eqb (slice_index numbers (rank names e)) number in
    ap (λ xs. xs ++ slice_index names k ∷ []) so_far
    ∙ sym (ap (filter p) (take_more names k 0 lt)
    ∙ filter-append p (take k names) (slice_index names k ∷ [])
    ∙ ap (λ xs. filter p (take k names) ++ xs) (filter_yes p (slice_index names k) []
    (name_passes names numbers number k up lt ∙ eq-eqb (slice_index numbers k) number is)))

-- one name more that has it not
pub numbered-other : (names numbers kept : List ℕ) (number k : ℕ) → IsStrictlyIncreasing names → k < length names
    → slice_index numbers k ≢ number
    → kept ≡ filter (λ e. eqb (slice_index numbers (rank names e)) number) (take k names)
    → kept ≡ filter (λ e. eqb (slice_index numbers (rank names e)) number) (take (k + 1) names)
numbered-other names numbers kept number k up lt is so_far =
    let p = λ (e : ℕ). eqb (slice_index numbers (rank names e)) number in
    so_far
    ∙ sym (ap (filter p) (take_more names k 0 lt)
    ∙ filter-append p (take k names) (slice_index names k ∷ [])
    ∙ ap (λ xs. filter p (take k names) ++ xs) (filter_no p (slice_index names k) []
    (name_passes names numbers number k up lt ∙ ne_eqb (slice_index numbers k) number is))
    ∙ append-nil (filter p (take k names)))
