-- The list of a border vertex, by the cluster and the place in its list.
use Rattle.std.proofs.Common.{◌≡◌, ℕ, ◌+◌, ◌*◌, ◌<◌, cond, List, [], ◌∷◌, length, slice_index, sym, ap, ◌∙◌, arith}
use Rattle.std.specs.Prelude.{◌==◌, true, false}
use Rattle.std.specs.List.{position_or_len}
use Rattle.std.proofs.lemmas.Bool.{cond-true, cond-false}
use Rattle.cp_cgraph.specs.Clustered.{Clustered, IsClustered, clusters, source}
use Rattle.cp_cgraph.specs.Crossings.{contains, crossings}
use Rattle.cp_cgraph.specs.declared.layout.Layout.{Layout}
use Rattle.cp_border.specs.Borders.{cluster_list, first_segment, first_border_edge, place_before}
use Rattle.cp_border.specs.Good.{IsArranged}
use Rattle.cp_border.specs.Tables.{list_at}
use Rattle.cp_border.proofs.Darts.{begin_dart, finish_dart, toward_source, toward_target}
use Rattle.cp_border.proofs.Rotation.{IsItem, crossing_of, item_at}

-- the four darts at the border vertex of edge e, its crossing at place i, in the list of cluster c at place k
abbrev pub four_darts : Clustered → Layout → ℕ → ℕ → ℕ → ℕ → List ℕ
four_darts g l e i c k =
    cond (contains g c (source g e))
    (begin_dart g l c k ∷ toward_source g e i ∷ finish_dart g l c (place_before (length (cluster_list l c)) k)
    ∷ toward_target g e i ∷ [])
    (begin_dart g l c k ∷ toward_target g e i ∷ finish_dart g l c (place_before (length (cluster_list l c)) k)
    ∷ toward_source g e i ∷ [])

-- which are the list of that border vertex
pub list_at-four : (g : Clustered) (l : Layout) → IsClustered g → IsArranged g l → (c k : ℕ) → 0 < c → c < clusters g →
    k < length (cluster_list l c) →
    list_at g l c k ≡ four_darts g l (slice_index (cluster_list l c) k)
    (position_or_len (λ x. x == c) (crossings g (slice_index (cluster_list l c) k))) c k
list_at-four g l is ar c k above lt within =
    let item : IsItem g l c k (slice_index (cluster_list l c) k) = item_at g l ar c k above lt within in
    let cross = crossing_of g is (slice_index (cluster_list l c) k) c item.edge lt item.left in
    ap (λ (b : ℕ). four_darts g l (slice_index (cluster_list l c) k) (position_or_len (λ (x : ℕ). x == c)
    (crossings g (slice_index (cluster_list l c) k))) b (position_or_len
    (λ (x : ℕ). x == slice_index (cluster_list l c) k) (cluster_list l b))) cross.is
    ∙ ap (four_darts g l (slice_index (cluster_list l c) k) (position_or_len (λ (x : ℕ). x == c)
    (crossings g (slice_index (cluster_list l c) k))) c) item.place_is

-- lists of four equal items are equal
same_four : (a b c d p q r s : ℕ) → a ≡ p → b ≡ q → c ≡ r → d ≡ s → (a ∷ b ∷ c ∷ d ∷ []) ≡ (p ∷ q ∷ r ∷ s ∷ [])
same_four a b c d p q r s e f g h = cc

-- the four numbers, where the cluster contains the source of the edge
pub list_at-inside : (g : Clustered) (l : Layout) → IsClustered g → IsArranged g l → (c k start segment e ahead : ℕ) →
    0 < c → c < clusters g → k < length (cluster_list l c) → start ≡ 2 * first_border_edge g l c →
    e ≡ slice_index (cluster_list l c) k → segment ≡ first_segment g e + position_or_len (λ x. x == c) (crossings g e) →
    ahead ≡ place_before (length (cluster_list l c)) k → contains g c (source g e) ≡ true →
    ((start + 2 * k) ∷ (2 * segment + 1) ∷ (start + 2 * ahead + 1) ∷ (2 * segment + 2) ∷ []) ≡ list_at g l c k
list_at-inside g l is ar c k start segment e ahead above lt within begins item place behind inside =
    let there : segment ≡ first_segment g (slice_index (cluster_list l c) k) + position_or_len (λ x. x == c)
    (crossings g (slice_index (cluster_list l c) k)) =
    place ∙ ap (λ (m : ℕ). first_segment g m + position_or_len (λ (x : ℕ). x == c) (crossings g m)) item in
    same_four _ _ _ _ _ _ _ _ (omega arith) (omega arith) (omega arith) (omega arith)
    ∙ sym (list_at-four g l is ar c k above lt within
    ∙ cond-true (contains g c (source g (slice_index (cluster_list l c) k))) _ _
    (ap (λ (m : ℕ). contains g c (source g m)) (sym item) ∙ inside))

-- and where it does not
pub list_at-outside : (g : Clustered) (l : Layout) → IsClustered g → IsArranged g l → (c k start segment e ahead : ℕ) →
    0 < c → c < clusters g → k < length (cluster_list l c) → start ≡ 2 * first_border_edge g l c →
    e ≡ slice_index (cluster_list l c) k → segment ≡ first_segment g e + position_or_len (λ x. x == c) (crossings g e) →
    ahead ≡ place_before (length (cluster_list l c)) k → contains g c (source g e) ≡ false →
    ((start + 2 * k) ∷ (2 * segment + 2) ∷ (start + 2 * ahead + 1) ∷ (2 * segment + 1) ∷ []) ≡ list_at g l c k
list_at-outside g l is ar c k start segment e ahead above lt within begins item place behind outside =
    let there : segment ≡ first_segment g (slice_index (cluster_list l c) k) + position_or_len (λ x. x == c)
    (crossings g (slice_index (cluster_list l c) k)) =
    place ∙ ap (λ (m : ℕ). first_segment g m + position_or_len (λ (x : ℕ). x == c) (crossings g m)) item in
    same_four _ _ _ _ _ _ _ _ (omega arith) (omega arith) (omega arith) (omega arith)
    ∙ sym (list_at-four g l is ar c k above lt within
    ∙ cond-false (contains g c (source g (slice_index (cluster_list l c) k))) _ _
    (ap (λ (m : ℕ). contains g c (source g m)) (sym item) ∙ outside))
