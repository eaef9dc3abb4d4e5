-- Lists that a value of their darts tells apart are in different components, and the two ends of a pipe as copies.
use Rattle.std.proofs.Common.{◌≡◌, ◌≢◌, ℕ, ◌*◌, ◌<◌, eqb, List, [], ◌∷◌, ◌++◌, map, sym, refl, ap, ◌∙◌, subst}
use Rattle.std.proofs.lemmas.Bool.{eq-eqb, eqb-true}
use Rattle.cp_lists.specs.CyclicLists.{Distinct, Has}
use Rattle.cp_lists.specs.Rows.{flat}
use Rattle.cp_lists.specs.Turns.{IsTurn}
use Rattle.cp_lists.proofs.DistinctLists.{Has-append_left}
use Rattle.cp_lists.proofs.FilteredLists.{filter_all}
use Rattle.cp_lists.proofs.TurnedLists.{turn-refl}
use Rattle.cp_faces.specs.Twins.{twin}
use Rattle.cp_maps.specs.Genus.{AllApart, Becomes, CanBeFlat, Evenly, IsFlat, OnePart}
use Rattle.cp_maps.specs.Gluings.{AreCopiesOf, AreDivided, all_copies}
use Rattle.cp_maps.specs.Maps.{IsMapOf, has}
use Rattle.cp_maps.proofs.Copies.{copies-IsFlat}
use Rattle.cp_maps.proofs.Genus.{SameGenus-IsFlat}
use Rattle.cp_maps.proofs.ListFacts.{has_yes}
use Rattle.cp_maps.proofs.MapLists.{IsMapOf-among, IsMapOf-swap}
use Rattle.cp_maps.proofs.Parts.{Evenly-two_parts}
use Rattle.cp_mergelaw.specs.Sides.{EachList, IsMergeOf}
use Rattle.cp_mergelaw.proofs.MergedCopies.{merged_copies-Becomes}

-- the darts of the list have one value
abbrev pub HasOneValue : (ℕ → ℕ) → List ℕ → Type 0
HasOneValue value xs = (c d : ℕ) → Has c xs → Has d xs → value c ≡ value d

-- no two of the lists have darts of one value
abbrev pub HaveOtherValues : (ℕ → ℕ) → List (List ℕ) → Type 0
HaveOtherValues value [] = Unit {0}
HaveOtherValues value (xs ∷ copies) =
    ((c d : ℕ) → Has c xs → Has d (flat copies) → value c ≢ value d) × HaveOtherValues value copies

-- a map, and a value of its darts that is one on each list and on twins
module _ (e : ℕ) (f : ℕ → ℕ) (rows : List (List ℕ)) (is : IsMapOf (2 * e) f rows) (value : ℕ → ℕ)
    (one : EachList (HasOneValue value) rows) (twins : (d : ℕ) → d < 2 * e → value (twin d) ≡ value d) where
  -- the test for one value has one value on each list
  evenly : (a : ℕ) (lists : List (List ℕ)) → EachList (HasOneValue value) lists → Evenly (λ d. eqb (value d) a) lists
  evenly a [] each = tt
  evenly a (xs ∷ lists) each = ((λ c d hc hd. ap (λ k. eqb k a) (each.0 c d hc hd)), evenly a lists each.1)

  -- darts of different values are of different components
  other_value-two_parts : (c d : ℕ) → value c ≢ value d → OnePart e f c d → ⊥
  other_value-two_parts c d ne =
      Evenly-two_parts e f rows (λ y. eqb (value y) (value c)) c d is (evenly (value c) rows one)
      (λ y lt. ap (λ k. eqb k (value c)) (sym (twins y lt)))
      (λ same. ne (sym (eqb-true (value d) (value c) (sym same ∙ eq-eqb (value c) (value c) refl))))

  -- lists of different values are in different components
  pub HaveOtherValues-AllApart : (copies : List (List ℕ)) → HaveOtherValues value copies → AllApart e f copies
  HaveOtherValues-AllApart [] other = tt
  HaveOtherValues-AllApart (xs ∷ copies) other = (
    (λ c d hc hd. other_value-two_parts c d (other.0 c d hc hd)),
    HaveOtherValues-AllApart copies other.1,
  )

-- each list as its only copy
abbrev singles : List (List ℕ) → List (List ℕ × List (List ℕ))
singles [] = []
singles (xs ∷ rows) = (xs, xs ∷ []) ∷ singles rows

-- the lists of these pairs are the lists themselves
singles-lists : (rows : List (List ℕ)) → map (λ x. x.0) (singles rows) ≡ rows
singles-lists [] = refl
singles-lists (xs ∷ rows) = ap (λ zs. xs ∷ zs) (singles-lists rows)

-- and so are all copies
singles-copies : (rows : List (List ℕ)) → all_copies (singles rows) ≡ rows
singles-copies [] = refl
singles-copies (xs ∷ rows) = ap (λ zs. xs ∷ zs) (singles-copies rows)

-- each list is a copy of itself, and apart from no other
singles-AreDivided : (e : ℕ) (g : ℕ → ℕ) (rows : List (List ℕ)) → AreDivided e g (singles rows)
singles-AreDivided e g [] = tt
singles-AreDivided e g (xs ∷ rows) = (
  (
    record {
      turned = (
        subst (λ zs. IsTurn zs xs) (sym (filter_all (λ d. has d xs) xs (λ d h. has_yes d xs h)))
            (turn-refl xs),
        tt,
      );
      all = λ d h. Has-append_left d xs [] h;
    },
    ((λ c d hc hd same. absurd hd), tt),
  ),
  singles-AreDivided e g rows,
)

-- two vertices of a flat map, each divided into copies that are in different components: the map stays flat
pub divided_ends-IsFlat : (e : ℕ) (f g : ℕ → ℕ) (us ws : List ℕ) (firsts seconds rows : List (List ℕ))
    → IsMapOf (2 * e) f (us ∷ ws ∷ rows) → IsFlat e f → IsMapOf (2 * e) g (firsts ++ (seconds ++ rows))
    → AreCopiesOf us firsts
    → AreCopiesOf ws seconds → AllApart e g firsts → AllApart e g seconds → IsFlat e g
divided_ends-IsFlat e f g us ws firsts seconds rows is z is_g copies_u copies_w apart_u apart_w =
    copies-IsFlat e f g ((us, firsts) ∷ (ws, seconds) ∷ singles rows)
    (subst (λ zs. IsMapOf (2 * e) f (us ∷ ws ∷ zs)) (sym (singles-lists rows)) is) z
    (subst (λ zs. IsMapOf (2 * e) g (firsts ++ (seconds ++ zs))) (sym (singles-copies rows)) is_g)
    ((copies_u, apart_u), ((copies_w, apart_w), singles-AreDivided e g rows))

-- the copies of two vertices us and ws of a flat map made one vertex each, first those of us and then those of ws: at
-- each step a value tells the copies apart
pub assembled_ends-CanBeFlat : (e : ℕ) (f : ℕ → ℕ) (us ws : List ℕ) (firsts seconds rows : List (List ℕ))
    → IsMapOf (2 * e) f (firsts ++ (seconds ++ rows)) → IsFlat e f
    → IsMergeOf us firsts → IsMergeOf ws seconds → Distinct us → Distinct ws
    → ((d : ℕ) → Has d us → Has d (flat firsts)) → ((d : ℕ) → Has d ws → Has d (flat seconds))
    → (first second : ℕ → ℕ)
    → ((d : ℕ) → d < 2 * e → first (twin d) ≡ first d) → ((d : ℕ) → d < 2 * e → second (twin d) ≡ second d)
    → EachList (HasOneValue first) (firsts ++ (seconds ++ rows)) → EachList (HasOneValue second) (seconds ++ us ∷ rows)
    → HaveOtherValues first firsts → HaveOtherValues second seconds → CanBeFlat e (us ∷ ws ∷ rows)
assembled_ends-CanBeFlat e f us ws firsts seconds rows is z merge_u merge_w once_u once_w all_u all_w first second
    twins_u twins_w one_u one_w other_u other_w =
    let half : Becomes e f (us ∷ (seconds ++ rows)) =
    merged_copies-Becomes e f us firsts (seconds ++ rows) is
    (HaveOtherValues-AllApart e f (firsts ++ (seconds ++ rows)) is first one_u twins_u firsts other_u) merge_u
    once_u all_u in
    let is_half : IsMapOf (2 * e) half.0 (seconds ++ us ∷ rows) = IsMapOf-among (2 * e) half.0 us seconds rows half.1 in
    let whole : Becomes e half.0 (ws ∷ us ∷ rows) =
    merged_copies-Becomes e half.0 ws seconds (us ∷ rows) is_half
    (HaveOtherValues-AllApart e half.0 (seconds ++ us ∷ rows) is_half second one_w twins_w
    seconds other_w) merge_w once_w all_w in (
      whole.0,
      IsMapOf-swap (2 * e) whole.0 ws us rows whole.1,
      SameGenus-IsFlat e half.0 whole.0 whole.2 (SameGenus-IsFlat e f half.0 half.2 z),
    )
