-- The later ends of edges, by the places of their ends.
use Rattle.std.proofs.Common.{◌≡◌, ℕ, zero, suc, ◌+◌, ◌<◌, ◌≤◌, Bool, true, false, cond, List, [], ◌∷◌, ◌++◌, length, slice_index, slice_index_or, sym, refl, ap, ◌∙◌, subst, ⊎_elim, arith, below_more, length-append}
use Rattle.std.specs.Prelude.{nat_lt}
use Rattle.std.proofs.lemmas.Bool.{cases_eq, eq-eqb, ne_eqb, ltb-true, ltb-false}
use Rattle.cp_lists.specs.Count.{Exactly}
use Rattle.cp_lists.proofs.ExactLists.{place_of}
use Rattle.cp_embed.specs.VertexOrders.{IsLaterEnd}
use Rattle.cp_embed.proofs.EdgeDarts.{first-touches, second-touches}

-- the one of the two ends that has the greater place is the later end
pub later-IsLaterEnd : (ends : List (ℕ × ℕ)) (order places : List ℕ) (k a b : ℕ)
    → Exactly (length order) (λ v. true) order
    → ((i : ℕ) → i < length order → slice_index places (slice_index order i) ≡ i)
    → (slice_index_or ends k (0, 0)).0 ≡ a → (slice_index_or ends k (0, 0)).1 ≡ b → (a ≡ b → ⊥) → a < length order
    → b < length order
    → IsLaterEnd ends order k (cond (nat_lt (slice_index places a) (slice_index places b)) b a)
later-IsLaterEnd ends order places k a b once places_are a_is b_is differ lt_a lt_b =
    by_test (nat_lt (slice_index places a) (slice_index places b)) refl
  where
    -- where the first stands
    first : (i : ℕ) × (i < length order) × (slice_index order i ≡ a)
    first = place_of order a (once.all a lt_a refl)

    -- where the second stands
    second : (i : ℕ) × (i < length order) × (slice_index order i ≡ b)
    second = place_of order b (once.all b lt_b refl)

    -- the place of the first
    first_place : slice_index places a ≡ first.0
    first_place = ap (slice_index places) (sym first.2) ∙ places_are first.0 first.1

    -- the place of the second
    second_place : slice_index places b ≡ second.0
    second_place = ap (slice_index places) (sym second.2) ∙ places_are second.0 second.1

    -- the two do not stand at one place
    apart : first.0 ≡ second.0 → ⊥
    apart same = differ (sym first.2 ∙ ap (slice_index order) same ∙ second.2)

    by_test : (t : Bool) → nat_lt (slice_index places a) (slice_index places b) ≡ t
        → IsLaterEnd ends order k (cond t b a)
    by_test true e =
        let less : slice_index places a < slice_index places b =
        ltb-true (slice_index places a) (slice_index places b) e in
        record {
          is_end = second-touches ends b k b_is;
          other_before = record {
            first = first.0;
            second = second.0;
            before = omega (arith, less, first_place, second_place);
            within = second.1;
            first_is = first.2 ∙ sym (ap (λ t. cond t (slice_index_or ends k (0, 0)).1 (slice_index_or ends k (0, 0)).0)
                (ne_eqb (slice_index_or ends k (0, 0)).0 b (λ f. differ (sym a_is ∙ f))) ∙ a_is);
            second_is = second.2;
          };
        }
    by_test false e =
        let more : slice_index places b ≤ slice_index places a =
        ltb-false (slice_index places a) (slice_index places b) e in
        record {
          is_end = first-touches ends a k a_is;
          other_before = record {
            first = second.0;
            second = first.0;
            before = ⊎_elim
                (λ same. absurd (apart same))
                (λ ne. omega (arith, more, first_place, second_place, ne))
                (cases_eq first.0 second.0);
            within = first.1;
            first_is = second.2 ∙ sym (ap (λ t. cond t (slice_index_or ends k (0, 0)).1 (slice_index_or ends k (0, 0)).0)
                (eq-eqb (slice_index_or ends k (0, 0)).0 a a_is) ∙ b_is);
            second_is = first.2;
          };
        }

-- a list with one item more, of which each holds what holds of its place
pub later_pushed : (P : ℕ → ℕ → Type 0) (xs ys : List ℕ) (k v : ℕ) → length xs ≡ k
    → ((i : ℕ) → i < k → P i (slice_index xs i)) → ys ≡ xs ++ v ∷ [] → P k v
    → (length ys ≡ k + 1) × ((i : ℕ) → i < k + 1 → P i (slice_index ys i))
later_pushed P xs ys k v long all is one = (
  ap length is ∙ length-append xs (v ∷ []) ∙ ap (λ n. n + 1) long,
  below_more _ _
      (λ i lt. subst (P i) (sym (ap (λ us. slice_index us i) is ∙ front xs i (omega (arith, lt, long)))) (all i lt))
      (subst (P k) (sym (ap (λ us. slice_index us k) is ∙ subst (λ n. slice_index (xs ++ v ∷ []) n ≡ v) long (last xs))) one),
)
  where
    front : (us : List ℕ) (i : ℕ) → i < length us → slice_index (us ++ v ∷ []) i ≡ slice_index us i
    front [] i lt = absurd (omega arith)
    front (u ∷ us) zero lt = refl
    front (u ∷ us) (suc i) lt = front us i (omega arith)

    last : (us : List ℕ) → slice_index (us ++ v ∷ []) (length us) ≡ v
    last [] = refl
    last (u ∷ us) = last us
