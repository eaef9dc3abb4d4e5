-- Counts of the darts at each vertex, and the first wrong list.
use Rattle.std.proofs.Common.{◌≡◌, ℕ, suc, ◌+◌, ◌*◌, ◌/◌, ◌<◌, ◌≤◌, List, length, set, slice_index, sym, refl, ap, ◌∙◌, ⊎_elim, arith}
use Rattle.std.proofs.lemmas.Bool.{cases_eq, eq-eqb, ne_eqb}
use Rattle.std.proofs.lemmas.List.{get_or-set_same, get_or-set_other}
use Rattle.cp_lists.specs.Count.{count}
use Rattle.cp_lists.proofs.Counting.{count_yes, count_no}
use Rattle.cp_rot.specs.Systems.{IsRotation}
use Rattle.cp_rot.specs.Tables.{system_of, stands_at}
use Rattle.cp_rot.specs.Lists.{HasList}
use Rattle.cp_rot.specs.FirstWrong.{IsRightList, IsFirstWrong}

-- one dart more is counted at its vertex
pub counted_more : (at counts : List ℕ) (i v w n : ℕ) → slice_index at i ≡ v → v < length counts
    → ((u : ℕ) → u < n → slice_index counts u ≡ count i (stands_at at u)) → w < n → v < n
    → slice_index (set counts v (slice_index counts v + 1)) w ≡ count (i + 1) (stands_at at w)
counted_more at counts i v w n e within counted lt ltv =
    let next : suc i ≡ i + 1 = omega arith in
    ⊎_elim
    (λ f. ap (λ u. slice_index (set counts v (slice_index counts v + 1)) u) f ∙ get_or-set_same counts v (slice_index counts v + 1) 0 within
    ∙ (let g : slice_index counts v + 1 ≡ suc (count i (stands_at at v)) = omega (arith, counted v ltv) in g)
    ∙ sym (count_yes i (stands_at at v) (eq-eqb (slice_index at i) v e)) ∙ ap (λ k. count k (stands_at at v)) next ∙ ap (λ u. count (i + 1) (stands_at at u)) (sym f))
    (λ ne. get_or-set_other counts v w (slice_index counts v + 1) 0 ne ∙ counted w lt
    ∙ sym (count_no i (stands_at at w) (ne_eqb (slice_index at i) w (λ f. ne (sym f ∙ e)))) ∙ ap (λ k. count k (stands_at at w)) next)
    (cases_eq w v)

-- with a list for each vertex, and no more lists, all are right
pub all_right : (vertices : ℕ) (at : List ℕ) (lists : List (List ℕ)) → ((i : ℕ) → i < vertices → HasList at lists i)
    → length lists ≤ vertices → (i : ℕ) → IsRightList vertices at lists i
all_right vertices at lists right le i = record {
  present = right i;
  expected = λ lt. omega arith;
}

-- a list without a vertex is the first wrong one, where each vertex has its list
pub first_without_vertex : (vertices : ℕ) (at : List ℕ) (lists : List (List ℕ))
    → ((i : ℕ) → i < vertices → HasList at lists i) → vertices < length lists → IsFirstWrong vertices at lists vertices
first_without_vertex vertices at lists right lt = record {
  wrong = λ is. omega (arith, is.expected lt);
  right_before = λ j ltj. record { present = λ k. right j ltj; expected = λ k. ltj };
}

-- the first vertex that has no list of exactly its darts is the first wrong one
pub first_without_list : (vertices : ℕ) (at : List ℕ) (lists : List (List ℕ)) (v : ℕ) → v < vertices
    → (HasList at lists v → ⊥) → ((i : ℕ) → i < v → HasList at lists i) → IsFirstWrong vertices at lists v
first_without_list vertices at lists v lt wrong right = record {
  wrong = λ is. wrong (is.present lt);
  right_before = λ j ltj. record { present = λ k. right j ltj; expected = λ k. omega arith };
}

-- right lists of darts that come in pairs make a rotation system
pub IsRotation-from : (vertices : ℕ) (at : List ℕ) (lists : List (List ℕ)) → length at ≡ 2 * (length at / 2)
    → ((d : ℕ) → d < length at → slice_index at d < vertices) → length lists ≡ vertices
    → ((i : ℕ) → IsRightList vertices at lists i) → IsRotation (system_of at lists)
IsRotation-from vertices at lists even placed listed right = record {
  paired = even;
  placed = λ d lt. omega (arith, placed d lt);
  listed = refl;
  arranged = λ v lt. ((right v).present (omega arith)).1;
}
