-- A pass over numbers that marks, for each one, what it is related to. Those that were not marked
-- when they were met are the least of their class.
use Rattle.std.proofs.Common.{◌≡◌, ℕ, ◌+◌, ◌<◌, ◌≤◌, ◌⊎◌, ◌↔◌, Bool, false, List, slice_index_or, sym, ◌∙◌, subst, inl, inr, ⊎_elim, arith}
use Rattle.std.proofs.lemmas.Bool.{cases_eq, cases_lt, cases_Bool, false≢true}
use Rattle.cp_lists.specs.Count.{IsCount}
use Rattle.cp_lists.proofs.Counting.{IsCount-none, IsCount-more_yes, IsCount-more_no}
use Rattle.cp_rot.specs.Tables.{IsMarked, IsUnmarked}

-- a number is not marked and unmarked
pub marked_unmarked : (marks : List Bool) (x : ℕ) → IsMarked marks x → IsUnmarked marks x → ⊥
marked_unmarked marks x is_in is_out = false≢true (sym is_out ∙ is_in)

-- what cannot be marked is unmarked
pub unmarked_from : (marks : List Bool) (x : ℕ) → (IsMarked marks x → ⊥) → IsUnmarked marks x
unmarked_from marks x h = ⊎_elim (λ is_in. absurd (h is_in)) (λ is_out. is_out) (cases_Bool (slice_index_or marks x false))

-- x is the least of what it is related to
abbrev pub IsLeast : (ℕ → ℕ → Type 0) → ℕ → Type 0
IsLeast R x = (y : ℕ) → R x y → x ≤ y

-- a relation that goes both ways, and on
pub record Relates (R : ℕ → ℕ → Type 0) (n : ℕ) : Type 0 where
  pub back : (x y : ℕ) → x < n → R x y → R y x
  pub on : (x y z : ℕ) → R x y → R y z → R x z

-- of the numbers below n, what some number below i is related to is marked; `least` of the numbers
-- below i are the least of their class
pub record FoundUpto (R : ℕ → ℕ → Type 0) (n i : ℕ) (marks : List Bool) (least : ℕ) : Type 0 where
  pub marked : (x : ℕ) → x < n → IsMarked marks x ↔ ((y : ℕ) × (y < i) × R y x)
  pub counted : IsCount (IsLeast R) i least
  pub few : least ≤ i

-- at the start nothing is marked
pub FoundUpto-none : (R : ℕ → ℕ → Type 0) (n : ℕ) (marks : List Bool) → ((x : ℕ) → x < n → IsUnmarked marks x)
    → FoundUpto R n 0 marks 0
FoundUpto-none R n marks clear = record {
  marked = λ x lt. (λ is_in. absurd (marked_unmarked marks x is_in (clear x lt)), λ h. absurd (omega (arith, h.1)));
  counted = IsCount-none (IsLeast R);
  few = omega arith;
}

-- where i is not marked, nothing that it is related to is
pub fresh_class : (R : ℕ → ℕ → Type 0) (n i : ℕ) (marks : List Bool) (least : ℕ) → Relates R n
    → FoundUpto R n i marks least → i < n → IsUnmarked marks i → (x : ℕ) → x < n → R i x → IsUnmarked marks x
fresh_class R n i marks least rel found lt is_out x ltx r =
    unmarked_from marks x (λ is_in.
    let h = (found.marked x ltx).0 is_in in
    marked_unmarked marks i ((found.marked i lt).1 (h.0, h.1, rel.on h.0 x i h.2 (rel.back i x lt r))) is_out)

-- with a marked number all that it is related to is marked
pub marked_class : (R : ℕ → ℕ → Type 0) (n i : ℕ) (marks : List Bool) (least : ℕ) → Relates R n
    → FoundUpto R n i marks least → (x y : ℕ) → x < n → y < n → R x y → IsMarked marks x → IsMarked marks y
marked_class R n i marks least rel found x y ltx lty r is_in =
    let h = (found.marked x ltx).0 is_in in
    (found.marked y lty).1 (h.0, h.1, rel.on h.0 x y h.2 r)

-- i was not marked: it is the least of its class, and its class gets marked
pub FoundUpto-new : (R : ℕ → ℕ → Type 0) (n i : ℕ) (marks after : List Bool) (least : ℕ) → Relates R n
    → FoundUpto R n i marks least → i < n → IsUnmarked marks i
    → ((x : ℕ) → x < n → IsMarked after x ↔ (IsMarked marks x ⊎ R i x)) → FoundUpto R n (i + 1) after (least + 1)
FoundUpto-new R n i marks after least rel found lt is_out marked = record {
  marked = λ x ltx. (
    λ is_in. ⊎_elim
        (λ old. let h = (found.marked x ltx).0 old in (h.0, omega (arith, h.1), h.2))
        (λ r. (i, omega arith, r))
        ((marked x ltx).0 is_in),
    λ h. (marked x ltx).1 (⊎_elim (λ e. inr (subst (λ y. R y x) e h.2)) (λ ne. inl ((found.marked x ltx).1 (h.0, omega (arith, h.1), h.2))) (cases_eq h.0 i)),
  );
  counted = IsCount-more_yes (IsLeast R) i least found.counted (λ y r. ⊎_elim
      (λ below. absurd (marked_unmarked marks i ((found.marked i lt).1 (y, below, rel.back i y lt r)) is_out))
      (λ le. le) (cases_lt y i));
  few = omega (arith, found.few);
}

-- i was marked: it is not the least of its class
pub FoundUpto-old : (R : ℕ → ℕ → Type 0) (n i : ℕ) (marks : List Bool) (least : ℕ) → Relates R n
    → FoundUpto R n i marks least → i < n → IsMarked marks i → FoundUpto R n (i + 1) marks least
FoundUpto-old R n i marks least rel found lt is_in =
    let h = (found.marked i lt).0 is_in in record {
      marked = λ x ltx. (
        λ m. let k = (found.marked x ltx).0 m in (k.0, omega (arith, k.1), k.2),
        λ k. ⊎_elim (λ e. (found.marked x ltx).1 (h.0, h.1, rel.on h.0 i x h.2 (subst (λ y. R y x) e k.2))) (λ ne. (found.marked x ltx).1 (k.0, omega (arith, k.1), k.2)) (cases_eq k.0 i),
      );
      counted = IsCount-more_no (IsLeast R) i least found.counted (λ is. let le : i ≤ h.0 = is h.0 (rel.back h.0 i (omega (arith, h.1)) h.2) in omega (arith, h.1));
      few = omega (arith, found.few);
    }

-- the same, where marks and number go by other names
pub found_at : (R : ℕ → ℕ → Type 0) (n i : ℕ) {marks other : List Bool} {least least_other : ℕ} → other ≡ marks
    → least_other ≡ least → FoundUpto R n i marks least → FoundUpto R n i other least_other
found_at R n i {marks} {other} {least} {least_other} e f found =
    subst (λ m. FoundUpto R n i m least_other) (sym e) (subst (FoundUpto R n i marks) (sym f) found)
