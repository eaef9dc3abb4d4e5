-- What a Q-node is, from what its kids are.
use Rattle.std.proofs.Common.{◌≡◌, ℕ, ◌≤◌, Bool, true, false, cond, List, [], ◌∷◌, ◌++◌, length, reverse, sym, ap, ◌∙◌, subst, subst₂, arith, IsPermutation}
use Rattle.std.specs.List.{list_all, list_any, AllZip}
use Rattle.std.proofs.lemmas.Bool.{both_ways, and_parts}
use Rattle.std.proofs.lemmas.List.Sorted.{IsPermutation-refl, IsPermutation-reverse}
use Rattle.cp_pq.specs.declared.node.Node.{Node}
use Rattle.cp_pq.specs.declared.node.Node.TheVariants.{Q}
use Rattle.cp_pq.specs.declared.found.Found.{Found}
use Rattle.cp_pq.specs.Words.{Opposite, sorted, has_all, is_clear, Licensed, IsLike}
use Rattle.cp_pq.specs.Founds.{IsGiven, is_out, is_in, is_torn, found_sorted, flat_line, flat_ties}
use Rattle.cp_pq.specs.Keeping.{any_bound, Keeps}
use Rattle.cp_pq.specs.Grants.{Grants}
use Rattle.cp_pq.proofs.Mirrors.{like_again}
use Rattle.cp_pq.proofs.KeepingLaws.{Keeps_trans, Keeps_permuted, Keeps_kids_of_Q}
use Rattle.cp_pq.proofs.Lines.{Q_forward, Q_backward, Q_never}
use Rattle.cp_pq.proofs.Closes.{has_all_Q, false_unless}
use Rattle.cp_pq.proofs.Zips.{zip_out, zip_in, zip_clear, zip_sorted, zip_reverse, zip_full, zip_empty, zip_like, zip_keeps, grants_torn, grants_licensed, clear_other, not_both}

module _ (q p : ℕ → Bool) (v : ℕ) (ks : List Node) (fs : List Found) (z : AllZip
    (IsGiven q p) ks fs) (two : 2 ≤ length ks) where
  -- one kid at least has leaves, so not all kids are outside and inside at once
  pub some_kid : list_all (has_all q) ks ≡ true → list_all (has_all p) ks ≡ true → ⊥
  some_kid = go ks two (zip_clear q p ks fs z)
    where
      go : (ks : List Node) → 2 ≤ length ks → list_all (is_clear q p) ks ≡ true → list_all (has_all q) ks ≡ true
          → list_all (has_all p) ks ≡ true → ⊥
      go [] two c a b = absurd (omega arith)
      go (k ∷ ks) two c a b = both_ways _ (clear_other q p k (and_parts _ _ c).0 (and_parts _ _ b).0) (and_parts _ _ a).0

  -- a Q-node whose kids are all outside is outside
  pub row_out : (line : List Node) → list_all is_out fs ≡ true → line ≡ flat_line fs
      → IsGiven q p (Q v ks) (Found.Out (Q v line))
  row_out line h e = (
    has_all_Q q v ks ∙ zip_out q p ks fs z ∙ h,
    has_all_Q p v ks ∙ false_unless _ (λ x. some_kid (zip_out q p ks fs z ∙ h) x),
    ap (λ l. Q v l) (e ∙ zip_empty q p ks fs z h),
  )

  -- a Q-node whose kids are all inside is inside
  pub row_in : (line : List Node) → list_all is_in fs ≡ true → line ≡ flat_line fs
      → IsGiven q p (Q v ks) (Found.In (Q v line))
  row_in line h e = (
    has_all_Q q v ks ∙ false_unless _ (λ x. some_kid x (zip_in q p ks fs z ∙ h)),
    has_all_Q p v ks ∙ zip_in q p ks fs z ∙ h,
    ap (λ l. Q v l) (e ∙ (zip_full q p ks fs z h).0),
  )

  -- a Q-node whose kids are sorted in neither direction is torn
  pub row_torn : list_all is_out fs ≡ false → list_all is_in fs ≡ false → found_sorted fs ≡ false
      → found_sorted (reverse fs) ≡ false → IsGiven q p (Q v ks) Found.Torn
  row_torn nout nin a b = (
    has_all_Q q v ks ∙ zip_out q p ks fs z ∙ nout,
    has_all_Q p v ks ∙ zip_in q p ks fs z ∙ nin,
    Q_never q p v ks (zip_sorted q p ks fs z ∙ a) (zip_sorted q p (reverse ks) (reverse fs) (zip_reverse q p ks fs z) ∙ b),
  )

  -- a Q-node that is read in one direction alone is the line of its kids with a tie of its var, or torn where a kid is
  line_or_torn : (b : Bool) (js : List Node) (gs : List Found) (front back : List Node) (ts : List (ℕ × Bool))
      (t : Bool)
      → AllZip (IsGiven q p) js gs → IsPermutation ks js
      → IsLike (sorted q p) (λ may. (may v b ≡ true) × Grants may gs) (Q v ks ∷ []) (flat_line gs)
      → has_all q (Q v ks) ≡ false → has_all p (Q v ks) ≡ false
      → reverse front ++ back ≡ flat_line gs → ts ≡ flat_ties (reverse gs) ++ (v, b) ∷ [] → t ≡ list_any is_torn gs
      → IsGiven q p (Q v ks) (cond t Found.Torn (Found.Line front back ts))
  line_or_torn b js gs front back ts true zz perm like nout nin e1 e2 e = (nout, nin, λ may xs r s. grants_torn may gs (sym e) ((like may xs).0 (r, s)).0.1)
  line_or_torn b js gs front back ts false zz perm like nout nin e1 e2 e = (
    nout,
    nin,
    subst₂ (λ line us. IsLike (sorted q p) (λ may. Licensed false may us) (Q v ks ∷ []) line) (sym e1) (sym e2)
        (like_again (sorted q p) (λ may. (may v b ≡ true) × Grants may gs) (λ may. Licensed false may (flat_ties (reverse gs) ++ (v, b) ∷ [])) (Q v ks ∷ []) (flat_line gs)
        (λ may. let g = grants_licensed may gs ((v, b) ∷ []) (sym e) in (λ x. g.0 ((x.0, tt), x.1), λ x. let h = g.1 x in (h.0.0, h.1))) like),
    subst (Keeps any_bound (Q v ks ∷ [])) (sym e1) (Keeps_trans any_bound _ _ _ (Keeps_kids_of_Q any_bound v ks) (Keeps_trans any_bound _ _ _ (Keeps_permuted any_bound ks js perm) (zip_keeps q p js gs zz (sym e)))),
  )

  -- a Q-node whose kids are sorted from left to right is their line, its var tied to the bit false, or torn
  pub row_forward : Opposite q p → list_all is_out fs ≡ false → list_all is_in fs ≡ false → found_sorted fs ≡ true
      → (front back : List Node) (ts : List (ℕ × Bool)) (t : Bool)
      → reverse front ++ back ≡ flat_line fs → ts ≡ flat_ties (reverse fs) ++ (v, false) ∷ [] → t ≡ list_any is_torn fs
      → IsGiven q p (Q v ks) (cond t Found.Torn (Found.Line front back ts))
  row_forward opp nout nin s front back ts t e1 e2 e =
      let nq = zip_out q p ks fs z ∙ nout in let np = zip_in q p ks fs z ∙ nin in
      line_or_torn false ks fs front back ts t z (IsPermutation-refl ks)
      (Q_forward q p (λ may. Grants may fs) v ks (flat_line fs) (zip_like q p opp ks fs z s) (false_unless _ (λ x. not_both q p ks two (zip_clear q p ks fs z) nq np (zip_sorted q p ks fs z ∙ s) x)))
      (has_all_Q q v ks ∙ nq) (has_all_Q p v ks ∙ np) e1 e2 e

  -- a Q-node whose kids are sorted from right to left is their line, its var tied to the bit true, or torn
  pub row_backward : Opposite q p → list_all is_out fs ≡ false → list_all is_in fs ≡ false → found_sorted fs ≡ false
      → (gs : List Found) → gs ≡ reverse fs → found_sorted gs ≡ true
      → (front back : List Node) (ts : List (ℕ × Bool)) (t : Bool)
      → reverse front ++ back ≡ flat_line gs → ts ≡ flat_ties (reverse gs) ++ (v, true) ∷ [] → t ≡ list_any is_torn gs
      → IsGiven q p (Q v ks) (cond t Found.Torn (Found.Line front back ts))
  row_backward opp nout nin a gs same s front back ts t e1 e2 e =
      let zz : AllZip (IsGiven q p) (reverse ks) gs = subst (AllZip (IsGiven q p) (reverse ks)) (sym same) (zip_reverse q p ks fs z) in
      line_or_torn true (reverse ks) gs front back ts t zz (IsPermutation-reverse ks)
      (Q_backward q p (λ may. Grants may gs) v ks (flat_line gs) (zip_like q p opp (reverse ks) gs zz s) (zip_sorted q p ks fs z ∙ a))
      (has_all_Q q v ks ∙ zip_out q p ks fs z ∙ nout) (has_all_Q p v ks ∙ zip_in q p ks fs z ∙ nin) e1 e2 e
