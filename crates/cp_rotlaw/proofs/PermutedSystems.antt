-- The systems that permuting makes.
use Rattle.std.proofs.Common.{◌≡◌, ◌≢◌, ℕ, ◌*◌, ◌/◌, ◌<◌, Bool, cond, eqb, List, [], ◌∷◌, length, slice_index, slice_index_or, sym, refl, ap, ◌∙◌, subst, inl, inr, ⊎_elim, arith}
use Rattle.std.proofs.lemmas.Bool.{cases_eq, cond-false, cond-true, eq-eqb, ne_eqb}
use Rattle.std.proofs.lemmas.List.{get_or_default}
use Rattle.cp_lists.specs.CyclicLists.{Distinct, Has}
use Rattle.cp_lists.proofs.DistinctLists.{Exactly-Distinct, Exactly-Has}
use Rattle.cp_rot.specs.Genus.{HasGenusZero}
use Rattle.cp_rot.specs.Rewrites.{values}
use Rattle.cp_rot.specs.Systems.{Arranges, IsRotation, System, darts, list_of, vertex_of}
use Rattle.cp_rot.specs.Tables.{system_of}
use Rattle.cp_rot.proofs.ListEdits.{length-values, values_at}
use Rattle.cp_rotlaw.specs.PoleClasses.{IsPermutedRow, permuted_list}
use Rattle.cp_rotlaw.specs.Poles.{IsPermutedAt}
use Rattle.cp_rotlaw.proofs.PermutedPoles.{permuted-HasGenusZero, row-Arranges}
use Rattle.cp_rotlaw.proofs.StarSystems.{values_of}

-- what a system is where its lists at the poles are replaced
pub record HasPermuted (r : System) (u v : ℕ) (order : List ℕ) (s : System) : Type 0 where
  pub rotation : IsRotation s
  pub made : IsPermutedAt r u v order s
  pub genus : HasGenusZero s

-- a system of which two lists are replaced
module _ (r : System) (is : IsRotation r) (u v : ℕ) (ltu : u < r.vertices) (ltv : v < r.vertices) (differ : u ≢ v)
    (order row at : List ℕ) (lists : List (List ℕ)) (first : Arranges r.at u order) (second : Arranges r.at v row)
    (e_at : at ≡ values (darts r) (vertex_of r))
    (e_lists : lists ≡ values r.vertices (permuted_list r u v order row)) where
  -- the system
  abbrev s : System
  s = system_of at lists

  -- its darts stand where they stood
  same_at : s.at ≡ r.at
  same_at = e_at ∙ sym (values_of (darts r) (vertex_of r) r.at refl (λ i z lt. get_or_default r.at i z 0 lt))

  -- it has as many vertices
  same_vertices : s.vertices ≡ r.vertices
  same_vertices = ap length e_lists ∙ length-values r.vertices (permuted_list r u v order row)

  -- its lists
  list_is : (w : ℕ) → w < r.vertices → list_of s w ≡ permuted_list r u v order row w
  list_is w lt = ap (λ xs. slice_index_or xs w []) e_lists
      ∙ values_at r.vertices (permuted_list r u v order row) w [] lt

  -- that of the first pole
  first_is : list_of s u ≡ order
  first_is = list_is u ltu ∙ cond-true (eqb u u) order (cond (eqb u v) row (list_of r u)) (eq-eqb u u refl)

  -- that of another vertex
  other_is : (w : ℕ) → w < r.vertices → w ≢ u → list_of s w ≡ cond (eqb w v) row (list_of r w)
  other_is w lt nu = list_is w lt ∙ cond-false (eqb w u) order (cond (eqb w v) row (list_of r w)) (ne_eqb w u nu)

  -- that of the second pole
  second_is : list_of s v ≡ row
  second_is = other_is v ltv (λ e. differ (sym e)) ∙ cond-true (eqb v v) row (list_of r v) (eq-eqb v v refl)

  -- those between
  between_is : (w : ℕ) → w < r.vertices → w ≢ u → w ≢ v → list_of s w ≡ list_of r w
  between_is w lt nu nv = other_is w lt nu ∙ cond-false (eqb w v) row (list_of r w) (ne_eqb w v nv)

  -- it is permuted
  replaced-IsPermutedAt : IsPermutedAt r u v order s
  replaced-IsPermutedAt = record {
    vertices = same_vertices;
    at = same_at;
    first = first_is;
    others = between_is;
  }

  -- it is a rotation system
  replaced-IsRotation : IsRotation s
  replaced-IsRotation = record {
    paired = subst (λ xs. length xs ≡ 2 * (length xs / 2)) (sym same_at) is.paired;
    placed = λ d lt. subst (λ xs. slice_index xs d < s.vertices) (sym same_at)
        (subst (λ m. vertex_of r d < m) (sym same_vertices)
        (is.placed d (subst (λ xs. d < length xs) same_at lt)));
    listed = refl;
    arranged = λ w lt.
        let ltw : w < r.vertices = subst (λ m. w < m) same_vertices lt in
        subst (λ xs. Arranges xs w (list_of s w)) (sym same_at)
        (⊎_elim
        (λ e. subst (λ x. Arranges r.at x (list_of s x)) (sym e) (subst (Arranges r.at u) (sym first_is) first))
        (λ nu. ⊎_elim
        (λ e. subst (λ x. Arranges r.at x (list_of s x)) (sym e) (subst (Arranges r.at v) (sym second_is) second))
        (λ nv. subst (Arranges r.at w) (sym (between_is w ltw nu nv)) (is.arranged w ltw))
        (cases_eq w v))
        (cases_eq w u));
  }

-- the system of a permuted row
pub HasPermuted-made : (r : System) → IsRotation r → (u v : ℕ) → u < r.vertices → v < r.vertices → u ≢ v
    → HasGenusZero r → (order row at : List ℕ) (lists : List (List ℕ)) → Arranges r.at u order
    → IsPermutedRow r u v order row → at ≡ values (darts r) (vertex_of r)
    → lists ≡ values r.vertices (permuted_list r u v order row) → HasPermuted r u v order (system_of at lists)
HasPermuted-made r is u v ltu ltv differ zero_genus order row at lists first made e_at e_lists =
    let second : Arranges r.at v row = subst (Arranges r.at v) (sym made.row_is)
    (row-Arranges r is u v ltu ltv differ made.number made.part made.parts made.entered made.test made.ws made.turn
    made.ends order first zero_genus) in
    let rotation : IsRotation (system_of at lists) =
    replaced-IsRotation r is u v ltu ltv differ order row at lists first second e_at e_lists in
    let permuted : IsPermutedAt r u v order (system_of at lists) =
    replaced-IsPermutedAt r is u v ltu ltv differ order row at lists first second e_at e_lists in record {
      rotation = rotation;
      made = permuted;
      genus = permuted-HasGenusZero r is u v ltu ltv differ made.number made.part made.parts made.entered made.test
          made.ws made.turn made.ends order first zero_genus (system_of at lists) rotation permuted
          (second_is r is u v ltu ltv differ order row at lists first second e_at e_lists ∙ made.row_is);
    }

-- of fewer than two items there is one order
one_order : (xs ys : List ℕ) → length ys < 2 → Distinct xs → ((d : ℕ) → Has d xs → Has d ys)
    → ((d : ℕ) → Has d ys → Has d xs) → xs ≡ ys
one_order [] [] lt once to from = refl
one_order (x ∷ xs) [] lt once to from = absurd (to x (inl refl))
one_order [] (y ∷ []) lt once to from = absurd (from y (inl refl))
one_order (x ∷ []) (y ∷ []) lt once to from =
    ⊎_elim (λ e. ap (λ z. z ∷ []) (sym e)) (λ none. absurd none) (to x (inl refl))
one_order (x ∷ z ∷ xs) (y ∷ []) lt once to from = absurd (once.0.0
    (⊎_elim (λ e. ⊎_elim (λ f. sym f ∙ e) (λ none. absurd none) (to z (inr (inl refl)))) (λ none. absurd none)
    (to x (inl refl))))
one_order xs (y ∷ z ∷ ys) lt once to from = absurd (omega arith)

-- a system with fewer than two darts at u has them in every order
pub unchanged-IsPermutedAt : (r : System) → IsRotation r → (u v : ℕ) → u < r.vertices → (order : List ℕ)
    → Arranges r.at u order → length order < 2 → IsPermutedAt r u v order r
unchanged-IsPermutedAt r is u v ltu order arr lt =
    let p : ℕ → Bool = λ d. eqb (vertex_of r d) u in record {
      vertices = refl;
      at = refl;
      first = one_order (list_of r u) order lt (Exactly-Distinct (darts r) p (list_of r u) (is.arranged u ltu))
          (λ d h. (Exactly-Has (darts r) p order arr d).1
          ((Exactly-Has (darts r) p (list_of r u) (is.arranged u ltu) d).0 h))
          (λ d h. (Exactly-Has (darts r) p (list_of r u) (is.arranged u ltu) d).1
          ((Exactly-Has (darts r) p order arr d).0 h));
      others = λ w ltw nu nv. refl;
    }
