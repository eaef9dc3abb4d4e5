-- When the sides of one P-node fit those of another.
use Rattle.std.proofs.Common.{◌≡◌, ℕ, List, [], ◌∷◌, ◌++◌, inl, inr, ⊎_elim, refl, sym, ap, ◌∙◌, subst, subst₂, IsPermutation}
use Rattle.std.proofs.lemmas.List.Sorted.{IsPermutation-trans, IsPermutation-append_left, IsPermutation-append_right}
use Rattle.cp_lists.specs.CyclicLists.{Has, Lacks, Distinct}
use Rattle.cp_lists.proofs.DistinctLists.{Lacks-append_left, Distinct-apart_right}
use Rattle.cp_pq.specs.declared.node.Node.{Node}
use Rattle.cp_pq.specs.Nodes.{leaves, all_leaves}
use Rattle.cp_pq.specs.Owners.{Fits}
use Rattle.cp_pq.proofs.NodeLayers.{all_leaves_cons, all_leaves_append, all_leaves_one}
use Rattle.cp_pq.proofs.ReadingLaws.{IsPermutation-all_leaves}
use Rattle.cp_pq.proofs.Permutations.{IsPermutation-same}
use Rattle.cp_pq.proofs.PermutedLists.{Has-IsPermutation, Lacks-IsPermutation, Distinct-IsPermutation}
use Rattle.cp_pq.proofs.NodesIn.{kid_cons, kid_cases, kid_permuted, kid_append_left, kid_append_right, kid_leaf}

-- the sides of a P-node fit themselves
pub Fits_refl : (ks : List Node) → Fits ks ks
Fits_refl ks a b h = h

-- sides that fit sides which fit others fit these
pub Fits_trans : (ks js ls : List Node) → Fits ks js → Fits js ls → Fits ks ls
Fits_trans ks js ls f g a b h = g a b (f a b h)

-- kids in another order
pub Fits_permuted : (ks js : List Node) → IsPermutation ks js → Fits ks js
Fits_permuted ks js p a b = ⊎_elim
    (λ h. inl (h.0, kid_permuted h.0 ks js p h.1, h.2, h.3))
    (λ h. let q = IsPermutation-all_leaves ks js p in inr (Lacks-IsPermutation a _ _ q h.0, Lacks-IsPermutation b _ _ q h.1))

-- some of the kids alone
pub Fits_part : (ks e r : List Node) → IsPermutation ks (e ++ r) → Distinct (all_leaves ks) → Fits ks e
Fits_part ks e r p d a b = ⊎_elim
    (λ h. ⊎_elim
    (λ k. inl (h.0, k, h.2, h.3))
    (λ k. inr (Distinct-apart_right a (all_leaves e) (all_leaves r) apart (kid_leaf a h.0 r k h.2), Distinct-apart_right b (all_leaves e) (all_leaves r) apart (kid_leaf b h.0 r k h.3)))
    (kid_cases h.0 e r (kid_permuted h.0 ks (e ++ r) p h.1)))
    (λ h. inr (Lacks-append_left a (all_leaves e) (all_leaves r) (lacks a h.0), Lacks-append_left b (all_leaves e) (all_leaves r) (lacks b h.1)))
  where
    same : IsPermutation (all_leaves ks) (all_leaves e ++ all_leaves r)
    same = IsPermutation-trans _ _ _ (IsPermutation-all_leaves ks (e ++ r) p) (IsPermutation-same _ _ (all_leaves_append e r))

    apart : Distinct (all_leaves e ++ all_leaves r)
    apart = Distinct-IsPermutation _ _ same d

    lacks : (x : ℕ) → Lacks x (all_leaves ks) → Lacks x (all_leaves e ++ all_leaves r)
    lacks x l = Lacks-IsPermutation x _ _ same l

-- some kids put together into one
pub Fits_union : (ks e c : List Node) (m : Node) → IsPermutation ks (e ++ c) → IsPermutation (all_leaves c) (leaves m)
    → Fits ks (e ++ m ∷ [])
Fits_union ks e c m p q a b = ⊎_elim
    (λ h. ⊎_elim
    (λ k. inl (h.0, kid_append_left h.0 e (m ∷ []) k, h.2, h.3))
    (λ k. inl (m, kid_append_right m e (m ∷ []) ([], [], refl), Has-IsPermutation a _ _ q (kid_leaf a h.0 c k h.2), Has-IsPermutation b _ _ q (kid_leaf b h.0 c k h.3)))
    (kid_cases h.0 e c (kid_permuted h.0 ks (e ++ c) p h.1)))
    (λ h. inr (Lacks-IsPermutation a _ _ same h.0, Lacks-IsPermutation b _ _ same h.1))
  where
    same : IsPermutation (all_leaves ks) (all_leaves (e ++ m ∷ []))
    same = IsPermutation-trans _ _ _ (IsPermutation-all_leaves ks (e ++ c) p)
        (IsPermutation-trans _ _ _ (IsPermutation-same _ _ (all_leaves_append e c))
        (IsPermutation-trans _ _ _ (IsPermutation-append_right (all_leaves e) _ _ q) (IsPermutation-same _ _ (ap (λ z. all_leaves e ++ z) (sym (all_leaves_one m)) ∙ sym (all_leaves_append e (m ∷ []))))))

-- one kid changed that keeps its leaves
pub Fits_frame : (a b : List Node) (k m : Node) → IsPermutation (leaves k) (leaves m) → Fits (a ++ k ∷ b) (a ++ m ∷ b)
Fits_frame a b k m q x y = ⊎_elim
    (λ h. ⊎_elim
    (λ g. inl (h.0, kid_append_left h.0 a (m ∷ b) g, h.2, h.3))
    (λ g. ⊎_elim
    (λ e. inl (m, kid_append_right m a (m ∷ b) ([], b, refl), Has-IsPermutation x _ _ q (subst (λ z. Has x (leaves z)) (sym e) h.2), Has-IsPermutation y _ _ q (subst (λ z. Has y (leaves z)) (sym e) h.3)))
    (λ f. inl (h.0, kid_append_right h.0 a (m ∷ b) (m ∷ f.0, f.1, ap (λ z. m ∷ z) f.2), h.2, h.3))
    (kid_cons h.0 k b g))
    (kid_cases h.0 a (k ∷ b) h.1))
    (λ h. inr (Lacks-IsPermutation x _ _ same h.0, Lacks-IsPermutation y _ _ same h.1))
  where
    at : (n : Node) → all_leaves (a ++ n ∷ b) ≡ all_leaves a ++ (leaves n ++ all_leaves b)
    at n = all_leaves_append a (n ∷ b) ∙ ap (λ z. all_leaves a ++ z) (all_leaves_cons n b)

    same : IsPermutation (all_leaves (a ++ k ∷ b)) (all_leaves (a ++ m ∷ b))
    same = subst₂ IsPermutation (sym (at k)) (sym (at m)) (IsPermutation-append_right (all_leaves a) _ _ (IsPermutation-append_left (all_leaves b) _ _ q))
