-- A cyclic list of two kinds of items is in at most one way all of the one and then all of the other.
use Rattle.std.proofs.Common.{◌≡◌, ℕ, ◌↔◌, Bool, true, false, List, [], ◌∷◌, ◌++◌, drop, append_assoc, append-nil, sym, refl, ap, ap₂, ◌∙◌, subst, inl, inr}
use Rattle.std.specs.List.{filter}
use Rattle.std.proofs.lemmas.Bool.{false≢true}
use Rattle.std.proofs.lemmas.List.Elements.{filter-append}
use Rattle.cp_lists.specs.CyclicLists.{Distinct, Has, head_or}
use Rattle.cp_lists.specs.Turns.{IsTurn}
use Rattle.cp_lists.proofs.DistinctLists.{Distinct-apart, Distinct-turn, Has-append_right, Lacks-from, has_lacks}
use Rattle.cp_lists.proofs.FilteredLists.{filter_all}
use Rattle.cp_lists.proofs.TurnedLists.{turn-Distinct, turn-sym, turn-trans, turn_parts, turn_same}
use Rattle.cp_maps.specs.Maps.{has}
use Rattle.cp_maps.proofs.ListFacts.{from_dart, has_no, has_yes}
use Rattle.cp_embed.specs.Arrangements.{IsArrangementOf}
use Rattle.cp_embed.proofs.Lists.{filter_none}

-- behind an item that fails none passes
no_return : (p : ℕ → Bool) (us vs xs rest : List ℕ) (o c : ℕ) → ((d : ℕ) → Has d us → p d ≡ true)
    → ((d : ℕ) → Has d vs → p d ≡ false) → us ++ vs ≡ xs ++ o ∷ rest → p o ≡ false → Has c rest → p c ≡ true → ⊥
no_return p [] vs xs rest o c holds none e po h pc = false≢true
    (sym (none c (subst (Has c) (sym e) (Has-append_right c xs (o ∷ rest) (inr h)))) ∙ pc)
no_return p (u ∷ us) vs [] rest o c holds none e po h pc = false≢true
    (sym po ∙ ap p (sym (ap (λ ws. head_or o ws) e)) ∙ holds u (inl refl))
no_return p (u ∷ us) vs (x ∷ xs) rest o c holds none e po h pc = no_return p us vs xs rest o c
    (λ d k. holds d (inr k)) none (ap (λ ws. drop 1 ws) e) po h pc

-- the first part and the second by the test
parted : (p : ℕ → Bool) (us vs xs ys : List ℕ) → ((d : ℕ) → Has d us → p d ≡ true)
    → ((d : ℕ) → Has d vs → p d ≡ false) → ((d : ℕ) → Has d xs → p d ≡ true) → ((d : ℕ) → Has d ys → p d ≡ false)
    → us ++ vs ≡ xs ++ ys → us ≡ xs
parted p us vs xs ys u v x y e = sym (alone us vs u v) ∙ ap (filter p) e ∙ alone xs ys x y
  where
    alone : (as_ bs : List ℕ) → ((d : ℕ) → Has d as_ → p d ≡ true) → ((d : ℕ) → Has d bs → p d ≡ false)
        → filter p (as_ ++ bs) ≡ as_
    alone as_ bs a b = filter-append p as_ bs ∙ ap₂ (λ k l. k ++ l) (filter_all p as_ a) (filter_none p bs b)
        ∙ append-nil as_

-- one split at most
pub split-unique : (ins outs us vs : List ℕ) (o : ℕ) → Distinct (ins ++ outs) → IsArrangementOf us ins
    → IsArrangementOf vs outs → (us ≡ [] → ⊥) → IsTurn (ins ++ outs) (us ++ vs) → Has o outs → us ≡ ins
split-unique ins outs [] vs o dis a b some turn other = absurd (some refl)
split-unique ins outs (c ∷ us) vs o dis a b some turn other = first s.0 s.1 s.2
  where
    p : ℕ → Bool
    p d = has d ins

    s : (ks : List ℕ) × (ls : List ℕ) × (ins ≡ ks ++ c ∷ ls)
    s = from_dart c ins ((a.items c).0 (inl refl))

    t : (ks : List ℕ) × (ls : List ℕ) × (outs ≡ ks ++ o ∷ ls)
    t = from_dart o outs other

    in_us : (d : ℕ) → Has d (c ∷ us) → p d ≡ true
    in_us d h = has_yes d ins ((a.items d).0 h)

    in_outs : (d : ℕ) → Has d outs → p d ≡ false
    in_outs d h = has_no d ins (Lacks-from d ins (λ k. has_lacks d outs h (Distinct-apart d ins outs dis k)))

    in_vs : (d : ℕ) → Has d vs → p d ≡ false
    in_vs d h = in_outs d ((b.items d).0 h)

    -- the two lists from c on
    same : (ks ls : List ℕ) → ins ≡ ks ++ c ∷ ls → us ++ vs ≡ (ls ++ outs) ++ ks
    same ks ls e =
        let whole : ins ++ outs ≡ ks ++ ((c ∷ ls) ++ outs) = ap (λ ws. ws ++ outs) e ∙ append_assoc ks (c ∷ ls) outs in
        let turned : IsTurn (ks ++ ((c ∷ ls) ++ outs)) (c ∷ ((ls ++ outs) ++ ks)) = turn_parts ks ((c ∷ ls) ++ outs) in
        let dis' : Distinct (ks ++ ((c ∷ ls) ++ outs)) = subst Distinct whole dis in
        let dis_c : Distinct (c ∷ ((ls ++ outs) ++ ks)) = turn-Distinct (ks ++ ((c ∷ ls) ++ outs))
        (c ∷ ((ls ++ outs) ++ ks)) turned dis' in
        sym (turn_same c ((ls ++ outs) ++ ks) (us ++ vs) dis_c.0
        (turn-trans (c ∷ ((ls ++ outs) ++ ks)) (ks ++ ((c ∷ ls) ++ outs)) (c ∷ (us ++ vs))
        (turn_parts ((c ∷ ls) ++ outs) ks) (subst (λ ws. IsTurn ws (c ∷ (us ++ vs))) whole turn)))

    first : (ks ls : List ℕ) → ins ≡ ks ++ c ∷ ls → c ∷ us ≡ ins
    first [] ls e = ap (λ ws. c ∷ ws)
        (parted p us vs ls outs (λ d h. in_us d (inr h)) in_vs
        (λ d h. has_yes d ins (subst (Has d) (sym e) (inr h))) in_outs (same [] ls e ∙ append-nil (ls ++ outs))) ∙ sym e
    first (k ∷ ks) ls e = absurd (no_return p us vs (ls ++ t.0) (t.1 ++ k ∷ ks) o k (λ d h. in_us d (inr h)) in_vs
        (same (k ∷ ks) ls e ∙ ap (λ ws. (ls ++ ws) ++ k ∷ ks) t.2
        ∙ ap (λ ws. ws ++ k ∷ ks) (sym (append_assoc ls t.0 (o ∷ t.1)))
        ∙ append_assoc (ls ++ t.0) (o ∷ t.1) (k ∷ ks))
        (in_outs o other) (Has-append_right k t.1 (k ∷ ks) (inl refl))
        (has_yes k ins (subst (Has k) (sym e) (inl refl))))

-- a listed vertex reads by its split alone
pub split-IsTurn : (psi ins outs us vs : List ℕ) (i o : ℕ) → Distinct psi → IsTurn psi (ins ++ outs)
    → IsArrangementOf us ins → IsArrangementOf vs outs → Has i ins → Has o outs → IsTurn psi (us ++ vs)
    ↔ ((us ≡ ins) × (vs ≡ outs))
split-IsTurn psi ins outs us vs i o dis split a b one other = (
  λ t.
      let d : Distinct (ins ++ outs) = turn-Distinct psi (ins ++ outs) split dis in
      let turn : IsTurn (ins ++ outs) (us ++ vs) = turn-trans (ins ++ outs) psi (us ++ vs)
      (turn-sym psi (ins ++ outs) split) t in (
        split-unique ins outs us vs o d a b (λ h. subst (Has i) h ((a.items i).1 one)) turn other,
        split-unique outs ins vs us i (Distinct-turn ins outs d) b a (λ h. subst (Has o) h ((b.items o).1 other))
            (turn-trans (outs ++ ins) (ins ++ outs) (vs ++ us) (turn_parts outs ins)
            (turn-trans (ins ++ outs) (us ++ vs) (vs ++ us) turn (turn_parts us vs))) one,
      ),
  λ same. subst (λ ks. IsTurn psi (us ++ ks)) (sym same.1) (subst (λ ks. IsTurn psi (ks ++ outs)) (sym same.0) split),
)
