-- Values of keys in tables.
use Rattle.std.proofs.Common.{◌≡◌, ℕ, cond, eqb, List, [], ◌∷◌, sym, refl, ap, ◌∙◌, ⊎_elim, arith}
use Rattle.std.specs.Prelude.{Some}
use Rattle.std.specs.Option.{unwrap_or}
use Rattle.std.specs.Map.{lookup}
use Rattle.std.specs.BTreeMap.{is_at}
use Rattle.std.specs.Ordering.{is_eq, nat_cmp}
use Rattle.std.proofs.lemmas.Bool.{cases_eq, eq-eqb, ne_eqb}
use Rattle.cp_plant.specs.Tables.{value_or}

-- a query for x passes at y exactly where they are equal
at_equal : (x y : ℕ) → is_eq (nat_cmp x y) ≡ eqb y x
at_equal x y = grind arith

-- what a tree finds at a key is the value of the first pair of the key
pub lookup-value_or : (es : List (ℕ × ℕ)) (x d : ℕ) → unwrap_or (lookup (is_at (nat_cmp x)) es) d ≡ value_or es x d
lookup-value_or [] x d = refl
lookup-value_or (e ∷ es) x d = ⊎_elim
    (λ (y : e.0 ≡ x). rw (at_equal x e.0) (rw (eq-eqb e.0 x y) refl))
    (λ n. rw (at_equal x e.0) (rw (ne_eqb e.0 x n) (lookup-value_or es x d)))
    (cases_eq e.0 x)

-- a tree in which a key has a new value has the old values at other keys
pub put-value_or : (old new : List (ℕ × ℕ)) (k v x d : ℕ)
    → lookup (is_at (nat_cmp x)) new ≡ cond (is_at (nat_cmp k) x) (Some v) (lookup (is_at (nat_cmp x)) old)
    → value_or new x d ≡ cond (eqb k x) v (value_or old x d)
put-value_or old new k v x d e = ⊎_elim
    (λ (y : k ≡ x). rw (eq-eqb k x y) (sym (lookup-value_or new x d)
    ∙ ap (λ o. unwrap_or o d) (e
    ∙ ap (λ b. cond b (Some v) (lookup (is_at (nat_cmp x)) old)) (at_equal k x ∙ eq-eqb x k (sym y)))))
    (λ n. rw (ne_eqb k x n) (sym (lookup-value_or new x d)
    ∙ ap (λ o. unwrap_or o d) (e
    ∙ ap (λ b. cond b (Some v) (lookup (is_at (nat_cmp x)) old)) (at_equal k x ∙ ne_eqb x k (λ z. n (sym z))))
    ∙ lookup-value_or old x d))
    (cases_eq k x)
