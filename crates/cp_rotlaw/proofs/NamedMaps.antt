-- Lists under names, each with items of its own, in any order of the names.
use Rattle.std.proofs.Common.{◌≡◌, ℕ, ◌<◌, zero, suc, List, [], ◌∷◌, map, sym, refl, ◌∙◌, subst, inl, inr, ⊎_elim, arith}
use Rattle.std.proofs.lemmas.Bool.{cases_eq}
use Rattle.cp_lists.specs.CyclicLists.{Distinct, Has}
use Rattle.cp_lists.specs.Rows.{flat}
use Rattle.cp_lists.proofs.DistinctLists.{Distinct-append, Has-append_cases, Has-append_left, Has-append_right, Lacks-from, has_lacks}
use Rattle.cp_maps.specs.Maps.{Ring, Rings, SameRings}
use Rattle.cp_maps.proofs.MapLists.{IsMapOf-other}
use Rattle.cp_maps.proofs.NamedLists.{named_item}
use Rattle.cp_maplaw.proofs.NamedRests.{named_some}
use Rattle.cp_rot.specs.Rewrites.{values}

-- a number below n is one of the numbers below n
pub Has-numbers : (n w : ℕ) → w < n → Has w (values n (λ x. x))
Has-numbers zero w lt = absurd (omega arith)
Has-numbers (suc n) w lt = ⊎_elim
    (λ e. Has-append_right w (values n (λ x. x)) (n ∷ []) (inl (sym e)))
    (λ ne. Has-append_left w (values n (λ x. x)) (n ∷ []) (Has-numbers n w (omega arith)))
    (cases_eq w n)

-- and each of these is below n
pub numbers-below : (n w : ℕ) → Has w (values n (λ x. x)) → w < n
numbers-below zero w h = absurd h
numbers-below (suc n) w h = ⊎_elim
    (λ k. omega (arith, numbers-below n w k))
    (λ k. ⊎_elim (λ e. omega (arith, e)) (λ none. absurd none) k)
    (Has-append_cases w (values n (λ x. x)) (n ∷ []) h)

-- none of them stands twice
pub numbers-Distinct : (n : ℕ) → Distinct (values n (λ x. x))
numbers-Distinct zero = tt
numbers-Distinct (suc n) =
    Distinct-append (values n (λ x. x)) (n ∷ []) (numbers-Distinct n) (tt, tt)
    (λ w h. let lt = numbers-below n w h in ((λ e. omega arith), tt))

-- lists of names, where an item tells the name of its list
module _ (at : ℕ → ℕ) (lists : ℕ → List ℕ) where
  -- no item stands twice
  pub named_lists-Distinct : (names : List ℕ) → Distinct names → ((w : ℕ) → Has w names → Distinct (lists w))
      → ((w d : ℕ) → Has w names → Has d (lists w) → at d ≡ w) → Distinct (flat (map lists names))
  named_lists-Distinct [] once each placed = tt
  named_lists-Distinct (w ∷ names) once each placed =
      Distinct-append (lists w) (flat (map lists names)) (each w (inl refl))
      (named_lists-Distinct names once.1 (λ x h. each x (inr h)) (λ x d h k. placed x d (inr h) k))
      (λ d h. Lacks-from d (flat (map lists names)) (λ k.
      let o : (x : ℕ) × Has x names × Has d (lists x) = named_some lists names d k in
      has_lacks w names
      (subst (λ x. Has x names) (sym (placed o.0 d (inr o.1) o.2) ∙ placed w d (inl refl) h) o.1) once.0))

  -- the list of a name is a ring
  pub ring_of_name : (f : ℕ → ℕ) (names : List ℕ) (w : ℕ) → Rings f (map lists names) → Has w names
      → Ring f (lists w)
  ring_of_name f [] w rings h = absurd h
  ring_of_name f (x ∷ names) w rings h = ⊎_elim
      (λ e. subst (λ y. Ring f (lists y)) e rings.0)
      (λ k. ring_of_name f names w rings.1 k)
      h

  -- lists that are rings one by one
  pub rings_of_names : (f : ℕ → ℕ) (names : List ℕ) → ((w : ℕ) → Has w names → Ring f (lists w))
      → Rings f (map lists names)
  rings_of_names f [] each = tt
  rings_of_names f (w ∷ names) each = (each w (inl refl), rings_of_names f names (λ x h. each x (inr h)))

  -- the names in another order
  pub renamed-SameRings : (n : ℕ) (names others : List ℕ) → Distinct others
      → ((w : ℕ) → Has w names → Has w others) → ((w : ℕ) → Has w others → Has w names)
      → ((w d : ℕ) → Has w names → Has d (lists w) → at d ≡ w)
      → SameRings n (map lists names) (map lists others)
  renamed-SameRings n names others once to from placed f is =
      IsMapOf-other n f (map lists names) is (map lists others)
      (λ d h. let o : (w : ℕ) × Has w others × Has d (lists w) = named_some lists others d h in
      named_item lists names o.0 d (from o.0 o.1) o.2)
      (λ d h. let o : (w : ℕ) × Has w names × Has d (lists w) = named_some lists names d h in
      named_item lists others o.0 d (to o.0 o.1) o.2)
      (named_lists-Distinct others once (λ w h. (ring_of_name f names w is.rings (from w h)).distinct)
      (λ w d h k. placed w d (from w h) k))
      (rings_of_names f others (λ w h. ring_of_name f names w is.rings (from w h)))
