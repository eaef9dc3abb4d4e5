-- Two poles that are linked beside a branch, by a component of what is beside it.
use Rattle.std.proofs.Common.{ℕ, ◌*◌, Bool, List, [], ◌∷◌, ◌++◌, append_assoc, suc, length, lt-suc_self, sym, subst, ⊎_elim}
use Rattle.std.specs.List.{filter}
use Rattle.cp_lists.specs.CyclicLists.{Has}
use Rattle.cp_lists.specs.Rows.{flat}
use Rattle.cp_lists.proofs.DistinctLists.{Has-append_left, Has-append_right}
use Rattle.cp_lists.proofs.FlatLists.{flat-append}
use Rattle.cp_faces.specs.Twins.{twin}
use Rattle.cp_maps.specs.Genus.{CanBeFlat, IsFlat, OnePart}
use Rattle.cp_maps.specs.Gluings.{Grown}
use Rattle.cp_maps.specs.Maps.{IsMapOf, SameRings}
use Rattle.cp_maps.proofs.FewerDarts.{last_lists-CanBeFlat, swapped_lists-CanBeFlat}
use Rattle.cp_maps.proofs.Growth.{OnePart-grown, grown, middle_cases}
use Rattle.cp_maps.proofs.MapLists.{IsMapOf-among, IsMapOf-exchanged, IsMapOf-front, IsMapOf-third}
use Rattle.cp_mergelaw.specs.Branches.{AreLinked}
use Rattle.cp_mergelaw.specs.Merges.{Among}
use Rattle.cp_mergelaw.proofs.ClosedBranches.{filtered_list-CanBeFlat}
use Rattle.cp_mergelaw.proofs.NextMerges.{list_of_dart}

-- the twins of two darts at the poles are of one component of the lists beside the branch
module _ (e : ℕ) (h : ℕ → ℕ) (us vs : List ℕ) (rows inner beside : List (List ℕ)) (y q : ℕ)
    (same : SameRings (2 * e) (us ∷ vs ∷ rows) (us ∷ vs ∷ (inner ++ beside))) (is_h : IsMapOf (2 * e) h beside)
    (hy : Has (twin y) (flat beside)) (hq : Has (twin q) (flat beside)) (one : OnePart e h (twin y) (twin q)) where
  -- the list of the first of them
  at : Among beside (Has (twin y))
  at = list_of_dart (twin y) beside hy

  -- the others
  abbrev rest : List (List ℕ)
  rest = at.before ++ at.behind

  -- what grows from it
  grow : Grown at.row rest
  grow = grown (suc (length rest)) at.row rest (lt-suc_self (length rest))

  -- the lists beside the branch, in this order
  h_lists : IsMapOf (2 * e) h (at.row ∷ (grow.taken ++ grow.left))
  h_lists =
      grow.order (2 * e) h (at.row ∷ [])
      (IsMapOf-front (2 * e) h at.row at.before at.behind (subst (IsMapOf (2 * e) h) at.whole is_h))

  -- the first of the twins is of the component
  first_in : Has (twin y) (at.row ++ flat grow.taken)
  first_in = Has-append_left (twin y) at.row (flat grow.taken) at.fine

  -- the second is in one of the lists
  second_somewhere : Has (twin q) (at.row ++ flat (grow.taken ++ grow.left))
  second_somewhere = ⊎_elim
      (λ k. Has-append_left (twin q) at.row (flat (grow.taken ++ grow.left)) k)
      (λ k. Has-append_right (twin q) at.row (flat (grow.taken ++ grow.left))
      (subst (Has (twin q)) (sym (flat-append grow.taken grow.left)) (⊎_elim
      (λ l. Has-append_left (twin q) (flat grow.taken) (flat grow.left) l)
      (λ l. Has-append_right (twin q) (flat grow.taken) (flat grow.left) l)
      (grow.each (twin q) k))))
      (middle_cases (twin q) at.before at.row at.behind (subst (λ g. Has (twin q) (flat g)) at.whole hq))

  -- the lists of the whole map, with those of the component in front of the branch
  ordered : (f : ℕ → ℕ) → IsMapOf (2 * e) f (us ∷ vs ∷ rows)
      → IsMapOf (2 * e) f (us ∷ vs ∷ ((at.row ∷ grow.taken) ++ (inner ++ grow.left)))
  ordered f is =
      let n : ℕ = 2 * e in
      let front : IsMapOf n f (at.row ∷ us ∷ vs ∷ ((inner ++ at.before) ++ at.behind)) =
      IsMapOf-front n f at.row (us ∷ vs ∷ (inner ++ at.before)) at.behind
      (subst (λ g. IsMapOf n f (us ∷ vs ∷ g)) (sym (append_assoc inner at.before (at.row ∷ at.behind)))
      (subst (λ g. IsMapOf n f (us ∷ vs ∷ (inner ++ g))) at.whole (same f is))) in
      let grown_lists : IsMapOf n f (at.row ∷ us ∷ vs ∷ (inner ++ (grow.taken ++ grow.left))) =
      grow.order n f (at.row ∷ us ∷ vs ∷ inner)
      (subst (λ g. IsMapOf n f (at.row ∷ us ∷ vs ∷ g)) (append_assoc inner at.before at.behind) front) in
      let poles : IsMapOf n f (us ∷ vs ∷ at.row ∷ (inner ++ (grow.taken ++ grow.left))) =
      IsMapOf-third n f vs at.row us (inner ++ (grow.taken ++ grow.left))
      (IsMapOf-third n f at.row us vs (inner ++ (grow.taken ++ grow.left)) grown_lists) in
      IsMapOf-exchanged n f (us ∷ vs ∷ at.row ∷ grow.taken) grow.left inner
      (subst (λ g. IsMapOf n f (us ∷ vs ∷ at.row ∷ g)) (append_assoc grow.taken grow.left inner)
      (IsMapOf-exchanged n f (us ∷ vs ∷ at.row ∷ []) inner (grow.taken ++ grow.left) poles))

  -- then the poles are linked by this component
  pub OnePart-AreLinked : AreLinked e us vs rows inner y q
  OnePart-AreLinked = record {
    first = at.row;
    link = grow.taken;
    others = grow.left;
    beside = ordered;
    grows = grow.grows;
    into = first_in;
    out = OnePart-grown e h at.row grow.taken grow.left h_lists grow.grows grow.closed (twin y) (twin q) first_in
        second_somewhere one;
  }

-- some darts of the one pole, with some of the lists between the poles, can be flat
pub rest-CanBeFlat : (e : ℕ) (f : ℕ → ℕ) (keep : ℕ → Bool) (us vs : List ℕ) (rows inner others : List (List ℕ))
    → IsMapOf (2 * e) f (us ∷ vs ∷ rows) → IsFlat e f
    → SameRings (2 * e) (us ∷ vs ∷ rows) (us ∷ vs ∷ (inner ++ others)) → CanBeFlat e (filter keep vs ∷ others)
rest-CanBeFlat e f keep us vs rows inner others is z same =
    let kept : CanBeFlat e (filter keep vs ∷ us ∷ (inner ++ others)) =
    filtered_list-CanBeFlat e keep vs (us ∷ (inner ++ others))
    (swapped_lists-CanBeFlat e us vs (inner ++ others) (f, same f is, z)) in
    last_lists-CanBeFlat e (us ∷ inner) (filter keep vs ∷ others)
    (kept.0, IsMapOf-among (2 * e) kept.0 (filter keep vs) (us ∷ inner) others kept.1, kept.2)
