-- Rotation systems restricted to some of their edges.
use Rattle.std.proofs.Common.{◌≡◌, ℕ, zero, suc, ◌+◌, ◌*◌, ◌/◌, ◌%◌, ◌<◌, ◌≤◌, Bool, true, List, sym, refl, ap, ap₂, ◌∙◌, subst, ⊎_elim, arith}
use Rattle.std.proofs.lemmas.Bool.{cases_Bool, cond-true, cond-false}
use Rattle.std.specs.List.{filter}
use Rattle.cp_lists.specs.CyclicLists.{Has, follow}
use Rattle.cp_faces.specs.Faces.{on_edges}
use Rattle.cp_lists.proofs.CyclicLists.{follow-Has}
use Rattle.cp_rot.specs.Systems.{System, IsRotation, edges, vertex_of, list_of, next}
use Rattle.cp_rot.specs.Genus.{HasGenusZero}
use Rattle.cp_rot.specs.Rewrites.{deleted}
use Rattle.cp_rot.proofs.DeletedEdges.{IsRotation-deleted, deleted-edges, deleted-HasGenusZero}
use Rattle.cp_rotlaw.specs.Restrictions.{IsRestricted, restricted}
use Rattle.cp_rot.proofs.Functions.{next-follow}
use Rattle.cp_rot.proofs.ListSystems.{Listed, Listed-edges}
use Rattle.cp_lists.proofs.FilteredLists.{Has-filter, filter-Has}
use Rattle.cp_lists.proofs.MappedLists.{follow-map_on}

-- the edge of a dart with a new number
pub on_edges_half : (p : ℕ → ℕ) (d : ℕ) → on_edges p d / 2 ≡ p (d / 2)
on_edges_half p d = omega arith

-- the dart stays the first or the second of its edge
pub on_edges_bit : (p : ℕ → ℕ) (d : ℕ) → on_edges p d % 2 ≡ d % 2
on_edges_bit p d = omega arith

-- new numbers twice
pub on_edges-chain : (p q : ℕ → ℕ) (d : ℕ) → on_edges p (on_edges q d) ≡ on_edges (λ x. p (q x)) d
on_edges-chain p q d = ap₂ (λ (x y : ℕ). 2 * p x + y) (on_edges_half q d) (on_edges_bit q d)

-- functions with one value at the edge of a dart give it one number
pub on_edges_same : (p q : ℕ → ℕ) (d : ℕ) → p (d / 2) ≡ q (d / 2) → on_edges p d ≡ on_edges q d
on_edges_same p q d e = ap (λ (x : ℕ). 2 * x + d % 2) e

-- a number of an edge taken back
pub on_edges_back : (p q : ℕ → ℕ) (d : ℕ) → p (q (d / 2)) ≡ d / 2 → on_edges p (on_edges q d) ≡ d
on_edges_back p q d e = on_edges-chain p q d ∙ ap (λ (x : ℕ). 2 * x + d % 2) e ∙ omega arith

-- darts of edges with different numbers
pub on_edges-apart : (p : ℕ → ℕ) (c d : ℕ) → (p (c / 2) ≡ p (d / 2) → c / 2 ≡ d / 2) → on_edges p c ≡ on_edges p d
    → c ≡ d
on_edges-apart p c d apart e =
    let half : p (c / 2) ≡ p (d / 2) = sym (on_edges_half p c) ∙ ap (λ (x : ℕ). x / 2) e ∙ on_edges_half p d in
    let bit : c % 2 ≡ d % 2 = sym (on_edges_bit p c) ∙ ap (λ (x : ℕ). x % 2) e ∙ on_edges_bit p d in
    omega (arith, apart half, bit)

-- a system s, which is r with those edges alone that the test keeps
module _ (r s : System) (is : IsRotation r) (is' : IsRotation s) (keeps : ℕ → Bool) (number original : ℕ → ℕ)
    (res : IsRestricted r s keeps number original) where
  -- the dart of r that a dart of s is
  abbrev pub old : ℕ → ℕ
  old = on_edges original

  -- the list at the vertex of a dart of r
  abbrev pub kept_list : ℕ → List ℕ
  kept_list x = filter (λ d. keeps (d / 2)) (list_of r (vertex_of r x))

  -- it is a dart of an edge that is kept
  pub old_kept : (d : ℕ) → d < 2 * edges s → (old d < 2 * edges r) × (keeps (old d / 2) ≡ true)
      × (on_edges number (old d) ≡ d)
  old_kept d lt =
      let all = res.all (d / 2) (omega arith) in
      (omega (arith, all.0), ap keeps (on_edges_half original d) ∙ all.1, on_edges_back number original d all.2)

  -- the number of a dart that is kept
  pub new_kept : (d : ℕ) → d < 2 * edges r → keeps (d / 2) ≡ true
      → (on_edges number d < 2 * edges s) × (old (on_edges number d) ≡ d)
  new_kept d lt t =
      let kept = res.kept (d / 2) (omega arith) t in
      (omega (arith, kept.0), on_edges_back original number d kept.1)

  -- where it stands
  pub restricted_stand : (d : ℕ) → d < 2 * edges s → vertex_of s d ≡ vertex_of r (old d)
  restricted_stand d lt = res.stand d (omega (arith, is'.paired))

  -- the functions of r
  before : Listed r.vertices (2 * edges r) (vertex_of r) (list_of r)
  before = Listed-edges r (edges r) is refl

  -- items of the list are darts of r at its vertex, of edges that are kept
  pub kept_item : (x f : ℕ) → x < 2 * edges r → Has f (kept_list x)
      → (f < 2 * edges r) × (vertex_of r f ≡ vertex_of r x) × (keeps (f / 2) ≡ true)
  kept_item x f lt h =
      let w = filter-Has (λ d. keeps (d / 2)) f (list_of r (vertex_of r x)) h in
      let i = before.item (vertex_of r x) f (before.placed x lt) w.0 in
      (i.0, i.1, w.1)

  -- what is behind a dart in the list is one of them
  pub kept_follow : (x : ℕ) → x < 2 * edges r → keeps (x / 2) ≡ true → Has (follow (kept_list x) x) (kept_list x)
  kept_follow x lt t = follow-Has x (kept_list x) (Has-filter (λ d. keeps (d / 2)) x (list_of r (vertex_of r x)) (before.own x lt) t)

  -- behind a dart comes the next that is kept
  pub restricted_next : (x : ℕ) → x < 2 * edges r → keeps (x / 2) ≡ true
      → next s (on_edges number x) ≡ on_edges number (follow (kept_list x) x)
  restricted_next x lt t =
      let new = new_kept x lt t in
      let place : vertex_of s (on_edges number x) ≡ vertex_of r x = restricted_stand (on_edges number x) new.0 ∙ ap (vertex_of r) new.1 in
      next-follow s is' (on_edges number x) (omega (arith, new.0, is'.paired))
      ∙ ap (λ xs. follow xs (on_edges number x)) (ap (list_of s) place ∙ res.lists (vertex_of r x) (before.placed x lt))
      ∙ follow-map_on (on_edges number) x (kept_list x)
      (λ f h e. let i = kept_item x f lt h in sym (new_kept f i.0 i.2).1 ∙ ap old e ∙ new.1)
      (Has-filter (λ d. keeps (d / 2)) x (list_of r (vertex_of r x)) (before.own x lt) t)

-- a system of genus zero of which some edges are deleted is one
pub restricted_zero : (n : ℕ) (keeps : ℕ → Bool) (r : System) → IsRotation r → n ≤ edges r → HasGenusZero r
    → IsRotation (restricted n keeps r) × HasGenusZero (restricted n keeps r)
restricted_zero zero keeps r is le z = (is, z)
restricted_zero (suc n) keeps r is le z = ⊎_elim
    (λ t. subst (λ s. IsRotation (restricted n keeps s) × HasGenusZero (restricted n keeps s)) (sym (cond-true (keeps n) r (deleted r n) t)) (restricted_zero n keeps r is (omega arith) z))
    (λ f. subst (λ s. IsRotation (restricted n keeps s) × HasGenusZero (restricted n keeps s)) (sym (cond-false (keeps n) r (deleted r n) f))
    (restricted_zero n keeps (deleted r n) (IsRotation-deleted r is n (omega arith)) (omega (arith, deleted-edges r is n (omega arith))) (deleted-HasGenusZero r is n (omega arith) z)))
    (cases_Bool (keeps n))
