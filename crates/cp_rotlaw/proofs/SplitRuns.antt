-- A run of darts of a vertex moved to a new vertex: genus zero before is genus zero afterwards.
use Rattle.std.proofs.Common.{◌≡◌, ◌≢◌, ℕ, zero, suc, ◌+◌, ◌*◌, ◌/◌, ◌<◌, ◌⊎◌, ◌↔◌, Bool, true, false, not, ◌&&◌, ◌||◌, eqb, sym, refl, ap, ap₂, ◌∙◌, subst, inl, inr, ⊎_elim, arith}
use Rattle.std.specs.Fn.{iterate}
use Rattle.std.proofs.lemmas.Bool.{cases_Bool, cases_eq, eq-eqb, ne_eqb, or_right, false≢true, or_left}
use Rattle.cp_orbits.specs.Classes.{labels, joined, Respects}
use Rattle.cp_orbits.specs.Orbits.{exchange}
use Rattle.cp_faces.specs.Faces.{Turns, Renames, ends_upto, faces, components}
use Rattle.cp_lists.proofs.Counting.{first_below}
use Rattle.cp_orbits.proofs.ClassLabels.{same_labels}
use Rattle.cp_orbits.proofs.OrbitLaws.{Permutes-onto, exchange_case, exchange_left, exchange_other}
use Rattle.cp_orbits.proofs.Exchanges.{Renumbers-exchange, joined_at, joined_other}
use Rattle.cp_faces.proofs.Faces.{zero-agree, faces_upto-agree, components-agree}
use Rattle.cp_faces.proofs.Renaming.{Respects-ends, Renames-vertices, faces-renamed, components-renamed}
use Rattle.cp_faces.proofs.Rewrites.{merged_vertices_between-zero}
use Rattle.cp_rot.specs.Systems.{System, IsRotation, edges, vertex_of, next}
use Rattle.cp_rot.specs.Genus.{HasGenusZero}
use Rattle.cp_rotlaw.specs.Restrictions.{split_off}
use Rattle.cp_rotlaw.proofs.SplitParts.{split_by_parts}
use Rattle.cp_rotlaw.specs.Restrictions.{IsRestricted, MeetAt, IsLastTaken, IsRunAtVertex}
use Rattle.cp_rot.proofs.Functions.{Turns-system, HasGenusZero-from}
use Rattle.cp_rot.proofs.ListSystems.{turn, Listed-Rotates, system_zero}
use Rattle.cp_rotlaw.proofs.BareVertices.{Rotates-more, faces-more_vertices, components-more_vertices}
use Rattle.cp_rotlaw.proofs.SplitVertices.{at_split, lists_split, split_moved, split_left, split_other, Listed-split, of_taken, of_taken_yes, of_taken_u, of_taken_no, split_turn_kind, split_turn_same}
use Rattle.cp_rotlaw.proofs.RestrictionLaws.{split_keeps_zero}

-- the darts at u of the edges that are taken moved to a new vertex
module _ (r : System) (is : IsRotation r) (u : ℕ) (lt : u < r.vertices) (takes : ℕ → Bool)
    (meet : MeetAt r u takes) where
  -- how many vertices there were
  abbrev v : ℕ
  v = r.vertices

  -- how many darts there are
  abbrev n : ℕ
  n = 2 * edges r

  -- the vertices of the darts of the result
  abbrev at : ℕ → ℕ
  at = at_split r is u lt takes

  -- the darts behind them
  abbrev behind : ℕ → ℕ
  behind = turn (at_split r is u lt takes) (lists_split r is u lt takes)

  -- the system is a rotation
  old_turns : Turns v (edges r) (vertex_of r) (next r)
  old_turns = Turns-system r is

  -- so is the result
  new_turns : Turns (v + 1) (edges r) at behind
  new_turns = Listed-Rotates (v + 1) n at (lists_split r is u lt takes) (Listed-split r is u lt takes)

  -- genus zero of the result, by its functions
  zero_split : HasGenusZero (split_off r u takes) → v + 1 + faces (v + 1) (edges r) at behind
      ≡ edges r + 2 * components (v + 1) (edges r) at
  zero_split z = (system_zero (v + 1) (edges r) at (lists_split r is u lt takes) behind (Listed-split r is u lt takes) (λ d l. refl)).0 z

  -- the dart behind a dart elsewhere than at u is of its kind
  kind_elsewhere : (d : ℕ) → d < n → (vertex_of r d ≡ u → ⊥) → takes (next r d / 2) ≡ takes (d / 2)
  kind_elsewhere d l ne = meet (next r d) d (omega (arith, is.paired, old_turns.permutes.below d l)) (omega (arith, is.paired)) (old_turns.kept d l) (λ e. ne (sym (old_turns.kept d l) ∙ e))

  -- where one bare vertex more is all that is new
  bare_only : ((d : ℕ) → d < n → behind d ≡ next r d) → faces (v + 1) (edges r) at (next r) ≡ faces (v + 1) (edges r)
      (vertex_of r) (next r) → components (v + 1) (edges r) at ≡ components (v + 1) (edges r) (vertex_of r)
      → HasGenusZero (split_off r u takes) → HasGenusZero r
  bare_only same_behind same_faces same_components z =
      let s = zero_split z in
      let f : faces (v + 1) (edges r) at behind ≡ faces v (edges r) (vertex_of r) (next r) + 1 =
      faces_upto-agree (v + 1) n (edges r) at behind at (next r) (λ d l. refl) same_behind (omega arith) ∙ same_faces ∙ faces-more_vertices v 1 (edges r) (vertex_of r) (next r) old_turns.placed in
      let c : components (v + 1) (edges r) at ≡ components v (edges r) (vertex_of r) + 1 = same_components ∙ components-more_vertices v 1 (edges r) (vertex_of r) old_turns.placed in
      HasGenusZero-from r is (omega arith)

  -- where no dart at u is taken
  none_taken : ((d : ℕ) → d < n → vertex_of r d ≡ u → takes (d / 2) ≡ false) → HasGenusZero (split_off r u takes)
      → HasGenusZero r
  none_taken none = bare_only
      (λ d l. split_turn_same r is u lt takes meet d l (⊎_elim
      (λ e. none (next r d) (old_turns.permutes.below d l) (old_turns.kept d l ∙ e) ∙ sym (none d l e))
      (kind_elsewhere d l)
      (cases_eq (vertex_of r d) u)))
      (faces_upto-agree (v + 1) n (edges r) at (next r) (vertex_of r) (next r) same_at (λ d l. refl) (omega arith))
      (components-agree (v + 1) (edges r) at (vertex_of r) same_at)
    where
      same_at : (d : ℕ) → d < n → at d ≡ vertex_of r d
      same_at d l = ⊎_elim (λ e. split_left r is u lt takes d (none d l e)) (split_other r is u lt takes d) (cases_eq (vertex_of r d) u)

  -- where all darts at u are taken
  all_taken : ((d : ℕ) → d < n → vertex_of r d ≡ u → takes (d / 2) ≡ true) → HasGenusZero (split_off r u takes)
      → HasGenusZero r
  all_taken all = bare_only
      (λ d l. split_turn_same r is u lt takes meet d l (⊎_elim
      (λ e. all (next r d) (old_turns.permutes.below d l) (old_turns.kept d l ∙ e) ∙ sym (all d l e))
      (kind_elsewhere d l)
      (cases_eq (vertex_of r d) u)))
      (faces_upto-agree (v + 1) n (edges r) at (next r) (λ d. exchange u v (vertex_of r d)) (next r) same_at (λ d l. refl) (omega arith)
      ∙ faces-renamed (v + 1) (edges r) (exchange u v) (exchange u v) (λ d. d) (λ d. d) (vertex_of r) (next r) (λ d. exchange u v (vertex_of r d)) (next r) more numbers)
      (components-agree (v + 1) (edges r) at (λ d. exchange u v (vertex_of r d)) same_at
      ∙ components-renamed (v + 1) (edges r) (exchange u v) (exchange u v) (λ d. d) (λ d. d) (vertex_of r) (next r) (λ d. exchange u v (vertex_of r d)) (next r) more numbers)
    where
      same_at : (d : ℕ) → d < n → at d ≡ exchange u v (vertex_of r d)
      same_at d l = ⊎_elim
          (λ e. split_moved r is u lt takes d e (all d l e) ∙ sym (exchange_left u v (vertex_of r d) e))
          (λ ne. split_other r is u lt takes d ne ∙ sym (exchange_other u v (vertex_of r d) ne (λ e. omega (arith, old_turns.placed d l))))
          (cases_eq (vertex_of r d) u)

      more : Turns (v + 1) (edges r) (vertex_of r) (next r)
      more = Rotates-more v (v + 1) n (vertex_of r) (next r) (omega arith) old_turns

      numbers : Renames (v + 1) (edges r) (exchange u v) (exchange u v) (λ d. d) (λ d. d) (vertex_of r) (next r)
          (λ d. exchange u v (vertex_of r d)) (next r)
      numbers = Renames-vertices (v + 1) (edges r) (exchange u v) (exchange u v) (vertex_of r) (next r) more (Renumbers-exchange (v + 1) u v (omega arith) (omega arith))

  -- from a dart that is taken one that is not is reached over a last one
  last_before : (k d : ℕ) → d < n → vertex_of r d ≡ u → takes (d / 2) ≡ true
      → ((a : ℕ) × (a < n) × (vertex_of r a ≡ u) × IsLastTaken r takes a) ⊎ (takes (iterate (next r) k d / 2) ≡ true)
  last_before zero d l e t = inr t
  last_before (suc k) d l e t = ⊎_elim
      (λ more. last_before k (next r d) (old_turns.permutes.below d l) (old_turns.kept d l ∙ e) more)
      (λ stop. inl (d, l, e, (t, stop)))
      (cases_Bool (takes (next r d / 2)))

  -- the vertices of the edges that are taken, the new one among them
  abbrev side : ℕ → Bool
  side x = eqb x v || of_taken r is u lt takes x

  -- they are those of the darts that are taken
  side_at : (d : ℕ) → d < n → side (at d) ≡ takes (d / 2)
  side_at d l = ⊎_elim
      (λ t. ⊎_elim
      (λ e. ap side (split_moved r is u lt takes d e t) ∙ or_left (eqb v v) (of_taken r is u lt takes v) (eq-eqb v v refl) ∙ sym t)
      (λ ne. ap side (split_other r is u lt takes d ne) ∙ or_right (eqb (vertex_of r d) v) (of_taken r is u lt takes (vertex_of r d)) (of_taken_yes r is u lt takes d l t ne) ∙ sym t)
      (cases_eq (vertex_of r d) u))
      (λ f. ap side (split_left r is u lt takes d f) ∙ ap₂ (λ a b. a || b) (ne_eqb (vertex_of r d) v (λ e. omega (arith, old_turns.placed d l))) (of_taken_no r is u lt takes meet d l f) ∙ sym f)
      (cases_Bool (takes (d / 2)))

  -- u and the new vertex are in two components
  two_components : labels (ends_upto at (edges r)) u ≢ labels (ends_upto at (edges r)) v
  two_components same =
      let respected : Respects side (ends_upto at (edges r)) = Respects-ends side at (edges r) (λ k l.
      let even : 2 * k / 2 ≡ k = omega arith in
      let odd : (2 * k + 1) / 2 ≡ k = omega arith in
      side_at (2 * k) (omega arith) ∙ ap takes (even ∙ sym odd) ∙ sym (side_at (2 * k + 1) (omega arith))) in
      let one : side u ≡ side v = same_labels side (ends_upto at (edges r)) u v respected same in
      false≢true (sym (ap₂ (λ a b. a || b) (ne_eqb u v (λ e. omega arith)) (of_taken_u r is u lt takes)) ∙ one ∙ or_left (eqb v v) (of_taken r is u lt takes v) (eq-eqb v v refl))

  -- where the darts at u that are taken are a run, and a is the last of them
  module _ (run : IsRunAtVertex r u takes) (a : ℕ) (lta : a < n) (stands : vertex_of r a ≡ u)
      (last : IsLastTaken r takes a) where
    -- behind it comes what came behind any dart that is the last of the others
    after_run : (b : ℕ) → b < n → vertex_of r b ≡ u → takes (b / 2) ≡ false → takes (next r b / 2) ≡ true
        → behind a ≡ next r b
    after_run b ltb e f t =
        let w = Permutes-onto n behind new_turns.permutes (next r b) (old_turns.permutes.below b ltb) in
        let c : ℕ = w.0 in
        let taken_c : takes (c / 2) ≡ true = sym (split_turn_kind r is u lt takes meet c w.1) ∙ ap (λ (x : ℕ). takes (x / 2)) w.2 ∙ t in
        let at_c : at c ≡ v = sym (new_turns.kept c w.1) ∙ ap at w.2 ∙ split_moved r is u lt takes (next r b) (old_turns.kept b ltb ∙ e) t in
        let stands_c : vertex_of r c ≡ u = ⊎_elim (λ h. h) (λ ne. absurd (omega (arith, at_c, split_other r is u lt takes c ne, old_turns.placed c w.1))) (cases_eq (vertex_of r c) u) in
        let last_c : takes (next r c / 2) ≡ false = ⊎_elim
        (λ more.
        let same : c ≡ b = old_turns.permutes.apart c b w.1 ltb (sym (split_turn_same r is u lt takes meet c w.1 (more ∙ sym taken_c)) ∙ w.2) in
        absurd (false≢true (sym f ∙ ap (λ (x : ℕ). takes (x / 2)) (sym same) ∙ taken_c)))
        (λ stop. stop)
        (cases_Bool (takes (next r c / 2))) in
        let is_a : c ≡ a = run c a (omega (arith, w.1, is.paired)) (omega (arith, is.paired)) stands_c stands (taken_c, last_c) last in
        ap behind (sym is_a) ∙ w.2

    -- the last of the others
    last_left : (b : ℕ) × (b < n) × (vertex_of r b ≡ u) × (takes (b / 2) ≡ false) × (takes (next r b / 2) ≡ true)
        × (behind b ≡ next r a)
    last_left =
        let w = Permutes-onto n behind new_turns.permutes (next r a) (old_turns.permutes.below a lta) in
        let b : ℕ = w.0 in
        let left_b : takes (b / 2) ≡ false = sym (split_turn_kind r is u lt takes meet b w.1) ∙ ap (λ (x : ℕ). takes (x / 2)) w.2 ∙ last.1 in
        let stands_b : vertex_of r b ≡ u = sym (split_left r is u lt takes b left_b) ∙ sym (new_turns.kept b w.1) ∙ ap at w.2 ∙ split_left r is u lt takes (next r a) last.1 ∙ old_turns.kept a lta ∙ stands in
        let turn_b : takes (next r b / 2) ≡ true = ⊎_elim
        (λ t. t)
        (λ f.
        let same : b ≡ a = old_turns.permutes.apart b a w.1 lta (sym (split_turn_same r is u lt takes meet b w.1 (f ∙ sym left_b)) ∙ w.2) in
        absurd (false≢true (sym left_b ∙ ap (λ (x : ℕ). takes (x / 2)) same ∙ last.0)))
        (cases_Bool (takes (next r b / 2))) in
        (b, w.1, stands_b, left_b, turn_b, w.2)

    -- it
    abbrev b : ℕ
    b = last_left.0

    -- behind all other darts comes what came
    elsewhere : (d : ℕ) → d < n → (d ≡ b → ⊥) → (d ≡ a → ⊥) → behind d ≡ next r d
    elsewhere d l nb na = split_turn_same r is u lt takes meet d l (⊎_elim
        (λ e. ⊎_elim
        (λ t. ⊎_elim
        (λ more. more ∙ sym t)
        (λ stop. absurd (na (run d a (omega (arith, is.paired)) (omega (arith, is.paired)) e stands (t, stop) last)))
        (cases_Bool (takes (next r d / 2))))
        (λ f. ⊎_elim
        (λ more. absurd (nb (old_turns.permutes.apart d b l last_left.1 (sym (after_run d l e f more) ∙ after_run b last_left.1 last_left.2 last_left.3 last_left.4))))
        (λ stop. stop ∙ sym f)
        (cases_Bool (takes (next r d / 2))))
        (cases_Bool (takes (d / 2))))
        (kind_elsewhere d l)
        (cases_eq (vertex_of r d) u))

    -- what is behind a and b is exchanged
    exchanged : (d : ℕ) → d < n → behind (exchange b a d) ≡ next r d
    exchanged d l = exchange_case (λ x. behind x ≡ next r d) b a d
        (λ e. after_run b last_left.1 last_left.2 last_left.3 last_left.4 ∙ ap (next r) (sym e))
        (λ nb e. last_left.5 ∙ ap (next r) (sym e))
        (λ nb na. elsewhere d l nb na)

    -- with the two vertices made one the darts stand where they stood
    rejoined : (d : ℕ) → d < n → joined (exchange v v u) v (exchange v v (at d)) ≡ vertex_of r d
    rejoined d l =
        let alone : (x : ℕ) → exchange v v x ≡ x = λ x. exchange_case (λ y. y ≡ x) v v x (λ e. sym e) (λ ne e. sym e) (λ ne nf. refl) in
        ap₂ (λ (x y : ℕ). joined x v y) (alone u) (alone (at d)) ∙ ⊎_elim
        (λ e. ⊎_elim
        (λ t. joined_at u v (at d) (split_moved r is u lt takes d e t) ∙ sym e)
        (λ f. ap (joined u v) (split_left r is u lt takes d f) ∙ joined_other u v (vertex_of r d) (λ h. omega (arith, old_turns.placed d l)))
        (cases_Bool (takes (d / 2))))
        (λ ne. ap (joined u v) (split_other r is u lt takes d ne) ∙ joined_other u v (vertex_of r d) (λ h. omega (arith, old_turns.placed d l)))
        (cases_eq (vertex_of r d) u)

    -- genus zero of the result is genus zero before
    run_back : HasGenusZero (split_off r u takes) → HasGenusZero r
    run_back z =
        let more : v + 1 ≡ suc v = omega arith in
        let s : suc v + faces (suc v) (edges r) at behind ≡ edges r + 2 * components (suc v) (edges r) at = subst (λ k. k + faces k (edges r) at behind ≡ edges r + 2 * components k (edges r) at) more (zero_split z) in
        let turns : Turns (suc v) (edges r) at behind = subst (λ k. Turns k (edges r) at behind) more new_turns in
        HasGenusZero-from r is (zero-agree v (edges r) (λ d. joined (exchange v v u) v (exchange v v (at d))) (λ d. behind (exchange b a d)) (vertex_of r) (next r) rejoined exchanged
        (merged_vertices_between-zero v (edges r) b a u v at behind turns last_left.1 lta
        (split_left r is u lt takes b last_left.3 ∙ last_left.2) (split_moved r is u lt takes a stands last.0) (λ e. omega arith) two_components s))

  -- a dart at u that a test passes, or none does
  dart_at_u : (p : ℕ → Bool) → ((d : ℕ) × (d < n) × (vertex_of r d ≡ u) × (p d ≡ true)) ⊎ ((d : ℕ) → d < n
      → vertex_of r d ≡ u → p d ≡ false)
  dart_at_u p = ⊎_elim
      (λ found. ⊎_elim
      (λ e. ⊎_elim (λ t. inl (found.0, found.1, e, t)) (λ f. absurd (false≢true (sym (ap₂ (λ a b. a && b) (eq-eqb (vertex_of r found.0) u e) f) ∙ found.2))) (cases_Bool (p found.0)))
      (λ ne. absurd (false≢true (sym (ap (λ a. a && p found.0) (ne_eqb (vertex_of r found.0) u ne)) ∙ found.2)))
      (cases_eq (vertex_of r found.0) u))
      (λ none. inr (λ d l e. sym (ap (λ a. a && p d) (eq-eqb (vertex_of r d) u e)) ∙ none d l))
      (first_below n (λ d. eqb (vertex_of r d) u && p d))

  -- a run of darts moved to a new vertex: genus zero before is genus zero afterwards
  pub run_zero : IsRunAtVertex r u takes → HasGenusZero r ↔ HasGenusZero (split_off r u takes)
  run_zero run = (
    split_keeps_zero r u takes is lt meet,
    λ z. ⊎_elim
        (λ t. ⊎_elim
        (λ f.
        let walk = old_turns.around t.0 f.0 t.1 f.1 (t.2 ∙ sym f.2) in
        ⊎_elim
        (λ w. run_back run w.0 w.1 w.2 w.3 z)
        (λ taken. absurd (false≢true (sym (ap not (ap (λ (x : ℕ). takes (x / 2)) (sym walk.1) ∙ taken)) ∙ f.3)))
        (last_before walk.0 t.0 t.1 t.2 t.3))
        (λ none. all_taken (λ d l e. not_fails (takes (d / 2)) (none d l e)) z)
        (dart_at_u (λ d. not (takes (d / 2)))))
        (λ none. none_taken none z)
        (dart_at_u (λ d. takes (d / 2))),
  )
    where
      not_fails : (c : Bool) → not c ≡ false → c ≡ true
      not_fails true e = refl
      not_fails false e = absurd (false≢true (sym e))

-- two sets of edges that meet at one vertex, the darts of one of them there in a run: genus zero is that of both parts
pub run_by_parts : (r a b : System) → IsRotation r → IsRotation a → IsRotation b → (u : ℕ) → u < r.vertices
    → (takes : ℕ → Bool) → MeetAt r u takes → IsRunAtVertex r u takes → (na oa nb ob : ℕ → ℕ)
    → IsRestricted r a (λ e. not (takes e)) na oa → IsRestricted r b takes nb ob
    → HasGenusZero r ↔ (HasGenusZero a × HasGenusZero b)
run_by_parts r a b is is_a is_b u lt takes meet run na oa nb ob res_a res_b =
    let split = run_zero r is u lt takes meet run in
    let parts = split_by_parts r is u lt takes meet a b is_a is_b na oa nb ob res_a res_b in
    (λ z. parts.0 (split.0 z), λ both. split.1 (parts.1 both))
