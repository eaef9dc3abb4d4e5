-- An edge deleted or contracted and two vertices merged, wherever they stand: what goes takes the last
-- number first, and the last takes its number.
use Rattle.std.proofs.Common.{◌≡◌, ℕ, suc, ◌+◌, ◌*◌, ◌<◌, ◌≢◌, sym, refl, ap, ◌∙◌, subst, arith, lt-suc_self}
use Rattle.cp_orbits.specs.Classes.{labels, graph, joined}
use Rattle.cp_orbits.specs.Orbits.{exchange, Renumbers}
use Rattle.cp_faces.specs.Faces.{ends_upto, Turns, face_upto, faces, components, drop_edge, contracted, Renames, on_edges, renamed_at, renamed_next}
use Rattle.cp_orbits.proofs.ClassLabels.{labels-respects, same_labels}
use Rattle.cp_orbits.proofs.OrbitLaws.{exchange_left, exchange_right, exchange-below, exchange-exchange, exchange-apart}
use Rattle.cp_orbits.proofs.Exchanges.{Renumbers-exchange}
use Rattle.cp_faces.proofs.Faces.{Turns-drop_edge, drop_edge-zero}
use Rattle.cp_faces.proofs.Merges.{Turns-merged, merged_within-zero, merged_between-zero, Turns-contracted, faces-contracted, components-contracted}
use Rattle.cp_faces.proofs.Renaming.{Renames-vertices, Respects-ends, ends-respects, Renames-Turns, faces-renamed, components-renamed, Renumbers-on_edges, partner-on_edges, on_edges_even, on_edges_odd}

-- vertices and edges with new numbers
pub Renames-both : (v e : ℕ) (h back p q at next : ℕ → ℕ) → Turns v e at next → Renumbers v h back → Renumbers e p q
    → Renames v e h back (on_edges p) (on_edges q) at next (renamed_at h q at) (renamed_next p q next)
Renames-both v e h back p q at next rot vertices edges =
    let darts : Renumbers (2 * e) (on_edges p) (on_edges q) = Renumbers-on_edges e p q edges in
    record {
      vertices = vertices;
      darts = darts;
      pairs = partner-on_edges e p edges.there;
      stand = λ d lt. ap (λ (y : ℕ). h (at y)) (darts.there_back d lt);
      follow = λ d lt. ap (λ (y : ℕ). on_edges p (next y)) (darts.there_back d lt);
    }

-- genus zero stays where vertices and edges have new numbers
pub renamed-zero : (v e : ℕ) (h back k undo at next at' next' : ℕ → ℕ) → Turns v e at next
    → Renames v e h back k undo at next at' next' → v + faces v e at next ≡ e + 2 * components v e at
    → v + faces v e at' next' ≡ e + 2 * components v e at'
renamed-zero v e h back k undo at next at' next' rot ren zero_genus = omega (arith, faces-renamed v e h back k undo at next at' next' rot ren, components-renamed v e h back k undo at next at' next' rot ren)

-- edge i and the last of e + 1 edges exchanged
module _ (v e i : ℕ) (at next : ℕ → ℕ) (rot : Turns v (suc e) at next) (lt : i < suc e) where
  -- the exchange of two edges renumbers the edges
  swapped : Renumbers (suc e) (exchange i e) (exchange i e)
  swapped = Renumbers-exchange (suc e) i e lt (lt-suc_self e)

  -- the vertices keep their numbers
  same_vertices : Renumbers v (λ x. x) (λ x. x)
  same_vertices = record { there = λ x l. l; back = λ x l. l; there_back = λ x l. refl; back_there = λ x l. refl }

  -- the exchange of two edges renames the rotation
  renames : Renames v (suc e) (λ x. x) (λ x. x) (on_edges (exchange i e))
      (on_edges (exchange i e)) at next (renamed_at (λ x. x) (exchange i e) at)
      (renamed_next (exchange i e) (exchange i e) next)
  renames = Renames-both v (suc e) (λ x. x) (λ x. x) (exchange i e) (exchange i e) at next rot same_vertices swapped

  -- with the two edges exchanged it is a rotation
  turns : Turns v (suc e) (renamed_at (λ x. x) (exchange i e) at) (renamed_next (exchange i e) (exchange i e) next)
  turns = Renames-Turns v (suc e) (λ x. x) (λ x. x) (on_edges (exchange i e)) (on_edges (exchange i e)) at next (renamed_at (λ x. x) (exchange i e) at) (renamed_next (exchange i e) (exchange i e) next) rot renames

  -- without edge i a rotation is one
  pub Turns-deleted : Turns v e (renamed_at (λ x. x) (exchange i e) at)
      (drop_edge e (renamed_next (exchange i e) (exchange i e) next))
  Turns-deleted = Turns-drop_edge v e (renamed_at (λ x. x) (exchange i e) at) (renamed_next (exchange i e) (exchange i e) next) turns

  -- without edge i a rotation of genus zero has genus zero
  pub deleted-zero : v + faces v (suc e) at next ≡ suc e + 2 * components v (suc e) at
      → v + faces v e (renamed_at (λ x. x) (exchange i e) at)
      (drop_edge e (renamed_next (exchange i e) (exchange i e) next))
      ≡ e + 2 * components v e (renamed_at (λ x. x) (exchange i e) at)
  deleted-zero zero_genus = drop_edge-zero v e (renamed_at (λ x. x) (exchange i e) at) (renamed_next (exchange i e) (exchange i e) next) turns
      (renamed-zero v (suc e) (λ x. x) (λ x. x) (on_edges (exchange i e)) (on_edges (exchange i e)) at next (renamed_at (λ x. x) (exchange i e) at) (renamed_next (exchange i e) (exchange i e) next) rot renames zero_genus)

-- edge i, which is no loop, contracted: its target w and the last vertex v are exchanged, and edge i and the last
module _ (v e i u w : ℕ) (at next : ℕ → ℕ) (rot : Turns (suc v) (suc e) at next) (lt : i < suc e)
    (source : at (2 * i) ≡ u) (target : at (2 * i + 1) ≡ w) (apart : u ≢ w) where
  -- the target is one of the vertices
  target_below : w < suc v
  target_below = subst (λ y. y < suc v) target (rot.placed (2 * i + 1) (omega arith))

  -- the source is one of the vertices
  source_below : u < suc v
  source_below = subst (λ y. y < suc v) source (rot.placed (2 * i) (omega arith))

  -- the two exchanges rename the rotation
  renames_both : Renames (suc v) (suc e) (exchange w v) (exchange w v) (on_edges (exchange i e))
      (on_edges (exchange i e)) at next (renamed_at (exchange w v) (exchange i e) at)
      (renamed_next (exchange i e) (exchange i e) next)
  renames_both = Renames-both (suc v) (suc e) (exchange w v) (exchange w v) (exchange i e) (exchange i e) at next rot (Renumbers-exchange (suc v) w v target_below (lt-suc_self v)) (Renumbers-exchange (suc e) i e lt (lt-suc_self e))

  -- with both exchanged it is a rotation
  turns_both : Turns (suc v) (suc e) (renamed_at (exchange w v) (exchange i e) at)
      (renamed_next (exchange i e) (exchange i e) next)
  turns_both = Renames-Turns (suc v) (suc e) (exchange w v) (exchange w v) (on_edges (exchange i e)) (on_edges (exchange i e)) at next (renamed_at (exchange w v) (exchange i e) at) (renamed_next (exchange i e) (exchange i e) next) rot renames_both

  -- the last edge begins where edge i began
  new_source : exchange w v (at (on_edges (exchange i e) (2 * e))) ≡ exchange w v u
  new_source = ap (λ (y : ℕ). exchange w v (at y)) (on_edges_even (exchange i e) e ∙ ap (λ (y : ℕ). 2 * y) (exchange_right i e e refl)) ∙ ap (exchange w v) source

  -- the last edge ends at the last vertex
  new_target : exchange w v (at (on_edges (exchange i e) (2 * e + 1))) ≡ v
  new_target = ap (λ (y : ℕ). exchange w v (at y)) (on_edges_odd (exchange i e) e ∙ ap (λ (y : ℕ). 2 * y + 1) (exchange_right i e e refl)) ∙ exchange_left w v (at (2 * i + 1)) target

  -- the source is not the last vertex
  source_low : exchange w v u < v
  source_low =
      let differs : exchange w v u ≢ v = λ h. apart (exchange-apart w v u w (h ∙ sym (exchange_left w v w refl))) in
      omega (arith, exchange-below (suc v) w v u target_below (lt-suc_self v) source_below)

  -- the contracted rotation is one
  pub Turns-contracted_edge : Turns v e (λ d. joined (exchange w v u) v (renamed_at (exchange w v) (exchange i e) at d))
      (contracted e (renamed_next (exchange i e) (exchange i e) next))
  Turns-contracted_edge = Turns-contracted v e (exchange w v u) (renamed_at (exchange w v) (exchange i e) at) (renamed_next (exchange i e) (exchange i e) next) turns_both new_source new_target source_low

  -- it has as many faces
  pub faces-contracted_edge : faces v e (λ d. joined (exchange w v u) v (renamed_at (exchange w v) (exchange i e) at d))
      (contracted e (renamed_next (exchange i e) (exchange i e) next)) ≡ faces (suc v) (suc e) at next
  faces-contracted_edge =
      faces-contracted v e (exchange w v u) (renamed_at (exchange w v) (exchange i e) at) (renamed_next (exchange i e) (exchange i e) next) turns_both new_source new_target source_low
      ∙ faces-renamed (suc v) (suc e) (exchange w v) (exchange w v) (on_edges (exchange i e)) (on_edges (exchange i e)) at next (renamed_at (exchange w v) (exchange i e) at) (renamed_next (exchange i e) (exchange i e) next) rot renames_both

  -- it has as many components
  pub components-contracted_edge : components v e (λ d. joined (exchange w v u) v (renamed_at (exchange w v)
      (exchange i e) at d)) ≡ components (suc v) (suc e) at
  components-contracted_edge =
      components-contracted v e (exchange w v u) (renamed_at (exchange w v) (exchange i e) at) new_source new_target source_low
      ∙ components-renamed (suc v) (suc e) (exchange w v) (exchange w v) (on_edges (exchange i e)) (on_edges (exchange i e)) at next (renamed_at (exchange w v) (exchange i e) at) (renamed_next (exchange i e) (exchange i e) next) rot renames_both

-- vertices u and w merged at darts a and b: w and the last vertex v are exchanged first
module _ (v e a b u w : ℕ) (at next : ℕ → ℕ) (rot : Turns (suc v) e at next) (lta : a < 2 * e) (ltb : b < 2 * e)
    (first : at a ≡ u) (second : at b ≡ w) (apart : u ≢ w) where
  -- the second vertex is one of the vertices
  second_within : w < suc v
  second_within = subst (λ y. y < suc v) second (rot.placed b ltb)

  -- the first vertex is one of the vertices
  first_within : u < suc v
  first_within = subst (λ y. y < suc v) first (rot.placed a lta)

  -- the exchange renumbers the vertices
  new_numbers : Renumbers (suc v) (exchange w v) (exchange w v)
  new_numbers = Renumbers-exchange (suc v) w v second_within (lt-suc_self v)

  -- the exchange of two vertices renames the rotation
  renames_vertices : Renames (suc v) e (exchange w v) (exchange w v) (λ d. d)
      (λ d. d) at next (λ d. exchange w v (at d)) next
  renames_vertices = Renames-vertices (suc v) e (exchange w v) (exchange w v) at next rot new_numbers

  -- with the two vertices exchanged it is a rotation
  turns_vertices : Turns (suc v) e (λ d. exchange w v (at d)) next
  turns_vertices = Renames-Turns (suc v) e (exchange w v) (exchange w v) (λ d. d) (λ d. d) at next (λ d. exchange w v (at d)) next rot renames_vertices

  -- dart a stands at the first vertex, by its new number
  new_first : exchange w v (at a) ≡ exchange w v u
  new_first = ap (exchange w v) first

  -- dart b stands at the last vertex
  new_second : exchange w v (at b) ≡ v
  new_second = exchange_left w v (at b) second

  -- the first vertex is not the last
  first_low : exchange w v u < v
  first_low =
      let differs : exchange w v u ≢ v = λ h. apart (exchange-apart w v u w (h ∙ sym (exchange_left w v w refl))) in
      omega (arith, exchange-below (suc v) w v u second_within (lt-suc_self v) first_within)

  -- genus zero stays with the two vertices exchanged
  zero_vertices : suc v + faces (suc v) e at next ≡ e + 2 * components (suc v) e at
      → suc v + faces (suc v) e (λ d. exchange w v (at d)) next
      ≡ e + 2 * components (suc v) e (λ d. exchange w v (at d))
  zero_vertices zero_genus = renamed-zero (suc v) e (exchange w v) (exchange w v) (λ d. d) (λ d. d) at next (λ d. exchange w v (at d)) next rot renames_vertices zero_genus

  -- the merged rotation is one
  pub Turns-merged_vertices : Turns v e (λ d. joined (exchange w v u) v (exchange w v (at d)))
      (λ d. next (exchange a b d))
  Turns-merged_vertices = Turns-merged v e a b (exchange w v u) (λ d. exchange w v (at d)) next turns_vertices lta ltb new_first new_second first_low

  -- merged within a face, genus zero stays
  pub merged_vertices_within-zero : labels (graph (face_upto next e) (2 * e))
      (next a) ≡ labels (graph (face_upto next e) (2 * e)) (next b)
      → suc v + faces (suc v) e at next ≡ e + 2 * components (suc v) e at
      → v + faces v e (λ d. joined (exchange w v u) v (exchange w v (at d)))
      (λ d. next (exchange a b d)) ≡ e + 2 * components v e (λ d. joined (exchange w v u) v (exchange w v (at d)))
  merged_vertices_within-zero one zero_genus = merged_within-zero v e a b (exchange w v u) (λ d. exchange w v (at d)) next turns_vertices lta ltb new_first new_second first_low one (zero_vertices zero_genus)

  -- vertices are in one component where they are with their new numbers
  old_component : labels (ends_upto (λ d. exchange w v (at d)) e)
      (exchange w v u) ≡ labels (ends_upto (λ d. exchange w v (at d)) e) v
      → labels (ends_upto at e) u ≡ labels (ends_upto at e) w
  old_component h =
      ap label (sym (exchange-exchange w v u))
      ∙ same_labels (λ x. label (exchange w v x)) (ends_upto (λ d. exchange w v (at d)) e) (exchange w v u) v
      (Respects-ends (λ x. label (exchange w v x)) (λ d. exchange w v (at d)) e (λ k l. ap label (exchange-exchange w v (at (2 * k))) ∙ ends-respects label at e k (labels-respects (ends_upto at e)) l ∙ sym (ap label (exchange-exchange w v (at (2 * k + 1)))))) h
      ∙ ap label (exchange_right w v v refl)
    where
      label : ℕ → ℕ
      label = labels (ends_upto at e)

  -- merged between two components, genus zero stays
  pub merged_vertices_between-zero : labels (ends_upto at e) u ≢ labels (ends_upto at e) w
      → suc v + faces (suc v) e at next ≡ e + 2 * components (suc v) e at
      → v + faces v e (λ d. joined (exchange w v u) v (exchange w v (at d)))
      (λ d. next (exchange a b d)) ≡ e + 2 * components v e (λ d. joined (exchange w v u) v (exchange w v (at d)))
  merged_vertices_between-zero two zero_genus = merged_between-zero v e a b (exchange w v u) (λ d. exchange w v (at d)) next turns_vertices lta ltb new_first new_second first_low (λ h. two (old_component h)) (zero_vertices zero_genus)
