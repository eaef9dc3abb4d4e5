-- The rows of live names, and what the rules tell of them.
use Rattle.std.proofs.Common.{◌≡◌, ◌≢◌, ℕ, ◌<◌, length, slice_index_or, sym, ap, ◌∙◌, subst, arith}
use Rattle.std.specs.Prelude.{Some}
use Rattle.std.specs.List.{Contains}
use Rattle.std.specs.Option.{option_map_or}
use Rattle.std.proofs.lemmas.List.{get_or-map, get_or_default, length-map}
use Rattle.cp_board.specs.declared.parts.EdgeRow.{EdgeRow}
use Rattle.cp_board.specs.Instances.{Synchronized, IsSynchronized, edge_names, edge_in, ends_of, vert_names}
use Rattle.cp_board.proofs.NamedLists.{found_at, rises_from}

-- the row of a live edge
pub edge_row : (i : Synchronized) → IsSynchronized i → (e : ℕ) → Contains (edge_names i) e
    → (row : EdgeRow) × Contains i.edges row × (row.name ≡ e) × (ends_of i e ≡ (row.a, row.b))
edge_row i is e c =
    let none : EdgeRow = record { name = 0; a = 0; b = 0 } in
    let row : EdgeRow = slice_index_or i.edges c.0 none in
    let within : c.0 < length i.edges = omega (arith, c.1, length-map i.edges (λ (x : EdgeRow). x.name)) in
    let named : row.name ≡ e =
    sym (get_or-map (λ (x : EdgeRow). x.name) i.edges c.0 none e within) ∙ c.2 in
    let found : edge_in i.edges e ≡ Some row =
    subst (λ n. edge_in i.edges n ≡ Some row) named
    (found_at (λ (x : EdgeRow). x.name) i.edges c.0 none (rises_from (edge_names i) is.edges_named.rise) within) in (
      row,
      (c.0, within, get_or_default i.edges c.0 row none within),
      named,
      ap (λ o. option_map_or (λ (x : EdgeRow). (x.a, x.b)) o (0, 0)) found,
    )

-- the ends of a live edge are live and differ
pub live_ends : (i : Synchronized) → IsSynchronized i → (e : ℕ) → Contains (edge_names i) e
    → Contains (vert_names i) (ends_of i e).0 × Contains (vert_names i) (ends_of i e).1
    × ((ends_of i e).0 ≢ (ends_of i e).1)
live_ends i is e c =
    let r = edge_row i is e c in
    let at : slice_index_or i.edges r.1.0 r.0 ≡ r.0 = r.1.2 in
    let live = is.ends_live r.1.0 r.0 r.1.1 in
    subst (λ (x : ℕ × ℕ). Contains (vert_names i) x.0 × Contains (vert_names i) x.1 × (x.0 ≢ x.1)) (sym r.3) (
      subst (λ (x : EdgeRow). Contains (vert_names i) x.a) at live.0,
      subst (λ (x : EdgeRow). Contains (vert_names i) x.b) at live.1,
      subst (λ (x : EdgeRow). x.a ≢ x.b) at (is.ends_differ r.1.0 r.0 r.1.1),
    )
