-- The ends of a pipe of three pairs become two Q-vertices of one new cell: what changes and what stays.
use Rattle.std.proofs.Common.{◌≡◌, ◌≢◌, ℕ, ◌<◌, Bool, true, false, cond, eqb, List, [], ◌∷◌, length, map, slice_index_or, sym, refl, ap, ◌∙◌, subst}
use Rattle.std.specs.Prelude.{Some, find}
use Rattle.std.specs.List.{All, Contains, flat_map}
use Rattle.std.specs.Option.{option_map}
use Rattle.std.proofs.lemmas.Bool.{cond_both, cond-false, eqb-true, eqb-false, or_parts}
use Rattle.std.proofs.lemmas.List.Elements.{All-nil, All-cons, All-contains_itself}
use Rattle.cp_board.specs.declared.parts.Kind.{Kind}
use Rattle.cp_board.specs.declared.parts.Kind.TheVariants.{P, Q}
use Rattle.cp_board.specs.declared.parts.Vert.{Vert}
use Rattle.cp_board.specs.declared.parts.Pipe.{Pipe}
use Rattle.cp_board.specs.Names.{has}
use Rattle.cp_board.specs.Instances.{Synchronized, cell_of, graph, kind_in, names_of_verts, edge_names, ends_of}
use Rattle.cp_board.specs.Changes.{with_kind, other_pipes}
use Rattle.cp_board.specs.Effects.{first_kind, second_kind}
use Rattle.cp_board.specs.Solutions.{IsInDirection}
use Rattle.cp_board.proofs.ListTests.{rises}
use Rattle.cp_board.proofs.NamedLists.{found_at}
use Rattle.cp_poles.proofs.FoundItems.{All-found, All-unmapped, Some-same, has-append_false, option_map-Some}

-- a vertex after the step
abbrev pub fixed_vert : Pipe → ℕ → Vert → Vert
fixed_vert p cell v = with_kind p.a (first_kind p cell) (with_kind p.b (second_kind p cell) v)

-- the instance after the step
abbrev pub fixed : Synchronized → Pipe → ℕ → Synchronized
fixed i p cell = record {
  verts = map (fixed_vert p cell) i.verts;
  edges = i.edges;
  pipes = other_pipes i (p.name ∷ []);
}

-- the first end after the step
abbrev pub fixed_a : Pipe → ℕ → Vert
fixed_a p cell = record { name = p.a; kind = first_kind p cell }

-- the second end after the step
abbrev pub fixed_b : Pipe → ℕ → Vert
fixed_b p cell = record { name = p.b; kind = second_kind p cell }

-- what holds of the first end, of the second end, and of a vertex that is neither, holds of the vertex after the step
pub fixed_cases : (p : Pipe) (cell : ℕ) (v : Vert) (holds : Vert → Type 0) → p.a ≢ p.b
    → (v.name ≡ p.a → holds (fixed_a p cell))
    → (v.name ≡ p.b → holds (fixed_b p cell))
    → (v.name ≢ p.a → v.name ≢ p.b → holds v)
    → holds (fixed_vert p cell v)
fixed_cases p cell v holds differ at_a at_b else =
    cond_both (eqb v.name p.b) (fixed_b p cell) v (λ w. holds (with_kind p.a (first_kind p cell) w))
    (λ b. cond_both (eqb p.b p.a) (fixed_a p cell) (fixed_b p cell) holds
    (λ e. absurd (differ (sym (eqb-true p.b p.a e))))
    (λ e. at_b (eqb-true v.name p.b b)))
    (λ b. cond_both (eqb v.name p.a) (fixed_a p cell) v holds
    (λ e. at_a (eqb-true v.name p.a e))
    (λ e. else (eqb-false v.name p.a e) (eqb-false v.name p.b b)))

-- the vertices keep their names
pub names_fixed : (p : Pipe) (cell : ℕ) → p.a ≢ p.b → (vs : List Vert)
    → names_of_verts (map (fixed_vert p cell) vs) ≡ names_of_verts vs
names_fixed p cell differ [] = refl
names_fixed p cell differ (v ∷ vs) =
    ap (λ n. n ∷ names_of_verts (map (fixed_vert p cell) vs))
    (fixed_cases p cell v (λ w. w.name ≡ v.name) differ (λ e. sym e) (λ e. sym e) (λ na nb. refl))
    ∙ ap (λ ns. v.name ∷ ns) (names_fixed p cell differ vs)

-- the graph stays
pub graph_fixed : (i : Synchronized) (p : Pipe) (cell : ℕ) → p.a ≢ p.b → graph (fixed i p cell) ≡ graph i
graph_fixed i p cell differ =
    ap (λ ns. record { verts = ns; edges = edge_names i; ends = ends_of i }) (names_fixed p cell differ i.verts)

-- a vertex that is neither end stays
pub fixed_other : (p : Pipe) (cell : ℕ) (v : Vert) → p.a ≢ p.b → v.name ≢ p.a → v.name ≢ p.b
    → fixed_vert p cell v ≡ v
fixed_other p cell v differ na nb =
    fixed_cases p cell v (λ w. w ≡ v) differ (λ e. absurd (na e)) (λ e. absurd (nb e)) (λ ma mb. refl)

-- the vertex at a place has the kind that is found under its name
pub kind_at : (vs : List Vert) (k : ℕ) (d : Vert) (n : ℕ) (kind : Kind) → rises (names_of_verts vs) ≡ true
    → (lt : k < length vs)
    → (slice_index_or vs k d).name ≡ n → kind_in vs n ≡ Some kind
    → (slice_index_or vs k d).kind ≡ kind
kind_at vs k d n kind up lt named is =
    Some-same (slice_index_or vs k d).kind kind
    (sym (ap (option_map (λ x. x.kind)) (found_at (λ x. x.name) vs k d up lt)) ∙ ap (kind_in vs) named ∙ is)

-- what holds of all vertices holds of one that is found by its kind
pub holds_named : (holds : Vert → Type 0) (vs : List Vert) (n : ℕ) (kind : Kind) → All holds vs
    → kind_in vs n ≡ Some kind
    → (v : Vert) × holds v × (v.name ≡ n)
holds_named holds vs n kind all is =
    let w = option_map-Some (λ x. x.kind) (find (λ x. eqb x.name n) vs) kind is in
    let h = All-found (λ x. eqb x.name n) holds vs w.0 all w.1 in
    (w.0, h.0, eqb-true w.0.name n h.1)

-- such a name is one of the names
pub named-Contains : (vs : List Vert) (n : ℕ) (kind : Kind) → kind_in vs n ≡ Some kind
    → Contains (names_of_verts vs) n
named-Contains vs n kind is =
    let w = holds_named (λ v. Contains (names_of_verts vs) v.name) vs n kind
    (All-unmapped (Contains (names_of_verts vs)) (λ v. v.name) vs (All-contains_itself (names_of_verts vs))) is in
    subst (Contains (names_of_verts vs)) w.2 w.1

-- no vertex has a cell that is not live
pub cells_lack : (cell : ℕ) (vs : List Vert) → has (flat_map (λ v. cell_of v.kind) vs) cell ≡ false
    → All (λ v. has (cell_of v.kind) cell ≡ false) vs
cells_lack cell [] e = All-nil (λ v. has (cell_of v.kind) cell ≡ false)
cells_lack cell (v ∷ vs) e =
    let h = has-append_false cell (cell_of v.kind) (flat_map (λ w. cell_of w.kind) vs) e in
    All-cons (λ w. has (cell_of w.kind) cell ≡ false) v vs h.0 (cells_lack cell vs h.1)

-- the directions with one for a new cell
abbrev pub with_direction : ℕ → Bool → (ℕ → Bool) → ℕ → Bool
with_direction cell d back c = cond (eqb cell c) d (back c)

-- a list in the direction of another cell stays so
pub direction_kept : (cell : ℕ) (d : Bool) (back : ℕ → Bool) (xs : List ℕ) (kind : Kind)
    → has (cell_of kind) cell ≡ false
    → IsInDirection back xs kind
    → IsInDirection (with_direction cell d back) xs kind
direction_kept cell d back xs P lacks h = tt
direction_kept cell d back xs (Q c psi) lacks h =
    let other : eqb cell c ≡ false = (or_parts (eqb cell c) false lacks).0 in
    subst (λ b. IsInDirection (λ z. b) xs (Q c psi)) (sym (cond-false (eqb cell c) d (back c) other)) h
