-- A rotation of a block is one in which each Q-vertex has a direction.
use Rattle.std.proofs.Common.{◌≡◌, ℕ, ◌<◌, Bool, true, false, cond, eqb, List, [], length, filter, slice_index_or, sym, refl, ap, ◌∙◌, subst, arith}
use Rattle.std.specs.Prelude.{Some}
use Rattle.std.specs.List.{All, Contains}
use Rattle.std.specs.Option.{option_map, option_map_or}
use Rattle.std.proofs.lemmas.Bool.{false≢true}
use Rattle.std.proofs.lemmas.List.{get_or_default, get_or-map, length-map}
use Rattle.cp_lists.specs.Turns.{IsTurn}
use Rattle.cp_lists.proofs.Choices.{choose}
use Rattle.cp_conn.specs.NamedGraphs.{rank}
use Rattle.cp_conn.proofs.NamedGraphs.{rank_at}
use Rattle.cp_board.specs.declared.parts.Kind.{Kind}
use Rattle.cp_board.specs.declared.parts.Kind.TheVariants.{P, Q}
use Rattle.cp_board.specs.declared.parts.Vert.{Vert}
use Rattle.cp_board.specs.Blocks.{IsBlockRotation, IsKept}
use Rattle.cp_board.specs.Instances.{IsSynchronized, Synchronized, is_q, is_q_kind, kind_of, kind_psi, psi_at, vert_names}
use Rattle.cp_board.specs.Solutions.{directed}
use Rattle.cp_board.proofs.NamedLists.{found_at, rises_from}
use Rattle.cp_tree.proofs.BlockRotations.{IsDirectedRotation}

-- a bit as a number
abbrev bit_number : Bool → ℕ
bit_number b = cond b 1 0

-- and back
abbrev number_bit : ℕ → Bool
number_bit n = eqb n 1

-- a bit written as a number is read back the same
bit_back : (b : Bool) → number_bit (bit_number b) ≡ b
bit_back true = refl
bit_back false = refl

module _ (i : Synchronized) (is : IsSynchronized i) where
  -- a row without a name
  abbrev none : Vert
  none = record { name = 0; kind = P }

  -- the row at a place has the kind of its name
  row_kind : (k : ℕ) → k < length i.verts
      → kind_of i (slice_index_or i.verts k none).name ≡ Some (slice_index_or i.verts k none).kind
  row_kind k lt = ap (λ o. option_map (λ (x : Vert). x.kind) o)
      (found_at (λ (x : Vert). x.name) i.verts k none (rises_from (vert_names i) is.verts_named.rise) lt)

  -- lists that keep the psi of each Q-vertex in some direction have directions for all
  kept_direction : (inside : ℕ → Bool) (s : ℕ → List ℕ) → All (λ v. IsKept inside (s v.name) v.kind) i.verts
      → (back : ℕ → Bool) × ((v : ℕ) → Contains (vert_names i) v → is_q i v ≡ true
      → IsTurn (directed (back v) (filter inside (psi_at i v))) (s v))
  kept_direction inside s kept =
      let found : (f : ℕ → ℕ) × ((k : ℕ) → k < length i.verts → R k (f k)) = choose (length i.verts) R each in (
        λ v. number_bit (found.0 (rank (vert_names i) v)),
        λ v c q.
            let at = rank_at (vert_names i) v c in
            let k = rank (vert_names i) v in
            let lt : k < length i.verts = omega (arith, at.0, length-map i.verts (λ (x : Vert). x.name)) in
            let name : (slice_index_or i.verts k none).name ≡ v =
            sym (get_or-map (λ (x : Vert). x.name) i.verts k none 0 lt) ∙ at.1 in
            subst (λ u. is_q i u ≡ true
            → IsTurn (directed (number_bit (found.0 k)) (filter inside (psi_at i u))) (s u)) name
            (found.1 k lt) q,
      )
    where
      R : ℕ → ℕ → Type 0
      R k b =
          is_q i (slice_index_or i.verts k none).name ≡ true
          → IsTurn (directed (number_bit b) (filter inside (psi_at i (slice_index_or i.verts k none).name)))
          (s (slice_index_or i.verts k none).name)

      by_kind : (v : ℕ) (k : Kind) → kind_of i v ≡ Some k → IsKept inside (s v) k
          → (b : ℕ) × (is_q i v ≡ true → IsTurn (directed (number_bit b) (filter inside (psi_at i v))) (s v))
      by_kind v P e h = (0, λ q. absurd (false≢true (sym (ap is_q_kind e) ∙ q)))
      by_kind v (Q cell psi) e h = (
        bit_number h.0,
        λ q. subst (λ b. IsTurn (directed b (filter inside (psi_at i v))) (s v)) (sym (bit_back h.0))
            (subst (λ xs. IsTurn (directed h.0 (filter inside xs)) (s v))
            (sym (ap (λ o. option_map_or kind_psi o []) e)) h.1),
      )

      each : (k : ℕ) → k < length i.verts → (b : ℕ) × R k b
      each k lt = by_kind (slice_index_or i.verts k none).name (slice_index_or i.verts k none).kind (row_kind k lt)
          (kept k none lt)

  -- and directions for all are directions for each
  direction_kept : (inside back : ℕ → Bool) (s : ℕ → List ℕ)
      → ((v : ℕ) → Contains (vert_names i) v → is_q i v ≡ true
      → IsTurn (directed (back v) (filter inside (psi_at i v))) (s v))
      → All (λ v. IsKept inside (s v.name) v.kind) i.verts
  direction_kept inside back s turns k d lt =
      let row = slice_index_or i.verts k none in
      let same : slice_index_or i.verts k d ≡ row = get_or_default i.verts k d none lt in
      let c : Contains (vert_names i) row.name = (
        k,
        omega (arith, lt, length-map i.verts (λ (x : Vert). x.name)),
        get_or-map (λ (x : Vert). x.name) i.verts k none row.name lt,
      ) in
      subst (λ (x : Vert). IsKept inside (s x.name) x.kind) (sym same)
      (by_kind row.name row.kind (row_kind k lt) (turns row.name c))
    where
      by_kind : (v : ℕ) (k : Kind) → kind_of i v ≡ Some k
          → (is_q i v ≡ true → IsTurn (directed (back v) (filter inside (psi_at i v))) (s v)) → IsKept inside (s v) k
      by_kind v P e h = tt
      by_kind v (Q cell psi) e h = (
        back v,
        subst (λ xs. IsTurn (directed (back v) (filter inside xs)) (s v)) (ap (λ o. option_map_or kind_psi o []) e)
            (h (ap is_q_kind e)),
      )

  -- a rotation of a block is one with directions
  pub rotation-directed : (inside : ℕ → Bool) (s : ℕ → List ℕ) → IsBlockRotation i inside s
      → (back : ℕ → Bool) × IsDirectedRotation i inside back s
  rotation-directed inside s r =
      let d = kept_direction inside s r.kept in (d.0, record { rotation = r.rotation; kept = d.1 })

  -- and back
  pub directed-rotation : (inside back : ℕ → Bool) (s : ℕ → List ℕ) → IsDirectedRotation i inside back s
      → IsBlockRotation i inside s
  directed-rotation inside back s d =
      record { rotation = d.rotation; kept = direction_kept inside back s d.kept }
