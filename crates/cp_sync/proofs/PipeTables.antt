-- The pipes of all vertices, where a pipe is given to its ends.
use Rattle.std.proofs.Common.{◌≡◌, ◌≢◌, ℕ, suc, ◌+◌, ◌<◌, ◌⊎◌, Bool, true, false, ◌||◌, cond, eqb, List, [], ◌∷◌, ◌++◌, length, take, slice_index, slice_index_or, slice_set, sym, refl, ap, ◌∙◌, inl, inr, ⊎_elim, arith}
use Rattle.std.specs.Prelude.{Option, Some, None}
use Rattle.std.specs.List.{Contains, flat_map}
use Rattle.std.specs.List.Sorted.{IsStrictlyIncreasing}
use Rattle.std.specs.Option.{option_map, option_or}
use Rattle.std.proofs.lemmas.Bool.{cases_eq, cond-true, cond-false, eq-eqb, ne_eqb, eqb-true}
use Rattle.std.proofs.lemmas.List.{get_or_default, get_or-map, get_or-set_same, get_or-set_other, length-map, length-set, take_more}
use Rattle.std.proofs.lemmas.List.Folds.{find-append}
use Rattle.cp_lists.specs.CyclicLists.{Lacks}
use Rattle.cp_board.specs.declared.parts.Kind.{Kind}
use Rattle.cp_board.specs.declared.parts.Kind.TheVariants.{P}
use Rattle.cp_board.specs.declared.parts.Vert.{Vert}
use Rattle.cp_board.specs.declared.parts.Pipe.{Pipe}
use Rattle.cp_board.specs.Instances.{Synchronized, names_of_verts, vert_names, vert_in, kind_in, pipe_with}
use Rattle.cp_board.specs.Faults.{Keeps, PipeEnds, PipeAt}
use Rattle.cp_sync.specs.Places.{IsLowerPlace}
use Rattle.cp_sync.specs.Tables.{ArePiped, AreUnpiped, IsFreeEnd, IsFreePipe, IsMarked, vert_at}
use Rattle.cp_sync.specs.Checks.{pipe_row}
use Rattle.cp_sync.proofs.Places.{live_place, same_place, found_place}

-- the second of two tests
or_right : (a b : Bool) → b ≡ true → (a || b) ≡ true
or_right true b t = refl
or_right false b t = t

-- the name at a place
name_at_place : (verts : List Vert) (k : ℕ) → k < length verts
    → slice_index (names_of_verts verts) k ≡ (vert_at verts k).name
name_at_place verts k lt = get_or-map (λ (v : Vert). v.name) verts k record { name = 0; kind = P } 0 lt

-- two places of one vertex are one
pub same_vertex : (verts : List Vert) (j k : ℕ) → IsStrictlyIncreasing (names_of_verts verts) → j < length verts
    → k < length verts
    → (vert_at verts j).name ≡ (vert_at verts k).name
    → j ≡ k
same_vertex verts j k up lj lk e =
    same_place (names_of_verts verts) up j k (omega (arith, lj, length-map verts (λ (v : Vert). v.name))) (omega (arith, lk, length-map verts (λ (v : Vert). v.name)))
    (name_at_place verts j lj ∙ e ∙ sym (name_at_place verts k lk))

-- the lower place of a live vertex is its place
pub live_vertex_place : (verts : List Vert) (v k : ℕ) → IsStrictlyIncreasing (names_of_verts verts)
    → Contains (names_of_verts verts) v
    → IsLowerPlace (names_of_verts verts) v k
    → (k < length verts) × ((vert_at verts k).name ≡ v)
live_vertex_place verts v k up live low =
    let at = live_place (names_of_verts verts) v k up live low in
    let lt : k < length verts = omega (arith, at.0, length-map verts (λ (x : Vert). x.name)) in
    (lt, sym (name_at_place verts k lt) ∙ at.1)

-- the vertex at a place is live
pub vertex_live : (verts : List Vert) (k v : ℕ) → k < length verts → (vert_at verts k).name ≡ v
    → Contains (names_of_verts verts) v
vertex_live verts k v lt e =
    let within : k < length (names_of_verts verts) = omega (arith, lt, length-map verts (λ (x : Vert). x.name)) in
    (k, within, get_or_default (names_of_verts verts) k v 0 within ∙ name_at_place verts k lt ∙ e)

-- a free end stands at its lower place
pub free_place : (verts : List Vert) (at : List (Option ℕ)) (v k : ℕ) → IsStrictlyIncreasing (names_of_verts verts)
    → IsLowerPlace (names_of_verts verts) v k
    → (free : IsFreeEnd verts at v)
    → (k < length verts) × (k ≡ free.place)
free_place verts at v k up low free =
    let here = live_vertex_place verts v k up (vertex_live verts free.place v free.within free.named) low in
    (here.0, same_vertex verts k free.place up here.0 free.within (here.1 ∙ sym free.named))

-- the vertex there has its name, is a P-vertex, and has no pipe
pub free_facts : (verts : List Vert) (at : List (Option ℕ)) (v k : ℕ) → IsStrictlyIncreasing (names_of_verts verts)
    → IsLowerPlace (names_of_verts verts) v k
    → IsFreeEnd verts at v
    → (k < length verts) × ((vert_at verts k).name ≡ v) × ((vert_at verts k).kind ≡ P)
    × (slice_index_or at k None ≡ None)
free_facts verts at v k up low free =
    let here = free_place verts at v k up low free in (
      here.0,
      ap (λ j. (vert_at verts j).name) here.1 ∙ free.named,
      ap (λ j. (vert_at verts j).kind) here.1 ∙ free.any_order,
      ap (λ j. slice_index_or at j None) here.1 ∙ free.unpiped,
    )

-- a pipe is set at the places of its two ends
pub IsMarked-from : (verts : List Vert) (p : Pipe) (old mid new : List (Option ℕ)) (ka kb : ℕ)
    → IsStrictlyIncreasing (names_of_verts verts)
    → Contains (names_of_verts verts) p.a × Contains (names_of_verts verts) p.b
    → length old ≡ length verts
    → IsLowerPlace (names_of_verts verts) p.a ka
    → IsLowerPlace (names_of_verts verts) p.b kb
    → mid ≡ slice_set old ka (Some p.name)
    → new ≡ slice_set mid kb (Some p.name)
    → IsMarked verts p old new
IsMarked-from verts p old mid new ka kb up live size low_a low_b is_mid is_new = record {
  one_each = ap length is_new ∙ length-set mid kb (Some p.name) ∙ mid_size;
  each = λ k lt. ⊎_elim (second k) (λ no_b. ⊎_elim (first k no_b) (neither k lt no_b) (cases_eq k ka)) (cases_eq k kb);
}
  where
    at_a : (ka < length verts) × ((vert_at verts ka).name ≡ p.a)
    at_a = live_vertex_place verts p.a ka up live.0 low_a

    at_b : (kb < length verts) × ((vert_at verts kb).name ≡ p.b)
    at_b = live_vertex_place verts p.b kb up live.1 low_b

    mid_size : length mid ≡ length old
    mid_size = ap length is_mid ∙ length-set old ka (Some p.name)

    second : (k : ℕ) → k ≡ kb
        → slice_index_or new k None ≡ cond (eqb p.a (vert_at verts k).name || eqb p.b (vert_at verts k).name)
        (Some p.name) (slice_index_or old k None)
    second k h = rw h
        (ap (λ l. slice_index_or l kb None) is_new
        ∙ get_or-set_same mid kb (Some p.name) None (omega (arith, at_b.0, size, mid_size))
        ∙ sym (cond-true (eqb p.a (vert_at verts kb).name || eqb p.b (vert_at verts kb).name) (Some p.name) (slice_index_or old kb None)
        (or_right (eqb p.a (vert_at verts kb).name) (eqb p.b (vert_at verts kb).name) (eq-eqb p.b (vert_at verts kb).name (sym at_b.1)))))

    first : (k : ℕ) → k ≢ kb → k ≡ ka
        → slice_index_or new k None ≡ cond (eqb p.a (vert_at verts k).name || eqb p.b (vert_at verts k).name)
        (Some p.name) (slice_index_or old k None)
    first k no_b h =
        ap (λ l. slice_index_or l k None) is_new
        ∙ get_or-set_other mid kb k (Some p.name) None no_b
        ∙ ap (slice_index_or mid k) refl
        ∙ ap (λ j. slice_index_or mid j None) h
        ∙ ap (λ l. slice_index_or l ka None) is_mid
        ∙ get_or-set_same old ka (Some p.name) None (omega (arith, at_a.0, size))
        ∙ sym (cond-true (eqb p.a (vert_at verts k).name || eqb p.b (vert_at verts k).name) (Some p.name) (slice_index_or old k None)
        (ap (λ b. b || eqb p.b (vert_at verts k).name) (eq-eqb p.a (vert_at verts k).name (sym at_a.1 ∙ ap (λ j. (vert_at verts j).name) (sym h)))))

    neither : (k : ℕ) → k < length verts → k ≢ kb → k ≢ ka
        → slice_index_or new k None ≡ cond (eqb p.a (vert_at verts k).name || eqb p.b (vert_at verts k).name)
        (Some p.name) (slice_index_or old k None)
    neither k lt no_b no_a =
        ap (λ l. slice_index_or l k None) is_new
        ∙ get_or-set_other mid kb k (Some p.name) None no_b
        ∙ ap (λ l. slice_index_or l k None) is_mid
        ∙ get_or-set_other old ka k (Some p.name) None no_a
        ∙ sym (cond-false (eqb p.a (vert_at verts k).name || eqb p.b (vert_at verts k).name) (Some p.name) (slice_index_or old k None)
        (ap (λ b. b || eqb p.b (vert_at verts k).name) (ne_eqb p.a (vert_at verts k).name (λ e. no_a (same_vertex verts k ka up lt at_a.0 (sym e ∙ sym at_a.1))))
        ∙ ne_eqb p.b (vert_at verts k).name (λ e. no_b (same_vertex verts k kb up lt at_b.0 (sym e ∙ sym at_b.1)))))

-- the pipe of a vertex, where one more pipe comes behind the others
mapped_or : (p : Pipe) (found : Option Pipe) (test : Bool) (slot : Option ℕ) → slot ≡ option_map (λ q. q.name) found
    → (test ≡ true → slot ≡ None)
    → cond test (Some p.name) slot ≡ option_map (λ q. q.name) (option_or found (cond test (Some p) None))
mapped_or p None true slot is free = refl
mapped_or p None false slot is free = is
mapped_or p (Some q) true slot is free = let e = free refl in cc
mapped_or p (Some q) false slot is free = is

-- a test on two ends that holds, holds of one of them
end_cases : (p : Pipe) (n : ℕ) → (eqb p.a n || eqb p.b n) ≡ true → (p.a ≡ n) ⊎ (p.b ≡ n)
end_cases p n t = ⊎_elim (λ e. inl e) (λ ne. inr (eqb-true p.b n (sym (ap (λ b. b || eqb p.b n) (ne_eqb p.a n ne)) ∙ t))) (cases_eq p.a n)

-- the slot of a free end is empty
free_slot : (verts : List Vert) (at : List (Option ℕ)) (v k : ℕ) → IsStrictlyIncreasing (names_of_verts verts)
    → IsFreeEnd verts at v → k < length verts → (vert_at verts k).name ≡ v → slice_index_or at k None ≡ None
free_slot verts at v k up free lt e =
    ap (λ j. slice_index_or at j None) (same_vertex verts k free.place up lt free.within (e ∙ sym free.named)) ∙ free.unpiped

-- the pipes up to one more
pub ArePiped-more : (verts : List Vert) (ps : List Pipe) (k : ℕ) (p : Pipe) (old new : List (Option ℕ)) → k < length ps
    → p ≡ slice_index_or ps k p
    → IsStrictlyIncreasing (names_of_verts verts)
    → ArePiped verts (take k ps) old
    → IsFreePipe verts old p
    → IsMarked verts p old new
    → ArePiped verts (take (k + 1) ps) new
ArePiped-more verts ps k p old new lt is up so free marked = record {
  one_each = marked.one_each ∙ so.one_each;
  each = λ j l.
      let n = (vert_at verts j).name in
      marked.each j l
      ∙ mapped_or p (pipe_with (take k ps) n) (eqb p.a n || eqb p.b n) (slice_index_or old j None) (so.each j l)
      (λ t. ⊎_elim
      (λ (e : p.a ≡ n). free_slot verts old p.a j up free.0 l (sym e))
      (λ (e : p.b ≡ n). free_slot verts old p.b j up free.1 l (sym e))
      (end_cases p n t))
      ∙ ap (option_map (λ q. q.name)) (sym (find-append (λ (x : Pipe). eqb x.a n || eqb x.b n) (take k ps) (p ∷ [])))
      ∙ ap (λ qs. option_map (λ q. q.name) (pipe_with qs n)) (sym (take_more ps k p lt ∙ ap (λ x. take k ps ++ x ∷ []) (sym is)));
}

-- no pipes at first
pub ArePiped-none : (verts : List Vert) (at : List (Option ℕ)) → AreUnpiped (length verts) at → ArePiped verts [] at
ArePiped-none verts at empty = record { one_each = empty.size; each = empty.each }

-- the two ends of a pipe
abbrev ends : Pipe → List ℕ
ends p = p.a ∷ p.b ∷ []

-- a vertex of no pipe is none of their ends
pipe_with-lacks : (ps : List Pipe) (v : ℕ) → pipe_with ps v ≡ None → Lacks v (flat_map ends ps)
pipe_with-lacks [] v none = tt
pipe_with-lacks (p ∷ ps) v none = ⊎_elim
    (λ (e : p.a ≡ v). absurd (found (ap (λ b. b || eqb p.b v) (eq-eqb p.a v e))))
    (λ (not_a : p.a ≢ v). ⊎_elim
    (λ (e : p.b ≡ v). absurd (found (or_right (eqb p.a v) (eqb p.b v) (eq-eqb p.b v e))))
    (λ (not_b : p.b ≢ v). (not_a, (not_b, pipe_with-lacks ps v (sym (cond-false (eqb p.a v || eqb p.b v) (Some p) (pipe_with ps v) (ap (λ b. b || eqb p.b v) (ne_eqb p.a v not_a) ∙ ne_eqb p.b v not_b)) ∙ none))))
    (cases_eq p.b v))
    (cases_eq p.a v)
  where
    found : (eqb p.a v || eqb p.b v) ≡ true → ⊥
    found t = let e = sym (cond-true (eqb p.a v || eqb p.b v) (Some p) (pipe_with ps v) t) ∙ none in cc

-- and the other way
lacks-pipe_with : (ps : List Pipe) (v : ℕ) → Lacks v (flat_map ends ps) → pipe_with ps v ≡ None
lacks-pipe_with [] v lacks = refl
lacks-pipe_with (p ∷ ps) v lacks =
    cond-false (eqb p.a v || eqb p.b v) (Some p) (pipe_with ps v) (ap (λ b. b || eqb p.b v) (ne_eqb p.a v lacks.0) ∙ ne_eqb p.b v lacks.1.0)
    ∙ lacks-pipe_with ps v lacks.1.1

-- where no name of a pipe is found, no pipe is
unmapped : (found : Option Pipe) → option_map (λ q. q.name) found ≡ None → found ≡ None
unmapped None e = refl
unmapped (Some q) e = cc

-- a vertex that is found stands at a place
pub found_vertex : (verts : List Vert) (v : ℕ) (kind : Kind) → kind_in verts v ≡ Some kind
    → (k : ℕ) × (k < length verts) × ((vert_at verts k).name ≡ v) × ((vert_at verts k).kind ≡ kind)
found_vertex [] v kind e = absurd (let g : ⊥ = cc in g)
found_vertex (x ∷ xs) v kind e = ⊎_elim
    (λ (h : x.name ≡ v). (
      0,
      omega arith,
      h,
      let g = sym (ap (option_map (λ (y : Vert). y.kind)) (cond-true (eqb x.name v) (Some x) (vert_in xs v) (eq-eqb x.name v h))) ∙ e in cc,
    ))
    (λ (h : x.name ≢ v).
    let rest = found_vertex xs v kind (sym (ap (option_map (λ (y : Vert). y.kind)) (cond-false (eqb x.name v) (Some x) (vert_in xs v) (ne_eqb x.name v h))) ∙ e) in
    (suc rest.0, omega (arith, rest.1), rest.2, rest.3))
    (cases_eq x.name v)

module _ (i : Synchronized) (at : List (Option ℕ)) (k : ℕ) (up : IsStrictlyIncreasing (vert_names i))
    (so : ArePiped i.verts (take k i.pipes) at) where
  -- a vertex that the table tells as a free end is a P-vertex
  free_kind : (v : ℕ) → IsFreeEnd i.verts at v → kind_in i.verts v ≡ Some P
  free_kind v free =
      ap (option_map (λ (x : Vert). x.kind)) (found_place (λ (x : Vert). x.name) v i.verts free.place (vert_at i.verts free.place) up free.within
      (get_or_default i.verts free.place record { name = 0; kind = P } (vert_at i.verts free.place) free.within) free.named)
      ∙ ap Some free.any_order

  -- and it is no end of the pipes before
  free_lacks : (v : ℕ) → IsFreeEnd i.verts at v → Lacks v (flat_map ends (take k i.pipes))
  free_lacks v free = pipe_with-lacks (take k i.pipes) v
      (unmapped (pipe_with (take k i.pipes) v)
      (ap (λ n. option_map (λ q. q.name) (pipe_with (take k i.pipes) n)) (sym free.named) ∙ sym (so.each free.place free.within) ∙ free.unpiped))

  -- a P-vertex that is no end of the pipes before is told as a free end
  free_from : (v : ℕ) → kind_in i.verts v ≡ Some P → Lacks v (flat_map ends (take k i.pipes)) → IsFreeEnd i.verts at v
  free_from v kind lacks =
      let found = found_vertex i.verts v P kind in
      record {
        place = found.0;
        within = found.1;
        named = found.2;
        any_order = found.3;
        unpiped = so.each found.0 found.1 ∙ ap (option_map (λ q. q.name)) (ap (pipe_with (take k i.pipes)) found.2 ∙ lacks-pipe_with (take k i.pipes) v lacks);
      }

  -- the fourth rule at a pipe by the table of the pipes before it
  pub PipeEnds-from : IsFreePipe i.verts at (pipe_row i.pipes k) → Keeps i PipeEnds (PipeAt k)
  PipeEnds-from free = (
    record { differ = free.2; free_a = free_kind (pipe_row i.pipes k).a free.0; free_b = free_kind (pipe_row i.pipes k).b free.1 },
    (free_lacks (pipe_row i.pipes k).a free.0, free_lacks (pipe_row i.pipes k).b free.1),
  )

  -- and the table tells the ends of a pipe as free where the rule is kept
  pub PipeEnds-to : Keeps i PipeEnds (PipeAt k) → IsFreePipe i.verts at (pipe_row i.pipes k)
  PipeEnds-to keep = (
    free_from (pipe_row i.pipes k).a keep.0.free_a keep.1.0,
    free_from (pipe_row i.pipes k).b keep.0.free_b keep.1.1,
    keep.0.differ,
  )
