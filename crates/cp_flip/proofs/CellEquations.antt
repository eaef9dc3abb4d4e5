-- The equations of the cells and the blocks of an instance: over which vars they are, and which bits meet them.
use Rattle.std.proofs.Common.{◌≡◌, ℕ, zero, suc, ◌+◌, ◌<◌, ◌≤◌, Bool, true, false, List, [], ◌∷◌, ◌++◌, length, drop, get_or, map, slice_index, take, sym, refl, ap, ap₂, ◌∙◌, subst, ⊎_elim, arith, append-nil, append_assoc, length-append}
use Rattle.std.specs.Prelude.{Option, Some, None, slice_index_or}
use Rattle.std.specs.List.{All, AllByRecursion, Contains}
use Rattle.std.proofs.lemmas.Bool.{cases_Bool, cond-false, cond-true}
use Rattle.std.proofs.lemmas.List.{get_or-append-add, get_or-drop, get_or-map, get_or-take, get_or_append_left, length-drop, length-map, length-take-le, take_all, take_more}
use Rattle.std.proofs.lemmas.List.Elements.{All-push, Contains-get_or}
use Rattle.cp_lists.proofs.EachItem.{all-append, all_parts}
use Rattle.cp_base.specs.Bits.{IsMet, IsOverVars, bit_of, differ}
use Rattle.cp_base.specs.declared.equation.Equation.{Equation}
use Rattle.cp_orbits.proofs.ClassLabels.{Contains-head, Contains-tail}
use Rattle.cp_conn.specs.Blocks.{AreInOneBlock}
use Rattle.cp_conn.specs.NamedGraphs.{rank}
use Rattle.cp_conn.specs.Numbering.{AreNumbered}
use Rattle.cp_conn.proofs.NamedGraphs.{rank_at}
use Rattle.cp_sync.specs.Numbering.{numbered}
use Rattle.cp_board.specs.Instances.{IsSynchronized, Synchronized, cell_at, graph, is_q, vert_names}
use Rattle.cp_board.specs.Solutions.{Solves}
use Rattle.cp_embed.specs.BoardBlocks.{part_with}
use Rattle.cp_embed.proofs.BoardBlocks.{verts_in}
use Rattle.cp_flip.specs.declared.block_trees.BlockTree.{BlockTree}
use Rattle.cp_flip.specs.BlockTrees.{IsEmbeddedBlock}
use Rattle.cp_parity.specs.Equations.{HaveNoBits}
use Rattle.cp_parity.specs.declared.fault.ParityFault.{ParityFault}
use Rattle.cp_parity.specs.declared.fault.ParityFault.TheVariants.{Conflict, Memory}
use Rattle.cp_flip.specs.CellEquations.{AreCells, HasDirections, HasNoSolution, HasOwnVars, block_equations, equations_from, shifted, tie_of, ties, vars_behind, vars_of}
use Rattle.cp_flip.specs.DirectedBlocks.{Directions}
use Rattle.cp_flip.proofs.MetEquations.{all_at, all_by}
use Rattle.cp_flip.proofs.SolvedBlocks.{backs, block-CanBeDirected}

-- bits that are equal do not differ
same-differ : (a b : Bool) → a ≡ b → differ a b ≡ false
same-differ a b e = subst (λ c. differ a c ≡ false) e (with_itself a)
  where
    with_itself : (c : Bool) → differ c c ≡ false
    with_itself true = refl
    with_itself false = refl

-- and back
differ-same : (a b : Bool) → differ a b ≡ false → a ≡ b
differ-same true true e = refl
differ-same true false e = e
differ-same false b e = sym e

-- a bit before others
bit-before : (front more : List Bool) (x : ℕ) → x < length front → bit_of (front ++ more) x ≡ bit_of front x
bit-before front more x lt = get_or_append_left front more false x lt

-- a bit between others
bit-between : (front b more : List Bool) (x : ℕ) → x < length b
    → bit_of ((front ++ b) ++ more) (length front + x) ≡ bit_of b x
bit-between front b more x lt =
    get_or_append_left (front ++ b) more false (length front + x) (omega (arith, length-append front b))
    ∙ get_or-append-add front b x false

-- a bit of some bits taken from others
bit-taken : (vars first x : ℕ) (bits : List Bool) → x < vars
    → bit_of (take vars (drop first bits)) x ≡ bit_of bits (first + x)
bit-taken vars first x bits lt = get_or-take vars (drop first bits) x false lt ∙ get_or-drop first bits x false

-- equations that bits meet are met by these bits between others
shifted-met : (front b more : List Bool) (eqs : List Equation) → AllByRecursion (IsOverVars (length b)) eqs
    → AllByRecursion (IsMet b) eqs
    → AllByRecursion (IsMet ((front ++ b) ++ more)) (map (shifted (length front)) eqs)
shifted-met front b more [] over met = tt
shifted-met front b more (e ∷ eqs) over met = (
  ap₂ differ (bit-between front b more e.x over.0.0) (bit-between front b more e.y over.0.1) ∙ met.0,
  shifted-met front b more eqs over.1 met.1,
)

-- and back
pub met-shifted : (vars first : ℕ) (bits : List Bool) (eqs : List Equation) → AllByRecursion (IsOverVars vars) eqs
    → AllByRecursion (IsMet bits) (map (shifted first) eqs)
    → AllByRecursion (IsMet (take vars (drop first bits))) eqs
met-shifted vars first bits [] over met = tt
met-shifted vars first bits (e ∷ eqs) over met = (
  ap₂ differ (bit-taken vars first e.x bits over.0.0) (bit-taken vars first e.y bits over.0.1) ∙ met.0,
  met-shifted vars first bits eqs over.1 met.1,
)

-- shifted equations are over the shifted vars
shifted-over : (vars first n : ℕ) (eqs : List Equation) → first + vars ≤ n → AllByRecursion (IsOverVars vars) eqs
    → AllByRecursion (IsOverVars n) (map (shifted first) eqs)
shifted-over vars first n [] le over = tt
shifted-over vars first n (e ∷ eqs) le over =
    let x = over.0.0 in
    let y = over.0.1 in
    ((omega (arith, x, le), omega (arith, y, le)), shifted-over vars first n eqs le over.1)

-- one block more
pub vars_behind-push : {T : Type 0} (first : ℕ) (ts : List (BlockTree T)) (t : BlockTree T)
    → vars_behind first (ts ++ t ∷ []) ≡ vars_behind first ts + vars_of t.directed
vars_behind-push first [] t = refl
vars_behind-push first (u ∷ ts) t = vars_behind-push (first + vars_of u.directed) ts t

-- vars behind blocks are behind the first one
pub vars_behind-le : {T : Type 0} (first : ℕ) (ts : List (BlockTree T)) → first ≤ vars_behind first ts
vars_behind-le first [] = omega arith
vars_behind-le first (u ∷ ts) = let rest = vars_behind-le (first + vars_of u.directed) ts in omega (arith, rest)

-- the vars of each block are before those behind all blocks
pub room-at : {T : Type 0} (first j : ℕ) (ts : List (BlockTree T)) (d : BlockTree T) → j < length ts
    → vars_behind first (take j ts) + vars_of (slice_index_or ts j d).directed ≤ vars_behind first ts
room-at first j [] d lt = absurd (omega (arith, lt))
room-at first zero (t ∷ ts) d lt = vars_behind-le (first + vars_of t.directed) ts
room-at first (suc j) (t ∷ ts) d lt = room-at (first + vars_of t.directed) j ts d (omega (arith, lt))

module _ (i : Synchronized) (cells : List ℕ) where
  -- one vertex more
  pub ties-push : (first : ℕ) (vs : List ℕ) (v : ℕ)
      → ties i cells first (vs ++ v ∷ []) ≡ ties i cells first vs ++ tie_of i cells (first + length vs) v
  ties-push first [] v =
      append-nil (tie_of i cells first v) ∙ ap (λ k. tie_of i cells k v) (let e : first ≡ first + 0 = omega arith in e)
  ties-push first (w ∷ vs) v =
      ap (λ es. tie_of i cells first w ++ es) (ties-push (first + 1) vs v
      ∙ ap (λ k. ties i cells (first + 1) vs ++ tie_of i cells k v)
      (let e : first + 1 + length vs ≡ first + suc (length vs) = omega arith in e))
      ∙ sym (append_assoc (tie_of i cells first w) (ties i cells (first + 1) vs)
      (tie_of i cells (first + suc (length vs)) v))

  -- one block more
  pub equations_from-push : {T : Type 0} (first : ℕ) (ts : List (BlockTree T)) (t : BlockTree T)
      → equations_from i cells first (ts ++ t ∷ [])
      ≡ equations_from i cells first ts ++ block_equations i cells (vars_behind first ts) t.verts t.directed
  equations_from-push first [] t = append-nil (block_equations i cells first t.verts t.directed)
  equations_from-push first (u ∷ ts) t =
      ap (λ es. block_equations i cells first u.verts u.directed ++ es)
      (equations_from-push (first + vars_of u.directed) ts t)
      ∙ sym (append_assoc (block_equations i cells first u.verts u.directed)
      (equations_from i cells (first + vars_of u.directed) ts)
      (block_equations i cells (vars_behind (first + vars_of u.directed) ts) t.verts t.directed))

  -- what holds of the equations of all blocks holds of those of each
  pub equations-at : {T : Type 0} (P : Equation → Type 0) (first j : ℕ) (ts : List (BlockTree T)) (d : BlockTree T)
      → j < length ts
      → AllByRecursion P (equations_from i cells first ts)
      → AllByRecursion P (block_equations i cells (vars_behind first (take j ts)) (slice_index_or ts j d).verts
      (slice_index_or ts j d).directed)
  equations-at P first j [] d lt all = absurd (omega (arith, lt))
  equations-at P first zero (t ∷ ts) d lt all =
      (all_parts P (block_equations i cells first t.verts t.directed)
      (equations_from i cells (first + vars_of t.directed) ts) all).0
  equations-at P first (suc j) (t ∷ ts) d lt all =
      equations-at P (first + vars_of t.directed) j ts d (omega (arith, lt))
      (all_parts P (block_equations i cells first t.verts t.directed)
      (equations_from i cells (first + vars_of t.directed) ts) all).1

  -- the tie of a vertex is met where its bit is that of its cell
  tie-met : (bits : List Bool) (var v : ℕ)
      → (is_q i v ≡ true → bit_of bits var ≡ bit_of bits (rank cells (cell_at i v)))
      → AllByRecursion (IsMet bits) (tie_of i cells var v)
  tie-met bits var v same =
      let tie : Equation = record { x = var; y = rank cells (cell_at i v); odd = false } in
      ⊎_elim
      (λ q. subst (AllByRecursion (IsMet bits)) (sym (cond-true {A = List Equation} (is_q i v) (tie ∷ []) [] q))
      (same-differ (bit_of bits var) (bit_of bits (rank cells (cell_at i v))) (same q), tt))
      (λ p. subst (AllByRecursion (IsMet bits)) (sym (cond-false {A = List Equation} (is_q i v) (tie ∷ []) [] p)) tt)
      (cases_Bool (is_q i v))

  -- and back
  met-tie : (bits : List Bool) (var v : ℕ) → AllByRecursion (IsMet bits) (tie_of i cells var v) → is_q i v ≡ true
      → bit_of bits var ≡ bit_of bits (rank cells (cell_at i v))
  met-tie bits var v met q =
      let tie : Equation = record { x = var; y = rank cells (cell_at i v); odd = false } in
      differ-same (bit_of bits var) (bit_of bits (rank cells (cell_at i v)))
      (subst (AllByRecursion (IsMet bits)) (cond-true {A = List Equation} (is_q i v) (tie ∷ []) [] q) met).0

  -- the ties of vertices are met where the bit of each is that of its cell
  ties-met : (bits : List Bool) (first : ℕ) (vs : List ℕ)
      → ((k : ℕ) → k < length vs → is_q i (slice_index vs k) ≡ true
      → bit_of bits (first + k) ≡ bit_of bits (rank cells (cell_at i (slice_index vs k))))
      → AllByRecursion (IsMet bits) (ties i cells first vs)
  ties-met bits first [] same = tt
  ties-met bits first (v ∷ vs) same =
      all-append (IsMet bits) (tie_of i cells first v) (ties i cells (first + 1) vs)
      (tie-met bits first v (λ q. ap (bit_of bits) (let e : first ≡ first + 0 = omega arith in e) ∙ same 0 (omega arith) q))
      (ties-met bits (first + 1) vs (λ k lt q.
      ap (bit_of bits) (let e : first + 1 + k ≡ first + suc k = omega arith in e) ∙ same (suc k) (omega (arith, lt)) q))

  -- and back
  pub met-ties : (bits : List Bool) (first : ℕ) (vs : List ℕ) → AllByRecursion (IsMet bits) (ties i cells first vs)
      → (k : ℕ) → k < length vs → is_q i (slice_index vs k) ≡ true
      → bit_of bits (first + k) ≡ bit_of bits (rank cells (cell_at i (slice_index vs k)))
  met-ties bits first [] met k lt q = absurd (omega (arith, lt))
  met-ties bits first (v ∷ vs) met zero lt q =
      ap (bit_of bits) (let e : first + 0 ≡ first = omega arith in e)
      ∙ met-tie bits first v (all_parts (IsMet bits) (tie_of i cells first v) (ties i cells (first + 1) vs) met).0 q
  met-ties bits first (v ∷ vs) met (suc k) lt q =
      ap (bit_of bits) (let e : first + suc k ≡ first + 1 + k = omega arith in e)
      ∙ met-ties bits (first + 1) vs
      (all_parts (IsMet bits) (tie_of i cells first v) (ties i cells (first + 1) vs) met).1 k (omega (arith, lt)) q

  module _ (are_cells : AreCells i cells) where
    -- the place of the cell of a Q-vertex is one of the cells
    pub cell-within : (v : ℕ) → Contains (vert_names i) v → is_q i v ≡ true → rank cells (cell_at i v) < length cells
    cell-within v live q = (rank_at cells (cell_at i v) (are_cells.all v live q)).0

    -- the tie of a vertex is over the vars
    tie-over : (n var v : ℕ) → var < n → length cells ≤ n → Contains (vert_names i) v
        → AllByRecursion (IsOverVars n) (tie_of i cells var v)
    tie-over n var v lt le live =
        let tie : Equation = record { x = var; y = rank cells (cell_at i v); odd = false } in
        ⊎_elim
        (λ q. subst (AllByRecursion (IsOverVars n)) (sym (cond-true {A = List Equation} (is_q i v) (tie ∷ []) [] q))
        ((lt, let h = cell-within v live q in omega (arith, h, le)), tt))
        (λ p. subst (AllByRecursion (IsOverVars n)) (sym (cond-false {A = List Equation} (is_q i v) (tie ∷ []) [] p)) tt)
        (cases_Bool (is_q i v))

    -- and so are those of some vertices
    ties-over : (n first : ℕ) (vs : List ℕ) → first + length vs ≤ n → length cells ≤ n
        → ((v : ℕ) → Contains vs v → Contains (vert_names i) v)
        → AllByRecursion (IsOverVars n) (ties i cells first vs)
    ties-over n first [] fit le live = tt
    ties-over n first (v ∷ vs) fit le live =
        all-append (IsOverVars n) (tie_of i cells first v) (ties i cells (first + 1) vs)
        (tie-over n first v (omega (arith, fit)) le (live v (Contains-head v vs)))
        (ties-over n (first + 1) vs (omega (arith, fit)) le (λ w c. live w (Contains-tail v w vs c)))

    -- the vertices of a block are vertices
    pub block-live : (verts es : List ℕ) (d : Option Directions) → IsEmbeddedBlock i verts es d
        → (v : ℕ) → Contains verts v
        → Contains (vert_names i) v
    block-live verts es d x v c =
        verts_in i are_cells.rules x.block.0 es x.block.1 v (subst (λ xs. Contains xs v) x.verts_are c)

    -- each has a var
    pub block-room : (verts es : List ℕ) (d : Directions) → IsEmbeddedBlock i verts es (Some d)
        → length verts ≤ d.tree.vars
    block-room verts es d x =
        let a = x.directions.1.vars in
        let b = x.directions.1.vars_kept in
        let size = ap length x.verts_are in
        omega (arith, a, b, size)

    -- the equations of a block are over the vars
    block-over : (n first : ℕ) (verts es : List ℕ) (d : Option Directions) → IsEmbeddedBlock i verts es d → HasOwnVars d
        → length cells ≤ first → first + vars_of d ≤ n
        → AllByRecursion (IsOverVars n) (block_equations i cells first verts d)
    block-over n first verts es None x own le fit = tt
    block-over n first verts es (Some d) x own le fit =
        let room = block-room verts es d x in
        all-append (IsOverVars n) (map (shifted first) d.tree.equations) (ties i cells first verts)
        (shifted-over d.tree.vars first n d.tree.equations fit own)
        (ties-over n first verts (omega (arith, room, fit)) (omega (arith, le, fit)) (block-live verts es (Some d) x))

    -- and so are those of all blocks
    pub equations-over : {T : Type 0} (n first : ℕ) (ts : List (BlockTree T))
        → AllByRecursion (λ (t : BlockTree T). IsEmbeddedBlock i t.verts t.edges t.directed) ts
        → AllByRecursion (λ (t : BlockTree T). HasOwnVars t.directed) ts
        → length cells ≤ first → vars_behind first ts ≤ n
        → AllByRecursion (IsOverVars n) (equations_from i cells first ts)
    equations-over n first [] each own le fit = tt
    equations-over n first (t ∷ ts) each own le fit =
        let next : ℕ = first + vars_of t.directed in
        let behind = vars_behind-le next ts in
        all-append (IsOverVars n) (block_equations i cells first t.verts t.directed) (equations_from i cells next ts)
        (block-over n first t.verts t.edges t.directed each.0 own.0 le (omega (arith, behind, fit)))
        (equations-over n next ts each.1 own.1 (omega (arith, le)) fit)

    -- bits that are the directions of the cells
    abbrev pub KnowCells : (ℕ → Bool) → List Bool → Type 0
    KnowCells back bits = (v : ℕ) → Contains (vert_names i) v → is_q i v ≡ true
        → bit_of bits (rank cells (cell_at i v)) ≡ back v

    -- bits of a block that stand behind those of the cells meet its equations
    block-met : (back : ℕ → Bool) (front b more : List Bool) (verts es : List ℕ) (d : Option Directions)
        → IsEmbeddedBlock i verts es d → HasOwnVars d → HasDirections i back verts b d → KnowCells back front
        → length cells ≤ length front
        → AllByRecursion (IsMet ((front ++ b) ++ more)) (block_equations i cells (length front) verts d)
    block-met back front b more verts es None x own h know le = tt
    block-met back front b more verts es (Some d) x own h know le =
        let room = block-room verts es d x in
        all-append (IsMet ((front ++ b) ++ more)) (map (shifted (length front)) d.tree.equations)
        (ties i cells (length front) verts)
        (shifted-met front b more d.tree.equations
        (subst (λ n. AllByRecursion (IsOverVars n) d.tree.equations) (sym h.0) own) h.1)
        (ties-met ((front ++ b) ++ more) (length front) verts (λ k lt q.
        let v = slice_index verts k in
        let live = block-live verts es (Some d) x v (Contains-get_or verts k 0 lt) in
        let within = cell-within v live q in
        bit-between front b more k (omega (arith, lt, room, h.0))
        ∙ h.2 k lt q
        ∙ sym (bit-before (front ++ b) more (rank cells (cell_at i v)) (omega (arith, within, le, length-append front b))
        ∙ bit-before front b (rank cells (cell_at i v)) (omega (arith, within, le))
        ∙ know v live q)))

    -- there are as many bits as vars
    directions-size : (back : ℕ → Bool) (verts : List ℕ) (b : List Bool) (d : Option Directions)
        → HasDirections i back verts b d
        → length b ≡ vars_of d
    directions-size back verts b None h = ap length h
    directions-size back verts b (Some d) h = h.0

    -- where each block has bits in the directions of the cells, some bits meet all equations
    pub bits-exist : {T : Type 0} (back : ℕ → Bool) (first : ℕ) (front : List Bool) (ts : List (BlockTree T))
        → length front ≡ first → KnowCells back front → length cells ≤ first
        → AllByRecursion (λ (t : BlockTree T). IsEmbeddedBlock i t.verts t.edges t.directed) ts
        → AllByRecursion (λ (t : BlockTree T). HasOwnVars t.directed) ts
        → ((t : BlockTree T) → IsEmbeddedBlock i t.verts t.edges t.directed
        → (b : List Bool) × HasDirections i back t.verts b t.directed)
        → (more : List Bool) × AllByRecursion (IsMet (front ++ more)) (equations_from i cells first ts)
    bits-exist back first front [] size know le each own has = ([], tt)
    bits-exist back first front (t ∷ ts) size know le each own has =
        let w = has t each.0 in
        let own_size = directions-size back t.verts w.0 t.directed w.1 in
        let sum = length-append front w.0 in
        let r = bits-exist back (first + vars_of t.directed) (front ++ w.0) ts (omega (arith, sum, size, own_size))
        (λ v live q. let within = cell-within v live q in
        bit-before front w.0 (rank cells (cell_at i v)) (omega (arith, within, le, size)) ∙ know v live q)
        (omega (arith, le)) each.1 own.1 has in (
          w.0 ++ r.0,
          subst (λ bits. AllByRecursion (IsMet bits) (equations_from i cells first (t ∷ ts)))
              (append_assoc front w.0 r.0)
              (all-append (IsMet ((front ++ w.0) ++ r.0)) (block_equations i cells first t.verts t.directed)
              (equations_from i cells (first + vars_of t.directed) ts)
              (subst (λ n. AllByRecursion (IsMet ((front ++ w.0) ++ r.0)) (block_equations i cells n t.verts t.directed)) size
              (block-met back front w.0 r.0 t.verts t.edges t.directed each.0 own.0 w.1 know (omega (arith, le, size))))
              r.1),
        )

    -- bits that meet the equations of a block have its directions
    pub met-HasDirections : (first : ℕ) (bits : List Bool) (verts es : List ℕ) (d : Option Directions)
        → IsEmbeddedBlock i verts es d → HasOwnVars d → first + vars_of d ≤ length bits
        → AllByRecursion (IsMet bits) (block_equations i cells first verts d)
        → HasDirections i (λ v. bit_of bits (rank cells (cell_at i v))) verts (take (vars_of d) (drop first bits)) d
    met-HasDirections first bits verts es None x own le met = refl
    met-HasDirections first bits verts es (Some d) x own le met =
        let vars = d.tree.vars in
        let room = block-room verts es d x in
        let parts = all_parts (IsMet bits) (map (shifted first) d.tree.equations) (ties i cells first verts) met in (
          length-take-le vars (drop first bits) (let size = length-drop first bits in omega (arith, size, le)),
          met-shifted vars first bits d.tree.equations own parts.0,
          λ k lt q. bit-taken vars first k bits (omega (arith, lt, room)) ∙ met-ties bits first verts parts.1 k lt q,
        )

  -- a solution has bits for each block
  module _ (is : IsSynchronized i) (numbers : List ℕ)
      (are : AreNumbered (AreInOneBlock (numbered (graph i)).ends) (length (graph i).edges) numbers)
      (s : ℕ → List ℕ) (solves : Solves i s) where
    -- bits of a block for the directions of the solution; they meet its equations
    solved-HasDirections : (verts es : List ℕ) (d : Option Directions) → IsEmbeddedBlock i verts es d
        → (b : List Bool) × HasDirections i (backs i is numbers are s solves) verts b d
    solved-HasDirections verts es None x = ([], refl)
    solved-HasDirections verts es (Some d) x =
        let back = backs i is numbers are s solves in
        let names = (part_with (graph i) es).verts in
        let can = block-CanBeDirected i is numbers are s solves x.block.0 es x.block.1 in
        let p = (x.directions.1.exact (λ k. back (slice_index names k))).1 can in (
          p.1,
          (
            p.2.bits_count,
            p.2.met,
            λ k lt q. p.3 k (let size = ap length x.verts_are in omega (arith, lt, size))
                ∙ ap (λ xs. back (slice_index xs k)) (sym x.verts_are),
          ),
        )

    -- so some bits meet all equations
    pub solved-bits : {T : Type 0} (ts : List (BlockTree T)) → AreCells i cells
        → AllByRecursion (λ (t : BlockTree T). IsEmbeddedBlock i t.verts t.edges t.directed) ts
        → AllByRecursion (λ (t : BlockTree T). HasOwnVars t.directed) ts
        → (bits : List Bool) × AllByRecursion (IsMet bits) (equations_from i cells (length cells) ts)
    solved-bits ts are_cells each own =
        let back = backs i is numbers are s solves in
        let front : List Bool = map solves.back cells in
        let size : length front ≡ length cells = length-map cells solves.back in
        let r = bits-exist are_cells back (length cells) front ts size
        (λ v live q.
        let at = rank_at cells (cell_at i v) (are_cells.all v live q) in
        get_or-map solves.back cells (rank cells (cell_at i v)) 0 false at.0 ∙ ap solves.back at.1)
        (omega arith) each own
        (λ t x. solved-HasDirections t.verts t.edges t.directed x) in
        (front ++ r.0, r.1)

-- the system of all blocks
module _ {T : Type 0} (i : Synchronized) (cells : List ℕ) (are_cells : AreCells i cells) (ts : List (BlockTree T))
    (each : All (λ (t : BlockTree T). IsEmbeddedBlock i t.verts t.edges t.directed) ts)
    (own : All (λ (t : BlockTree T). HasOwnVars t.directed) ts) (eqs : List Equation)
    (eqs_are : eqs ≡ equations_from i cells (length cells) ts) where
  -- its equations are over its vars
  pub system-over : (vars : ℕ) → vars ≡ vars_behind (length cells) ts → All (IsOverVars vars) eqs
  system-over vars vars_are =
      subst (All (IsOverVars vars)) (sym eqs_are)
      (all_at (IsOverVars vars) (equations_from i cells (length cells) ts)
      (equations-over i cells are_cells vars (length cells) ts
      (all_by (λ (t : BlockTree T). IsEmbeddedBlock i t.verts t.edges t.directed) ts each)
      (all_by (λ (t : BlockTree T). HasOwnVars t.directed) ts own) (omega arith) (omega (arith, vars_are))))

  -- where no bits meet it the instance has no solution
  pub system-HasNoSolution : (numbers : List ℕ)
      → AreNumbered (AreInOneBlock (numbered (graph i)).ends) (length (graph i).edges) numbers
      → (fault : ParityFault) → HaveNoBits eqs fault
      → HasNoSolution i fault
  system-HasNoSolution numbers are Memory none = tt
  system-HasNoSolution numbers are (Conflict cycle) none = λ (s, solves).
      let r = solved-bits i cells are_cells.rules numbers are s solves ts are_cells
      (all_by (λ (t : BlockTree T). IsEmbeddedBlock i t.verts t.edges t.directed) ts each)
      (all_by (λ (t : BlockTree T). HasOwnVars t.directed) ts own) in
      none r.0 (subst (All (IsMet r.0)) (sym eqs_are)
      (all_at (IsMet r.0) (equations_from i cells (length cells) ts) r.1))

-- an item of embedded blocks is one
pub item-IsEmbeddedBlock : {T : Type 0} (i : Synchronized) (ts : List (BlockTree T)) (j : ℕ) (t : BlockTree T)
    → j < length ts → t ≡ get_or ts j t
    → All (λ (u : BlockTree T). IsEmbeddedBlock i u.verts u.edges u.directed) ts
    → IsEmbeddedBlock i t.verts t.edges t.directed
item-IsEmbeddedBlock {T = T} i ts j t lt is each =
    subst (λ (u : BlockTree T). IsEmbeddedBlock i u.verts u.edges u.directed) (sym is) (each j t lt)

-- what holds of the first so many blocks, which are all, holds of all
pub own-all : {T : Type 0} (ts : List (BlockTree T)) (k : ℕ) → length ts ≤ k
    → All (λ (t : BlockTree T). HasOwnVars t.directed) (take k ts)
    → All (λ (t : BlockTree T). HasOwnVars t.directed) ts
own-all {T = T} ts k le own = subst (All (λ (t : BlockTree T). HasOwnVars t.directed)) (take_all k ts le) own

-- the system of one block more
pub system-more : {T : Type 0} (i : Synchronized) (cells : List ℕ) (ts : List (BlockTree T)) (j : ℕ) (t : BlockTree T)
    → j < length ts → t ≡ get_or ts j t → (vars more_vars : ℕ) (eqs more_eqs : List Equation)
    → vars ≡ vars_behind (length cells) (take j ts)
    → eqs ≡ equations_from i cells (length cells) (take j ts)
    → All (λ (u : BlockTree T). HasOwnVars u.directed) (take j ts)
    → more_vars ≡ vars + vars_of t.directed
    → more_eqs ≡ eqs ++ block_equations i cells vars t.verts t.directed
    → HasOwnVars t.directed
    → (more_vars ≡ vars_behind (length cells) (take (j + 1) ts))
    × (more_eqs ≡ equations_from i cells (length cells) (take (j + 1) ts))
    × All (λ (u : BlockTree T). HasOwnVars u.directed) (take (j + 1) ts)
system-more {T = T} i cells ts j t lt is vars more_vars eqs more_eqs vars_are eqs_are own vars_more eqs_more own_more =
    let more : take (j + 1) ts ≡ take j ts ++ t ∷ [] =
    take_more ts j t lt ∙ ap (λ u. take j ts ++ u ∷ []) (sym is) in (
      vars_more ∙ ap (λ n. n + vars_of t.directed) vars_are
          ∙ sym (ap (vars_behind (length cells)) more ∙ vars_behind-push (length cells) (take j ts) t),
      eqs_more
          ∙ ap₂ (λ es n. es ++ block_equations i cells n t.verts t.directed) eqs_are vars_are
          ∙ sym (ap (equations_from i cells (length cells)) more
          ∙ equations_from-push i cells (length cells) (take j ts) t),
      subst (All (λ (u : BlockTree T). HasOwnVars u.directed)) (sym more)
          (All-push (λ (u : BlockTree T). HasOwnVars u.directed) (take j ts) t own own_more),
    )

-- the ties of one vertex more, which is a Q-vertex: its own tie behind the others
pub ties-more_q : (i : Synchronized) (cells vs : List ℕ) (first k y : ℕ) (old all new : List Equation) → k < length vs
    → is_q i (slice_index vs k) ≡ true → y ≡ rank cells (cell_at i (slice_index vs k))
    → all ≡ old ++ ties i cells first (take k vs)
    → new ≡ all ++ record { x = first + k; y = y; odd = false } ∷ []
    → new ≡ old ++ ties i cells first (take (k + 1) vs)
ties-more_q i cells vs first k y old all new lt q y_is all_is new_is =
    let v = slice_index vs k in
    let size : first + length (take k vs) ≡ first + k = let n = length-take-le k vs (omega (arith, lt)) in omega (arith, n) in
    let tie : ℕ → ℕ → List Equation = λ x z. record { x = x; y = z; odd = false } ∷ [] in
    new_is
    ∙ ap₂ (λ es z. es ++ tie (first + k) z) all_is y_is
    ∙ append_assoc old (ties i cells first (take k vs)) (tie (first + k) (rank cells (cell_at i v)))
    ∙ ap (λ es. old ++ es) (ap (λ n. ties i cells first (take k vs) ++ tie n (rank cells (cell_at i v))) (sym size)
    ∙ ap (λ es. ties i cells first (take k vs) ++ es) (sym (cond-true {A = List Equation} (is_q i v)
    (tie (first + length (take k vs)) (rank cells (cell_at i v))) [] q))
    ∙ sym (ap (ties i cells first) (take_more vs k 0 lt) ∙ ties-push i cells first (take k vs) v))

-- a P-vertex more adds no tie
pub ties-more_p : (i : Synchronized) (cells vs : List ℕ) (first k : ℕ) (old all : List Equation) → k < length vs
    → is_q i (slice_index vs k) ≡ false
    → all ≡ old ++ ties i cells first (take k vs)
    → all ≡ old ++ ties i cells first (take (k + 1) vs)
ties-more_p i cells vs first k old all lt p all_is =
    let v = slice_index vs k in
    let n = first + length (take k vs) in
    all_is
    ∙ ap (λ es. old ++ es) (sym (append-nil (ties i cells first (take k vs)))
    ∙ ap (λ es. ties i cells first (take k vs) ++ es) (sym (cond-false {A = List Equation} (is_q i v)
    (record { x = n; y = rank cells (cell_at i v); odd = false } ∷ []) [] p))
    ∙ sym (ap (ties i cells first) (take_more vs k 0 lt) ∙ ties-push i cells first (take k vs) v))
