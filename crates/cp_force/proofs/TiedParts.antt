-- Parts of a tree that are exchanged for a row of leaves: what they read, by ties.
use Rattle.std.proofs.Common.{◌≡◌, ◌≢◌, ℕ, Bool, true, false, not, ◌↔◌, List, [], ◌∷◌, ◌++◌, map, reverse, refl, sym, ap, ap₂, ◌∙◌, subst, ⊎_elim, IsPermutation}
use Rattle.std.proofs.lemmas.List.{reverse-reverse}
use Rattle.std.proofs.lemmas.List.Sorted.{IsPermutation-trans, IsPermutation-reverse}
use Rattle.cp_pq.specs.declared.node.Node.{Node}
use Rattle.cp_pq.specs.declared.node.Node.TheVariants.{Leaf, Q}
use Rattle.cp_pq.specs.Nodes.{leaves, all_leaves}
use Rattle.cp_pq.specs.Bits.{differ}
use Rattle.cp_pq.specs.Readings.{Reads, ReadsAll, leaf, forward, backward, none, more}
use Rattle.cp_pq.specs.Words.{Licensed, turned}
use Rattle.cp_pq.specs.Promises.{in_direction}
use Rattle.cp_pq.proofs.ReadingLaws.{ReadsAll_nil, ReadsAll_cons, Reads_Q, read_leaves, read_all_leaves, IsPermutation-all_leaves}
use Rattle.cp_force.specs.Fits.{IsTiedReading, IsTiedRow}
use Rattle.cp_force.specs.Forced.{forced_node}
use Rattle.cp_force.proofs.NodeLayers.{map-reverse}
use Rattle.cp_pq.proofs.Mirrors.{not_not}
use Rattle.cp_force.proofs.Mirrors.{reverse_licence, reverse_read, reverse_read_row}
use Rattle.cp_force.proofs.FittedNodes.{Licensed-join, Licensed-cut, reads_Leaf}
use Rattle.cp_base.proofs.Bits.{differ_twice}

-- the row in a direction is a reading exactly where the ties are licensed in this direction
pub direction_read : (n : Node) (row : List ℕ) (ts : List (ℕ × Bool)) → IsTiedReading n row ts
    → (may : ℕ → Bool → Bool) (b : Bool) → Reads may n (in_direction b row) ↔ Licensed b may ts
direction_read n row ts fit may false = fit.reads may
direction_read n row ts fit may true =
    let m = reverse_read may n row in
    let l = reverse_licence may ts in
    let f = fit.reads (turned may) in
    (λ r. l.0 (f.0 (m.0 r)), λ h. m.1 (f.1 (l.1 h)))

-- the same of a row of nodes, which is read in the direction of the row, turned where its own is
pub direction_read_row : (ks : List Node) (row : List ℕ) (d : Bool) (ts : List (ℕ × Bool)) → IsTiedRow ks row d ts
    → (may : ℕ → Bool → Bool) (way b : Bool)
    → ReadsAll may (in_direction way ks) (in_direction b row) ↔ ((way ≡ differ b d) × Licensed b may ts)
direction_read_row ks row d ts fit may way false = fit.reads may way
direction_read_row ks row d ts fit may way true =
    let m = reverse_read_row may way ks row in
    let l = reverse_licence may ts in
    let f = fit.reads (turned may) (not way) in (
      λ r. let h = f.0 (m.0 r) in (sym (not_not way) ∙ ap not h.0, l.0 h.1),
      λ h. m.1 (f.1 (ap not h.0 ∙ not_not d, l.1 h.1)),
    )

-- a row of leaves reads itself
pub leaves_read : (may : ℕ → Bool → Bool) (xs : List ℕ) → ReadsAll may (map Leaf xs) xs
leaves_read may [] = none
leaves_read may (x ∷ xs) = more (Leaf x) (map Leaf xs) (x ∷ []) xs (leaf x) (leaves_read may xs)

-- and nothing else
pub leaves_word : (may : ℕ → Bool → Bool) (xs u : List ℕ) → ReadsAll may (map Leaf xs) u → u ≡ xs
leaves_word may [] u r = ReadsAll_nil may u r
leaves_word may (x ∷ xs) u r =
    let cut = ReadsAll_cons may (Leaf x) (map Leaf xs) u r in
    cut.2 ∙ ap₂ (λ a b. a ++ b) (reads_Leaf may x cut.0 cut.3) (leaves_word may xs cut.1 cut.4)

-- a row of leaves turned is the leaves of the row turned
map_turned : (b : Bool) (xs : List ℕ) → in_direction b (map Leaf xs) ≡ map Leaf (in_direction b xs)
map_turned true xs = sym (map-reverse Leaf xs)
map_turned false xs = refl

-- a Q-node of leaves reads the row in a direction that its var may have
pub q_reads : (may : ℕ → Bool → Bool) (var : ℕ) (xs : List ℕ) (b : Bool) → may var b ≡ true
    → Reads may (Q var (map Leaf xs)) (in_direction b xs)
q_reads may var xs true m =
    backward var (map Leaf xs) (reverse xs) m
    (subst (λ z. ReadsAll may z (reverse xs)) (sym (map_turned true xs)) (leaves_read may (reverse xs)))
q_reads may var xs false m = forward var (map Leaf xs) xs m (leaves_read may xs)

-- and nothing else
pub q_word : (may : ℕ → Bool → Bool) (var : ℕ) (xs u : List ℕ) → Reads may (Q var (map Leaf xs)) u
    → (b : Bool) × (may var b ≡ true) × (u ≡ in_direction b xs)
q_word may var xs u r =
    ⊎_elim
    (λ h. (false, h.0, leaves_word may xs u h.1))
    (λ h. (true, h.0, leaves_word may (reverse xs) u (subst (λ z. ReadsAll may z u) (map_turned true xs) h.1)))
    (Reads_Q may var (map Leaf xs) u r)

-- the licence gives each var one bit at most
abbrev pub HasOneBit : (ℕ → Bool → Bool) → Type 0
HasOneBit may = (v : ℕ) (a b : Bool) → may v a ≡ true → may v b ≡ true → a ≡ b

-- a part with the readings K, in whose place the readings J are put: K reads the row in a direction exactly by the
-- ties, and J reads the row in the direction of var alone. G tells the ways in which the place may be read
pub record IsTiedPart (may : ℕ → Bool → Bool) (var : ℕ) (row : List ℕ) (ties : List (ℕ × Bool)) (G : Bool → Type 0)
    (K J : Bool → List ℕ → Type 0) : Type 0 where
  pub same_leaves : (way : Bool) (u : List ℕ) → K way u → IsPermutation row u
  pub tied : (way b : Bool) → G way → K way (in_direction b row) → Licensed b may ties
  pub put : (way b : Bool) → G way → K way (in_direction b row) → may var b ≡ true → J way (in_direction b row)
  pub read : (way : Bool) (u : List ℕ) → G way → J way u
      → (b : Bool) × (u ≡ in_direction b row) × (Licensed b may ties → K way u)
  pub bound : HasOneBit may → (way : Bool) (u : List ℕ) (c : Bool) → G way → J way u → may var c ≡ true
      → Licensed c may ties → (u ≡ in_direction c row) × K way u
  pub able : ((b : Bool) → Licensed b may ties) → (way : Bool) → G way → (b : Bool) × K way (in_direction b row)

module _ (may : ℕ → Bool → Bool) (var : ℕ) (n : Node) (row : List ℕ) (ties : List (ℕ × Bool))
    (fit : IsTiedReading n row ties)
    (perm : IsPermutation row (leaves n)) where
  -- the readings of the node that is put in
  abbrev pub Put : Bool → List ℕ → Type 0
  Put way u = Reads may (forced_node var row) u

  -- of the node that is taken out
  abbrev pub Taken : Bool → List ℕ → Type 0
  Taken way u = Reads may n u

  -- one leaf is read in each direction
  one_leaf : (x : ℕ) (b : Bool) → x ∷ [] ≡ in_direction b (x ∷ [])
  one_leaf x true = refl
  one_leaf x false = refl

  -- the row is put in
  node_put : (xs : List ℕ) → xs ≢ [] → (b : Bool) → may var b ≡ true
      → Reads may (forced_node var xs) (in_direction b xs)
  node_put [] some b m = absurd (some refl)
  node_put (x ∷ []) some b m = subst (Reads may (Leaf x)) (one_leaf x b) (leaf x)
  node_put (x ∷ y ∷ xs) some b m = q_reads may var (x ∷ y ∷ xs) b m

  -- and read in a direction
  node_read : (xs : List ℕ) → xs ≢ [] → (u : List ℕ) → Reads may (forced_node var xs) u
      → (b : Bool) × (u ≡ in_direction b xs)
  node_read [] some u r = absurd (some refl)
  node_read (x ∷ []) some u r = (false, reads_Leaf may x u r)
  node_read (x ∷ y ∷ xs) some u r = let h = q_word may var (x ∷ y ∷ xs) u r in (h.0, h.2)

  -- which is that of var
  node_bound : HasOneBit may → (xs : List ℕ) → xs ≢ [] → (u : List ℕ) (c : Bool) → Reads may (forced_node var xs) u
      → may var c ≡ true → u ≡ in_direction c xs
  node_bound one [] some u c r m = absurd (some refl)
  node_bound one (x ∷ []) some u c r m = reads_Leaf may x u r ∙ one_leaf x c
  node_bound one (x ∷ y ∷ xs) some u c r m =
      let h = q_word may var (x ∷ y ∷ xs) u r in
      h.2 ∙ ap (λ b. in_direction b (x ∷ y ∷ xs)) (one var h.0 c h.1 m)

  -- a node as a part
  pub tied_node : row ≢ [] → IsTiedPart may var row ties (λ way. Unit {0}) Taken Put
  tied_node some = record {
    same_leaves = λ way u r. IsPermutation-trans row (leaves n) u perm (read_leaves may n u r);
    tied = λ way b g r. (direction_read n row ties fit may b).0 r;
    put = λ way b g r m. node_put row some b m;
    read = λ way u g r.
        let h = node_read row some u r in
        (h.0, h.1, λ l. subst (Reads may n) (sym h.1) ((direction_read n row ties fit may h.0).1 l));
    bound = λ one way u c g r m l.
        let e = node_bound one row some u c r m in
        (e, subst (Reads may n) (sym e) ((direction_read n row ties fit may c).1 l));
    able = λ all way g. (false, (direction_read n row ties fit may false).1 (all false));
  }

-- turned by both bits
turned_both : {A : Type 0} (a b : Bool) (xs : List A) → in_direction a (in_direction b xs)
    ≡ in_direction (differ a b) xs
turned_both true true xs = reverse-reverse xs
turned_both true false xs = refl
turned_both false b xs = refl

-- a row turned has the same leaves
pub turned_leaves : (may : ℕ → Bool → Bool) (way : Bool) (ks : List Node) (u : List ℕ)
    → ReadsAll may (in_direction way ks) u
    → IsPermutation (all_leaves ks) u
turned_leaves may true ks u r =
    IsPermutation-trans (all_leaves ks) (all_leaves (reverse ks)) u
    (IsPermutation-all_leaves ks (reverse ks) (IsPermutation-reverse ks)) (read_all_leaves may (reverse ks) u r)
turned_leaves may false ks u r = read_all_leaves may ks u r

module _ (may : ℕ → Bool → Bool) (var v : ℕ) (ks : List Node) (row : List ℕ) (d : Bool) (ts : List (ℕ × Bool))
    (fit : IsTiedRow ks row d ts) (perm : IsPermutation row (all_leaves ks)) where
  -- the readings of the row of leaves that is put in
  abbrev pub PutRow : Bool → List ℕ → Type 0
  PutRow way u = ReadsAll may (in_direction way (map Leaf (in_direction d row))) u

  -- of the row of nodes that is taken out
  abbrev pub TakenRow : Bool → List ℕ → Type 0
  TakenRow way u = ReadsAll may (in_direction way ks) u

  -- all ties, that of the var of the Q-node among them
  abbrev pub all_ties : List (ℕ × Bool)
  all_ties = ts ++ (v, d) ∷ []

  -- what is put in as leaves of a row
  put_row : (way : Bool) → in_direction way (map Leaf (in_direction d row)) ≡ map Leaf (in_direction (differ way d) row)
  put_row way = map_turned way (in_direction d row) ∙ ap (map Leaf) (turned_both way d row)

  -- what is put in is read in one direction
  row_word : (way : Bool) (u : List ℕ) → PutRow way u → u ≡ in_direction (differ way d) row
  row_word way u r =
      leaves_word may (in_direction (differ way d) row) u (subst (λ z. ReadsAll may z u) (put_row way) r)

  -- a run of kids of a Q-node as a part
  pub tied_run : IsTiedPart may var row all_ties (λ way. may v way ≡ true) TakenRow PutRow
  tied_run = record {
    same_leaves = λ way u r. IsPermutation-trans row (all_leaves ks) u perm (turned_leaves may way ks u r);
    tied = λ way b g r.
        let h = (direction_read_row ks row d ts fit may way b).0 r in
        Licensed-join b may ts ((v, d) ∷ []) h.1 (subst (λ z. may v z ≡ true) h.0 g, tt);
    put = λ way b g r m.
        let h = (direction_read_row ks row d ts fit may way b).0 r in
        subst (λ z. ReadsAll may z (in_direction b row)) (sym (put_row way))
        (subst (λ z. ReadsAll may (map Leaf (in_direction z row)) (in_direction b row))
        (sym (ap (λ z. differ z d) h.0 ∙ differ_twice b d))
        (leaves_read may (in_direction b row)));
    read = λ way u g r.
        let e = row_word way u r in (
          differ way d,
          e,
          λ l. subst (TakenRow way) (sym e)
              ((direction_read_row ks row d ts fit may way (differ way d)).1
              (sym (differ_twice way d), (Licensed-cut (differ way d) may ts ((v, d) ∷ []) l).0)),
        );
    bound = λ one way u c g r m l.
        let parts = Licensed-cut c may ts ((v, d) ∷ []) l in
        let same : way ≡ differ c d = one v way (differ c d) g parts.1.0 in
        let e : u ≡ in_direction c row =
        row_word way u r ∙ ap (λ z. in_direction z row) (ap (λ z. differ z d) same ∙ differ_twice c d) in
        (e, subst (TakenRow way) (sym e) ((direction_read_row ks row d ts fit may way c).1 (same, parts.0)));
    able = λ all way g. (
      differ way d,
      (direction_read_row ks row d ts fit may way (differ way d)).1
          (sym (differ_twice way d), (Licensed-cut (differ way d) may ts ((v, d) ∷ []) (all (differ way d))).0),
    );
  }
