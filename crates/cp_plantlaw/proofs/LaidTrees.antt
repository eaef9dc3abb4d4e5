-- Two trees of one form whose rows are those of a shape planted twice, the kids of each node in an order of its own.
use Rattle.std.proofs.Common.{◌≡◌, ◌⊎◌, ℕ, Bool, true, List, [], ◌∷◌, ◌++◌, map, reverse, sym, refl, ap, ◌∙◌, subst, IsPermutation}
use Rattle.std.specs.List.{AllByRecursion, flat_map}
use Rattle.std.proofs.lemmas.List.{append-nil}
use Rattle.std.proofs.lemmas.List.Sorted.{IsPermutation-append, IsPermutation-cons, IsPermutation-refl, IsPermutation-trans}
use Rattle.cp_lists.proofs.EachItem.{all-append}
use Rattle.cp_board.specs.Plantings.{Planted}
use Rattle.cp_plantlaw.specs.NamedTrees.{word, Paired, PairedRow, first, both_tops, node_row, paired_rows}
use Rattle.cp_plantlaw.proofs.PermutedRows.{IsPermutation-flat_map}

-- one kid of a node in two trees of one form
pub data Kid : Type 0 where
  leaf : ℕ → Kid
  node : ℕ × ℕ → ℕ × ℕ → Paired → Kid

-- the kids of a node, in this order
abbrev pub kids_of : List Kid → Paired
kids_of [] = Paired.no_kid
kids_of (Kid.leaf x ∷ ks) = Paired.leaf_kid x (kids_of ks)
kids_of (Kid.node v g inner ∷ ks) = Paired.node_kid v g inner (kids_of ks)

-- the leaves of a kid
abbrev pub kid_word : Kid → List ℕ
kid_word (Kid.leaf x) = x ∷ []
kid_word (Kid.node v g inner) = word (first inner)

-- the leaves of the kids are those of each
pub word-kids_of : (ks : List Kid) → word (first (kids_of ks)) ≡ flat_map kid_word ks
word-kids_of [] = refl
word-kids_of (Kid.leaf x ∷ ks) = ap (λ zs. x ∷ zs) (word-kids_of ks)
word-kids_of (Kid.node v g inner ∷ ks) = ap (λ zs. word (first inner) ++ zs) (word-kids_of ks)

-- partners of the leaves, and what is asked of each row
module _ (partner : ℕ → ℕ) where
  -- the two edges to a kid
  abbrev pub kid_tops : Kid → ℕ × ℕ
  kid_tops (Kid.leaf x) = (x, partner x)
  kid_tops (Kid.node v g inner) = g

  -- the rows of a kid
  abbrev pub kid_rows : Kid → List PairedRow
  kid_rows (Kid.leaf x) = []
  kid_rows (Kid.node v g inner) = node_row partner v g (both_tops partner inner) ∷ paired_rows partner inner

  -- the edges to the kids are those to each
  pub tops-kids_of : (ks : List Kid) → both_tops partner (kids_of ks) ≡ map kid_tops ks
  tops-kids_of [] = refl
  tops-kids_of (Kid.leaf x ∷ ks) = ap (λ zs. (x, partner x) ∷ zs) (tops-kids_of ks)
  tops-kids_of (Kid.node v g inner ∷ ks) = ap (λ zs. g ∷ zs) (tops-kids_of ks)

  -- the rows of the kids are those of each
  pub rows-kids_of : (ks : List Kid) → paired_rows partner (kids_of ks) ≡ flat_map kid_rows ks
  rows-kids_of [] = refl
  rows-kids_of (Kid.leaf x ∷ ks) = rows-kids_of ks
  rows-kids_of (Kid.node v g inner ∷ ks) =
      ap (λ zs. kid_rows (Kid.node v g inner) ++ zs) (rows-kids_of ks)

  -- the order of the kids of a node is allowed: any at a P-node, the given one or its reverse at a Q-node
  pub record IsAllowed (fixed : Bool) (kids order : List (ℕ × ℕ)) : Type 0 where
    pub permuted : IsPermutation kids order
    pub kept : fixed ≡ true → (order ≡ kids) ⊎ (order ≡ reverse kids)

  -- the row has the vertices of the rows a and b, and their edges in an order that is allowed
  pub record IsLaid (a b : Planted) (row : PairedRow) : Type 0 where
    pub same_kind : b.fixed ≡ a.fixed
    pub top : ℕ × ℕ
    pub kids : List (ℕ × ℕ)
    pub order : List (ℕ × ℕ)
    pub edges_a : a.edges ≡ top.0 ∷ map (λ k. k.0) kids
    pub edges_b : b.edges ≡ top.1 ∷ map (λ k. k.1) kids
    pub same_row : row ≡ node_row partner (a.vertex, b.vertex) top order
    pub allowed : IsAllowed a.fixed kids order

  -- so do rows, place by place
  abbrev pub AreLaid : List Planted → List Planted → List PairedRow → Type 0
  AreLaid [] [] [] = Unit {0}
  AreLaid [] [] (r ∷ rs) = ⊥
  AreLaid [] (b ∷ bs) rs = ⊥
  AreLaid (a ∷ hs) [] rs = ⊥
  AreLaid (a ∷ hs) (b ∷ bs) [] = ⊥
  AreLaid (a ∷ hs) (b ∷ bs) (r ∷ rs) = IsLaid a b r × AreLaid hs bs rs

  -- rows one behind the other
  laid-append : (hs bs : List Planted) (rs : List PairedRow) (cs ds : List Planted) (ss : List PairedRow)
      → AreLaid hs bs rs → AreLaid cs ds ss → AreLaid (hs ++ cs) (bs ++ ds) (rs ++ ss)
  laid-append [] [] [] cs ds ss one two = two
  laid-append [] [] (r ∷ rs) cs ds ss one two = absurd one
  laid-append [] (b ∷ bs) rs cs ds ss one two = absurd one
  laid-append (a ∷ hs) [] rs cs ds ss one two = absurd one
  laid-append (a ∷ hs) (b ∷ bs) [] cs ds ss one two = absurd one
  laid-append (a ∷ hs) (b ∷ bs) (r ∷ rs) cs ds ss one two = (one.0, laid-append hs bs rs cs ds ss one.1 two)

  module _ (good : PairedRow → Type 0) where
    -- the rows of some kids are laid on the rows as and bs, in some order, and all are good
    pub record KidsLaid (ks : List Kid) (hs bs : List Planted) : Type 0 where
      pub rows : List PairedRow
      pub laid : AreLaid hs bs rows
      pub same : IsPermutation rows (flat_map kid_rows ks)
      pub all_good : AllByRecursion good rows

    -- no kids
    pub no_kids-KidsLaid : KidsLaid [] [] []
    no_kids-KidsLaid = record { rows = []; laid = tt; same = IsPermutation-refl []; all_good = tt }

    -- a leaf has no row
    pub leaf-KidsLaid : (x : ℕ) → KidsLaid (Kid.leaf x ∷ []) [] []
    leaf-KidsLaid x = record { rows = []; laid = tt; same = IsPermutation-refl []; all_good = tt }

    -- a kid and those behind it
    pub kids-KidsLaid : (k : Kid) (ks : List Kid) (hs bs cs ds : List Planted) → KidsLaid (k ∷ []) hs bs
        → KidsLaid ks cs ds → KidsLaid (k ∷ ks) (hs ++ cs) (bs ++ ds)
    kids-KidsLaid k ks hs bs cs ds one rest = record {
      rows = one.rows ++ rest.rows;
      laid = laid-append hs bs one.rows cs ds rest.rows one.laid rest.laid;
      same = IsPermutation-append one.rows (kid_rows k) rest.rows (flat_map kid_rows ks)
          (subst (IsPermutation one.rows) (append-nil (kid_rows k)) one.same) rest.same;
      all_good = all-append good one.rows rest.rows one.all_good rest.all_good;
    }

    -- a node with kids that are laid, in an order that is allowed
    pub node-KidsLaid : (fixed : Bool) (v g : ℕ × ℕ) (ks order : List Kid) (hs bs : List Planted)
        → KidsLaid ks hs bs
        → IsPermutation ks order
        → IsAllowed fixed (map kid_tops ks) (map kid_tops order)
        → good (node_row partner v g (map kid_tops order))
        → KidsLaid (Kid.node v g (kids_of order) ∷ [])
        (record { vertex = v.0; fixed = fixed; edges = g.0 ∷ map (λ k. k.0) (map kid_tops ks) } ∷ hs)
        (record { vertex = v.1; fixed = fixed; edges = g.1 ∷ map (λ k. k.1) (map kid_tops ks) } ∷ bs)
    node-KidsLaid fixed v g ks order hs bs below p allowed is_good =
        let row : PairedRow = node_row partner v g (map kid_tops order) in
        let same_row : row ≡ node_row partner v g (both_tops partner (kids_of order)) =
        ap (node_row partner v g) (sym (tops-kids_of order)) in
        let all : IsPermutation below.rows (paired_rows partner (kids_of order)) =
        IsPermutation-trans below.rows (flat_map kid_rows ks) (paired_rows partner (kids_of order)) below.same
        (subst (IsPermutation (flat_map kid_rows ks)) (sym (rows-kids_of order))
        (IsPermutation-flat_map kid_rows ks order p)) in
        record {
          rows = row ∷ below.rows;
          laid = (
            record {
              same_kind = refl;
              top = g;
              kids = map kid_tops ks;
              order = map kid_tops order;
              edges_a = refl;
              edges_b = refl;
              same_row = refl;
              allowed = allowed;
            },
            below.laid,
          );
          same = subst (IsPermutation (row ∷ below.rows))
              (ap (λ z. z ∷ paired_rows partner (kids_of order)) same_row
              ∙ sym (append-nil (kid_rows (Kid.node v g (kids_of order)))))
              (IsPermutation-cons row below.rows (paired_rows partner (kids_of order)) all);
          all_good = (is_good, below.all_good);
        }
