-- Rows against a set: what a row of kids becomes.
use Rattle.std.proofs.Common.{◌≡◌, ℕ, Bool, true, false, cond, ◌&&◌, List, [], ◌∷◌, ◌++◌, refl, sym, ap, ◌∙◌, subst, ⊎_elim}
use Rattle.std.specs.List.{list_all}
use Rattle.std.proofs.lemmas.Bool.{both_ways, cases_Bool, and_parts, and_from}
use Rattle.std.proofs.lemmas.List.Folds.{list_all-append}
use Rattle.cp_pq.specs.declared.node.Node.{Node}
use Rattle.cp_pq.specs.Nodes.{leaves, all_leaves}
use Rattle.cp_pq.specs.Readings.{Reads, ReadsAll, more}
use Rattle.cp_pq.specs.Words.{sorted, together, has_all, row_sorted, IsLike}
use Rattle.cp_pq.proofs.Permutations.{list_all-IsPermutation}
use Rattle.cp_pq.proofs.NodeLayers.{all_leaves_cons, all_leaves_nil}
use Rattle.cp_pq.proofs.WordLaws.{sorted_front, sorted_cut, together_start, together_whole}
use Rattle.cp_pq.proofs.ReadingLaws.{ReadsAll_nil, ReadsAll_cons, ReadsAll_one, one_ReadsAll, ReadsAll_join, ReadsAll_cut, read_leaves, read_all_leaves}

-- the leaves of a reading of a node all pass a test where those of the node do
pub class_read : (p : ℕ → Bool) (may : ℕ → Bool → Bool) (k : Node) (u : List ℕ) → Reads may k u
    → list_all p u ≡ has_all p k
unfolding has_all
class_read p may k u r = sym (list_all-IsPermutation p (leaves k) u (read_leaves may k u r))

-- the leaves of a row all pass a test where those of each of its nodes do
pub row_all : (p : ℕ → Bool) (ks : List Node) → list_all p (all_leaves ks) ≡ list_all (has_all p) ks
unfolding has_all
row_all p [] = ap (list_all p) all_leaves_nil
row_all p (k ∷ ks) = ap (list_all p) (all_leaves_cons k ks) ∙ list_all-append p (leaves k) (all_leaves ks) ∙ ap (λ b. list_all p (leaves k) && b) (row_all p ks)

-- the leaves of a reading of a row all pass a test where those of each of its nodes do
pub class_row : (p : ℕ → Bool) (may : ℕ → Bool → Bool) (ks : List Node) (u : List ℕ) → ReadsAll may ks u
    → list_all p u ≡ list_all (has_all p) ks
class_row p may ks u r = sym (list_all-IsPermutation p (all_leaves ks) u (read_all_leaves may ks u r)) ∙ row_all p ks

-- the empty row is like itself for a test that the empty word passes
pub like_nil : (test : List ℕ → Bool) → test [] ≡ true → IsLike test (λ may. Unit {0}) [] []
like_nil test e may xs = (λ h. (tt, h.0), λ h. (h.1, ap test (ReadsAll_nil may xs h.1) ∙ e))

-- a kid outside in front changes nothing
pub like_front : (q : ℕ → Bool) (test : List ℕ → Bool) (L : (ℕ → Bool → Bool) → Type 0) (k : Node)
    (row line : List Node)
    → ((u v : List ℕ) → list_all q u ≡ true → test (u ++ v) ≡ test v) → has_all q k ≡ true → IsLike test L row line
    → IsLike test L (k ∷ row) (k ∷ line)
like_front q test L k row line front out like may xs = (
  λ r. let h = ReadsAll_cons may k row xs r.0 in
      let g = (like may h.1).0 (h.4, sym (front h.0 h.1 (class_read q may k h.0 h.3 ∙ out)) ∙ ap test (sym h.2) ∙ r.1) in
      (g.0, subst (ReadsAll may (k ∷ line)) (sym h.2) (more k line h.0 h.1 h.3 g.1)),
  λ r. let h = ReadsAll_cons may k line xs r.1 in
      let g = (like may h.1).1 (r.0, h.4) in
      (subst (ReadsAll may (k ∷ row)) (sym h.2) (more k row h.0 h.1 h.3 g.0), ap test h.2 ∙ front h.0 h.1 (class_read q may k h.0 h.3 ∙ out) ∙ g.1),
)

-- the first kid that is not outside is a line, and those behind it are inside
pub sorted_here : (q p : ℕ → Bool) (L : (ℕ → Bool → Bool) → Type 0) (k : Node) (row line : List Node)
    → has_all q k ≡ false → list_all (has_all p) row ≡ true → IsLike (sorted q p) L (k ∷ []) line
    → IsLike (sorted q p) L (k ∷ row) (line ++ row)
sorted_here q p L k row line out full like may xs = (
  λ r. let h = ReadsAll_cons may k row xs r.0 in
      let s = and_parts _ _ (sym (sorted_cut q p h.0 h.1 (class_read q may k h.0 h.3 ∙ out)) ∙ ap (sorted q p) (sym h.2) ∙ r.1) in
      let g = (like may h.0).0 (one_ReadsAll may k h.0 h.3, s.0) in
      (g.0, subst (ReadsAll may (line ++ row)) (sym h.2) (ReadsAll_join may line row h.0 h.1 g.1 h.4)),
  λ r. let h = ReadsAll_cut may line row xs r.1 in
      let g = (like may h.0).1 (r.0, h.3) in
      let a = ReadsAll_one may k h.0 g.0 in
      (subst (ReadsAll may (k ∷ row)) (sym h.2) (more k row h.0 h.1 a h.4), ap (sorted q p) h.2 ∙ sorted_cut q p h.0 h.1 (class_read q may k h.0 a ∙ out) ∙ and_from _ _ g.1 (class_row p may row h.1 h.4 ∙ full)),
)

-- the first kid that is not outside begins the run, which goes on in the row behind it
pub run_here : (q p : ℕ → Bool) (L M : (ℕ → Bool → Bool) → Type 0) (k : Node) (row line rest : List Node)
    → has_all q k ≡ false → list_all (has_all q) row ≡ false → IsLike (sorted q p) L (k ∷ []) line
    → IsLike (sorted p q) M row rest → IsLike (together q p) (λ may. L may × M may) (k ∷ row) (line ++ rest)
run_here q p L M k row line rest out left like next may xs = (
  λ r. let h = ReadsAll_cons may k row xs r.0 in
      let t : together q p (h.0 ++ h.1) ≡ true = ap (together q p) (sym h.2) ∙ r.1 in
      ⊎_elim
      (λ s. let g = (like may h.0).0 (one_ReadsAll may k h.0 h.3, s) in
      let f = (next may h.1).0 (h.4, sym (together_start q p h.0 h.1 (class_read q may k h.0 h.3 ∙ out) s) ∙ t) in
      ((g.0, f.0), subst (ReadsAll may (line ++ rest)) (sym h.2) (ReadsAll_join may line rest h.0 h.1 g.1 f.1)))
      (λ s. absurd (both_ways _ left (sym (class_row q may row h.1 h.4) ∙ (and_parts _ _ (sym (together_whole q p h.0 h.1 s) ∙ t)).1)))
      (cases_Bool (sorted q p h.0)),
  λ r. let h = ReadsAll_cut may line rest xs r.1 in
      let g = (like may h.0).1 (r.0.0, h.3) in
      let f = (next may h.1).1 (r.0.1, h.4) in
      let a = ReadsAll_one may k h.0 g.0 in
      (subst (ReadsAll may (k ∷ row)) (sym h.2) (more k row h.0 h.1 a f.0), ap (together q p) h.2 ∙ together_start q p h.0 h.1 (class_read q may k h.0 a ∙ out) g.1 ∙ f.1),
)

-- a row with a sorted reading has kids outside, then one, then kids inside
pub row_sorted_of : (q p : ℕ → Bool) (may : ℕ → Bool → Bool) (ks : List Node) (xs : List ℕ) → ReadsAll may ks xs
    → sorted q p xs ≡ true → row_sorted q p ks ≡ true
row_sorted_of q p may [] xs r s = refl
row_sorted_of q p may (k ∷ ks) xs r s =
    ⊎_elim
    (λ out. ap (λ b. cond b (row_sorted q p ks) (list_all (has_all p) ks)) out ∙ row_sorted_of q p may ks h.1 h.4 (sym (sorted_front q p h.0 h.1 (class_read q may k h.0 h.3 ∙ out)) ∙ t))
    (λ out. ap (λ b. cond b (row_sorted q p ks) (list_all (has_all p) ks)) out ∙ sym (class_row p may ks h.1 h.4) ∙ (and_parts _ _ (sym (sorted_cut q p h.0 h.1 (class_read q may k h.0 h.3 ∙ out)) ∙ t)).1)
    (cases_Bool (has_all q k))
  where
    h : (u v : List ℕ) × (xs ≡ u ++ v) × Reads may k u × ReadsAll may ks v
    h = ReadsAll_cons may k ks xs r

    t : sorted q p (h.0 ++ h.1) ≡ true
    t = ap (sorted q p) (sym h.2) ∙ s
