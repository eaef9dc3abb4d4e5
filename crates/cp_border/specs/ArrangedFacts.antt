-- That a layout is arranged is known in one way, so that a type may carry the fact.
use Rattle.std.specs.Prelude.{◌≡◌, ℕ, ◌<◌, Bool, List, length, slice_index_or}
use Rattle.std.specs.List.{Contains}
use Rattle.std.specs.Coded.{×_prop, le_prop, Coded-set, coded_ℕ, coded_bool}
use mathlib.Core.HLevel.{is_prop→PathP}
use Rattle.std.proofs.Common.{sym, ◌∙◌}
use Rattle.std.proofs.lemmas.List.{get_or_default}
use Rattle.cp_lists.specs.Count.{Exactly}
use Rattle.cp_lists.proofs.ExactLists.{EachOnce}
use Rattle.cp_cgraph.specs.Clustered.{Clustered}
use Rattle.cp_cgraph.specs.declared.layout.Layout.{Layout}
use Rattle.cp_border.specs.Good.{IsRightNode, IsRightCluster, IsArranged}

-- a list of distinct items holds an item at one place
Contains-prop : (xs : List ℕ) (x : ℕ) → EachOnce xs → IsProp (Contains xs x)
Contains-prop xs x once a b =
    let place : a.0 ≡ b.0 =
    once a.0 b.0 a.1 b.1 (get_or_default xs a.0 0 x a.1 ∙ a.2 ∙ sym (get_or_default xs b.0 0 x b.1 ∙ b.2)) in
    λ i. (
      place i,
      is_prop→PathP (λ j. place j < length xs) (λ j. le_prop) a.1 b.1 i,
      is_prop→PathP (λ j. slice_index_or xs (place j) x ≡ x) (λ j. Coded-set coded_ℕ _ _) a.2 b.2 i,
    )

-- so a list is in one way exactly what is wanted
Exactly-prop : (n : ℕ) (p : ℕ → Bool) (xs : List ℕ) → IsProp (Exactly n p xs)
Exactly-prop n p xs a b = λ i. record {
  each_passes = λ k lt. ×_prop le_prop (Coded-set coded_bool _ _) (a.each_passes k lt) (b.each_passes k lt) i;
  each_once = λ k m lk lm same. Coded-set coded_ℕ _ _ (a.each_once k m lk lm same) (b.each_once k m lk lm same) i;
  all = λ x lt passes. Contains-prop xs x a.each_once (a.all x lt passes) (b.all x lt passes) i;
}

-- and the line of a node, and of a cluster, is right in one way
IsRightNode-prop : (g : Clustered) (l : Layout) (v : ℕ) → IsProp (IsRightNode g l v)
IsRightNode-prop g l v a b = λ i. record {
  present = λ lt. ×_prop le_prop (Exactly-prop _ _ _) (a.present lt) (b.present lt) i;
  expected = λ lt. le_prop (a.expected lt) (b.expected lt) i;
}

-- that a cluster line is right has one proof at most
IsRightCluster-prop : (g : Clustered) (l : Layout) (k : ℕ) → IsProp (IsRightCluster g l k)
IsRightCluster-prop g l k a b = λ i. record {
  present = λ above lt. ×_prop le_prop (Exactly-prop _ _ _) (a.present above lt) (b.present above lt) i;
  expected = λ lt. le_prop (a.expected lt) (b.expected lt) i;
}

-- and with them the whole layout
pub IsArranged-prop : (g : Clustered) (l : Layout) → IsProp (IsArranged g l)
IsArranged-prop g l a b = λ i. record {
  nodes_right = λ v. IsRightNode-prop g l v (a.nodes_right v) (b.nodes_right v) i;
  clusters_right = λ k. IsRightCluster-prop g l k (a.clusters_right k) (b.clusters_right k) i;
}
