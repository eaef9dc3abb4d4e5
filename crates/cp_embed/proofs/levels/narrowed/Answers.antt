-- Both orders have all vertices once.
use Rattle.std.proofs.Common.{◌≡◌, ℕ, true, List, length, sym, ap, ◌∙◌, subst}
use Rattle.std.specs.List.Sorted.{IsPermutation}
use Rattle.std.proofs.lemmas.List.Sorted.{length_permutation}
use Rattle.cp_base.specs.Graphs.{PlainGraph, AreWithin}
use Rattle.cp_ears.specs.Bipolar.{IsBipolar}
use Rattle.cp_lists.specs.Count.{Exactly}
use Rattle.cp_embed.proofs.BipolarTests.{Exactly-own, Exactly-permuted}
use Rattle.cp_embed.proofs.TakingOrders.{bipolar-length}
use Rattle.cp_embed.proofs.levels.narrowed.Goals as goal

pub later_ends-requires-clause-once : goal.later_ends-requires-clause-once
later_ends-requires-clause-once c =
    Exactly-own c.args.block.now.graph c.args.s c.args.t c.args.order.items c.as_slice.result.now c.requires.bipolar
    c.as_slice.ensures.value

pub later_ends-requires-clause-within : goal.later_ends-requires-clause-within
later_ends-requires-clause-within c =
    subst (λ n. AreWithin n c.ends-ends.result.now)
    (sym (ap length c.as_slice.ensures.value
    ∙ bipolar-length c.args.block.now.graph c.args.s c.args.t c.args.order.items c.requires.bipolar))
    (subst (AreWithin c.args.block.now.graph.vertices)
    (sym (c.ends-ends.ensures.value ∙ ap (λ (g : PlainGraph). g.ends) c.graph.ensures.value)) c.requires.within)

pub places_in-requires : goal.places_in-requires
places_in-requires c =
    Exactly-own c.args.block.now.graph c.args.s c.args.t c.args.order.items c.as_slice-4.result.now c.requires.bipolar
    c.as_slice-4.ensures.value

-- the other order, in the code's own terms
other_is : (g : PlainGraph) (s t : ℕ) (order slice other own : List ℕ) → IsBipolar g s t order → slice ≡ order
    → IsPermutation slice other → own ≡ other → Exactly (length own) (λ v. true) own
other_is g s t order slice other own b same p is =
    subst (λ us. Exactly (length us) (λ v. true) us) (sym is)
    (Exactly-permuted slice other p (Exactly-own g s t order slice b same))

pub places_in-requires-2 : goal.places_in-requires-2
places_in-requires-2 c =
    other_is c.args.block.now.graph c.args.s c.args.t c.args.order.items c.as_slice-2.result.now
    c.in_ok-other.other.items c.as_slice-5.result.now c.requires.bipolar c.as_slice-2.ensures.value
    c.in_ok-other.ensures c.as_slice-5.ensures.value

pub is_bipolar-requires-clause-once : goal.is_bipolar-requires-clause-once
is_bipolar-requires-clause-once c =
    other_is c.args.block.now.graph c.args.s c.args.t c.args.order.items c.as_slice-2.result.now
    c.in_ok-other.other.items c.as_slice-then-width.result.now c.requires.bipolar c.as_slice-2.ensures.value
    c.in_ok-other.ensures c.as_slice-then-width.ensures.value

-- the other order is as long as there are vertices
other_length : (g : PlainGraph) (s t : ℕ) (order slice other own : List ℕ) → IsBipolar g s t order → slice ≡ order
    → IsPermutation slice other → own ≡ other → length own ≡ g.vertices
other_length g s t order slice other own b same p is =
    ap length is ∙ length_permutation slice other p ∙ ap length same ∙ bipolar-length g s t order b

pub is_bipolar-requires-clause-within : goal.is_bipolar-requires-clause-within
is_bipolar-requires-clause-within c =
    subst (λ n. AreWithin n c.ends-ends.result.now)
    (sym (other_length c.args.block.now.graph c.args.s c.args.t c.args.order.items c.as_slice-2.result.now
    c.in_ok-other.other.items c.as_slice-then-width.result.now c.requires.bipolar c.as_slice-2.ensures.value
    c.in_ok-other.ensures c.as_slice-then-width.ensures.value))
    (subst (AreWithin c.args.block.now.graph.vertices)
    (sym (c.ends-ends.ensures.value ∙ ap (λ (g : PlainGraph). g.ends) c.graph.ensures.value)) c.requires.within)

-- the graph, in the code's own terms
graph_is : (g h : PlainGraph) (ends : List (ℕ × ℕ)) (s t : ℕ) (own other : List ℕ) → h ≡ g → ends ≡ h.ends
    → length own ≡ g.vertices → own ≡ other → IsBipolar (record { vertices = length own; ends = ends }) s t own
    → IsBipolar g s t other
graph_is g h ends s t own other same ends_are long is b =
    subst (IsBipolar g s t) is
    (subst (λ (k : PlainGraph). IsBipolar k s t own)
    (ap (λ n. record { vertices = n; ends = ends }) long
    ∙ ap (λ es. record { vertices = g.vertices; ends = es }) (ends_are ∙ ap (λ (k : PlainGraph). k.ends) same)) b)

pub returns-then-branch : goal.returns-then-branch
returns-then-branch c =
    graph_is c.args.block.now.graph c.graph.result.now c.ends-ends.result.now c.args.s c.args.t
    c.as_slice-then-width.result.now c.in_ok-other.other.items c.graph.ensures.value c.ends-ends.ensures.value
    (other_length c.args.block.now.graph c.args.s c.args.t c.args.order.items c.as_slice-2.result.now
    c.in_ok-other.other.items c.as_slice-then-width.result.now c.requires.bipolar c.as_slice-2.ensures.value
    c.in_ok-other.ensures c.as_slice-then-width.ensures.value)
    c.as_slice-then-width.ensures.value (c.in_ok-is_bipolar.ensures c.if-branch.true)
