use Rattle.std.proofs.Common.{◌≡◌, sym, subst, IsPermutation}
use Rattle.std.specs.List.Sorted.{IsStrictlyIncreasing}
use Rattle.cp_pq.specs.Trees.{IsWellFormed}
use Rattle.cp_pq.specs.Promises.{IsForced, IsNeverInRow}
use Rattle.cp_force.specs.declared.fault.ForceFault.TheVariants.{NotOrderable}
use Rattle.cp_pq.proofs.Results.{IfErr-map, IfOk-map}
use Rattle.cp_force.proofs.ForcedTrees.{never_together}
use Rattle.cp_force.proofs.OpenedTrees.{leaf_set_of, reduced_set}
use Rattle.cp_force.proofs.forcing.force.Goals as goal

pub reduced_by-requires : goal.reduced_by-requires
reduced_by-requires c =
    let set = c.as_slice-leaves.result.now in
    leaf_set_of set c.args.order.now c.args.tree
    (subst (λ z. IsPermutation z c.args.order.now)
    (sym c.as_slice-leaves.ensures.value) c.in_ok-set.ensures.permutation)
    (subst IsStrictlyIncreasing (sym c.as_slice-leaves.ensures.value) c.in_ok-set.ensures.rising)
    c.requires.not_empty c.requires.leaves_of

pub returns-in-Err-clause-refused : goal.returns-in-Err-clause-refused
returns-in-Err-clause-refused c = λ e.
    let set = c.as_slice-leaves.result.now in
    never_together set c.args.order.now c.args.tree
    (subst (λ z. IsPermutation z c.args.order.now)
    (sym c.as_slice-leaves.ensures.value) c.in_ok-set.ensures.permutation)
    (subst IsWellFormed c.tree.view_is c.tree.invariant) (c.in-Err.ensures.refused e)

pub taken_out-requires-clause-leaf_set : goal.taken_out-requires-clause-leaf_set
taken_out-requires-clause-leaf_set c =
    let set = c.as_slice-leaves.result.now in
    reduced_set set c.args.order.now c.args.tree c.in-Ok.reduced
    (leaf_set_of set c.args.order.now c.args.tree
    (subst (λ z. IsPermutation z c.args.order.now)
    (sym c.as_slice-leaves.ensures.value) c.in_ok-set.ensures.permutation)
    (subst IsStrictlyIncreasing (sym c.as_slice-leaves.ensures.value) c.in_ok-set.ensures.rising)
    c.requires.not_empty c.requires.leaves_of)
    c.in-Ok.ensures.reduced

pub put-requires : goal.put-requires
put-requires c =
    let set = c.as_slice-leaves.result.now in (
      c.args.tree,
      record {
        order_of = record {
          formed = subst IsWellFormed c.tree.view_is c.tree.invariant;
          not_empty = c.requires.not_empty;
          distinct = c.requires.distinct;
          leaves_of = c.requires.leaves_of;
          var_within = c.requires.var_within;
        };
        set = set;
        set_is = subst (λ z. IsPermutation z c.args.order.now) (sym c.as_slice-leaves.ensures.value)
            c.in_ok-set.ensures.permutation;
        reduced_tree = c.in-Ok.reduced;
        formed = c.in_ok-hole-in-Ok.ensures.well_formed;
        reduced = c.in-Ok.ensures.reduced;
        opened = c.in_ok-hole-in-Ok.ensures.taken;
      },
    )

pub returns-clause-forced : goal.returns-clause-forced
returns-clause-forced c =
    let set = c.as_slice-leaves.result.now in
    IfOk-map _ (λ new. IsForced c.args.order.now c.args.var c.args.tree new)
    (λ new f. f c.args.tree (record {
      order_of = record {
        formed = subst IsWellFormed c.tree.view_is c.tree.invariant;
        not_empty = c.requires.not_empty;
        distinct = c.requires.distinct;
        leaves_of = c.requires.leaves_of;
        var_within = c.requires.var_within;
      };
      set = set;
      set_is = subst (λ z. IsPermutation z c.args.order.now) (sym c.as_slice-leaves.ensures.value)
          c.in_ok-set.ensures.permutation;
      reduced_tree = c.in-Ok.reduced;
      formed = c.in_ok-hole-in-Ok.ensures.well_formed;
      reduced = c.in-Ok.ensures.reduced;
      opened = c.in_ok-hole-in-Ok.ensures.taken;
    }))
    c.put.result c.put.ensures.forced

pub returns-clause-refused : goal.returns-clause-refused
returns-clause-refused c =
    let set = c.as_slice-leaves.result.now in
    IfErr-map _ (λ fault. fault ≡ NotOrderable → IsNeverInRow c.args.order.now c.args.tree)
    (λ fault f e. f e c.args.tree (record {
      order_of = record {
        formed = subst IsWellFormed c.tree.view_is c.tree.invariant;
        not_empty = c.requires.not_empty;
        distinct = c.requires.distinct;
        leaves_of = c.requires.leaves_of;
        var_within = c.requires.var_within;
      };
      set = set;
      set_is = subst (λ z. IsPermutation z c.args.order.now) (sym c.as_slice-leaves.ensures.value)
          c.in_ok-set.ensures.permutation;
      reduced_tree = c.in-Ok.reduced;
      formed = c.in_ok-hole-in-Ok.ensures.well_formed;
      reduced = c.in-Ok.ensures.reduced;
      opened = c.in_ok-hole-in-Ok.ensures.taken;
    }))
    c.put.result c.put.ensures.refused
