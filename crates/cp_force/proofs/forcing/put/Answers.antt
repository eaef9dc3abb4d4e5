use Rattle.std.proofs.Common.{◌≡◌, ℕ, Option, subst}
use Rattle.cp_pq.specs.Trees.{PQTree}
use Rattle.cp_pq.specs.Promises.{IsForced, IsNeverInRow}
use Rattle.cp_force.specs.declared.fault.ForceFault.TheVariants.{NotOrderable}
use Rattle.cp_force.specs.Forced.{IsOpened}
use Rattle.cp_pq.proofs.Results.{IfErr-map, IfOk-map}
use Rattle.cp_force.proofs.forcing.put.Goals as goal

pub put_for_node-requires : goal.put_for_node-requires
put_for_node-requires c = (
  c.requires.0,
  subst (λ (z : Option ℕ). IsOpened c.args.order.now c.args.var c.requires.0 c.args.hole
      (record { kids = c.args.part.kids; var = z })) c.in-None.is c.requires.1,
)

pub put_for_run-requires : goal.put_for_run-requires
put_for_run-requires c = (
  c.requires.0,
  subst (λ (z : Option ℕ). IsOpened c.args.order.now c.args.var c.requires.0 c.args.hole
      (record { kids = c.args.part.kids; var = z })) c.in-Some.is c.requires.1,
)

pub returns-in-None-clause-forced : goal.returns-in-None-clause-forced
returns-in-None-clause-forced c =
    IfOk-map _ (λ new. (tree : PQTree) → IsOpened c.args.order.now c.args.var tree c.args.hole c.args.part
    → IsForced c.args.order.now c.args.var tree new)
    (λ new f tree o. f tree (subst (λ (z : Option ℕ). IsOpened c.args.order.now c.args.var tree c.args.hole
    (record { kids = c.args.part.kids; var = z })) c.in-None.is o))
    c.put_for_node.result c.put_for_node.ensures.forced

pub returns-in-None-clause-refused : goal.returns-in-None-clause-refused
returns-in-None-clause-refused c =
    IfErr-map _ (λ fault. fault ≡ NotOrderable → (tree : PQTree)
    → IsOpened c.args.order.now c.args.var tree c.args.hole c.args.part → IsNeverInRow c.args.order.now tree)
    (λ fault f e tree o. f e tree (subst (λ (z : Option ℕ). IsOpened c.args.order.now c.args.var tree c.args.hole
    (record { kids = c.args.part.kids; var = z })) c.in-None.is o))
    c.put_for_node.result c.put_for_node.ensures.refused

pub returns-in-Some-clause-forced : goal.returns-in-Some-clause-forced
returns-in-Some-clause-forced c =
    IfOk-map _ (λ new. (tree : PQTree) → IsOpened c.args.order.now c.args.var tree c.args.hole c.args.part
    → IsForced c.args.order.now c.args.var tree new)
    (λ new f tree o. f tree (subst (λ (z : Option ℕ). IsOpened c.args.order.now c.args.var tree c.args.hole
    (record { kids = c.args.part.kids; var = z })) c.in-Some.is o))
    c.put_for_run.result c.put_for_run.ensures.forced

pub returns-in-Some-clause-refused : goal.returns-in-Some-clause-refused
returns-in-Some-clause-refused c =
    IfErr-map _ (λ fault. fault ≡ NotOrderable → (tree : PQTree)
    → IsOpened c.args.order.now c.args.var tree c.args.hole c.args.part → IsNeverInRow c.args.order.now tree)
    (λ fault f e tree o. f e tree (subst (λ (z : Option ℕ). IsOpened c.args.order.now c.args.var tree c.args.hole
    (record { kids = c.args.part.kids; var = z })) c.in-Some.is o))
    c.put_for_run.result c.put_for_run.ensures.refused
