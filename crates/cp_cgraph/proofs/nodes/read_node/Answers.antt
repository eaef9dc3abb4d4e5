use Rattle.std.proofs.Common.{◌≡◌, ℤ, ◌++◌, Some, sym, ap, ◌∙◌, arith}
use mir.Val.{to_z, of_z}
use mir.Syntax.{w32}
use Rattle.std.specs.Prelude.{codes}
use Rattle.std.specs.Option.{is_some}
use Rattle.std.proofs.lemmas.Int.{to_z-of_z}
use Rattle.std.proofs.lemmas.Result.{IfOk-weaker}
use Rattle.cp_cgraph.specs.declared.kind.GraphKind.TheVariants.{MissingId}
use Rattle.cp_cgraph.specs.Entries.{keyed, inner, first_id}
use Rattle.cp_cgraph.specs.GraphFaults.{is_known, id_faults, node_faults}
use Rattle.cp_cgraph.proofs.NodeSteps.{second_node, fresh_node}
use Rattle.cp_cgraph.proofs.nodes.read_node.Goals as goal
use Rattle.cp_cgraph.proofs.nodes.read_node.Goals.{then-is_some+in_ok-push-in-Some, else-is_some}

pub returns-after-is_some-clause-faults : goal.returns-after-is_some-clause-faults
returns-after-is_some-clause-faults c =
    let ids = c.args.ids in
    let e = c.args.entry.now in
    let es = c.items.result.now in
    let n = c.in-Some.id in
    let at = c.in-Some.at in
    let value : inner e.value ≡ Some es = ap inner c.in-List.is ∙ ap Some (sym c.items.ensures) in
    let id : Some (n, at) ≡ first_id (keyed (codes "id") es) = sym c.in-Some.is ∙ c.in_ok-read_id.ensures.id in
    let told : c.read_id.new.faults ≡ c.args.faults.now ++ id_faults (e.value_at, MissingId) (keyed (codes "id") es) =
    c.in_ok-read_id.ensures.faults in
    let same : to_z w32 (of_z w32 n) ≡ n = grind (arith, to_z-of_z) in
    let found : is_some c.place.result ≡ is_known ids n = ap is_some c.place.ensures
    ∙ ap (λ (m : ℤ). is_known ids m) same in
    IfOk-weaker c.with.result _ (λ _. c.if-is_some.faults ≡ c.args.faults.now ++ node_faults ids e)
    (λ _ _. elim c.if-is_some.branch [
      | then-is_some+in_ok-push-in-Some w ↦
          w.faults-is ∙ w.in_ok-push-in-Some.ensures.ok
          ∙ second_node ids c.args.faults.now c.read_id.new.faults e es n at value id told
          (sym found ∙ sym c.is_some.ensures ∙ w.if-is_some.true)
      | else-is_some w ↦
          w.faults-is ∙ fresh_node ids c.args.faults.now c.read_id.new.faults e es n at value id told
          (sym found ∙ sym c.is_some.ensures ∙ w.if-is_some.false)
    ]) c.with.ensures
