use Rattle.std.proofs.Common.{◌≡◌, ℤ, List, [], ◌∷◌, ◌++◌, true, false, not, sym, ap, ◌∙◌, arith, append-nil}
use mir.Val.{to_z, of_z}
use mir.Syntax.{w32}
use Rattle.std.specs.List.{position}
use Rattle.std.specs.Option.{is_some}
use Rattle.std.specs.Ordering.{int_eq}
use Rattle.std.proofs.lemmas.Bool.{cond-true, cond-false}
use Rattle.std.proofs.lemmas.Int.{to_z-of_z}
use Rattle.cp_cgraph.specs.declared.kind.GraphKind.TheVariants.{UnknownEnd}
use Rattle.cp_cgraph.specs.GraphFaults.{Fault, is_known}
use Rattle.cp_cgraph.proofs.edges.find_node.Goals as goal

pub returns-in_ok-push-clause-faults : goal.returns-in_ok-push-clause-faults
returns-in_ok-push-clause-faults c =
    let same : to_z w32 (of_z w32 c.args.id) ≡ c.args.id = grind (arith, to_z-of_z) in
    let ids = c.args.ids.now in
    let found = c.place-node.ensures ∙ ap (λ (n : ℤ). position (int_eq n) ids) same in
    let known : is_known ids c.args.id ≡ false = ap is_some (sym found) ∙ c.is_none.ensures
    ∙ ap not c.if-is_none.true in
    c.in_ok-push.ensures.ok ∙ sym (ap (λ (fs : List Fault). c.args.faults.now ++ fs)
    (cond-false (is_known ids c.args.id) [] ((c.args.at, UnknownEnd) ∷ []) known))

pub returns-else-is_none-clause-faults : goal.returns-else-is_none-clause-faults
returns-else-is_none-clause-faults c =
    let same : to_z w32 (of_z w32 c.args.id) ≡ c.args.id = grind (arith, to_z-of_z) in
    let ids = c.args.ids.now in
    let found = c.place-node.ensures ∙ ap (λ (n : ℤ). position (int_eq n) ids) same in
    let known : is_known ids c.args.id ≡ true = ap is_some (sym found) ∙ c.is_none.ensures
    ∙ ap not c.if-is_none.false in
    sym (append-nil c.args.faults.now)
    ∙ sym (ap (λ (fs : List Fault). c.args.faults.now ++ fs) (cond-true (is_known ids c.args.id) []
    ((c.args.at, UnknownEnd) ∷ []) known))
