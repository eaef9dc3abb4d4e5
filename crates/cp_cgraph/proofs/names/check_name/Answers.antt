use Rattle.std.proofs.Common.{◌≡◌, ℤ, List, ◌++◌, true, false, not, sym, ap, ◌∙◌, arith, append-nil}
use mir.Val.{to_z, of_z}
use mir.Syntax.{w32}
use Rattle.std.specs.List.{position}
use Rattle.std.specs.Option.{is_some}
use Rattle.std.specs.Ordering.{int_eq}
use Rattle.std.proofs.lemmas.Int.{to_z-of_z}
use Rattle.cp_cgraph.specs.GraphFaults.{Fault, is_known}
use Rattle.cp_cgraph.proofs.NameSteps.{unknown_name, second_name, fresh_name}
use Rattle.cp_cgraph.proofs.names.check_name.Goals as goal

pub returns-in_ok-push : goal.returns-in_ok-push
returns-in_ok-push c =
    let same : to_z w32 (of_z w32 c.args.id) ≡ c.args.id = grind (arith, to_z-of_z) in
    let found = c.place.ensures ∙ ap (λ (n : ℤ). position (int_eq n) c.args.ids.now) same in
    let known : is_known c.args.ids.now c.args.id ≡ false = ap is_some (sym found) ∙ c.is_none.ensures
    ∙ ap not c.if-is_none.true in
    c.in_ok-push.ensures.ok ∙ sym (ap (λ (fs : List Fault). c.args.faults.now ++ fs)
    (unknown_name c.args.ids.now c.args.named.now c.args.id c.args.at known))

pub returns-in_ok-push-2 : goal.returns-in_ok-push-2
returns-in_ok-push-2 c =
    let same : to_z w32 (of_z w32 c.args.id) ≡ c.args.id = grind (arith, to_z-of_z) in
    let found = c.place.ensures ∙ ap (λ (n : ℤ). position (int_eq n) c.args.ids.now) same in
    let known : is_known c.args.ids.now c.args.id ≡ true = ap is_some (sym found) ∙ c.is_none.ensures
    ∙ ap not c.if-is_none.false in
    let before = c.place-else-is_none.ensures ∙ ap (λ (n : ℤ). position (int_eq n) c.args.named.now) same in
    let earlier : is_known c.args.named.now c.args.id ≡ true = ap is_some (sym before) ∙ sym c.is_some.ensures
    ∙ c.if-is_some.true in
    c.in_ok-push-2.ensures.ok
    ∙ sym (ap (λ (fs : List Fault). c.args.faults.now ++ fs) (second_name c.args.ids.now c.args.named.now c.args.id
    c.args.at known earlier))

pub returns-else-is_some : goal.returns-else-is_some
returns-else-is_some c =
    let same : to_z w32 (of_z w32 c.args.id) ≡ c.args.id = grind (arith, to_z-of_z) in
    let found = c.place.ensures ∙ ap (λ (n : ℤ). position (int_eq n) c.args.ids.now) same in
    let known : is_known c.args.ids.now c.args.id ≡ true = ap is_some (sym found) ∙ c.is_none.ensures
    ∙ ap not c.if-is_none.false in
    let before = c.place-else-is_none.ensures ∙ ap (λ (n : ℤ). position (int_eq n) c.args.named.now) same in
    let earlier : is_known c.args.named.now c.args.id ≡ false = ap is_some (sym before) ∙ sym c.is_some.ensures
    ∙ c.if-is_some.false in
    sym (append-nil c.args.faults.now)
    ∙ sym (ap (λ (fs : List Fault). c.args.faults.now ++ fs) (fresh_name c.args.ids.now c.args.named.now c.args.id
    c.args.at known earlier))
