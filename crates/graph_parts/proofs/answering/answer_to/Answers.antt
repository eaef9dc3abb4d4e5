-- The numbers, or that the graph has none, or the fault of the text.
use Rattle.std.proofs.Common.{◌∙◌, ℕ, sym, ap, subst}
use Rattle.cp_gml.specs.Kinds.{grammar_number}
use Rattle.cp_cgraph.specs.Kinds.{graph_number}
use Rattle.graph_parts.specs.Answer.IsFault.{grammar, graph}
use Rattle.graph_parts.specs.Answer.{Told}
use Rattle.graph_parts.specs.Answer.Told.{refused, unfit, done}
use Rattle.graph_parts.specs.Texts.{number_lines, refused_line}
use Rattle.graph_parts.specs.declared.end.End.TheVariants as ends
use Rattle.graph_parts.proofs.answering.answer_to.Goals as goal

pub returns-in-Some : goal.returns-in-Some
returns-in-Some c =
    let found = rw c.in-Some.is at c.in_ok-numbers-in-Ok.ensures in
    subst (λ t. Told c.args.asked c.args.bytes.now ends.Done t)
    (sym (c.in_ok-number_text-in-Some.ensures ∙ ap number_lines c.as_slice.ensures.value))
    (done _ c.in-Ok.ensures.graph found.0 c.in-Some.numbers.items found.1)

pub returns-in-Ok : goal.returns-in-Ok
returns-in-Ok c =
    let none = rw c.in-None.is at c.in_ok-numbers-in-Ok.ensures in
    subst (λ t. Told c.args.asked c.args.bytes.now ends.Unfit t) (sym c.in_ok-from_slice-in-None.ensures.items)
    (unfit _ c.in-Ok.ensures.graph none)

pub returns-in-Err-Grammar : goal.returns-in-Err-Grammar
returns-in-Err-Grammar c =
    let bytes = c.args.bytes.now in
    let kind = c.in-Err-Grammar.kind in
    let at = c.in-Err-Grammar.at in
    let number = c.number-number.result in
    let fault = rw c.in-Err-Grammar.field-0-is at c.in-Err-Grammar.ensures.fault in
    let is = rw c.in-Err-Grammar.field-0-is at c.number-number.ensures in
    let line = rw c.in-Err-Grammar.field-0-is at c.in_ok-line-in-Err-Grammar.ensures in
    let told : Told c.args.asked bytes (ends.Refused number at) (refused_line number at) =
    subst (λ (n : ℕ). Told c.args.asked bytes (ends.Refused n at) (refused_line n at)) (sym is)
    (refused (grammar_number kind) at (grammar kind at fault)) in
    rw c.in-Err-Grammar.field-0-is (subst (λ t. Told c.args.asked bytes (ends.Refused number at) t) (sym line) told)

pub returns-in-Err-Graph : goal.returns-in-Err-Graph
returns-in-Err-Graph c =
    let bytes = c.args.bytes.now in
    let kind = c.in-Err-Graph.kind in
    let at = c.in-Err-Graph.at in
    let number = c.number-number-in-Err-Graph.result in
    let fault = rw c.in-Err-Graph.field-0-is at c.in-Err-Graph.ensures.fault in
    let is = rw c.in-Err-Graph.field-0-is at c.number-number-in-Err-Graph.ensures in
    let line = rw c.in-Err-Graph.field-0-is at c.in_ok-line-in-Err-Graph.ensures in
    let told : Told c.args.asked bytes (ends.Refused number at) (refused_line number at) =
    subst (λ (n : ℕ). Told c.args.asked bytes (ends.Refused n at) (refused_line n at)) (sym is)
    (refused (graph_number kind) at (graph kind at fault)) in
    rw c.in-Err-Graph.field-0-is (subst (λ t. Told c.args.asked bytes (ends.Refused number at) t) (sym line) told)
