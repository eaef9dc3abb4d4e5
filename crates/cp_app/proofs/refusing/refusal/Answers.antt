-- The fault of the text, whichever it is.
use Rattle.std.proofs.Common.{sym, subst}
use Rattle.cp_gml.specs.Lists as lists
use Rattle.cp_gml.specs.Kinds.{grammar_number}
use Rattle.cp_cgraph.specs.Kinds.{graph_number}
use Rattle.cp_cgraph.specs.GraphTexts.{IsGraphFault, IsTextFault}
use Rattle.cp_app.specs.Answer.{Refusal}
use Rattle.cp_app.specs.Answer.Refusal.{grammar, graph}
use Rattle.cp_app.specs.declared.end.End.TheVariants as ends
use Rattle.cp_app.proofs.refusing.refusal.Goals as goal

pub returns-in_ok-line-in-Grammar : goal.returns-in_ok-line-in-Grammar
returns-in_ok-line-in-Grammar c = λ text is.
    let kind = c.in-Grammar.kind in
    let at = c.in-Grammar.at in
    let fault : lists.IsFaultOf text kind at = subst (IsTextFault text) c.in-Grammar.is is in
    rw c.number-number.ensures
    (subst (λ t. Refusal text (ends.Refused (grammar_number kind) at) t) (sym c.in_ok-line-in-Grammar.ensures)
    (grammar kind at fault))

pub returns-in_ok-line-in-Graph : goal.returns-in_ok-line-in-Graph
returns-in_ok-line-in-Graph c = λ text is.
    let kind = c.in-Graph.kind in
    let at = c.in-Graph.at in
    let fault : IsGraphFault text kind at = subst (IsTextFault text) c.in-Graph.is is in
    rw c.number-number-in-Graph.ensures
    (subst (λ t. Refusal text (ends.Refused (graph_number kind) at) t) (sym c.in_ok-line-in-Graph.ensures)
    (graph kind at fault))
