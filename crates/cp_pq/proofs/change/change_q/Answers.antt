use Rattle.std.proofs.Common.{◌≡◌, ℕ, Bool, true, false, List, [], ◌++◌, reverse, sym, ap, ap₂, ◌∙◌}
use Rattle.std.specs.List.{list_any}
use Rattle.std.proofs.lemmas.List.{reverse-reverse}
use Rattle.cp_pq.specs.declared.node.Node.{Node}
use Rattle.cp_pq.specs.declared.found.Found.{Found}
use Rattle.cp_pq.specs.Founds.{is_torn, found_run, flat_line, flat_ties, turn_behind}
use Rattle.cp_pq.proofs.Zips.{torn_back}
use Rattle.cp_pq.proofs.RootLaws.{refused_Q, torn_Q, change_Q}
use Rattle.cp_pq.proofs.change.change_q.Goals as goal

-- the row that was turned
row_is : (fs back row : List Found) → back ≡ reverse fs → row ≡ turn_behind (reverse back) → row ≡ turn_behind fs
row_is fs back row e h = h ∙ ap turn_behind (ap reverse e ∙ reverse-reverse fs)

torn_is : (row line back : List Found) (torn b : Bool) → line ≡ row → back ≡ reverse line → torn ≡ list_any is_torn back
    → torn ≡ b → list_any is_torn row ≡ b
torn_is row line back torn b same e t h = sym (torn_back row) ∙ ap (list_any is_torn) (ap reverse (sym same) ∙ sym e) ∙ sym t ∙ h

kids_are : (row line back : List Found) (kids front rear : List Node) → line ≡ row → back ≡ reverse line
    → reverse front ++ rear ≡ flat_line (reverse back) → kids ≡ reverse front ++ rear → kids ≡ flat_line row
kids_are row line back kids front rear same e p k = k ∙ p ∙ ap flat_line (ap reverse e ∙ reverse-reverse line ∙ same)

ties_are : (row line back : List Found) (ties old : List (ℕ × Bool)) → line ≡ row → back ≡ reverse line → old ≡ []
    → ties ≡ flat_ties back ++ old → ties ≡ flat_ties (reverse row) ++ []
ties_are row line back ties old same e n t = t ∙ ap₂ (λ a b. flat_ties a ++ b) (e ∙ ap reverse same) n

pub returns-then-not-is_run : goal.returns-then-not-is_run
returns-then-not-is_run c = λ q p vars ks opp z two.
    refused_Q q p opp vars c.args.var ks c.args.founds z (ap found_run (sym c.items.ensures) ∙ sym c.is_run.ensures ∙ c.if-not-is_run.true)

pub returns-then-torn : goal.returns-then-torn
returns-then-torn c = λ q p vars ks opp z two.
    let row = row_is c.args.founds c.in_ok-back.back c.in_ok-row.row c.in_ok-back.ensures c.in_ok-row.ensures in
    torn_Q q p opp vars c.args.var ks c.args.founds z two (ap found_run (sym c.items.ensures) ∙ sym c.is_run.ensures ∙ c.if-not-is_run.false)
    (torn_is (turn_behind c.args.founds) c.in_ok-row.row c.in_ok-row_back.row_back c.in_ok-poured.poured.torn true row c.in_ok-row_back.ensures c.in_ok-poured.ensures.torn c.if-torn.true)

pub returns : goal.returns
returns c = λ q p vars ks opp z two.
    let row = row_is c.args.founds c.in_ok-back.back c.in_ok-row.row c.in_ok-back.ensures c.in_ok-row.ensures in
    let r = c.in_ok-poured.poured in
    change_Q q p opp vars c.args.var ks c.args.founds c.in_ok-kids.kids r.ties z two (ap found_run (sym c.items.ensures) ∙ sym c.is_run.ensures ∙ c.if-not-is_run.false)
    (torn_is (turn_behind c.args.founds) c.in_ok-row.row c.in_ok-row_back.row_back r.torn false row c.in_ok-row_back.ensures c.in_ok-poured.ensures.torn c.if-torn.false)
    (kids_are (turn_behind c.args.founds) c.in_ok-row.row c.in_ok-row_back.row_back c.in_ok-kids.kids r.front r.back row c.in_ok-row_back.ensures c.in_ok-poured.ensures.line c.in_ok-kids.ensures)
    (ties_are (turn_behind c.args.founds) c.in_ok-row.row c.in_ok-row_back.row_back r.ties c.new-no_ties.result row c.in_ok-row_back.ensures c.new-no_ties.ensures c.in_ok-poured.ensures.ties)
