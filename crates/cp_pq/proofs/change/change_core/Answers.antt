use Rattle.std.proofs.Common.{◌≡◌, ℕ, ◌≤◌, Bool, true, List, [], ◌∷◌, ◌++◌, length, reverse, refl, sym, ap, ap₂, ◌∙◌, subst, arith}
use Rattle.std.specs.List.{list_any}
use Rattle.std.proofs.lemmas.List.{reverse-reverse}
use Rattle.cp_pq.specs.declared.node.Node.{Node}
use Rattle.cp_pq.specs.declared.node.Node.TheVariants.{P}
use Rattle.cp_pq.specs.declared.found.Found.{Found}
use Rattle.cp_pq.specs.declared.change.Change.{Change}
use Rattle.cp_pq.specs.Founds.{is_torn, flat_line, flat_ties}
use Rattle.cp_pq.specs.Roots.{IsChange}
use Rattle.cp_pq.proofs.Zips.{torn_back}
use Rattle.cp_pq.proofs.RootLaws.{core_torn, core_alone, core_beside}
use Rattle.cp_pq.proofs.change.change_core.Goals as goal

torn_is : (row back : List Found) (torn b : Bool) → back ≡ reverse row → torn ≡ list_any is_torn back → torn ≡ b
    → list_any is_torn row ≡ b
torn_is row back torn b e t h = sym (torn_back row) ∙ ap (list_any is_torn) (sym e) ∙ sym t ∙ h

line_is : (row back : List Found) (line front rear : List Node) → back ≡ reverse row
    → reverse front ++ rear ≡ flat_line (reverse back) → line ≡ reverse front ++ rear → line ≡ flat_line row
line_is row back line front rear e p l = l ∙ p ∙ ap flat_line (ap reverse e ∙ reverse-reverse row)

ties_is : (row back : List Found) (ties old : List (ℕ × Bool)) → back ≡ reverse row → old ≡ []
    → ties ≡ flat_ties back ++ old → ties ≡ flat_ties (reverse row) ++ []
ties_is row back ties old e n t = t ∙ ap₂ (λ a b. flat_ties a ++ b) e n

no_length : (ks : List Node) (n : ℕ) → n ≡ length ks → n ≡ 0 → ks ≡ []
no_length [] n e z = refl
no_length (k ∷ ks) n e z = absurd (omega arith)

some_length : (ks : List Node) (n : ℕ) → n ≡ length ks → (n ≡ 0 → ⊥) → 1 ≤ length ks
some_length [] n e not_none = absurd (not_none e)
some_length (k ∷ ks) n e not_none = omega arith

pub returns-then-torn : goal.returns-then-torn
returns-then-torn c = λ q p ks opp clear outs two core.
    core_torn q p opp c.args.vars c.args.owner ks clear two c.args.row core
    (torn_is c.args.row c.in_ok-row_back.row_back c.in_ok-poured.poured.torn true c.in_ok-row_back.ensures c.in_ok-poured.ensures.torn c.if-torn.true)

pub returns-then-len-eq0 : goal.returns-then-len-eq0
returns-then-len-eq0 c = λ q p ks opp clear outs two core.
    let r = c.in_ok-poured.poured in let back = c.in_ok-row_back.row_back in
    core_alone q p opp c.args.vars c.args.owner ks clear two c.args.row core c.in_ok-line.line r.ties
    (torn_is c.args.row back r.torn _ c.in_ok-row_back.ensures c.in_ok-poured.ensures.torn c.if-torn.false)
    (line_is c.args.row back c.in_ok-line.line r.front r.back c.in_ok-row_back.ensures c.in_ok-poured.ensures.line c.in_ok-line.ensures)
    (ties_is c.args.row back r.ties c.new-no_ties.result c.in_ok-row_back.ensures c.new-no_ties.ensures c.in_ok-poured.ensures.ties)
    (sym outs ∙ no_length c.args.outs _ c.len.ensures c.if-len-eq0.true)

pub returns : goal.returns
returns c = λ q p ks opp clear outs two core.
    let r = c.in_ok-poured.poured in let back = c.in_ok-row_back.row_back in
    subst (λ z. IsChange q p c.args.vars (P c.args.owner ks) (Change.New (P c.args.owner z) r.ties)) (sym c.in_ok-push.ensures.ok)
    (core_beside q p opp c.args.vars c.args.owner ks clear two c.args.row core c.args.outs c.in_ok-line.line r.ties
    (torn_is c.args.row back r.torn _ c.in_ok-row_back.ensures c.in_ok-poured.ensures.torn c.if-torn.false)
    (line_is c.args.row back c.in_ok-line.line r.front r.back c.in_ok-row_back.ensures c.in_ok-poured.ensures.line c.in_ok-line.ensures)
    (ties_is c.args.row back r.ties c.new-no_ties.result c.in_ok-row_back.ensures c.new-no_ties.ensures c.in_ok-poured.ensures.ties)
    outs (some_length c.args.outs _ c.len.ensures c.if-len-eq0.false))
