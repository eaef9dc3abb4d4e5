use Rattle.std.proofs.Common.{◌≡◌, ◌+◌, [], ◌∷◌, ◌++◌, length, sym, subst, ap, ◌∙◌}
use Rattle.std.specs.Prelude.{OnOk}
use Rattle.std.specs.List.{zip}
use Rattle.std.specs.List.Sorted.{IsStrictlyIncreasing}
use Rattle.std.proofs.lemmas.List.{length-append}
use Rattle.cp_sync.proofs.NamedRows.{names_less, rising_more, zip-more}
use Rattle.cp_sync.proofs.solution.Solution.push.Goals as goal
use Rattle.cp_sync.proofs.solution.Solution.push.Goals.{in-Ok, in-Err}

pub invariant_of-self-in-Ok : goal.invariant_of-self-in-Ok
invariant_of-self-in-Ok c =
    let names = c.self.inside.names.items in
    let lists = c.self.inside.lists.items in (
      ap length c.in_ok-push.ensures.items ∙ length-append names (c.args.name ∷ []) ∙ ap (λ n. n + 1) c.self.invariant.0 ∙ sym (ap length c.in-Ok.ensures.items ∙ length-append lists (c.args.list ∷ [])),
      subst IsStrictlyIncreasing (sym c.in_ok-push.ensures.items) (rising_more names c.args.name c.self.invariant.1 (names_less c.args.self.now names lists c.args.name c.self.view_is c.self.invariant.0 c.requires)),
    )

pub returns-clause-ok : goal.returns-clause-ok
returns-clause-ok c =
    let names = c.self.inside.names.items in
    let lists = c.self.inside.lists.items in
    elim c.match-push.branch [
      | in-Ok w ↦ subst (λ r. OnOk r (c.match-push.self ≡ c.args.self.now ++ (c.args.name, c.args.list) ∷ [])) (sym w.result-is)
          (w.self-is
          ∙ ap (λ ns. zip ns c.push-2.new.self.items) c.in_ok-push.ensures.items
          ∙ ap (λ ls. zip (names ++ c.args.name ∷ []) ls) w.in-Ok.ensures.items
          ∙ zip-more names lists c.args.name c.args.list c.self.invariant.0
          ∙ ap (λ rows. rows ++ (c.args.name, c.args.list) ∷ []) c.self.view_is)
      | in-Err w ↦ subst (λ r. OnOk r (c.match-push.self ≡ c.args.self.now ++ (c.args.name, c.args.list) ∷ [])) (sym w.result-is) tt
    ]
