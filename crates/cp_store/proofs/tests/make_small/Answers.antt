use Rattle.std.proofs.Common.{◌≡◌, List, [], ◌∷◌, ap, sym, ◌∙◌, subst₂}
use Rattle.cp_board.specs.declared.rewrite.Rewrite.{Rewrite}
use Rattle.cp_board.specs.Instances.{Synchronized}
use Rattle.cp_board.specs.Rewrites.{rewritten, IsRewriteOf}
use Rattle.cp_board.specs.Rows as rows
use Rattle.cp_store.specs.Histories.{present_of}
use Rattle.cp_store.specs.WorkedSteps.{first_small, second_small}
use Rattle.cp_store.proofs.WorkedSteps.{first_small-rewritten, second_small-rewritten, IsRewriteOf-first_small, IsRewriteOf-second_small}
use Rattle.cp_store.proofs.tests.make_small.Goals as goal

-- the store after the first Small
after_first : (old new : List Synchronized) (w : Rewrite) → old ≡ rows.joined ∷ rows.first ∷ [] → w ≡ first_small
    → new ≡ rewritten w (present_of old) ∷ old
    → new ≡ rows.second ∷ rows.joined ∷ rows.first ∷ []
after_first old new w was is made =
    made
    ∙ ap (λ s. rewritten w (present_of s) ∷ s) was
    ∙ ap (λ x. rewritten x rows.joined ∷ rows.joined ∷ rows.first ∷ []) is
    ∙ ap (λ i. i ∷ rows.joined ∷ rows.first ∷ []) first_small-rewritten

pub rewrite-requires : goal.rewrite-requires
rewrite-requires c =
    subst₂ (λ s x. IsRewriteOf (present_of s) x) (sym c.requires) (sym c.in_ok-first.ensures)
    (IsRewriteOf-first_small c.in_ok-second_keeps_rules.ensures)

pub rewrite-requires-2 : goal.rewrite-requires-2
rewrite-requires-2 c =
    subst₂ (λ s x. IsRewriteOf (present_of s) x)
    (sym (after_first c.args.store.now c.rewrite.new.self c.in_ok-first.first c.requires c.in_ok-first.ensures
    c.in_ok-rewrite.ensures.appended))
    (sym c.in_ok-second.ensures)
    (IsRewriteOf-second_small c.in_ok-third_keeps_rules.ensures)

pub returns : goal.returns
returns c =
    let was = after_first c.args.store.now c.rewrite.new.self c.in_ok-first.first c.requires c.in_ok-first.ensures
    c.in_ok-rewrite.ensures.appended in
    c.in_ok-rewrite-2.ensures.appended
    ∙ ap (λ s. rewritten c.in_ok-second.second (present_of s) ∷ s) was
    ∙ ap (λ x. rewritten x rows.second ∷ rows.second ∷ rows.joined ∷ rows.first ∷ []) c.in_ok-second.ensures
    ∙ ap (λ i. i ∷ rows.second ∷ rows.joined ∷ rows.first ∷ []) second_small-rewritten
