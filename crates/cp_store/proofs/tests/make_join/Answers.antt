use Rattle.std.proofs.Common.{◌≡◌, [], ◌∷◌, ap, sym, ◌∙◌, subst₂}
use Rattle.cp_board.specs.Rewrites.{rewritten, IsRewriteOf}
use Rattle.cp_board.specs.Rows as rows
use Rattle.cp_sync.proofs.WorkedRows.{first_join-rewritten, IsRewriteOf-first_join}
use Rattle.cp_store.specs.Histories.{present_of}
use Rattle.cp_store.proofs.tests.make_join.Goals as goal

pub rewrite-requires : goal.rewrite-requires
rewrite-requires c =
    subst₂ (λ s x. IsRewriteOf (present_of s) x) (sym c.requires) (sym c.in_ok-w.ensures)
    (IsRewriteOf-first_join c.in_ok-joined_keeps_rules.ensures)

pub returns : goal.returns
returns c =
    c.in_ok-rewrite.ensures.appended
    ∙ ap (λ s. rewritten c.in_ok-w.w (present_of s) ∷ s) c.requires
    ∙ ap (λ x. rewritten x rows.first ∷ rows.first ∷ []) c.in_ok-w.ensures
    ∙ ap (λ i. i ∷ rows.first ∷ []) first_join-rewritten
