use Rattle.std.proofs.Common.{ℕ, ◌∙◌}
use denote.Ref.{Bor}
use Rattle.cp_sync.proofs.NamedOrder.{is_some-found, is_some-has}
use Rattle.cp_sync.proofs.ordered.is_one_of.Goals as goal

pub returns : goal.returns
returns c =
    c.is_some.ensures
    ∙ is_some-found (λ (x : Bor ℕ). x.now) c.item_named.result _ c.item_named.ensures
    ∙ is_some-has c.args.n c.args.numbers.now
