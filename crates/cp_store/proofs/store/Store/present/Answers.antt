use Rattle.std.proofs.Common.{◌≡◌, reverse, sym, ap, ◌∙◌, subst}
use Rattle.cp_board.specs.Instances.{Synchronized}
use Rattle.cp_board.specs.Faults.{IsFirstBroken}
use Rattle.cp_board.proofs.KeptRules.{no_rule_broken}
use Rattle.cp_sync.specs.Faults.{IsFaultOf, with_parts}
use Rattle.cp_store.specs.Histories.{present_of}
use Rattle.cp_store.specs.Parts.{told}
use Rattle.cp_store.proofs.StoredStates.{same_parts, present-states, IsStore-rules}
use Rattle.cp_store.proofs.store.Store.present.Goals as goal

pub unreachable-requires : goal.unreachable-requires
unreachable-requires c =
    let i : Synchronized = with_parts c.in_ok-verts.verts c.in_ok-edges.edges c.in_ok-pipes.pipes in
    let same : i ≡ told c.self.inside.parts =
    same_parts i (told c.self.inside.parts) c.in_ok-verts.ensures c.in_ok-edges.ensures c.in_ok-pipes.ensures in
    no_rule_broken (told c.self.inside.parts)
    (IsStore-rules c.self.inside.parts c.self.inside.log.items c.self.invariant.0) c.in-Err-Broken.field-0-0
    c.in-Err-Broken.field-0-1
    (subst (λ j. IsFirstBroken j c.in-Err-Broken.field-0-0 c.in-Err-Broken.field-0-1) same
    (subst (IsFaultOf i) c.in-Err-Broken.field-0-is c.in-Err-Broken.ensures.fault))

pub returns-in-Ok : goal.returns-in-Ok
returns-in-Ok c =
    let i : Synchronized = with_parts c.in_ok-verts.verts c.in_ok-edges.edges c.in_ok-pipes.pipes in
    let same : i ≡ told c.self.inside.parts =
    same_parts i (told c.self.inside.parts) c.in_ok-verts.ensures c.in_ok-edges.ensures c.in_ok-pipes.ensures in
    c.in-Ok.ensures.parts ∙ same ∙ sym (present-states (reverse c.self.inside.log.items) (told c.self.inside.parts))
    ∙ ap present_of c.self.view_is
