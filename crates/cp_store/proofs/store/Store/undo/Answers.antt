use Rattle.std.proofs.Common.{◌≡◌, true, ltb, length, sym, subst}
use Rattle.cp_store.specs.Parts.{told}
use Rattle.cp_store.proofs.StoredStates.{HasRoom-popped, IsStore-popped, more_than_one}
use Rattle.cp_store.proofs.StoredIndexes.{mark-popped, IsIndexed-popped}
use Rattle.cp_store.proofs.store.Store.undo.Goals as goal

pub cut-requires : goal.cut-requires
cut-requires c =
    mark-popped c.self.inside.links c.self.inside.roots c.self.inside.log.items c.pop.new.self.items c.in-Some.change
    (told c.self.inside.parts) c.in-Some.ensures.items c.self.invariant.1

pub undo_change-requires-clause-room : goal.undo_change-requires-clause-room
undo_change-requires-clause-room c =
    HasRoom-popped c.self.inside.parts c.self.inside.log.items c.pop.new.self.items c.in-Some.change c.self.invariant.0
    c.in-Some.ensures.items

pub invariant_of-self-in-Some : goal.invariant_of-self-in-Some
invariant_of-self-in-Some c = (
  IsStore-popped c.self.inside.parts c.undo_change.new.parts c.self.inside.log.items c.pop.new.self.items
      c.in-Some.change c.self.invariant.0 c.in-Some.ensures.items
      c.undo_change.ensures.tables c.undo_change.ensures.room c.undo_change.ensures.told,
  IsIndexed-popped c.self.inside.links c.cut.new.self c.self.inside.roots c.self.inside.log.items c.pop.new.self.items
      c.in-Some.change (told c.self.inside.parts) (told c.undo_change.new.parts) c.in-Some.ensures.items
      c.cut.ensures.length c.cut.ensures.keeps c.undo_change.ensures.told c.self.invariant.1,
)

pub returns-in-Some-clause-answer : goal.returns-in-Some-clause-answer
returns-in-Some-clause-answer c =
    subst (λ s. true ≡ ltb 1 (length s)) c.self.view_is
    (sym (more_than_one c.self.inside.log.items c.pop.new.self.items c.in-Some.change
    (told c.self.inside.parts) c.in-Some.ensures.items))
