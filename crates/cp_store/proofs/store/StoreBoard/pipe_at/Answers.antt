use Rattle.std.proofs.Common.{◌≡◌, subst}
use Rattle.std.specs.Option.{option_map}
use Rattle.cp_board.specs.Instances.{pipe_at}
use Rattle.cp_store.specs.Parts.{told}
use Rattle.cp_store.proofs.LinkChanges.{IsLinkTree-links}
use Rattle.cp_store.proofs.PipeReads.{pole-told}
use Rattle.cp_store.proofs.StoredStates.{told-present, IsStore-rules}
use Rattle.cp_store.proofs.store.StoreBoard.pipe_at.Goals as goal

pub name_under-requires : goal.name_under-requires
name_under-requires c = IsLinkTree-links c.self.inside.links c.self.inside.roots.pipes.poles _ c.self.invariant.1.poles.now

pub returns : goal.returns
returns c =
    subst (λ i. c.name_under.result ≡ option_map (λ p. p.name) (pipe_at i c.args.v))
    (told-present c.self.inside.parts c.self.inside.log.items c.args.self.now c.self.view_is)
    (pole-told (told c.self.inside.parts) c.self.inside.links c.self.inside.roots.pipes.poles c.args.v
    c.name_under.result (IsStore-rules c.self.inside.parts c.self.inside.log.items c.self.invariant.0)
    c.self.invariant.1.poles.now c.name_under.ensures)
