use Rattle.std.proofs.Common.{◌≡◌, true, List, ◌∷◌, ◌++◌, [], reverse, sym, ap, ◌∙◌, subst}
use Rattle.std.specs.List.{All}
use Rattle.cp_board.specs.declared.rewrite.EdgeMove.{EdgeMove}
use Rattle.cp_board.specs.declared.rewrite.Rewrite.{Rewrite}
use Rattle.cp_board.specs.Names.{has}
use Rattle.cp_board.specs.Instances.{Synchronized, IsSynchronized, names_of_edges}
use Rattle.cp_board.specs.Changes.{other_pipes}
use Rattle.cp_board.specs.Rewrites.{rewritten, IsRewriteOf, after_moves}
use Rattle.cp_store.specs.declared.parts.Change.{Change}
use Rattle.cp_store.specs.declared.parts.Parts.{Parts}
use Rattle.cp_store.specs.Exchanges.{taken_back}
use Rattle.cp_store.specs.Histories.{present_of}
use Rattle.cp_store.specs.Parts.{told, states, undone, HasRoom, IsStore, IsPlanOf}
use Rattle.cp_store.proofs.StoredStates.{present-states, states-pushed, IsStore-rules, IsStore-more, IsStore-pushed, HasMoreRoom-next}
use Rattle.cp_store.proofs.StoredRewrites.{told-rewritten, moves-live, plan-named}
use Rattle.cp_store.specs.Links.{HasLinks}
use Rattle.cp_store.specs.EdgeLinks.{joins}
use Rattle.cp_store.specs.PipeLinks.{HasPipeLinks}
use Rattle.cp_store.specs.Indexes.{IsIndexed}
use Rattle.cp_store.proofs.Grown.{Keeps-same}
use Rattle.cp_store.proofs.LinkChanges.{IsLinkTree-links}
use Rattle.cp_store.proofs.EdgeTests.{links-rewritten}
use Rattle.cp_store.proofs.Indexes.{HasLinks-same}
use Rattle.cp_store.proofs.PipeTests.{HasPipeLinks-by_name}
use Rattle.cp_store.proofs.StoredIndexes.{IsIndexed-keeps, IsIndexed-pushed, HasPipeLinks-indexed}
use Rattle.cp_store.proofs.store.Store.rewrite_present.Goals as goal

pub reserve_change-requires-clause-verts : goal.reserve_change-requires-clause-verts
reserve_change-requires-clause-verts c = (plan-named c.args.w.now c.in_ok-plan.plan c.in_ok-plan.ensures).0

pub reserve_change-requires-clause-edges : goal.reserve_change-requires-clause-edges
reserve_change-requires-clause-edges c = (plan-named c.args.w.now c.in_ok-plan.plan c.in_ok-plan.ensures).2

pub reserve_change-requires-clause-pipes : goal.reserve_change-requires-clause-pipes
reserve_change-requires-clause-pipes c = (plan-named c.args.w.now c.in_ok-plan.plan c.in_ok-plan.ensures).3

pub invariant_of-self-in_err-reserve_change : goal.invariant_of-self-in_err-reserve_change
invariant_of-self-in_err-reserve_change c =
    let links = c.self.inside.links in
    let roots = c.self.inside.roots in
    subst (λ l. IsStore c.reserve_change.new.parts l × IsIndexed links roots l (told c.reserve_change.new.parts))
    (sym c.reserve.ensures.items) (
      IsStore-more c.self.inside.parts c.reserve_change.new.parts c.self.inside.log.items c.self.invariant.0
          c.reserve_change.ensures.tables c.reserve_change.ensures.more c.reserve_change.ensures.told,
      IsIndexed-keeps links links roots c.self.inside.log.items (told c.self.inside.parts)
          (told c.reserve_change.new.parts) (Keeps-same links) c.reserve_change.ensures.told c.self.invariant.1,
    )

pub with_rewrite-requires-clause-table : goal.with_rewrite-requires-clause-table
with_rewrite-requires-clause-table c = c.reserve_change.ensures.tables.pipes

pub with_rewrite-requires-clause-ends : goal.with_rewrite-requires-clause-ends
with_rewrite-requires-clause-ends c =
    IsLinkTree-links c.self.inside.links c.self.inside.roots.ends _ c.self.invariant.1.ends.now

pub with_rewrite-requires-clause-pipes : goal.with_rewrite-requires-clause-pipes
with_rewrite-requires-clause-pipes c =
    subst (λ i. HasPipeLinks c.self.inside.links c.self.inside.roots.pipes i.pipes) (sym c.reserve_change.ensures.told)
    (HasPipeLinks-indexed c.self.inside.links c.self.inside.roots c.self.inside.log.items (told c.self.inside.parts)
    c.self.invariant.1)

pub invariant_of-self-in_err-roots : goal.invariant_of-self-in_err-roots
invariant_of-self-in_err-roots c =
    let links = c.self.inside.links in
    let roots = c.self.inside.roots in
    subst (λ l. IsStore c.reserve_change.new.parts l
    × IsIndexed c.with_rewrite.new.forest roots l (told c.reserve_change.new.parts)) (sym c.reserve.ensures.items) (
      IsStore-more c.self.inside.parts c.reserve_change.new.parts c.self.inside.log.items c.self.invariant.0
          c.reserve_change.ensures.tables c.reserve_change.ensures.more c.reserve_change.ensures.told,
      IsIndexed-keeps links c.with_rewrite.new.forest roots c.self.inside.log.items (told c.self.inside.parts)
          (told c.reserve_change.new.parts) c.with_rewrite.ensures.keeps c.reserve_change.ensures.told
          c.self.invariant.1,
    )

-- the rewrite fits the instance of the parts
fits_parts : (s : List Synchronized) (log : List Change) (i : Synchronized) (w : Rewrite) → states (reverse log) i ≡ s
    → IsRewriteOf (present_of s) w → IsRewriteOf i w
fits_parts s log i w view fits = subst (λ j. IsRewriteOf j w)
    (ap present_of (sym view) ∙ present-states (reverse log) i) fits

pub make_change-requires-clause-live : goal.make_change-requires-clause-live
make_change-requires-clause-live c =
    let i = told c.self.inside.parts in
    let fits = fits_parts c.args.self.now c.self.inside.log.items i c.args.w.now c.self.view_is c.requires in
    subst (λ ms. All (λ (m : EdgeMove). has (names_of_edges (told c.reserve_change.new.parts).edges) m.edge ≡ true) ms)
    (sym c.items.ensures)
    (subst (λ j. All (λ (m : EdgeMove). has (names_of_edges j.edges) m.edge ≡ true) c.args.w.now.moves)
    (sym c.reserve_change.ensures.told)
    (moves-live i c.args.w.now (IsStore-rules c.self.inside.parts c.self.inside.log.items c.self.invariant.0) fits))

-- the new instance
made : (w : Rewrite) (plan : Change) (moves : List EdgeMove) (p q r : Parts) (log : List Change) → IsStore p log
    → IsRewriteOf (told p) w → IsPlanOf w plan → moves ≡ w.moves
    → told q ≡ told p
    → (told r).verts ≡ taken_back (λ v. v.name) plan.verts.items (told q).verts
    → (told r).edges ≡ taken_back (λ e. e.name) plan.edges.items (after_moves moves (told q).edges)
    → (told r).pipes ≡ taken_back (λ x. x.name) plan.pipes.items (told q).pipes
    → told r ≡ rewritten w (told p)
made w plan moves p q r log is fits is_plan same_moves same vs es ps =
    told-rewritten (told p) w (IsStore-rules p log is) fits plan (told r) is_plan
    (vs ∙ ap (λ i. taken_back (λ v. v.name) plan.verts.items i.verts) same)
    (es ∙ ap (λ ms. taken_back (λ e. e.name) plan.edges.items (after_moves ms (told q).edges)) same_moves
    ∙ ap (λ i. taken_back (λ e. e.name) plan.edges.items (after_moves w.moves i.edges)) same)
    (ps ∙ ap (λ i. taken_back (λ x. x.name) plan.pipes.items i.pipes) same)

pub invariant_of-self-2 : goal.invariant_of-self-2
invariant_of-self-2 c =
    let p = c.self.inside.parts in
    let q = c.reserve_change.new.parts in
    let r = c.make_change.new.parts in
    let log = c.self.inside.log.items in
    let fits = fits_parts c.args.self.now log (told p) c.args.w.now c.self.view_is c.requires in
    let now = made c.args.w.now c.in_ok-plan.plan c.items.result.now p q r log c.self.invariant.0 fits
    c.in_ok-plan.ensures c.items.ensures c.reserve_change.ensures.told
    c.make_change.ensures.verts c.make_change.ensures.edges c.make_change.ensures.pipes in
    let done = c.make_change.new.done in
    let kept : Change = c.with_links.result in
    let is = c.with_links.ensures in
    let back : undone kept (told r) ≡ told p = ap (λ k. undone k (told r)) is ∙ c.make_change.ensures.back
    ∙ c.reserve_change.ensures.told in
    let room = c.make_change.ensures.room in
    let links = c.self.inside.links in
    let ls = c.with_rewrite.new.forest in
    let new = c.in_ok-roots.roots in
    let w = c.args.w.now in
    subst (λ l. IsStore r l × IsIndexed ls new l (told r))
    (sym (c.push_reserved.ensures.items ∙ ap (λ l. l ++ kept ∷ []) c.reserve.ensures.items)) (
      IsStore-pushed p r log kept c.self.invariant.0 c.make_change.ensures.tables
          (HasMoreRoom-next p q r c.reserve_change.ensures.more c.make_change.ensures.more)
          (subst (HasRoom r) (sym is)
          (record { verts = room.verts; moved = room.moved; edges = room.edges; pipes = room.pipes }))
          back
          (subst IsSynchronized (sym now) fits.rules),
      IsIndexed-pushed links ls c.self.inside.roots new log kept (told p) (told r) c.with_rewrite.ensures.keeps
          (ap (λ k. k.mark) is ∙ c.len-mark.ensures) (ap (λ k. k.roots) is) back
          (subst (λ i. HasLinks ls new.ends (joins i.edges)) (sym now)
          (HasLinks-same ls new.ends _ (joins (rewritten w (told p)).edges)
          (λ v n lt. links-rewritten (told p) w (IsStore-rules p log c.self.invariant.0) fits v n)
          (c.in_ok-roots.ensures.ends (joins (told p).edges) c.self.invariant.1.ends.now)))
          (subst (λ i. HasPipeLinks ls new.pipes i.pipes) (sym now)
          (HasPipeLinks-by_name ls new.pipes (other_pipes (told p) w.drop_pipes ++ w.add_pipes)
          (subst (λ i. HasPipeLinks ls new.pipes (other_pipes i w.drop_pipes ++ w.add_pipes))
          c.reserve_change.ensures.told c.in_ok-roots.ensures.pipes)))
          c.self.invariant.1,
    )

pub returns-clause-ok : goal.returns-clause-ok
returns-clause-ok c =
    let p = c.self.inside.parts in
    let q = c.reserve_change.new.parts in
    let r = c.make_change.new.parts in
    let log = c.self.inside.log.items in
    let fits = fits_parts c.args.self.now log (told p) c.args.w.now c.self.view_is c.requires in
    let now = made c.args.w.now c.in_ok-plan.plan c.items.result.now p q r log c.self.invariant.0 fits
    c.in_ok-plan.ensures c.items.ensures c.reserve_change.ensures.told
    c.make_change.ensures.verts c.make_change.ensures.edges c.make_change.ensures.pipes in
    let done = c.make_change.new.done in
    let kept : Change = c.with_links.result in
    let is = c.with_links.ensures in
    let back : undone kept (told r) ≡ told p = ap (λ k. undone k (told r)) is ∙ c.make_change.ensures.back
    ∙ c.reserve_change.ensures.told in
    ap (λ l. states (reverse l) (told r))
    (c.push_reserved.ensures.items ∙ ap (λ l. l ++ kept ∷ []) c.reserve.ensures.items)
    ∙ states-pushed log kept (told r) (told p) back
    ∙ ap (λ i. i ∷ states (reverse log) (told p))
    (now ∙ ap (rewritten c.args.w.now) (sym (present-states (reverse log) (told p)) ∙ ap present_of c.self.view_is))
    ∙ ap (λ s. rewritten c.args.w.now (present_of c.args.self.now) ∷ s) c.self.view_is
