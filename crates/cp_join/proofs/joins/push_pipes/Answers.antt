-- The pipe of one part more.
use Rattle.std.proofs.Common.{◌≡◌, ℕ, List, [], ◌∷◌, ◌++◌, ◌∙◌, length, map, take, slice_index, slice_index_or, sym, ap, subst, arith, append_assoc}
use Rattle.std.specs.List.{All, Contains}
use Rattle.std.proofs.lemmas.List.{append-nil}
use Rattle.cp_board.specs.declared.parts.Pipe.{Pipe}
use Rattle.cp_board.specs.Joins.{part_pipes}
use Rattle.cp_join.specs.Joining.{hat_among}
use Rattle.cp_join.proofs.PartSteps.{no_pipes, part_pipes-more, pipe_of}
use Rattle.cp_join.proofs.joins.push_pipes.Goals as goal

pub loop-k-init : goal.loop-k-init
loop-k-init c =
    sym (ap (λ ps. c.args.pipes.now ++ ps)
    (no_pipes (hat_among c.args.edges.now c.args.hats.now) c.args.end.now.names c.args.end.now.outer c.args.end.now.inner)
    ∙ append-nil c.args.pipes.now)

pub part_pairs-requires-clause-among : goal.part_pairs-requires-clause-among
part_pairs-requires-clause-among c =
    subst (All (Contains c.args.edges.now))
    (sym (c.items.ensures ∙ c.index-parts-k.is
    ∙ ap (λ ps. slice_index_or ps c.loop-k.k c.index-parts-k.result) c.items-parts.ensures))
    (c.requires.among c.loop-k.k c.index-parts-k.result (omega (arith, c.loop-k-test.true, ap length c.items-parts.ensures)))

pub loop-k-preserved : goal.loop-k-preserved
loop-k-preserved c =
    let end = c.args.end.now in
    let parts = c.items-parts.result.now in
    let k = c.loop-k.k in
    let hat : ℕ → ℕ = hat_among c.args.edges.now c.args.hats.now in
    let part = slice_index_or parts k c.index-parts-k.result in
    let made : ℕ → ℕ → ℕ → List (ℕ × ℕ) → Pipe = λ n o m ps. record { name = n; a = o; b = m; pairs = ps } in
    let pairs : c.in_ok-pairs.pairs ≡ map (λ e. (e, hat e)) part =
    c.in_ok-pairs.ensures ∙ ap (map (λ e. (e, hat e))) (c.items.ensures ∙ c.index-parts-k.is) in
    let same : made (slice_index c.items-in-loop-k.result.now k) (slice_index c.items-in-loop-k-2.result.now k)
    (slice_index c.items-in-loop-k-3.result.now k) c.in_ok-pairs.pairs
    ≡ pipe_of hat (slice_index end.names k) (slice_index end.outer k) (slice_index end.inner k) part =
    ap (λ ns. made (slice_index ns k) (slice_index c.items-in-loop-k-2.result.now k)
    (slice_index c.items-in-loop-k-3.result.now k) c.in_ok-pairs.pairs) c.items-in-loop-k.ensures
    ∙ ap (λ ns. made (slice_index end.names k) (slice_index ns k) (slice_index c.items-in-loop-k-3.result.now k)
    c.in_ok-pairs.pairs) c.items-in-loop-k-2.ensures
    ∙ ap (λ ns. made (slice_index end.names k) (slice_index end.outer k) (slice_index ns k) c.in_ok-pairs.pairs)
    c.items-in-loop-k-3.ensures
    ∙ ap (made (slice_index end.names k) (slice_index end.outer k) (slice_index end.inner k)) pairs in
    let size = ap length c.items-parts.ensures in
    c.in_ok-push.ensures.ok
    ∙ ap (λ q. c.loop-k.pipes ++ q ∷ []) same
    ∙ ap (λ qs. qs ++ pipe_of hat (slice_index end.names k) (slice_index end.outer k) (slice_index end.inner k) part ∷ [])
    c.loop-k.invariant
    ∙ append_assoc c.args.pipes.now (part_pipes hat end.names end.outer end.inner (take k parts))
    (pipe_of hat (slice_index end.names k) (slice_index end.outer k) (slice_index end.inner k) part ∷ [])
    ∙ ap (λ qs. c.args.pipes.now ++ qs)
    (sym (part_pipes-more hat end.names end.outer end.inner parts k c.index-parts-k.result c.loop-k-test.true
    (c.requires.each.name_each ∙ sym size) (c.requires.each.outer_each ∙ sym size) (c.requires.each.inner_each ∙ sym size)))
