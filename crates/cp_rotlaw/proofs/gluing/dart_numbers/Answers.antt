use Rattle.std.proofs.Common.{◌≡◌, ◌∙◌, ◌+◌, ◌/◌, List, ℕ, length, slice_index, sym, ap, ap₂, subst, arith, take_at}
use Rattle.std.proofs.lemmas.List.{get_or_default}
use Rattle.cp_faces.specs.Faces.{on_edges}
use Rattle.cp_rot.specs.Systems.{darts, edges}
use Rattle.cp_rot.specs.Rewrites.{values}
use Rattle.cp_rot.proofs.ListEdits.{length-values}
use Rattle.cp_rotlaw.specs.GlueTables.{AreNumbers}
use Rattle.cp_rotlaw.proofs.GluedPairs.{second_passes, second_once}
use Rattle.cp_rotlaw.proofs.GluedTables.{kept-length, kept-below, AreNumbers-written}
use Rattle.cp_rotlaw.proofs.gluing.dart_numbers.Goals as goal

pub numbers_from-requires-clause-size : goal.numbers_from-requires-clause-size
numbers_from-requires-clause-size c = omega (arith, c.darts-second.ensures.value, c.darts-second.ensures.rotation.paired, kept-length c.args.a.now c.args.b.now c.darts-first.ensures.rotation c.darts-second.ensures.rotation c.args.w c.args.pairs.now c.requires c.as_slice.result.now (c.as_slice.ensures.value ∙ c.in_ok-kept.ensures))

pub numbers_from-requires-clause-bound : goal.numbers_from-requires-clause-bound
numbers_from-requires-clause-bound c = λ e lt. omega (arith, c.darts-second.ensures.value, c.darts-second.ensures.bound, kept-below c.args.a.now c.args.b.now c.darts-first.ensures.rotation c.darts-second.ensures.rotation c.args.w c.args.pairs.now c.requires c.as_slice.result.now (c.as_slice.ensures.value ∙ c.in_ok-kept.ensures) e lt)

pub write_partners-requires-clause-even : goal.write_partners-requires-clause-even
write_partners-requires-clause-even c =
    let size : length c.as_mut_slice.result.now ≡ c.darts-second.result = ap (λ xs. length xs) (c.as_mut_slice.ensures.value ∙ c.in_ok-numbers.ensures) ∙ length-values c.darts-second.result _ in
    omega (arith, size, c.darts-second.ensures.value, c.darts-second.ensures.rotation.paired)

pub write_partners-requires-clause-within : goal.write_partners-requires-clause-within
write_partners-requires-clause-within c = λ i lt.
    let size : length c.as_mut_slice.result.now ≡ c.darts-second.result = ap (λ xs. length xs) (c.as_mut_slice.ensures.value ∙ c.in_ok-numbers.ensures) ∙ length-values c.darts-second.result _ in
    omega (arith, size, c.darts-second.ensures.value, (second_passes (darts c.args.b.now) _ c.args.pairs.now c.requires i lt).0)

pub write_partners-requires-clause-distinct : goal.write_partners-requires-clause-distinct
write_partners-requires-clause-distinct c = λ i j lti ltj e. second_once (darts c.args.b.now) _ c.args.pairs.now c.requires i j lti ltj e

pub index-count-requires : goal.index-count-requires
index-count-requires c = omega (arith, c.as_slice.ensures.len, c.darts-second.ensures.value, kept-length c.args.a.now c.args.b.now c.darts-first.ensures.rotation c.darts-second.ensures.rotation c.args.w c.args.pairs.now c.requires c.as_slice.result.now (c.as_slice.ensures.value ∙ c.in_ok-kept.ensures))

pub returns : goal.returns
returns c =
    let kept : List ℕ = c.as_slice.result.now in
    let after : List ℕ = c.write_partners.new.numbers in
    let before_is : c.as_mut_slice.result.now ≡ values (darts c.args.b.now) (λ d. darts c.args.a.now + on_edges (slice_index kept) d) =
    c.as_mut_slice.ensures.value ∙ c.in_ok-numbers.ensures ∙ ap₂ (λ n m. values m (λ d. n + on_edges (slice_index kept) d)) c.darts-first.ensures.value c.darts-second.ensures.value in
    let total : c.index-count.result.now ≡ slice_index kept (edges c.args.b.now) = c.index-count.ensures
    ∙ get_or_default c.in_ok-kept.kept.items (c.darts-second.result / 2) c.index-count.result.now 0 (omega (arith, ap (λ xs. length xs) c.as_slice.ensures.value, c.darts-second.ensures.value, kept-length c.args.a.now c.args.b.now c.darts-first.ensures.rotation c.darts-second.ensures.rotation c.args.w c.args.pairs.now c.requires kept (c.as_slice.ensures.value ∙ c.in_ok-kept.ensures)))
    ∙ ap₂ (λ xs n. slice_index xs (n / 2)) (sym c.as_slice.ensures.value) c.darts-second.ensures.value in
    let made : AreNumbers c.args.a.now c.args.b.now c.args.w c.args.pairs.now after c.index-count.result.now = AreNumbers-written c.args.a.now c.args.b.now c.darts-first.ensures.rotation c.darts-second.ensures.rotation c.args.w c.args.pairs.now c.requires kept c.as_mut_slice.result.now after c.index-count.result.now
    (c.as_slice.ensures.value ∙ c.in_ok-kept.ensures) before_is c.write_partners.ensures.size c.write_partners.ensures.written c.write_partners.ensures.others total in
    subst (λ ts. AreNumbers c.args.a.now c.args.b.now c.args.w c.args.pairs.now ts c.index-count.result.now) (sym (take_at after _ c.in_ok-numbers.numbers.len (c.write_partners.ensures.size ∙ c.as_mut_slice.ensures.len))) made
