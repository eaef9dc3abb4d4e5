-- One pair more.
use Rattle.std.proofs.Common.{◌<◌, ◌∙◌, ℕ, List, [], ◌∷◌, ◌++◌, ap, arith, length, slice_index, sym, take}
use Rattle.std.specs.List.{zip}
use Rattle.std.proofs.lemmas.List.{take_all, take_more}
use Rattle.std.proofs.lemmas.Slice.Zip.{get_or-zip, length-zip}
use Rattle.cp_poles.proofs.fused_poles.paired.Goals as goal

pub loop-k-preserved : goal.loop-k-preserved
loop-k-preserved c =
    let xs = c.args.firsts.now in
    let ys = c.args.seconds.now in
    let k = c.loop-k.k in
    let lt : k < length ys = omega (arith, c.requires, c.loop-k-test.true) in
    let within : k < length (zip xs ys) = omega (arith, length-zip xs ys, c.requires, c.loop-k-test.true) in
    let x : ℕ × ℕ = (slice_index xs k, slice_index ys k) in
    c.in_ok-push.ensures.ok
    ∙ ap (λ (ps : List (ℕ × ℕ)). ps ++ x ∷ []) c.loop-k.invariant
    ∙ ap (λ (p : ℕ × ℕ). take k (zip xs ys) ++ p ∷ []) (sym (get_or-zip xs ys k (0, 0) c.loop-k-test.true lt))
    ∙ sym (take_more (zip xs ys) k (0, 0) within)

pub returns : goal.returns
returns c =
    let xs = c.args.firsts.now in
    let ys = c.args.seconds.now in
    c.loop-k.invariant
    ∙ take_all c.loop-k.k (zip xs ys) (omega (arith, length-zip xs ys, c.requires, c.loop-k-test.false))
