-- The pairs are put at their places from the last on.
use Rattle.std.proofs.Common.{◌≡◌, ◌<◌, ◌-◌, ◌+◌, ◌∙◌, ℕ, List, ◌∷◌, drop, length, slice_index, sym, ap, ap₂, arith}
use Rattle.std.specs.List.{zip}
use Rattle.std.proofs.lemmas.List.{drop_more, drop_all}
use Rattle.std.proofs.lemmas.Slice.Zip.{get_or-zip, length-zip}
use Rattle.cp_board.specs.Changes.{pairs_by_first}
use Rattle.cp_board.specs.Names.{put}
use Rattle.cp_plant.proofs.rewriting.node_pairs.Goals as goal

pub loop-j-init : goal.loop-j-init
loop-j-init c =
    let xs : List ℕ = c.args.firsts.now in
    let ys : List ℕ = c.args.seconds.now in
    let n : ℕ = c.min-number.result in
    c.new-sorted.ensures.items
    ∙ sym (ap pairs_by_first (drop_all (n - 0) (zip xs ys) (omega (arith, length-zip xs ys, c.min-number.ensures))))

pub loop-j-preserved : goal.loop-j-preserved
loop-j-preserved c =
    let xs : List ℕ = c.args.firsts.now in
    let ys : List ℕ = c.args.seconds.now in
    let n : ℕ = c.min-number.result in
    let j : ℕ = c.loop-j.j in
    let k : ℕ = n - 1 - j in
    let in_xs : k < length xs = omega (arith, c.min-number.ensures, c.loop-j-test.true) in
    let in_ys : k < length ys = omega (arith, c.min-number.ensures, c.loop-j-test.true) in
    let within : k < length (zip xs ys) = omega (arith, length-zip xs ys, in_xs, in_ys) in
    let next : k + 1 ≡ n - j = omega (arith, c.loop-j-test.true) in
    let here : n - (j + 1) ≡ k = omega arith in
    let x : ℕ × ℕ = (slice_index xs k, slice_index ys k) in
    let split : drop (n - (j + 1)) (zip xs ys) ≡ x ∷ drop (n - j) (zip xs ys) =
    ap (λ m. drop m (zip xs ys)) here
    ∙ drop_more (zip xs ys) k (0, 0) within
    ∙ ap₂ (λ z m. z ∷ drop m (zip xs ys)) (get_or-zip xs ys k (0, 0) in_xs in_ys) next in
    c.in_ok-put_pair.ensures
    ∙ ap (put (λ (z : ℕ × ℕ). z.0) x) c.loop-j.invariant
    ∙ sym (ap pairs_by_first split)
