-- The pair is put at its place.
use Rattle.std.proofs.Common.{◌≡◌, ◌∙◌, ℕ, List, ◌∷◌, ◌++◌, drop, take, ap, arith}
use Rattle.cp_plant.specs.Rewriting.{place_of}
use Rattle.cp_plant.proofs.PutPairs.{place_of-within, put-place}
use Rattle.cp_plant.proofs.rewriting.put_pair.Goals as goal

pub insert-requires : goal.insert-requires
insert-requires c =
    let pairs : List (ℕ × ℕ) = c.args.pairs.now.items in
    let at = c.place_for-place.ensures ∙ ap (λ ps. place_of ps c.args.pair.0) c.as_slice.ensures.value in
    omega (arith, at, place_of-within pairs c.args.pair.0, c.args.pairs.now.ok.0)

pub returns : goal.returns
returns c =
    let pairs : List (ℕ × ℕ) = c.args.pairs.now.items in
    let at : c.place_for-place.result ≡ place_of pairs c.args.pair.0 =
    c.place_for-place.ensures ∙ ap (λ ps. place_of ps c.args.pair.0) c.as_slice.ensures.value in
    c.in_ok-insert.ensures.items ∙ ap (λ k. take k pairs ++ c.args.pair ∷ drop k pairs) at ∙ put-place pairs c.args.pair
