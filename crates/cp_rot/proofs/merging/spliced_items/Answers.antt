use Rattle.std.proofs.Common.{List, ℕ, ◌≡◌, ◌+◌, ◌∙◌, ap, ap₂, ◌++◌, [], ◌∷◌, take}
use Rattle.std.proofs.lemmas.Result.{IfOk-weaker}
use Rattle.cp_rot.specs.Rewrites.{spliced}
use Rattle.cp_rot.proofs.RewriteCode.{parts_spliced, rest_of}
use Rattle.cp_rot.proofs.merging.spliced_items.Goals as goal

pub returns : goal.returns
returns c =
    let first = c.args.first.now in
    let second = c.args.second.now in
    let front = c.in_ok-push.ensures.items ∙ ap (λ xs. xs ++ c.args.d ∷ []) c.in_ok-items.ensures.items in
    let turned = c.in_ok-extend_from_slice-2.ensures.items ∙ ap (λ xs. xs ++ take c.place-j.result second) (c.in_ok-extend_from_slice.ensures.items ∙ ap₂ (λ xs ys. xs ++ ys) front (rest_of second (c.place-j.result + 1))) in
    let whole = c.in_ok-extend_from_slice-3.ensures.items ∙ ap₂ (λ xs ys. xs ++ ys) (c.in_ok-push-2.ensures.items ∙ ap (λ xs. xs ++ c.args.f ∷ []) turned) (rest_of first (c.place-i.result + 1)) in
    let parts = parts_spliced first second c.args.d c.args.f c.place-i.result c.place-j.result c.place-i.ensures.place c.place-j.ensures.place in
    let P : List ℕ → Type 0 = λ list. list ≡ c.as_slice.result.now in
    let Q : List ℕ → Type 0 = λ list. list ≡ spliced c.args.d c.args.f first second in
    IfOk-weaker c.from_slice-2.result P Q (λ list e. e ∙ c.as_slice.ensures.value ∙ whole ∙ parts) c.from_slice-2.ensures
