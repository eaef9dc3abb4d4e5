-- What is behind the item goes on the pile, and then what is in front of it.
use Rattle.std.proofs.Common.{◌++◌, ◌+◌, ℕ, List, append_assoc, ap, ap₂, sym, ◌∙◌}
use Rattle.std.proofs.lemmas.List.{append-nil, take_rest}
use Rattle.cp_plant.specs.TreeWords.{behind, in_front}
use Rattle.cp_plant.proofs.Rounds.{nothing_behind}
use Rattle.cp_plant.proofs.reading.push_round.Goals as goal
use Rattle.cp_plant.proofs.reading.push_round.Goals.{then-place-list+in_ok-extend_from_slice, else-place-list}

pub returns : goal.returns
returns c =
    let pile : List ℕ = c.args.pile.now.items in
    let back : List ℕ = behind c.args.x c.args.list.now in
    let front : List ℕ = in_front c.args.x c.args.list.now in
    elim c.if-place-list.branch [
      | then-place-list+in_ok-extend_from_slice w ↦
          c.in_ok-extend_from_slice-2.ensures.items
          ∙ ap₂ (λ (us vs : List ℕ). us ++ vs)
          (ap (λ v. v.items) w.pile-is ∙ w.in_ok-extend_from_slice.ensures.items
          ∙ ap (λ zs. pile ++ zs) (take_rest c.args.list.now (c.first_place-place.result + 1) ∙ c.first_place-place.ensures.behind))
          c.first_place-place.ensures.front
          ∙ append_assoc pile back front
      | else-place-list w ↦
          c.in_ok-extend_from_slice-2.ensures.items
          ∙ ap₂ (λ (us vs : List ℕ). us ++ vs)
          (ap (λ v. v.items) w.pile-is ∙ sym (append-nil pile)
          ∙ ap (λ zs. pile ++ zs)
          (sym (nothing_behind c.args.list.now c.first_place-place.result w.if-place-list.false)
          ∙ c.first_place-place.ensures.behind))
          c.first_place-place.ensures.front
          ∙ append_assoc pile back front
    ]
