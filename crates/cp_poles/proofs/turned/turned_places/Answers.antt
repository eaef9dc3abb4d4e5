-- One place more.
use Rattle.std.proofs.Common.{[], ◌∷◌, ◌++◌, map, take, slice_index, sym, ap, ◌∙◌}
use Rattle.std.proofs.lemmas.List.{map-append, take_more}
use Rattle.cp_poles.specs.Turned.{place_back}
use Rattle.cp_poles.proofs.turned.turned_places.Goals as goal

pub loop-partner-preserved : goal.loop-partner-preserved
loop-partner-preserved c =
    let f = place_back c.args.firsts.now c.args.back.now c.args.seconds.now in
    let before = take c.loop-partner.partner-index c.args.partners.now in
    let y = slice_index c.args.partners.now c.loop-partner.partner-index in
    c.in_ok-push.ensures.items
    ∙ ap (λ xs. xs ++ c.turned_place.result ∷ []) c.loop-partner.invariant
    ∙ ap (λ d. map f before ++ d ∷ []) c.turned_place.ensures
    ∙ sym (ap (map f) (take_more c.args.partners.now c.loop-partner.partner-index 0 c.loop-partner-test.true)
    ∙ map-append f before (y ∷ []))
