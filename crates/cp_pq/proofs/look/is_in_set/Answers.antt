use Rattle.std.proofs.Common.{◌∙◌}
use Rattle.std.proofs.lemmas.List.Sorted.{searched}
use Rattle.cp_pq.proofs.SearchedSets.{not_falling, searched_inside}
use Rattle.cp_pq.proofs.look.is_in_set.Goals as goal

pub returns : goal.returns
returns c = λ rising.
    c.is_ok.ensures.value ∙ searched_inside c.args.set.now c.args.x c.binary_search.result
    (searched c.args.set.now c.args.x c.binary_search.result c.binary_search.ensures.position (not_falling c.args.set.now rising))
