-- One word stands in the list, and it is compared.
use Rattle.std.proofs.Common.{[], ◌∷◌, string_bytes, sym, ap, ◌∙◌}
use Rattle.std.proofs.lemmas.Slice.Eq.{bytes_eq-Decides}
use Rattle.cp_app.proofs.WordLemmas.{map-only, only-same}
use Rattle.cp_app.proofs.command.is_trace.Goals as goal

pub returns-in-len1 : goal.returns-in-len1
returns-in-len1 c =
    let only = map-only string_bytes c.args.words.now c.word-item.result c.in-len1.len_at_least c.in-len1.len_below
    c.word-item.is in
    let decides = bytes_eq-Decides c.as_str.result.now (116 ∷ 114 ∷ 97 ∷ 99 ∷ 101 ∷ []) in (
      λ is. only ∙ ap (λ w. w ∷ []) (sym c.as_str.ensures.value ∙ decides.0 (sym c.eq.ensures ∙ is)),
      λ same. c.eq.ensures ∙ decides.1 (c.as_str.ensures.value ∙ only-same _ _ (sym only ∙ same)),
    )
