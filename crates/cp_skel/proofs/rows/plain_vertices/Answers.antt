use Rattle.std.proofs.Common.{ℕ, ◌++◌, ◌∷◌, [], List, ap, sym, ◌∙◌}
use Rattle.cp_board.specs.declared.parts.Kind.TheVariants.{P}
use Rattle.cp_board.specs.declared.parts.Vert.{Vert}
use Rattle.cp_skel.proofs.GatheredLists.{map_more}
use Rattle.cp_skel.proofs.rows.plain_vertices.Goals as goal

pub loop-name-preserved : goal.loop-name-preserved
loop-name-preserved c =
    let vert : ℕ → Vert = λ v. record { name = v; kind = P } in
    c.in_ok-push.ensures.ok
    ∙ ap (λ (vs : List Vert). vs ++ vert c.loop-name.name ∷ []) c.loop-name.invariant
    ∙ sym (map_more vert c.loop-name.name)
