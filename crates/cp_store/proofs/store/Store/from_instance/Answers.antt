use Rattle.std.proofs.Common.{◌≡◌, [], ◌∷◌, sym, ap, ◌∙◌, subst}
use Rattle.std.specs.List.{All}
use Rattle.std.proofs.lemmas.List.Elements.{All-nil, All-cons}
use Rattle.cp_board.specs.Instances.{IsSynchronized}
use Rattle.cp_store.specs.EdgeLinks.{joins}
use Rattle.cp_store.specs.Parts.{told, IsStore}
use Rattle.cp_store.specs.Indexes.{IsIndexed}
use Rattle.cp_store.proofs.StoredStates.{same_parts}
use Rattle.cp_store.specs.Links.{HasLinks}
use Rattle.cp_store.specs.PipeLinks.{HasPipeLinks}
use Rattle.cp_store.proofs.store.Store.from_instance.Goals as goal

pub invariant_of-result : goal.invariant_of-result
invariant_of-result c =
    let i = told record { verts = c.in_ok-verts.verts; edges = c.in_ok-edges.edges; pipes = c.in_ok-pipes.pipes } in
    let now = c.args.i.now in
    let same : i ≡ now = same_parts i now (c.in_ok-verts.ensures.items ∙ c.vert_rows.ensures)
    (c.in_ok-edges.ensures.items ∙ c.edge_rows.ensures) (c.in_ok-pipes.ensures.items ∙ c.pipe_rows.ensures) in
    let links = c.roots_of.new.forest in
    let roots = c.in_ok-roots.roots in
    let pipes : HasPipeLinks links roots.pipes i.pipes =
    subst (HasPipeLinks links roots.pipes) (c.pipe_rows-2.ensures ∙ sym (ap (λ j. j.pipes) same))
    c.in_ok-roots.ensures.pipes in
    subst (λ l. IsStore record { verts = c.in_ok-verts.verts; edges = c.in_ok-edges.edges; pipes = c.in_ok-pipes.pipes }
    l × IsIndexed links roots l i) (sym c.new.ensures.items) (
      record {
        tables = record {
          verts = c.in_ok-verts.ensures.table;
          edges = c.in_ok-edges.ensures.table;
          pipes =
              c.in_ok-pipes.ensures.table;
        };
        room = All-nil _;
        rules = subst (λ j. All IsSynchronized (j ∷ [])) (sym same)
            (All-cons IsSynchronized now [] c.follows_rules.ensures (All-nil IsSynchronized));
      },
      record {
        ends = record {
          now = subst (λ es. HasLinks links roots.ends (joins es))
              (c.edge_rows-2.ensures ∙ sym (ap (λ j. j.edges) same)) c.in_ok-roots.ensures.ends;
          before = tt;
        };
        ranks = record { now = pipes.ranks; before = tt };
        poles = record { now = pipes.poles; before = tt };
      },
    )
