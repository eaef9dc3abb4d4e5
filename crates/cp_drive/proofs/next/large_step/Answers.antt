-- The ends of a large pipe are live, and the one that is embedded is told by the tests.
use Rattle.std.proofs.Common.{◌≡◌, ℕ, ap, inl, inr, refl, subst, sym, ◌∙◌}
use Rattle.std.specs.List.{Contains}
use Rattle.std.proofs.lemmas.Bool.{false≢true}
use Rattle.cp_conn.specs.NamedGraphs.{IsCut}
use Rattle.cp_board.specs.Instances.{graph, pipe_names, vert_names}
use Rattle.cp_drive.proofs.GreatestPipes.{end-live, greatest-ends, greatest-live}
use Rattle.cp_drive.proofs.next.large_step.Goals as goal

pub pipe_ends-a-requires : goal.pipe_ends-a-requires
pipe_ends-a-requires g c =
    let i = g.B.Board.instance c.args.board.now in
    let h = c.requires in
    subst (Contains (pipe_names i)) h.named (greatest-live i c.follows_rules.ensures h.p h.greatest)

pub is_cut_vertex-requires : goal.is_cut_vertex-requires
is_cut_vertex-requires g c =
    let i = g.B.Board.instance c.args.board.now in
    let h = c.requires in
    let is = c.follows_rules.ensures in
    let told = c.pipe_ends-a.ensures.value ∙ greatest-ends i is h.p h.greatest c.args.pipe h.named in
    subst (Contains (vert_names i)) (sym (ap (λ (x : ℕ × ℕ). x.0) told))
    (end-live i is h.p h.greatest h.many h.p.a (inl refl))

pub is_cut_vertex-requires-2 : goal.is_cut_vertex-requires-2
is_cut_vertex-requires-2 g c =
    let i = g.B.Board.instance c.args.board.now in
    let h = c.requires in
    let is = c.follows_rules.ensures in
    let told = c.pipe_ends-a.ensures.value ∙ greatest-ends i is h.p h.greatest c.args.pipe h.named in
    subst (Contains (vert_names i)) (sym (ap (λ (x : ℕ × ℕ). x.1) told))
    (end-live i is h.p h.greatest h.many h.p.b (inr refl))

pub step_at_end-requires-then-not-second_cut : goal.step_at_end-requires-then-not-second_cut
step_at_end-requires-then-not-second_cut g c =
    let i = g.B.Board.instance c.args.board.now in
    let h = c.requires in
    let is = c.follows_rules.ensures in
    let told = c.pipe_ends-a.ensures.value ∙ greatest-ends i is h.p h.greatest c.args.pipe h.named in
    let at_a : c.pipe_ends-a.result.0 ≡ h.p.a = ap (λ (x : ℕ × ℕ). x.0) told in
    let at_b : c.pipe_ends-a.result.1 ≡ h.p.b = ap (λ (x : ℕ × ℕ). x.1) told in
    record {
      p = h.p;
      greatest = h.greatest;
      named = h.named;
      needs = (
        h.many,
        λ both. false≢true (sym c.if-not-second_cut.true
            ∙ c.in_ok-second_cut.ensures.1 (subst (IsCut (graph i)) (sym at_b) both.1)),
      );
      embedded = inr (at_b, subst (IsCut (graph i)) at_a (c.in_ok-first_cut.ensures.0 c.if-not-first_cut.false));
    }
