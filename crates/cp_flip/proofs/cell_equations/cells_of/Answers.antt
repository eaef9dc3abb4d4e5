-- The cells, sorted and rid of repeated ones, rise, and those of all Q-vertices are among them.
use Rattle.std.proofs.Common.{ℕ, eqb, List, filter, sym, subst}
use Rattle.std.specs.List.{All, Contains}
use Rattle.std.specs.List.Sorted.{IsPermutation, IsStrictlyIncreasing}
use Rattle.std.proofs.lemmas.List.Elements.{Contains-get_or}
use Rattle.std.proofs.lemmas.List.Filters.{dedup_is}
use Rattle.std.proofs.lemmas.List.Kept.{Contains-dedup_nat}
use Rattle.std.proofs.lemmas.List.Sorted.{Contains-permutation}
use Rattle.std.proofs.lemmas.Map.Keys.{IsStrictlyIncreasing-dedup}
use Rattle.cp_lists.proofs.DistinctLists.{Has-Contains}
use Rattle.cp_lists.proofs.FilteredLists.{Has-filter}
use Rattle.cp_lists.proofs.MappedLists.{Has-map_on}
use Rattle.cp_board.specs.Instances.{cell_at, is_q}
use Rattle.cp_flip.specs.CellEquations.{cells_among}
use Rattle.cp_flip.proofs.cell_equations.cells_of.Goals as goal

pub cell_of_each-requires : goal.cell_of_each-requires
cell_of_each-requires g c = record {
  live = subst (λ vs. All (Contains vs) c.args.verts.now) c.requires.verts
      (λ k d lt. Contains-get_or c.args.verts.now k d lt);
}

pub returns : goal.returns
returns g c =
    let i = g.B.Board.instance c.args.board.now in
    let vs = c.args.verts.now in
    let sorted = c.sort_unstable.new.self.items in
    let found = c.dedup.new.self.items in
    let same = dedup_is eqb sorted found c.dedup.ensures.filtered in
    record {
      rules = c.requires.rules;
      rise = subst IsStrictlyIncreasing (sym same) (IsStrictlyIncreasing-dedup sorted c.sort_unstable.ensures.sorted);
      all = λ v live q.
          let there = Has-map_on (cell_at i) v (filter (is_q i) vs)
          (Has-filter (is_q i) v vs ((Has-Contains v vs).1 (subst (λ us. Contains us v) (sym c.requires.verts) live)) q) in
          let perm = subst (λ (xs : List ℕ). IsPermutation xs sorted) c.in_ok-cells.ensures
          c.sort_unstable.ensures.permutation in
          subst (λ xs. Contains xs (cell_at i v)) (sym same)
          (Contains-dedup_nat sorted (cell_at i v)
          (Contains-permutation (cells_among i vs) sorted (cell_at i v) perm
          ((Has-Contains (cell_at i v) (cells_among i vs)).0 there)));
    }
