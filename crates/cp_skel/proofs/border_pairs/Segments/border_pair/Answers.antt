use Rattle.std.proofs.Common.{◌≡◌, ℕ, List, ap, sym, ◌∙◌, ap₂, ◌+◌, arith}
use Rattle.std.specs.Prelude.{slice_index_or}
use Rattle.cp_cgraph.specs.Crossings.{contains}
use Rattle.cp_skel.specs.SkeletonTables.{first_name}
use Rattle.cp_skel.proofs.BorderPairs.{ahead-lt, pair_inward, pair_outward}
use Rattle.cp_skel.proofs.ToldLists.{first_names-at}
use Rattle.cp_skel.proofs.border_pairs.Segments.border_pair.Goals as goal

pub overflow_add-ahead : goal.overflow_add-ahead
overflow_add-ahead c =
    let told : slice_index_or c.args.self.now.firsts.now c.args.e 0 ≡ first_name c.args.self.now.graph.now c.args.e =
    ap (λ (xs : List ℕ). slice_index_or xs c.args.e 0) c.args.self.now.told
    ∙ first_names-at c.args.self.now.graph.now c.args.e 0 c.requires.edge in
    let less = ahead-lt c.args.self.now.graph.now c.args.self.now.clustered c.args.c c.args.e c.requires.edge
    c.requires.cluster c.requires.left in
    omega (arith, told, less, c.place.ensures, c.args.self.now.few)

pub overflow_add-result : goal.overflow_add-result
overflow_add-result c =
    let told : slice_index_or c.args.self.now.firsts.now c.args.e 0 ≡ first_name c.args.self.now.graph.now c.args.e =
    ap (λ (xs : List ℕ). slice_index_or xs c.args.e 0) c.args.self.now.told
    ∙ first_names-at c.args.self.now.graph.now c.args.e 0 c.requires.edge in
    let less = ahead-lt c.args.self.now.graph.now c.args.self.now.clustered c.args.c c.args.e c.requires.edge
    c.requires.cluster c.requires.left in
    omega (arith, told, less, c.place.ensures, c.args.self.now.few)

pub overflow_add-result-else-contains : goal.overflow_add-result-else-contains
overflow_add-result-else-contains c =
    let told : slice_index_or c.args.self.now.firsts.now c.args.e 0 ≡ first_name c.args.self.now.graph.now c.args.e =
    ap (λ (xs : List ℕ). slice_index_or xs c.args.e 0) c.args.self.now.told
    ∙ first_names-at c.args.self.now.graph.now c.args.e 0 c.requires.edge in
    let less = ahead-lt c.args.self.now.graph.now c.args.self.now.clustered c.args.c c.args.e c.requires.edge
    c.requires.cluster c.requires.left in
    omega (arith, told, less, c.place.ensures, c.args.self.now.few)

pub returns-then-contains : goal.returns-then-contains
returns-then-contains c =
    pair_outward c.args.self.now.graph.now c.args.self.now.clustered c.args.c c.args.e c.requires.edge
    c.requires.cluster c.requires.left (slice_index_or c.args.self.now.firsts.now c.args.e 0 + c.place.result)
    (ap₂ (λ (m n : ℕ). m + n)
    (ap (λ (xs : List ℕ). slice_index_or xs c.args.e 0) c.args.self.now.told
    ∙ first_names-at c.args.self.now.graph.now c.args.e 0 c.requires.edge) c.place.ensures)
    (ap (contains c.args.self.now.graph.now c.args.c) (sym (ap (λ p. p.0) c.ends-source.ensures.ends))
    ∙ sym c.contains.ensures ∙ c.if-contains.true)

pub returns-else-contains : goal.returns-else-contains
returns-else-contains c =
    pair_inward c.args.self.now.graph.now c.args.self.now.clustered c.args.c c.args.e c.requires.edge
    c.requires.cluster c.requires.left (slice_index_or c.args.self.now.firsts.now c.args.e 0 + c.place.result)
    (ap₂ (λ (m n : ℕ). m + n)
    (ap (λ (xs : List ℕ). slice_index_or xs c.args.e 0) c.args.self.now.told
    ∙ first_names-at c.args.self.now.graph.now c.args.e 0 c.requires.edge) c.place.ensures)
    (ap (contains c.args.self.now.graph.now c.args.c) (sym (ap (λ p. p.0) c.ends-source.ensures.ends))
    ∙ sym c.contains.ensures ∙ c.if-contains.false)
