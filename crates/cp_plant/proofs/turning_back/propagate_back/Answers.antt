-- The tree is read as its word, and what is put together of it is a solution.
use Rattle.std.proofs.Common.{◌≡◌, ◌≢◌, ℕ, ◌+◌, List, length, map, sym, refl, ap, ◌∙◌, subst, arith}
use Rattle.std.specs.List.{All, Contains}
use Rattle.std.proofs.lemmas.List.{length-map}
use Rattle.std.specs.List.Sorted.{IsStrictlyIncreasing}
use Rattle.cp_board.specs.Steps.{partner}
use Rattle.cp_plant.proofs.SolutionsBack.{count-some, counted, counting, end-live, nodes-All, nodes-each, nodes-found, other-is, partners-are, pipe-live, returned-IsSolution, stay-All, tops-found, tops-rise}
use Rattle.cp_plant.proofs.turning_back.propagate_back.Goals as goal

pub pipe_ends-ends-requires : goal.pipe_ends-ends-requires
pipe_ends-ends-requires g c =
    pipe-live (g.B.Board.instance c.args.before.now) c.requires.solved.0 c.follows_rules.ensures c.requires.solved.1 c.args.pipe c.args.end
    c.args.shape.now c.requires.allowed c.requires.solved.2 c.args.after c.requires.solved.3

pub pairs-pairs-requires : goal.pairs-pairs-requires
pairs-pairs-requires g c =
    pipe-live (g.B.Board.instance c.args.before.now) c.requires.solved.0 c.follows_rules.ensures c.requires.solved.1 c.args.pipe c.args.end
    c.args.shape.now c.requires.allowed c.requires.solved.2 c.args.after c.requires.solved.3

pub edges_at-requires : goal.edges_at-requires
edges_at-requires g c =
    end-live (g.B.Board.instance c.args.before.now) c.requires.solved.0 c.follows_rules.ensures c.requires.solved.1 c.args.pipe c.args.end
    c.args.shape.now c.requires.allowed c.requires.solved.2 c.args.after c.requires.solved.3

-- the vertices before the step, counted
earlier_is : (size : ℕ) (items names : List ℕ) (result : ℕ) → result ≡ size → size ≡ length items → items ≡ names
    → result ≡ length names
earlier_is size items names result one two three = one ∙ two ∙ ap length three

-- the vertices after the step, counted
later_is : (lists : List (ℕ × List ℕ)) (names : List ℕ) → names ≡ map (λ row. row.0) lists → length names ≡ length lists
later_is lists names e = ap length e ∙ length-map lists (λ (row : ℕ × List ℕ). row.0)

pub node_count-count-requires : goal.node_count-count-requires
node_count-count-requires g c =
    counting (g.B.Board.instance c.args.before.now) c.requires.solved.0 c.follows_rules.ensures c.requires.solved.1
    c.args.pipe c.args.end c.args.shape.now c.requires.allowed c.requires.solved.2 c.args.after c.requires.solved.3
    c.len.result (length c.names.result.now)
    (earlier_is _ c.in_ok-verts.verts.items _ c.len.result c.len.ensures c.in_ok-verts.verts.ok.0 c.in_ok-verts.ensures.names)
    (later_is c.args.after c.names.result.now c.names.ensures)

pub overflow_sub-count : goal.overflow_sub-count
overflow_sub-count g c =
    let e = counted (g.B.Board.instance c.args.before.now) c.requires.solved.0 c.follows_rules.ensures c.requires.solved.1
    c.args.pipe c.args.end c.args.shape.now c.requires.allowed c.requires.solved.2 c.args.after c.requires.solved.3
    c.len.result (length c.names.result.now) c.node_count-count.result
    (earlier_is _ c.in_ok-verts.verts.items _ c.len.result c.len.ensures c.in_ok-verts.verts.ok.0 c.in_ok-verts.ensures.names)
    (later_is c.args.after c.names.result.now c.names.ensures)
    c.node_count-count.ensures.value in
    let s = count-some (g.B.Board.instance c.args.before.now) c.requires.solved.0 c.follows_rules.ensures c.requires.solved.1
    c.args.pipe c.args.end c.args.shape.now c.requires.allowed c.requires.solved.2 c.args.after c.requires.solved.3 in
    omega (arith, e, s)

pub word_of_tree-requires-clause-rising : goal.word_of_tree-requires-clause-rising
word_of_tree-requires-clause-rising g c =
    let e = counted (g.B.Board.instance c.args.before.now) c.requires.solved.0 c.follows_rules.ensures c.requires.solved.1
    c.args.pipe c.args.end c.args.shape.now c.requires.allowed c.requires.solved.2 c.args.after c.requires.solved.3
    c.len.result (length c.names.result.now) c.node_count-count.result
    (earlier_is _ c.in_ok-verts.verts.items _ c.len.result c.len.ensures c.in_ok-verts.verts.ok.0 c.in_ok-verts.ensures.names)
    (later_is c.args.after c.names.result.now c.names.ensures)
    c.node_count-count.ensures.value in
    let tops = tops-found (g.B.Board.instance c.args.before.now) c.requires.solved.0 c.follows_rules.ensures c.requires.solved.1
    c.args.pipe c.args.end c.args.shape.now c.requires.allowed c.requires.solved.2 c.args.after c.requires.solved.3
    c.node_count-count.result c.in_ok-tops.tops.items e c.in_ok-tops.ensures in
    subst IsStrictlyIncreasing (sym tops ∙ sym c.as_slice.ensures.value) (tops-rise (g.B.Board.instance c.args.before.now) c.requires.solved.0 c.follows_rules.ensures c.requires.solved.1
    c.args.pipe c.args.end c.args.shape.now c.requires.allowed c.requires.solved.2 c.args.after c.requires.solved.3)

pub word_of_tree-requires-clause-one_each : goal.word_of_tree-requires-clause-one_each
word_of_tree-requires-clause-one_each g c =
    let e = counted (g.B.Board.instance c.args.before.now) c.requires.solved.0 c.follows_rules.ensures c.requires.solved.1
    c.args.pipe c.args.end c.args.shape.now c.requires.allowed c.requires.solved.2 c.args.after c.requires.solved.3
    c.len.result (length c.names.result.now) c.node_count-count.result
    (earlier_is _ c.in_ok-verts.verts.items _ c.len.result c.len.ensures c.in_ok-verts.verts.ok.0 c.in_ok-verts.ensures.names)
    (later_is c.args.after c.names.result.now c.names.ensures)
    c.node_count-count.ensures.value in
    let tops = tops-found (g.B.Board.instance c.args.before.now) c.requires.solved.0 c.follows_rules.ensures c.requires.solved.1
    c.args.pipe c.args.end c.args.shape.now c.requires.allowed c.requires.solved.2 c.args.after c.requires.solved.3
    c.node_count-count.result c.in_ok-tops.tops.items e c.in_ok-tops.ensures in
    let nodes = nodes-found (g.B.Board.instance c.args.before.now) c.requires.solved.0 c.follows_rules.ensures c.requires.solved.1
    c.args.pipe c.args.end c.args.shape.now c.requires.allowed c.requires.solved.2 c.args.after c.requires.solved.3
    c.node_count-count.result c.in_ok-nodes.nodes.items e c.in_ok-nodes.ensures in
    let each = nodes-each (g.B.Board.instance c.args.before.now) c.requires.solved.0 c.follows_rules.ensures c.requires.solved.1
    c.args.pipe c.args.end c.args.shape.now c.requires.allowed c.requires.solved.2 c.args.after c.requires.solved.3 in
    ap length (c.as_slice-2.ensures.value ∙ nodes) ∙ each
    ∙ ap (λ (xs : List ℕ). length xs + 1) (sym tops ∙ sym c.as_slice.ensures.value)

pub word_of_tree-requires-clause-live : goal.word_of_tree-requires-clause-live
word_of_tree-requires-clause-live g c =
    let e = counted (g.B.Board.instance c.args.before.now) c.requires.solved.0 c.follows_rules.ensures c.requires.solved.1
    c.args.pipe c.args.end c.args.shape.now c.requires.allowed c.requires.solved.2 c.args.after c.requires.solved.3
    c.len.result (length c.names.result.now) c.node_count-count.result
    (earlier_is _ c.in_ok-verts.verts.items _ c.len.result c.len.ensures c.in_ok-verts.verts.ok.0 c.in_ok-verts.ensures.names)
    (later_is c.args.after c.names.result.now c.names.ensures)
    c.node_count-count.ensures.value in
    let nodes = nodes-found (g.B.Board.instance c.args.before.now) c.requires.solved.0 c.follows_rules.ensures c.requires.solved.1
    c.args.pipe c.args.end c.args.shape.now c.requires.allowed c.requires.solved.2 c.args.after c.requires.solved.3
    c.node_count-count.result c.in_ok-nodes.nodes.items e c.in_ok-nodes.ensures in
    subst (All (Contains (map (λ row. row.0) c.args.after))) (sym nodes ∙ sym c.as_slice-2.ensures.value)
    (nodes-All (g.B.Board.instance c.args.before.now) c.requires.solved.0 c.follows_rules.ensures c.requires.solved.1
    c.args.pipe c.args.end c.args.shape.now c.requires.allowed c.requires.solved.2 c.args.after c.requires.solved.3)

pub earlier_solution-requires-clause-names : goal.earlier_solution-requires-clause-names
earlier_solution-requires-clause-names g c =
    let w = other-is (g.B.Board.instance c.args.before.now) c.requires.solved.0 c.follows_rules.ensures c.requires.solved.1
    c.args.pipe c.args.end c.args.shape.now c.requires.allowed c.requires.solved.2 c.args.after c.requires.solved.3
    c.pipe_ends-ends.result c.other_end-other.result c.pipe_ends-ends.ensures.value c.other_end-other.ensures in
    subst (All (λ v. v ≢ c.args.end → v ≢ c.other_end-other.result → Contains (map (λ row. row.0) c.args.after) v))
    (sym c.in_ok-verts.ensures.names ∙ sym c.as_slice-4.ensures.value)
    (stay-All (g.B.Board.instance c.args.before.now) c.requires.solved.0 c.follows_rules.ensures c.requires.solved.1
    c.args.pipe c.args.end c.args.shape.now c.requires.allowed c.requires.solved.2 c.args.after c.requires.solved.3
    c.other_end-other.result w)

-- the number of steps, in the code's own terms
steps_are : (count node size : ℕ) (items edges : List ℕ) (result : ℕ) → node ≡ count → result ≡ size
    → size ≡ length items → items ≡ edges → node + result ≡ count + length edges
steps_are count node size items edges result one two three four =
    ap (λ n. n + result) one ∙ ap (λ n. count + n) (two ∙ three ∙ ap length four)

pub returns : goal.returns
returns g c =
    let e = counted (g.B.Board.instance c.args.before.now) c.requires.solved.0 c.follows_rules.ensures c.requires.solved.1
    c.args.pipe c.args.end c.args.shape.now c.requires.allowed c.requires.solved.2 c.args.after c.requires.solved.3
    c.len.result (length c.names.result.now) c.node_count-count.result
    (earlier_is _ c.in_ok-verts.verts.items _ c.len.result c.len.ensures c.in_ok-verts.verts.ok.0 c.in_ok-verts.ensures.names)
    (later_is c.args.after c.names.result.now c.names.ensures)
    c.node_count-count.ensures.value in
    let tops = tops-found (g.B.Board.instance c.args.before.now) c.requires.solved.0 c.follows_rules.ensures c.requires.solved.1
    c.args.pipe c.args.end c.args.shape.now c.requires.allowed c.requires.solved.2 c.args.after c.requires.solved.3
    c.node_count-count.result c.in_ok-tops.tops.items e c.in_ok-tops.ensures in
    let nodes = nodes-found (g.B.Board.instance c.args.before.now) c.requires.solved.0 c.follows_rules.ensures c.requires.solved.1
    c.args.pipe c.args.end c.args.shape.now c.requires.allowed c.requires.solved.2 c.args.after c.requires.solved.3
    c.node_count-count.result c.in_ok-nodes.nodes.items e c.in_ok-nodes.ensures in
    let w = other-is (g.B.Board.instance c.args.before.now) c.requires.solved.0 c.follows_rules.ensures c.requires.solved.1
    c.args.pipe c.args.end c.args.shape.now c.requires.allowed c.requires.solved.2 c.args.after c.requires.solved.3
    c.pipe_ends-ends.result c.other_end-other.result c.pipe_ends-ends.ensures.value c.other_end-other.ensures in
    returned-IsSolution (g.B.Board.instance c.args.before.now) c.requires.solved.0 c.follows_rules.ensures c.requires.solved.1
    c.args.pipe c.args.end c.args.shape.now c.requires.allowed c.requires.solved.2 c.args.after c.requires.solved.3
    (c.node_count-count.result + c.len-2.result)
    (steps_are _ c.node_count-count.result _ c.in_ok-incident.incident.items _ c.len-2.result e c.len-2.ensures
    c.in_ok-incident.incident.ok.0 c.in_ok-incident.ensures.names)
    c.as_slice.result.now c.as_slice-2.result.now c.in_ok-word.word.items c.as_slice-5.result.now
    c.as_slice-6.result.now c.as_slice-4.result.now c.other_end-other.result c.in_ok-solution.solution
    (c.as_slice.ensures.value ∙ tops) (c.as_slice-2.ensures.value ∙ nodes) c.in_ok-word.ensures
    (c.as_slice-5.ensures.value ∙ c.reverse.ensures.items)
    (c.as_slice-6.ensures.value ∙ c.in_ok-at_other.ensures
    ∙ partners-are (g.B.Board.instance c.args.before.now) c.requires.solved.0 c.follows_rules.ensures c.requires.solved.1
    c.args.pipe c.args.end c.args.shape.now c.requires.allowed c.requires.solved.2 c.args.after c.requires.solved.3
    c.pipe_ends-ends.result c.pairs-pairs.result.now _ c.as_slice-3.result.now c.pipe_ends-ends.ensures.value
    c.pairs-pairs.ensures refl
    ∙ ap (map (partner (c.requires.solved.2.0) c.args.end)) c.as_slice-3.ensures.value)
    w (c.as_slice-4.ensures.value ∙ c.in_ok-verts.ensures.names) c.in_ok-solution.ensures
