use Rattle.std.proofs.Common.{◌≡◌, ℕ, ◌+◌, ◌*◌, ◌<◌, slice_index, subst, arith, length-set}
use Rattle.cp_border.specs.Borders.{sum_below, crossed, first_segment, segments}
use Rattle.cp_border.specs.Tables.{HoldsTable, segment_vertices}
use Rattle.cp_border.proofs.Darts.{first_segment-le}
use Rattle.cp_border.proofs.TablesLaw.{edge-start, edge-more, edge-end}
use Rattle.cp_border.proofs.arranged.Arranged.write_edge.Goals as goal

pub bounds-at-start : goal.bounds-at-start
bounds-at-start c =
    let told : slice_index c.args.self.now.first.now c.args.e ≡ sum_below (crossed c.args.self.now.graph.now) c.args.e =
    c.args.self.now.first_told.told c.args.e (omega arith) in
    let low : first_segment c.args.self.now.graph.now c.args.e + 0 < segments c.args.self.now.graph.now =
    first_segment-le c.args.self.now.graph.now c.args.e 0 c.requires.edge (omega arith) in
    omega (arith, c.requires.room)

pub loop-i-init : goal.loop-i-init
loop-i-init c =
    let told : slice_index c.args.self.now.first.now c.args.e ≡ sum_below (crossed c.args.self.now.graph.now) c.args.e =
    c.args.self.now.first_told.told c.args.e (omega arith) in
    rw (told, c.ends-source.ensures.ends) (edge-start c.args.self.now.graph.now c.args.at.now c.args.e c.requires.edge
    c.requires.room c.requires.done)

pub bounds-at-start-in-loop-i : goal.bounds-at-start-in-loop-i
bounds-at-start-in-loop-i c =
    let told : slice_index c.args.self.now.first.now c.args.e ≡ sum_below (crossed c.args.self.now.graph.now) c.args.e =
    c.args.self.now.first_told.told c.args.e (omega arith) in
    let low : first_segment c.args.self.now.graph.now c.args.e + (c.loop-i.i + 1) < segments c.args.self.now.graph.now =
    first_segment-le c.args.self.now.graph.now c.args.e (c.loop-i.i + 1) c.requires.edge
    (omega (arith, c.crossed-count.ensures.value)) in
    omega (arith, c.requires.room, length-set {A = ℕ})

pub bounds-at-start-in-loop-i-2 : goal.bounds-at-start-in-loop-i-2
bounds-at-start-in-loop-i-2 c =
    let told : slice_index c.args.self.now.first.now c.args.e ≡ sum_below (crossed c.args.self.now.graph.now) c.args.e =
    c.args.self.now.first_told.told c.args.e (omega arith) in
    let low : first_segment c.args.self.now.graph.now c.args.e + (c.loop-i.i + 1) < segments c.args.self.now.graph.now =
    first_segment-le c.args.self.now.graph.now c.args.e (c.loop-i.i + 1) c.requires.edge
    (omega (arith, c.crossed-count.ensures.value)) in
    omega (arith, c.requires.room, length-set {A = ℕ})

pub loop-i-preserved : goal.loop-i-preserved
loop-i-preserved c =
    let told : slice_index c.args.self.now.first.now c.args.e ≡ sum_below (crossed c.args.self.now.graph.now) c.args.e =
    c.args.self.now.first_told.told c.args.e (omega arith) in
    let so_far : HoldsTable (2 * first_segment c.args.self.now.graph.now c.args.e + 2 * c.loop-i.i + 1) c.loop-i.at
    (slice_index (segment_vertices c.args.self.now.graph.now)) =
    subst (λ (n : ℕ). HoldsTable (2 * (c.args.e + n) + 2 * c.loop-i.i + 1) c.loop-i.at
    (slice_index (segment_vertices c.args.self.now.graph.now))) told c.loop-i.invariant in
    rw (told, c.nodes.ensures.value) (edge-more c.args.self.now.graph.now c.loop-i.at c.args.e c.loop-i.i
    c.requires.edge (omega (arith, c.crossed-count.ensures.value)) (omega
    (arith, c.requires.room, length-set {A = ℕ})) so_far)

pub bounds-at-start-2 : goal.bounds-at-start-2
bounds-at-start-2 c =
    let told : slice_index c.args.self.now.first.now c.args.e ≡ sum_below (crossed c.args.self.now.graph.now) c.args.e =
    c.args.self.now.first_told.told c.args.e (omega arith) in
    let low : first_segment c.args.self.now.graph.now c.args.e + crossed c.args.self.now.graph.now c.args.e < segments
    c.args.self.now.graph.now =
    first_segment-le c.args.self.now.graph.now c.args.e (crossed c.args.self.now.graph.now c.args.e) c.requires.edge
    (omega arith) in
    omega (arith, c.requires.room, c.crossed-count.ensures.value, length-set {A = ℕ})

pub returns : goal.returns
returns c =
    let told : slice_index c.args.self.now.first.now c.args.e ≡ sum_below (crossed c.args.self.now.graph.now) c.args.e =
    c.args.self.now.first_told.told c.args.e (omega arith) in
    let all : c.loop-i.i ≡ crossed c.args.self.now.graph.now c.args.e = omega (arith, c.crossed-count.ensures.value) in
    let whole : HoldsTable (2 * first_segment c.args.self.now.graph.now c.args.e + 2 * crossed c.args.self.now.graph.now
    c.args.e + 1) c.loop-i.at (slice_index (segment_vertices c.args.self.now.graph.now)) =
    subst (λ (k : ℕ). HoldsTable (2 * first_segment c.args.self.now.graph.now c.args.e + 2 * k + 1) c.loop-i.at
    (slice_index (segment_vertices c.args.self.now.graph.now))) all
    (subst (λ (n : ℕ). HoldsTable (2 * (c.args.e + n) + 2 * c.loop-i.i + 1) c.loop-i.at
    (slice_index (segment_vertices c.args.self.now.graph.now))) told c.loop-i.invariant) in
    rw (told, c.crossed-count.ensures.value, c.ends-source.ensures.ends)
    (edge-end c.args.self.now.graph.now c.loop-i.at c.args.e c.requires.edge
    (omega (arith, c.requires.room, length-set {A = ℕ})) whole)
