-- Each item of the rows is followed, one row later, by the place to which it goes.
use Rattle.std.proofs.Common.{◌≡◌, ◌<◌, ◌∙◌, ap, length, slice_index, sym, take, arith}
use Rattle.std.specs.List.{range_with_len}
use Rattle.std.proofs.lemmas.List.{take_all}
use Rattle.cp_poles.specs.Layers.{layers, leaders}
use Rattle.cp_poles.proofs.CycleOrders.{before_read, before_within, rows_size, rows_start}
use Rattle.cp_poles.proofs.rows.rows_from.Goals as goal

pub loop-k-init : goal.loop-k-init
loop-k-init c =
    let to = c.args.to.now in
    let count : c.len-count.result ≡ length (leaders (slice_index to) c.args.size (range_with_len 0 (length to))) =
    let told : c.len-count.result ≡ length c.args.least.items = omega arith in
    told ∙ ap length c.requires.least in
    record {
      row = count;
      from = omega arith;
      found = c.requires.least
          ∙ sym (rows_start to c.requires.permutes c.args.size c.requires.one_length c.requires.some)
          ∙ ap (λ n. take n (layers (slice_index to) c.args.size
          (leaders (slice_index to) c.args.size (range_with_len 0 (length to))))) (sym count);
    }

pub index-requires : goal.index-requires
index-requires c =
    let to = c.args.to.now in
    let inv = c.loop-k.invariant in
    let within = before_within to c.requires.permutes c.args.size c.requires.one_length c.loop-k.k c.loop-k-test.true
    (omega (arith, inv.row, inv.from)) c.loop-k.rows.items inv.found in
    omega (arith, within, inv.row)

pub bounds-to-index : goal.bounds-to-index
bounds-to-index c =
    let inv = c.loop-k.invariant in
    (before_read c.args.to.now c.requires.permutes c.args.size c.requires.one_length c.loop-k.k c.loop-k-test.true
    (omega (arith, inv.row, inv.from)) c.loop-k.rows.items inv.found c.len-count.result c.index.result.now inv.row
    c.index.ensures).0

pub offset_bounds-to-index : goal.offset_bounds-to-index
offset_bounds-to-index c =
    let inv = c.loop-k.invariant in
    let low : c.index.result.now < length c.args.to.now =
    (before_read c.args.to.now c.requires.permutes c.args.size c.requires.one_length c.loop-k.k c.loop-k-test.true
    (omega (arith, inv.row, inv.from)) c.loop-k.rows.items inv.found c.len-count.result c.index.result.now inv.row
    c.index.ensures).0 in
    omega (arith, low)

pub loop-k-preserved : goal.loop-k-preserved
loop-k-preserved c =
    let inv = c.loop-k.invariant in
    record {
      row = inv.row;
      from = omega (arith, inv.from);
      found = c.in_ok-push.ensures.items
          ∙ (before_read c.args.to.now c.requires.permutes c.args.size c.requires.one_length c.loop-k.k
          c.loop-k-test.true (omega (arith, inv.row, inv.from)) c.loop-k.rows.items inv.found c.len-count.result
          c.index.result.now inv.row c.index.ensures).1;
    }

pub returns : goal.returns
returns c =
    let to = c.args.to.now in
    let inv = c.loop-k.invariant in
    let size = rows_size to c.requires.permutes c.args.size c.requires.one_length in
    inv.found
    ∙ take_all c.loop-k.k (layers (slice_index to) c.args.size
    (leaders (slice_index to) c.args.size (range_with_len 0 (length to)))) (omega (arith, size, c.loop-k-test.false))
    ∙ ap (layers (slice_index to) c.args.size) (sym c.requires.least)
