use Rattle.std.proofs.Common.{◌≡◌, ℕ, ap, length, rules}
use Rattle.cp_trace.proofs.TraceFaults.{emptied, stop_at_end, stop_at_heading, stop_at_last, stop_behind_end, stop_in_first, stop_in_last, whole_run}
use Rattle.cp_trace.proofs.read.read_run.Goals as goal

pub returns-in_default : goal.returns-in_default
returns-in_default c = stop_at_heading c.args.bytes.now c.in_default.ensures

pub returns-in_default-found_first : goal.returns-in_default-found_first
returns-in_default-found_first c =
    stop_in_first c.args.bytes.now c.in-Some.inside.now c.in-Some.ensures c.in_ok-found_first.behind_first.now
    (rw c.in_default-found_first.is at c.in_ok-found_first.ensures)

pub returns-in_default-found_last : goal.returns-in_default-found_last
returns-in_default-found_last c =
    let first = rw c.in-Some-found_first.is at c.in_ok-found_first.ensures in
    let steps = c.in_ok-steps.ensures in
    stop_in_last c.args.bytes.now c.in-Some.inside.now c.in-Some.ensures c.in-Some-found_first.first
    c.in_ok-found_first.behind_first.now c.in_ok-steps.behind_steps.now c.in_ok-steps.steps first.0 first.1 steps.0
    c.in_ok-found_last.behind_last.now (rw c.in_default-found_last.is at c.in_ok-found_last.ensures) steps.1

pub returns-in_default-read_end : goal.returns-in_default-read_end
returns-in_default-read_end c =
    let first = rw c.in-Some-found_first.is at c.in_ok-found_first.ensures in
    let last = rw c.in-Some-found_last.is at c.in_ok-found_last.ensures in
    stop_at_end c.args.bytes.now c.in-Some.inside.now c.in-Some.ensures c.in-Some-found_first.first
    c.in_ok-found_first.behind_first.now c.in_ok-steps.behind_steps.now c.in_ok-steps.steps first.0 first.1
    c.in_ok-steps.ensures.0 c.in-Some-found_last.last c.in_ok-found_last.behind_last.now last.0 last.1
    c.in_default-read_end.ensures

pub returns-in_default-after_line : goal.returns-in_default-after_line
returns-in_default-after_line c =
    let first = rw c.in-Some-found_first.is at c.in_ok-found_first.ensures in
    let last = rw c.in-Some-found_last.is at c.in_ok-found_last.ensures in
    let end = c.in-Some-read_end.ensures in
    stop_at_last c.args.bytes.now c.in-Some.inside.now c.in-Some.ensures c.in-Some-found_first.first
    c.in_ok-found_first.behind_first.now c.in_ok-steps.behind_steps.now c.in_ok-steps.steps first.0 first.1
    c.in_ok-steps.ensures.0 c.in-Some-found_last.last c.in_ok-found_last.behind_last.now last.0 last.1
    c.in-Some-read_end.solved c.in-Some-read_end.behind_reason.now end.0 end.1 c.in_default-after_line.ensures

pub returns-then-not-is_empty : goal.returns-then-not-is_empty
returns-then-not-is_empty c =
    let first = rw c.in-Some-found_first.is at c.in_ok-found_first.ensures in
    let last = rw c.in-Some-found_last.is at c.in_ok-found_last.ensures in
    let end = c.in-Some-read_end.ensures in
    stop_behind_end c.args.bytes.now c.in-Some.inside.now c.in-Some.ensures c.in-Some-found_first.first
    c.in_ok-found_first.behind_first.now c.in_ok-steps.behind_steps.now c.in_ok-steps.steps first.0 first.1
    c.in_ok-steps.ensures.0 c.in-Some-found_last.last c.in_ok-found_last.behind_last.now last.0 last.1
    c.in-Some-read_end.solved c.in-Some-read_end.behind_reason.now end.0 end.1 c.in-Some-after_line.rest.now
    c.in-Some-after_line.ensures
    (λ none. let len : length c.in-Some-after_line.rest.now ≡ 0 = ap (length {A = ℕ}) none in
    let told = c.if-not-is_empty.ensures in search rules)

pub returns : goal.returns
returns c =
    let first = rw c.in-Some-found_first.is at c.in_ok-found_first.ensures in
    let last = rw c.in-Some-found_last.is at c.in_ok-found_last.ensures in
    let end = c.in-Some-read_end.ensures in
    whole_run c.args.bytes.now c.in-Some.inside.now c.in-Some.ensures c.in-Some-found_first.first
    c.in_ok-found_first.behind_first.now c.in_ok-steps.behind_steps.now c.in_ok-steps.steps first.0 first.1
    c.in_ok-steps.ensures.0 c.in-Some-found_last.last c.in_ok-found_last.behind_last.now last.0 last.1
    c.in-Some-read_end.solved c.in-Some-read_end.behind_reason.now end.0 end.1 c.in-Some-after_line.rest.now
    c.in-Some-after_line.ensures
    (emptied c.is_empty.result c.in-Some-after_line.rest.now c.is_empty.ensures c.if-not-is_empty.false)
