use Rattle.std.proofs.Common.{◌≡◌, ◌++◌, subst, sym}
use Rattle.cp_board.specs.Instances.{Synchronized}
use Rattle.cp_sync.specs.Faults.{with_parts}
use Rattle.cp_trace.specs.Texts.{instance_lines, text_of}
use Rattle.cp_trace.proofs.InstanceLines.{instance_read, no_first_line, no_last_line, rules_broken}
use Rattle.cp_trace.proofs.read_instance.read_instance.Goals as goal

pub returns-in_default : goal.returns-in_default
returns-in_default c = no_first_line c.args.bytes.now c.in_default.ensures

pub returns-in_default-after_line : goal.returns-in_default-after_line
returns-in_default-after_line c =
    no_last_line c.args.bytes.now c.in-Some.inside.now c.in_ok-verts.rest.now
    (with_parts c.in_ok-verts.verts c.in_ok-verts.edges c.in_ok-verts.pipes) c.in-Some.ensures c.in_ok-verts.ensures
    c.in_default-after_line.ensures

pub returns-in-Some-2 : goal.returns-in-Some-2
returns-in-Some-2 c =
    let told = rw c.in-Some-2.is at c.in_ok-instance.ensures in
    let spelled = instance_read c.args.bytes.now c.in-Some.inside.now c.in_ok-verts.rest.now
    c.in-Some-after_line.after.now
    (with_parts c.in_ok-verts.verts c.in_ok-verts.edges c.in_ok-verts.pipes) c.in-Some.ensures c.in_ok-verts.ensures
    c.in-Some-after_line.ensures in (
      told.0,
      subst (λ (i : Synchronized). c.args.bytes.now ≡ text_of (instance_lines i) ++ c.in-Some-after_line.after.now)
          (sym told.1) spelled,
    )

pub returns-in-None : goal.returns-in-None
returns-in-None c =
    rules_broken c.args.bytes.now c.in-Some.inside.now c.in_ok-verts.rest.now
    (with_parts c.in_ok-verts.verts c.in_ok-verts.edges c.in_ok-verts.pipes) c.in-Some.ensures c.in_ok-verts.ensures
    (rw c.in-None.is at c.in_ok-instance.ensures)
