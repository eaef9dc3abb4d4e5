use Rattle.std.proofs.Common.{◌+◌, ◌*◌, length}
use Rattle.cp_trace.specs.Bodies.{GoOnWith}
use Rattle.cp_trace.proofs.read_body.+branches.Given as goal

-- a branch is read of its own bytes, kids of theirs
abbrev pub decreases-read_body : goal.decreases-read_body
decreases-read_body l = 2 * length l.bytes.now

abbrev pub decreases-read_kids : goal.decreases-read_kids
decreases-read_kids l = 2 * length l.bytes.now + 1

-- the kids so far, and a further one is due
abbrev pub invariant-read_kids-loop-kids : goal.invariant-read_kids-loop-kids
invariant-read_kids-loop-kids l = GoOnWith l.bytes l.kids l.text

abbrev pub decreases-read_kids-loop-kids : goal.decreases-read_kids-loop-kids
decreases-read_kids-loop-kids l = length l.text
