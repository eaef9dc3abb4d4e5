use Rattle.std.proofs.Common.{◌≡◌, length, map}
use Rattle.cp_trace.specs.Faults.{AreToldVerts}
use Rattle.cp_trace.specs.Reading.{AreLines, last_of}
use Rattle.cp_trace.specs.Texts.{vert_line}
use Rattle.cp_trace.proofs.read_lists.read_verts.Given as goal

-- the lines read so far, and the last name in them
abbrev pub invariant-loop-line : goal.invariant-loop-line
invariant-loop-line l = record {
  lines : AreLines vert_line AreToldVerts l.bytes l.verts l.rest;
  name : l.last ≡ last_of (map (λ x. x.name) l.verts);
}

abbrev pub decreases-loop-line : goal.decreases-loop-line
decreases-loop-line l = length l.rest
