use Rattle.std.proofs.Common.{arith}
use Rattle.cp_lists.proofs.Counting.{count-le}
use Rattle.cp_rotlaw.specs.Systems.{is_other}
use Rattle.cp_rotlaw.proofs.gluing_tables.write_second.Goals as goal

pub overflow_add-at : goal.overflow_add-at
overflow_add-at c = omega (arith, c.requires.start, c.without_vertex.ensures, count-le c.at-v.result (is_other c.args.w), c.at-v.ensures, c.is_rotation.ensures.rotation.placed c.loop-d.d (omega arith), c.is_rotation.ensures.vertices)
