use Rattle.std.proofs.Common.{arith}
use Rattle.cp_rot.proofs.Euler.{FaceCount-le, ComponentCount-le, genus_decided}
use Rattle.cp_rot.proofs.counting.euler_zero_of.Goals as goal

pub overflow_add-result : goal.overflow_add-result
overflow_add-result g c = omega (arith, FaceCount-le (g.T.RotationSystem.system c.args.t.now) c.faces_of-faces.result c.faces_of-faces.ensures)

pub overflow_mul-result : goal.overflow_mul-result
overflow_mul-result g c = omega (arith, ComponentCount-le (g.T.RotationSystem.system c.args.t.now) c.components_of-components.result c.components_of-components.ensures)

pub overflow_add-result-2 : goal.overflow_add-result-2
overflow_add-result-2 g c = omega (arith, ComponentCount-le (g.T.RotationSystem.system c.args.t.now) c.components_of-components.result c.components_of-components.ensures)

pub returns : goal.returns
returns g c = genus_decided (g.T.RotationSystem.system c.args.t.now) c.vertices-vertices.result c.darts-darts.result c.faces_of-faces.result c.components_of-components.result c.vertices-vertices.ensures.value c.darts-darts.ensures.value c.faces_of-faces.ensures c.components_of-components.ensures
