-- What the calls for reductions promise.
--
-- For each kind of step one call makes its rewrite and one turns solutions back. With i the board's instance:
--
--   small, free_pole, fuse_poles,   where Allowed i step:   IfOk result (Performs i step)
--   join, propagate
--   toroidal                        where IsBond (graph i) p.a p.b for the named pipe p:
--                                   Ok w:                   IsToroidal i p  and  Performs i (Toroidal pipe) w
--                                   Err CyclesDiffer a b:   HaveUnequalCycles i p a b
--   is_bond                         Ok true or Ok false:    (result ≡ Ok true) ↔ IsBond (graph i) u v
--   back                            where Allowed i step, and After i step j and IsSolution j after for some j:
--                                                           IfOk result (IsSolution i)
--   solve_free                      where i.pipes ≡ []:     Ok s: IsSolution i s;  Err reason: IsFirstReason i reason
--   solve_instance                  Solved s:               IsDrivenRun last first steps, last.pipes ≡ [],
--                                                           IsSolution first s
--                                   Failed reason:          IsDrivenRun last first steps, IsBlamed last reason,
--                                                           ¬ IsSolvable first, ¬ IsSolvable last
--
-- and for each step, as laws: KeepsSolvable, LowersPotential, and IsSynchronized of the instance that it makes.
use Rattle.std.specs.Prelude.{◌+◌, ◌*◌, ◌<◌, ◌≤◌, ◌↔◌}
use Rattle.cp_board.specs.declared.parts.Pipe.{Pipe}
use Rattle.cp_board.specs.declared.rewrite.Rewrite.{Rewrite}
use Rattle.cp_board.specs.declared.steps.Step.{Step}
use Rattle.cp_board.specs.Instances.{Synchronized, IsSynchronized}
use Rattle.cp_board.specs.Solutions.{IsSolvable}
use Rattle.cp_board.specs.Steps.{degree, Allowed}
use Rattle.cp_board.specs.Effects.{After}
use Rattle.cp_board.specs.Runs.{potential, slots}
use Rattle.cp_board.specs.Rewrites.{rewritten, IsRewriteOf}

-- the rewrite fits the instance, and gives what the step makes of it
abbrev pub Performs : Synchronized → Step → Rewrite → Type 0
Performs i step w = IsRewriteOf i w × After i step (rewritten w i)

-- what the step makes of an instance is solvable exactly where the instance is
abbrev pub KeepsSolvable : Step → Type 0
KeepsSolvable step = (i j : Synchronized) → IsSynchronized i → Allowed i step → After i step j
    → IsSolvable i ↔ IsSolvable j

-- the step lowers the potential
abbrev pub LowersPotential : Step → Type 0
LowersPotential step = (i j : Synchronized) → IsSynchronized i → Allowed i step → After i step j
    → potential j < potential i

-- the step at pipe p raises the number of vertices, edges and pipes by at most 8 times its degree
abbrev pub RaisesSlots : Step → Pipe → Type 0
RaisesSlots step p = (i j : Synchronized) → IsSynchronized i → Allowed i step → After i step j
    → slots j ≤ slots i + 8 * degree p
