use Rattle.std.proofs.Common.{◌≡◌, ℕ, ◌<◌, ◌≤◌, List, [], ◌∷◌, ◌++◌, length, length-append, ap, arith}
use Rattle.cp_pq.specs.declared.found.Found.{Found}
use Rattle.cp_pq.proofs.Closes.{close_many}
use Rattle.cp_pq.proofs.close.close_p.Goals as goal

many : (mixed left : List Found) (f : Found) (n : ℕ) → mixed ≡ left ++ f ∷ [] → n ≡ length left → 0 < n
    → 2 ≤ length mixed
many mixed left f n e l lt = let a = length-append left (f ∷ []) in let b = ap length e in omega arith

pub returns-then-len-gt0 : goal.returns-then-len-gt0
returns-then-len-gt0 c = λ q p ks opp s two.
    close_many q p c.args.owner ks c.args.kinds.outs c.args.kinds.ins c.args.kinds.mixed s (many _ _ _ _ c.in-Some.ensures c.len.ensures c.if-len-gt0.true)
