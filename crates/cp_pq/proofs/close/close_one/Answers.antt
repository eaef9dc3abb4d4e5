use Rattle.std.proofs.Common.{[], ◌∷◌, refl, ap}
use Rattle.cp_pq.proofs.Closes.{close_line, close_rest}
use Rattle.cp_pq.proofs.close.close_one.Goals as goal

pub returns-in_ok-front-in-Line : goal.returns-in_ok-front-in-Line
returns-in_ok-front-in-Line c = λ q p ks opp s.
    close_line q p c.args.owner ks c.args.outs c.args.ins (c.args.found ∷ []) s opp c.in-Line.front c.in-Line.back c.in-Line.ties (ap (λ f. f ∷ []) c.in-Line.is)
    c.in_ok-front-in-Line.front c.in_ok-front-in-Line.back c.in_ok-front-in-Line.ensures

pub returns-in_default : goal.returns-in_default
returns-in_default c = λ q p ks opp s.
    close_rest q p c.args.owner ks c.args.outs c.args.ins (c.args.found ∷ []) s opp c.args.found refl c.in_default.not-Line
