-- The laws of one end and of some end.
use Rattle.cp_app.proofs.AnswerLemmas.{one_end}
use Rattle.cp_app.proofs.SomeAnswer.{some_answer}
use Rattle.cp_app.proofs.laws.one_answer.Goals as goal

pub returns-clause-one : goal.returns-clause-one
returns-clause-one c = λ words bytes e f s t a b. one_end words bytes a b

pub returns-clause-some : goal.returns-clause-some
returns-clause-some c = λ words bytes runs none. some_answer words bytes runs (λ end text is. none (end, text, is))
