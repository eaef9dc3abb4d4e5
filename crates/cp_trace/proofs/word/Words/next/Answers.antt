use Rattle.std.proofs.Common.{sym, ◌∙◌}
use Rattle.cp_trace.proofs.WordLemmas.{next_word, last_word}
use Rattle.cp_trace.proofs.word.Words.next.Goals as goal

pub returns-in-Some : goal.returns-in-Some
returns-in-Some c = sym c.self.view_is
    ∙ next_word c.self.inside.more _ _ _ c.if-not-self.false c.in-Some.ensures.0 c.in-Some.ensures.1

pub returns-in-None : goal.returns-in-None
returns-in-None c = sym c.self.view_is ∙ last_word c.self.inside.more _ c.if-not-self.false c.in-None.ensures
