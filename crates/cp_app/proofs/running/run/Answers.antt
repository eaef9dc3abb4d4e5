-- A run of commands.
use Rattle.std.proofs.Common.{◌≡◌, IfSome, map, string_bytes, subst}
use Rattle.cp_app.specs.Answer.{Answer}
use Rattle.cp_app.specs.declared.end.End.TheVariants as ends
use Rattle.cp_app.specs.Run.{IsJudged, IsSolvedEnd}
use Rattle.cp_app.proofs.AnswerLemmas.{answer_or_memory, asks_nothing, asks_something, judged_answer, solved_answer, traced_answer, own_answers, shared_apart}
use Rattle.cp_app.proofs.running.run.Goals as goal

pub run_command-requires-clause-apart : goal.run_command-requires-clause-apart
run_command-requires-clause-apart g c = shared_apart

pub run_command-requires-clause-own : goal.run_command-requires-clause-own
run_command-requires-clause-own g c = own_answers

pub returns-clause-unread : goal.returns-clause-unread
returns-clause-unread g c none = c.run_command.ensures.unread (asks_nothing (map string_bytes c.args.words.now) none)

pub returns-clause-usage : goal.returns-clause-usage
returns-clause-usage g c none = c.run_command.ensures.usage (asks_nothing (map string_bytes c.args.words.now) none)

pub returns-clause-read_whole : goal.returns-clause-read_whole
returns-clause-read_whole g c command =
    let asked = asks_something (map string_bytes c.args.words.now) command in
    c.run_command.ensures.read_whole asked.0 asked.1

pub returns-clause-solved : goal.returns-clause-solved
returns-clause-solved g c = λ bytes graph solve told short is calm_source calm_sink.
    let words = map string_bytes c.args.words.now in
    answer_or_memory IsSolvedEnd c.run_command.result
    (λ e. calm_source (c.run_command.ensures.read_fault e).0.0)
    (λ e. calm_sink (c.run_command.ensures.write_fault e).0)
    (λ answer.
    let wrote = c.run_command.ensures.answer answer in
    let answers : Answer words bytes c.run_command.result wrote.0 =
    subst (λ left. IfSome left (λ b. Answer words b c.run_command.result wrote.0)) told wrote.1 in
    solved_answer words bytes graph solve short is answers)

pub returns-clause-traced : goal.returns-clause-traced
returns-clause-traced g c = λ bytes graph trace told short is calm_source calm_sink.
    let words = map string_bytes c.args.words.now in
    answer_or_memory (λ e. e ≡ ends.Done) c.run_command.result
    (λ e. calm_source (c.run_command.ensures.read_fault e).0.0)
    (λ e. calm_sink (c.run_command.ensures.write_fault e).0)
    (λ answer.
    let wrote = c.run_command.ensures.answer answer in
    let answers : Answer words bytes c.run_command.result wrote.0 =
    subst (λ left. IfSome left (λ b. Answer words b c.run_command.result wrote.0)) told wrote.1 in
    traced_answer words bytes graph trace short is answers)

pub returns-clause-complete : goal.returns-clause-complete
returns-clause-complete g c = λ bytes r n graph check told short begins is calm_source calm_sink.
    let words = map string_bytes c.args.words.now in
    answer_or_memory IsJudged c.run_command.result
    (λ e. calm_source (c.run_command.ensures.read_fault e).0.0)
    (λ e. calm_sink (c.run_command.ensures.write_fault e).0)
    (λ answer.
    let wrote = c.run_command.ensures.answer answer in
    let answers : Answer words bytes c.run_command.result wrote.0 =
    subst (λ left. IfSome left (λ b. Answer words b c.run_command.result wrote.0)) told wrote.1 in
    judged_answer words bytes r n graph check short begins is answers)
