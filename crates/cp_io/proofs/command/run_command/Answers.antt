-- What is written at each end, by the lemmas on answers written whole and in front.
use Rattle.std.proofs.Common.{IfSome, map, string_bytes}
use Rattle.std.proofs.lemmas.Option.{IfSome_then}
use Rattle.cp_io.specs.Commands.{Answer, read_fault_line, too_long_line}
use Rattle.cp_io.specs.Commands.Answer.{usage, too_long, told}
use Rattle.cp_io.specs.Streams.{most_bytes}
use Rattle.cp_io.proofs.AnsweredLemmas.{IfSome-all, Took-long, read_left, wrote, wrote_front, fault_front}
use Rattle.cp_io.proofs.command.run_command.Goals as goal

pub returns-in_default-clause-answer : goal.returns-in_default-clause-answer
returns-in_default-clause-answer g c =
    let answers = Answer g.C.Command.asks g.C.Command.answers c.args.ends c.args.usage.now
    (map string_bytes c.args.words.now) in
    λ is. wrote answers (g.S.Source.left c.args.source.now) _ _ c.args.ends.usage c.args.ends.write_fault c.tell.result
    _ c.tell.ensures.cases c.tell.ensures.whole (IfSome-all _ _ (λ bytes. usage c.in_default.ensures)) is.write

pub returns-in_default-clause-write_fault : goal.returns-in_default-clause-write_fault
returns-in_default-clause-write_fault g c =
    let answers = Answer g.C.Command.asks g.C.Command.answers c.args.ends c.args.usage.now
    (map string_bytes c.args.words.now) in
    wrote_front answers read_fault_line (g.S.Source.left c.args.source.now) _ _ _ _ _ _ _ c.args.ends.usage _
    c.tell.result _ c.tell.ensures.fault (IfSome-all _ _ (λ bytes. usage c.in_default.ensures))

pub returns-in-Err-Fault-clause-write_fault : goal.returns-in-Err-Fault-clause-write_fault
returns-in-Err-Fault-clause-write_fault g c =
    let answers = Answer g.C.Command.asks g.C.Command.answers c.args.ends c.args.usage.now
    (map string_bytes c.args.words.now) in
    let rose = rw c.in-Err-Fault.field-0-is at c.in-Err-Fault.ensures.cause in
    let took = rw c.in-Err-Fault.field-0-is at c.in-Err-Fault.ensures.bytes in
    fault_front answers read_fault_line (g.S.Source.left c.args.source.now) _ _ _ _ _ _ _ _ c.tell-in-Err-Fault.result
    c.tell-in-Err-Fault.ensures.fault (rose, took)

pub returns-in-Err-TooLong-clause-answer : goal.returns-in-Err-TooLong-clause-answer
returns-in-Err-TooLong-clause-answer g c =
    let answers = Answer g.C.Command.asks g.C.Command.answers c.args.ends c.args.usage.now
    (map string_bytes c.args.words.now) in
    let long = rw c.in-Err-TooLong.field-0-is at c.in-Err-TooLong.ensures.bytes in
    let left = g.S.Source.left c.args.source.now in
    let many : IfSome left (λ bytes. answers bytes c.args.ends.too_long too_long_line) =
    IfSome_then left (Took-long left _ _ long) (λ bytes. too_long c.in-Some.command c.in-Some.ensures) in
    λ is. wrote answers (g.S.Source.left c.args.source.now) _ _ c.args.ends.too_long c.args.ends.write_fault
    c.tell-in-Err-TooLong.result _ c.tell-in-Err-TooLong.ensures.cases c.tell-in-Err-TooLong.ensures.whole many
    is.write

pub returns-in-Err-TooLong-clause-write_fault : goal.returns-in-Err-TooLong-clause-write_fault
returns-in-Err-TooLong-clause-write_fault g c =
    let answers = Answer g.C.Command.asks g.C.Command.answers c.args.ends c.args.usage.now
    (map string_bytes c.args.words.now) in
    let long = rw c.in-Err-TooLong.field-0-is at c.in-Err-TooLong.ensures.bytes in
    let left = g.S.Source.left c.args.source.now in
    let many : IfSome left (λ bytes. answers bytes c.args.ends.too_long too_long_line) =
    IfSome_then left (Took-long left _ _ long) (λ bytes. too_long c.in-Some.command c.in-Some.ensures) in
    wrote_front answers read_fault_line (g.S.Source.left c.args.source.now) _ _ _ _ _ _ _ c.args.ends.too_long _
    c.tell-in-Err-TooLong.result _ c.tell-in-Err-TooLong.ensures.fault many

pub returns-in-Ok-answer-clause-answer : goal.returns-in-Ok-answer-clause-answer
returns-in-Ok-answer-clause-answer g c =
    let answers = Answer g.C.Command.asks g.C.Command.answers c.args.ends c.args.usage.now
    (map string_bytes c.args.words.now) in
    let left = g.S.Source.left c.args.source.now in
    let all = read_left (g.C.Command.answers c.in-Some.command) answers most_bytes left _ _ _ _ _ _
    (λ b t. told c.in-Some.command c.in-Some.ensures) c.in-Ok.ensures.bytes c.deref.ensures.value
    c.deref-in-Ok-answer.ensures.value c.in-Ok-answer.ensures in
    λ is. wrote answers left _ _ _ c.args.ends.write_fault c.tell-in-Ok-answer.result _
    c.tell-in-Ok-answer.ensures.cases c.tell-in-Ok-answer.ensures.whole all is.write

pub returns-in-Ok-answer-clause-write_fault : goal.returns-in-Ok-answer-clause-write_fault
returns-in-Ok-answer-clause-write_fault g c =
    let answers = Answer g.C.Command.asks g.C.Command.answers c.args.ends c.args.usage.now
    (map string_bytes c.args.words.now) in
    let left = g.S.Source.left c.args.source.now in
    let all = read_left (g.C.Command.answers c.in-Some.command) answers most_bytes left _ _ _ _ _ _
    (λ b t. told c.in-Some.command c.in-Some.ensures) c.in-Ok.ensures.bytes c.deref.ensures.value
    c.deref-in-Ok-answer.ensures.value c.in-Ok-answer.ensures in
    wrote_front answers read_fault_line left _ _ _ _ _ _ _ _ _ c.tell-in-Ok-answer.result _
    c.tell-in-Ok-answer.ensures.fault all
