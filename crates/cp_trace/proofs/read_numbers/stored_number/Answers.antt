use Rattle.std.proofs.Common.{rules}
use Rattle.cp_trace.proofs.NumberLemmas.{plain-decimal, utf8-decimal, number_read, failed, went_well}
use Rattle.cp_trace.proofs.read_numbers.stored_number.Goals as goal

pub returns-then-not-is_plain : goal.returns-then-not-is_plain
returns-then-not-is_plain c = λ n small h. let no = c.if-not-is_plain.ensures.1
    (plain-decimal n c.args.text.now small h) in search rules

pub returns-in_err-ok : goal.returns-in_err-ok
returns-in_err-ok c = rw c.from_residual.ensures
    (λ n small h. (failed c.from_utf8.result _ _ c.in_err-ok.ensures.value c.from_utf8.ensures.cases).1.0
    (utf8-decimal n c.args.text.now small h))

pub returns : goal.returns
returns c =
    let text = went_well c.from_utf8.result c.in_ok-ok.field-0 _ _ c.in_ok-ok.ensures.value c.from_utf8.ensures.cases in
    let parsed = rw text.0 at c.parse.ensures.value.0 in
    rw c.ok-2.ensures.value (number_read c.args.text.now c.parse.result (c.is_plain.ensures.0 (search rules)) parsed)
