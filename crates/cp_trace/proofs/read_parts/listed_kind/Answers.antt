use Rattle.std.proofs.Common.{rules, subst, sym}
use Rattle.cp_trace.specs.Faults.{HasLeastFirst}
use Rattle.cp_trace.proofs.PartWords.{no_listed}
use Rattle.cp_trace.proofs.read_parts.listed_kind.Goals as goal

pub returns : goal.returns
returns c =
    let told = rw c.in-Some-2.is at c.in_ok-psi.ensures in
    no_listed c.args.words c.take_label.new.words c.in-Some.cell c.in-Some-2.psi.items c.in-Some.ensures.1 told.0 told.1
    (λ least. let no = c.if-has_least_first.ensures.1 (subst HasLeastFirst (sym c.as_slice.ensures.value) least) in
    search rules)
