use Rattle.cp_force.proofs.forcing.reduced_by.Goals as goal

pub returns-in-Err-NotConsecutive-clause-refused : goal.returns-in-Err-NotConsecutive-clause-refused
returns-in-Err-NotConsecutive-clause-refused c = λ e.
    c.in-Err-NotConsecutive.ensures.refused c.in-Err-NotConsecutive.field-0-is
