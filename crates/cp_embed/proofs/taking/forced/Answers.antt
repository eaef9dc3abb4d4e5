-- A refusal is handed on.
use Rattle.cp_embed.proofs.taking.forced.Goals as goal

pub returns-in-Err-NotOrderable-clause-refused : goal.returns-in-Err-NotOrderable-clause-refused
returns-in-Err-NotOrderable-clause-refused g c = λ same. c.in-Err-NotOrderable.ensures.refused c.in-Err-NotOrderable.field-0-is
