-- A refusal is handed on.
use Rattle.cp_embed.proofs.taking.reduced.Goals as goal

pub returns-in-Err-NotConsecutive-clause-refused : goal.returns-in-Err-NotConsecutive-clause-refused
returns-in-Err-NotConsecutive-clause-refused g c =
    λ same. c.in-Err-NotConsecutive.ensures.refused c.in-Err-NotConsecutive.field-0-is
