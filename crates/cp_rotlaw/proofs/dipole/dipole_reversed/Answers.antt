use Rattle.std.proofs.lemmas.Result.{IfOk-weaker}
use Rattle.cp_rotlaw.proofs.DipoleGenus.{dipole_genus}
use Rattle.cp_rotlaw.proofs.dipole.dipole_reversed.Goals as goal

pub returns-clause-genus : goal.returns-clause-genus
returns-clause-genus c =
    let law = dipole_genus c.args.a.now c.is_rotation.ensures.rotation c.requires in
    IfOk-weaker c.lists_are_reverse.result _ _ (λ is told. (λ t. law.0 (told.0 t), λ z. told.1 (law.1 z))) c.lists_are_reverse.ensures
