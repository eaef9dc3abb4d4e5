-- Where memory is wanting, the bytes so far and the last piece were taken.
use Rattle.std.proofs.lemmas.Result.{err_from_is_err_and}
use Rattle.std.proofs.KnownBytes.{Consumes-trans}
use Rattle.cp_io.proofs.whole.read_all.Goals as goal

pub returns-in_err-extend_from_slice-in-Ok-clause-bytes :
    goal.returns-in_err-extend_from_slice-in-Ok-clause-bytes
returns-in_err-extend_from_slice-in-Ok-clause-bytes g c =
    let told = err_from_is_err_and c.from_residual.result c.from_residual.ensures.1 in
    rw (told.1, told.2) (_, Consumes-trans _ _ _ _ _ c.loop-piece.invariant.taken c.in-Ok.ensures.bytes.0, tt)
