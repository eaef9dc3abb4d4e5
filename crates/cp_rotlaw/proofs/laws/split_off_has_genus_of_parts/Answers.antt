use Rattle.cp_rotlaw.proofs.SplitParts.{split_by_parts}
use Rattle.cp_rotlaw.proofs.laws.split_off_has_genus_of_parts.Goals as goal

pub returns : goal.returns
returns c = λ r a b is is_a is_b u lt takes meet na oa nb ob res_a res_b. split_by_parts r is u lt takes meet a b is_a is_b na oa nb ob res_a res_b
