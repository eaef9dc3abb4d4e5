-- An example: the potential of an instance with one pipe of four pairs, before and after Join.
use Rattle.std.proofs.Common.{◌≡◌, refl}
use Rattle.cp_board.specs.Rows as rows
use Rattle.cp_board.specs.Runs.{potential}

-- one pipe of four pairs
before_join : potential rows.first ≡ 81
before_join = refl

-- pipes of three pairs and of one at each end
after_join : potential rows.joined ≡ 60
after_join = refl
