-- The key has the value, and each other key what it had.
use Rattle.cp_plant.proofs.TableValues.{put-value_or}
use Rattle.cp_plant.proofs.tables.put.Goals as goal

pub returns : goal.returns
returns c x other =
    put-value_or c.args.table.now.entries c.insert.new.self.entries c.args.key c.args.value x other
    (c.in_ok-insert.ensures.updates.0 x)
