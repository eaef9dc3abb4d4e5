use Rattle.cp_ears.proofs.Induced.{prefix_connected, suffix_connected}
use Rattle.cp_ears.proofs.connected_parts.prefixes_are_connected.Goals as goal

pub returns-clause-prefixes : goal.returns-clause-prefixes
returns-clause-prefixes c count =
    prefix_connected c.args.g.now c.args.s c.args.t c.args.order.now count c.requires.joined c.requires.bipolar

pub returns-clause-suffixes : goal.returns-clause-suffixes
returns-clause-suffixes c count =
    suffix_connected c.args.g.now c.args.s c.args.t c.args.order.now count c.requires.joined c.requires.bipolar
