-- What is found is the value of the key.
use Rattle.std.proofs.Common.{◌∙◌, ap, sym}
use Rattle.std.specs.Option.{option_copied, unwrap_or}
use Rattle.cp_plant.proofs.TableValues.{lookup-value_or}
use Rattle.cp_plant.proofs.tables.value_or.Goals as goal

pub returns-in-Some : goal.returns-in-Some
returns-in-Some c =
    ap (λ o. unwrap_or o c.args.other) (sym (ap option_copied c.in-Some.is) ∙ c.get.ensures.value)
    ∙ lookup-value_or c.args.table.now.entries c.args.key c.args.other

pub returns-in-None : goal.returns-in-None
returns-in-None c =
    ap (λ o. unwrap_or o c.args.other) (sym (ap option_copied c.in-None.is) ∙ c.get.ensures.value)
    ∙ lookup-value_or c.args.table.now.entries c.args.key c.args.other
