use Rattle.std.proofs.Common.{◌∙◌, length, take, ap, arith}
use Rattle.std.proofs.lemmas.List.{with_items_is}
use Rattle.lines.proofs.properties.fill_properties.Goals as goal

pub returns-clause-properties : goal.returns-clause-properties
returns-clause-properties c =
    ap (take (length c.args.text.now)) (with_items_is c.grow.new.list c.look_up_front.new.properties (omega arith)) ∙ c.look_up_front.ensures
