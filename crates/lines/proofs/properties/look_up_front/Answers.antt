use Rattle.std.proofs.Common.{◌∙◌, length, ap}
use Rattle.std.proofs.lemmas.List.{length-map}
use Rattle.ucd.specs.Properties.{properties_of}
use Rattle.lines.proofs.WrittenLemmas.{front_is}
use Rattle.lines.proofs.properties.look_up_front.Goals as goal

pub returns : goal.returns
returns c =
    front_is (length c.args.text.now) c.look_up.new.properties _ (ap length c.look_up.ensures ∙ length-map c.args.text.now (properties_of c.args.tables.now))
    ∙ c.look_up.ensures
