use Rattle.ucd.proofs.Setting as setting
use Rattle.ucd.proofs.properties.Properties.with_number.Goals as goal

pub returns : goal.returns
returns c = rw (← c.self.view_is) (setting.with_number c.self.inside.bits c.args.number c.requires)
