use Rattle.ucd.proofs.Setting as setting
use Rattle.ucd.proofs.properties.Properties.with_mirror.Goals as goal

pub returns : goal.returns
returns c = rw (← c.self.view_is) (setting.with_mirror c.self.inside.bits)
