use Rattle.ucd.proofs.Setting as setting
use Rattle.ucd.proofs.properties.Properties.with_bidi_class.Goals as goal

pub returns : goal.returns
returns c = rw (← c.self.view_is) (setting.with_bidi_class c.self.inside.bits c.args.class)
