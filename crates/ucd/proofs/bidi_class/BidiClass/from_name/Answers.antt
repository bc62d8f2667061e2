use Rattle.ucd.proofs.NameLemmas.{bidi_named}
use Rattle.ucd.proofs.bidi_class.BidiClass.from_name.Goals as goal

pub returns-in-Some : goal.returns-in-Some
returns-in-Some c = bidi_named c.in-Some.class c.args.name.now c.in-Some.ensures
