use Rattle.std.proofs.Common.{ap, arith}
use Rattle.breaks.specs.Bases.{Character}
use Rattle.ucd.specs.declared.line_class.LineClass.TheVariants.{ZWJ}
use Rattle.breaks.specs.Classes.{is_same}
use Rattle.breaks.specs.Seen.{character_in}
use Rattle.breaks.proofs.FoundLemmas.{last_found}
use Rattle.breaks.proofs.bases.BaseCharacter.ends_in_zwj.Goals as goal

pub returns-in-Some : goal.returns-in-Some
returns-in-Some c =
    let item = c.in-Some.ensures.item in
    let last = last_found (character_in c.args.self.now.first) c.args.self.now.attached.now c.in-Some.last.now (omega (arith, item.3.0)) in
    cc (c.eq.ensures, item.1, ap (λ (e : Character). is_same e.class ZWJ) last)
