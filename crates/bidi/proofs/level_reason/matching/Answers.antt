use Rattle.std.proofs.Common.{Some, get_or, sym, ap, ◌∙◌}
use Rattle.std.proofs.lemmas.List.{get_or_default}
use Rattle.ucd.specs.Classes.{is_initiator}
use Rattle.ucd.specs.declared.bidi_class.BidiClass.TheVariants.{L, ON}
use Rattle.bidi.proofs.LevelReasonLemmas.{matched, other, unmatched}
use Rattle.bidi.proofs.level_reason.matching.Goals as goal

pub returns-then-not-is_initiator : goal.returns-then-not-is_initiator
returns-then-not-is_initiator c base sequences parts =
    let classes = c.args.parts.now.classes.now in
    let at = get_or_default classes c.args.p L ON c.requires.within in
    other classes c.args.p c.requires.within
    (sym (ap is_initiator at) ∙ sym c.is_initiator.ensures ∙ c.if-not-is_initiator.true) c.args.parts.now.initiators.now parts.initiators_are

pub returns-then-found-parts : goal.returns-then-found-parts
returns-then-found-parts c base sequences parts =
    let classes = c.args.parts.now.classes.now in
    let at = get_or_default classes c.args.p L ON c.requires.within in
    let opens = sym (ap is_initiator at) ∙ sym c.is_initiator.ensures ∙ c.if-not-is_initiator.false in
    ap (λ l. Some (get_or l c.args.p 0)) parts.matches_are ∙ matched classes c.args.p c.requires.within opens (rw parts.matches_are at c.if-found-parts.true)

pub returns-else-found-parts : goal.returns-else-found-parts
returns-else-found-parts c base sequences parts =
    let classes = c.args.parts.now.classes.now in
    let at = get_or_default classes c.args.p L ON c.requires.within in
    let opens = sym (ap is_initiator at) ∙ sym c.is_initiator.ensures ∙ c.if-not-is_initiator.false in
    unmatched classes c.args.p c.requires.within opens (rw parts.matches_are at c.if-found-parts.false)
