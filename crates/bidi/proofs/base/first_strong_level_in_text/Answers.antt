use Rattle.std.proofs.Common.{◌∙◌, [], ◌∷◌, length, map, subst, sym, arith}
use Rattle.std.specs.Str.{chars}
use Rattle.std.proofs.lemmas.Bool.{both_ways}
use Rattle.std.proofs.lemmas.Iterator.{YieldsList-from_chars}
use Rattle.std.proofs.lemmas.Iterator.Consumers.{YieldsList-end, YieldsList-turn}
use Rattle.std.proofs.lemmas.List.{length-append, length-map}
use Rattle.ucd.specs.Classes.{is_strong}
use Rattle.ucd.specs.Tables.{class_of}
use Rattle.bidi.proofs.BaseLemmas.{class_decoded, is_some-level, settled, stepped}
use Rattle.bidi.proofs.IsolateLemmas.{Reached, Reached-end}
use Rattle.bidi.proofs.base.first_strong_level_in_text.Goals as goal
use Rattle.bidi.proofs.base.first_strong_level_in_text.Goals.{else-depth-eq0-via-then-depth-eq0+else-is_some, else-depth-eq0-via-else-depth-eq0}

pub returns-then-is_some : goal.returns-then-is_some
returns-then-is_some c =
    let tables = c.args.tables.now in
    let text = chars c.args.text.now in
    let taken = c.loop-c.yielded in
    let turn = YieldsList-turn (YieldsList-from_chars c.args.text.now c.utf8.text cc) taken _ c.loop-c.yielded_by _ _ c.in-Some.c c.in-Some.is c.next.ensures.steps in
    settled _ (length taken) _ _ _
    (omega (arith, turn.0, length-map text (class_of tables))) c.loop-c.invariant c.if-depth-eq0.true
    (c.bidi_class-class.ensures ∙ class_decoded tables text (length taken) c.in-Some.c turn)
    c.strong_level-level.ensures (sym c.is_some.ensures ∙ c.if-is_some.true)

pub loop-c-preserved : goal.loop-c-preserved
loop-c-preserved c =
    let tables = c.args.tables.now in
    let text = chars c.args.text.now in
    let taken = c.loop-c.yielded in
    let turn = YieldsList-turn (YieldsList-from_chars c.args.text.now c.utf8.text cc) taken _ c.loop-c.yielded_by _ _ c.in-Some.c c.in-Some.is c.next.ensures.steps in
    subst (λ n. Reached (map (class_of tables) text) n c.depth_after-depth.result) (sym (length-append taken (c.in-Some.c ∷ [])))
    (stepped _ (length taken) _ _ _
    (omega (arith, turn.0, length-map text (class_of tables))) c.loop-c.invariant
    (λ strong. elim c.else-depth-eq0.branch [
      | else-depth-eq0-via-then-depth-eq0+else-is_some w ↦ absurd (both_ways (is_strong c.bidi_class-class.result)
          (sym (is_some-level _ _ c.strong_level-level.ensures) ∙ sym w.is_some.ensures ∙ w.if-is_some.false) strong)
      | else-depth-eq0-via-else-depth-eq0 w ↦ omega arith
    ])
    (c.bidi_class-class.ensures ∙ class_decoded tables text (length taken) c.in-Some.c turn)
    c.depth_after-depth.ensures)

pub returns : goal.returns
returns c =
    let tables = c.args.tables.now in
    let text = chars c.args.text.now in
    let taken = c.loop-c.yielded in
    let end = YieldsList-end (YieldsList-from_chars c.args.text.now c.utf8.text cc) taken _ c.loop-c.yielded_by _ _ c.in-None.is c.next.ensures.steps in
    sym (Reached-end _ (length taken) _ (omega (arith, end.1, length-map text (class_of tables))) c.loop-c.invariant)
