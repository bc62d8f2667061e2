use Rattle.std.proofs.Common.{[], List, length, map, sym, ap, ap₂, ◌∙◌}
use Rattle.std.proofs.lemmas.Bool.{eqb-true}
use Rattle.std.proofs.lemmas.List.{length-map}
use Rattle.ucd.specs.declared.version.Version.{Version}
use Rattle.breaks.specs.Bases.{BaseCharacter, bases_of}
use Rattle.breaks.specs.Marks.{marks_after, marks_of}
use Rattle.breaks.specs.Reasons.{names, reasons_after, reasons_of}
use Rattle.breaks.specs.Rules.{rules}
use Rattle.breaks.specs.Seen.{base_in, character_in}
use Rattle.breaks.specs.declared.reason.Reason.{Reason}
use Rattle.breaks.proofs.ReasonMarks.{marks_of_reasons, no_marks, no_reasons}
use Rattle.breaks.proofs.reason.reasons.Goals as goal

pub reasons_by-requires-clause-marks : goal.reasons_by-requires-clause-marks
unfolding marks_of
reasons_by-requires-clause-marks c =
    let bases = ap (map base_in) c.deref-3.ensures.value ∙ c.in_ok-bases.ensures ∙ ap (λ l. bases_of (map character_in l)) c.deref.ensures.value ∙ ap bases_of c.in_ok-characters.ensures in
    c.deref-5.ensures.value ∙ c.in_ok-marks.ensures.marks
    ∙ ap₂ (λ (v : Version) (b : List BaseCharacter). marks_after (rules v c.args.whole_numbers) [] b) (sym c.version.ensures) (sym bases)

pub returns-clause-reasons : goal.returns-clause-reasons
unfolding reasons_of
returns-clause-reasons c =
    let bases = ap (map base_in) c.deref-3.ensures.value ∙ c.in_ok-bases.ensures ∙ ap (λ l. bases_of (map character_in l)) c.deref.ensures.value ∙ ap bases_of c.in_ok-characters.ensures in
    c.in_ok-list.ensures
    ∙ ap₂ (λ (v : Version) (b : List BaseCharacter). reasons_after (names v c.args.whole_numbers) (rules v c.args.whole_numbers) [] b) c.version.ensures bases

pub returns-clause-marks : goal.returns-clause-marks
returns-clause-marks c =
    ap (map (λ (r : Reason). r.mark)) (returns-clause-reasons c) ∙ marks_of_reasons c.args.tables.now c.args.whole_numbers c.args.text.now

pub returns-clause-len : goal.returns-clause-len
returns-clause-len c =
    sym (length-map c.in_ok-list.list.items (λ (r : Reason). r.mark)) ∙ ap length (returns-clause-marks c ∙ sym c.in_ok-marks.ensures.marks) ∙ c.in_ok-marks.ensures.len

pub returns-then-is_empty-clause-reasons : goal.returns-then-is_empty-clause-reasons
returns-then-is_empty-clause-reasons c =
    c.new.ensures.items ∙ sym (no_reasons c.args.tables.now c.args.whole_numbers c.args.text.now (eqb-true (length c.args.text.now) 0 (sym c.is_empty.ensures ∙ c.if-is_empty.true)))

pub returns-then-is_empty-clause-marks : goal.returns-then-is_empty-clause-marks
returns-then-is_empty-clause-marks c =
    ap (map (λ (r : Reason). r.mark)) c.new.ensures.items ∙ sym (no_marks c.args.tables.now c.args.whole_numbers c.args.text.now (eqb-true (length c.args.text.now) 0 (sym c.is_empty.ensures ∙ c.if-is_empty.true)))
