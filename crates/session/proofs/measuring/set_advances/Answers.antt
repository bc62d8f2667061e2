use Rattle.std.proofs.Common.{◌≡◌, ◌+◌, ◌<◌, ◌≤◌, ◌++◌, ℕ, List, true, false, None, Some, length, if◌then◌else◌, refl, sym, ap, ap₂, subst, ◌∙◌, arith}
use Rattle.std.specs.Char.{len_utf8}
use Rattle.std.specs.List.{slice_range, splice}
use Rattle.std.proofs.lemmas.Bool.{eqb-false, eqb-true, not-false}
use Rattle.std.proofs.lemmas.List.{nil_from_length}
use Rattle.lines.specs.Engine.{rules_of}
use Rattle.lines.specs.Layouts.{cut_by, with_advances}
use Rattle.session.specs.Borders.{damage_between}
use Rattle.session.specs.Edits.{have_room}
use Rattle.session.specs.Kept.{advances_in, layouts_from, pars_of, text_of, IsFresh}
use Rattle.session.specs.Measuring.{spliced, advances_refusal, IsFaultFor, SetsAdvances, SetsAdvancesNot}
use Rattle.session.specs.Offsets.{len_utf16}
use Rattle.session.specs.Sessions.{state_of, IsWholeLayout}
use Rattle.session.specs.declared.edits.AdvanceFault.TheVariants.{OutOfRange, ParagraphTooLong, NoMemory}
use Rattle.session.proofs.BorderLemmas.{length-text}
use Rattle.session.proofs.SettingLemmas.{chars_fit, lines_fit, range_of, mid_within, order, refusal-past, refusal_is, region, region_sizes, units_fit, Remains-unchanged, SetsAdvances-after, SetsAdvances-none, SetsAdvancesNot-after}
use Rattle.session.proofs.UnitLemmas.{utf8_few, utf16_few}
use Rattle.session.proofs.WidthLemmas.{all_each, each_laid_out}
use Rattle.session.proofs.TrimLemmas.{AreFound-none}
use Rattle.session.proofs.measuring.set_advances.Goals as goal
use Rattle.session.proofs.measuring.set_advances.Goals.{then-pos-len-via-then-pos-len, then-pos-len-via-else-pos-len+then-list-len}

pub returns-then-pos-len-clause-err : goal.returns-then-pos-len-clause-err
returns-then-pos-len-clause-err g c =
    let kept = g.S.ParagraphStore.items c.args.store.now in
    let size : c.total_chars-len.result ≡ length (text_of kept) = c.total_chars-len.ensures ∙ sym (length-text kept) in
    let past : length (text_of kept) < c.args.pos + length c.args.list.now = elim c.then-pos-len.branch [
      | then-pos-len-via-then-pos-len w ↦ omega (arith, w.if-pos-len.true, size)
      | then-pos-len-via-else-pos-len+then-list-len w ↦ omega (arith, w.if-pos-len.false, w.if-list-len.true, size)
    ] in
    let refused = subst (λ b. IsFaultFor (advances_refusal (cut_by (rules_of c.args.engine.now)) (advances_in b kept) (text_of kept) c.args.pos c.args.list.now) OutOfRange)
    (sym (not-false c.args.form.is_measured c.if-not-form.false)) (refusal-past (cut_by (rules_of c.args.engine.now)) kept c.args.pos c.args.list.now past) in
    Remains-unchanged c.args.engine.now c.args.form.width c.args.form.is_measured kept c.args.pos c.args.list.now OutOfRange c.requires refused refl

pub returns-then-is_empty-clause-ok : goal.returns-then-is_empty-clause-ok
returns-then-is_empty-clause-ok g c =
    let kept = g.S.ParagraphStore.items c.args.store.now in
    let is = not-false c.args.form.is_measured c.if-not-form.false in
    let size : c.total_chars-len.result ≡ length (text_of kept) = c.total_chars-len.ensures ∙ sym (length-text kept) in
    let none = nil_from_length c.args.list.now (eqb-true (length c.args.list.now) 0 (sym c.if-is_empty.ensures)) in
    subst (λ b. SetsAdvances c.args.pos c.args.list.now (state_of c.args.engine.now c.args.form.width b kept) (state_of c.args.engine.now c.args.form.width b kept)
    (record { first_line = 0; old_lines = 0; new_lines = 0; first_par = 0; old_pars = 0; new_pars = 0 })) (sym is)
    (SetsAdvances-none c.args.engine.now c.args.form.width kept c.args.pos c.args.list.now
    (subst (λ b. IsWholeLayout (state_of c.args.engine.now c.args.form.width b kept)) is c.requires) none (omega (arith, size, c.if-pos-len.false)))

pub front_border-front-requires : goal.front_border-front-requires
front_border-front-requires g c =
    let kept = g.S.ParagraphStore.items c.args.store.now in
    let size : c.total_chars-len.result ≡ length (text_of kept) = c.total_chars-len.ensures ∙ sym (length-text kept) in
    let some : 0 < length c.args.list.now = omega (arith, eqb-false (length c.args.list.now) 0 (sym c.if-is_empty.ensures)) in
    let within : c.args.pos + length c.args.list.now ≤ length (text_of kept) = omega (arith, size, c.if-list-len.false, c.if-pos-len.false) in
    omega (arith, within, some)

pub last_touched-last-requires-clause-to : goal.last_touched-last-requires-clause-to
last_touched-last-requires-clause-to g c =
    let kept = g.S.ParagraphStore.items c.args.store.now in
    let size : c.total_chars-len.result ≡ length (text_of kept) = c.total_chars-len.ensures ∙ sym (length-text kept) in
    let some : 0 < length c.args.list.now = omega (arith, eqb-false (length c.args.list.now) 0 (sym c.if-is_empty.ensures)) in
    let within : c.args.pos + length c.args.list.now ≤ length (text_of kept) = omega (arith, size, c.if-list-len.false, c.if-pos-len.false) in
    omega (arith, within, some)

pub has_room-requires-clause-order : goal.has_room-requires-clause-order
has_room-requires-clause-order g c =
    let kept = g.S.ParagraphStore.items c.args.store.now in
    let is = not-false c.args.form.is_measured c.if-not-form.false in
    let whole = subst (λ b. IsWholeLayout (state_of c.args.engine.now c.args.form.width b kept)) is c.requires in
    let range = range_of kept c.total_chars-len.result c.args.pos c.args.list.now c.front_border-front.result c.last_touched-last.result.end c.paragraphs_are_pieces.ensures c.lines_are_few.ensures
    c.total_chars-len.ensures (omega (arith, eqb-false (length c.args.list.now) 0 (sym c.if-is_empty.ensures))) (omega (arith, c.if-list-len.false, c.if-pos-len.false))
    c.front_border-front.ensures c.last_touched-last.ensures.end in
    omega (arith, order c.args.engine.now c.args.form.width kept whole range)

pub has_room-requires-clause-each : goal.has_room-requires-clause-each
has_room-requires-clause-each g c =
    let kept = g.S.ParagraphStore.items c.args.store.now in
    let is = not-false c.args.form.is_measured c.if-not-form.false in
    let whole = subst (λ b. IsWholeLayout (state_of c.args.engine.now c.args.form.width b kept)) is c.requires in
    let range = range_of kept c.total_chars-len.result c.args.pos c.args.list.now c.front_border-front.result c.last_touched-last.result.end c.paragraphs_are_pieces.ensures c.lines_are_few.ensures
    c.total_chars-len.ensures (omega (arith, eqb-false (length c.args.list.now) 0 (sym c.if-is_empty.ensures))) (omega (arith, c.if-list-len.false, c.if-pos-len.false))
    c.front_border-front.ensures c.last_touched-last.ensures.end in
    let spliced-is : spliced (record { front = c.front_part.result.advances; new = c.args.list; back = c.back_part.result.advances })
    ≡ region c.args.engine.now c.args.form.width kept whole range =
    ap₂ (λ (xs ys : List ℕ). xs ++ (c.args.list.now ++ ys)) (c.front_part.ensures.advances kept c.get-first.ensures) (c.back_part.ensures.advances kept c.last_touched-last.ensures.kept _ refl) in
    ap length spliced-is ∙ region_sizes c.args.engine.now c.args.form.width kept whole range

pub has_room-requires-clause-fits : goal.has_room-requires-clause-fits
has_room-requires-clause-fits g c =
    let kept = g.S.ParagraphStore.items c.args.store.now in
    let is = not-false c.args.form.is_measured c.if-not-form.false in
    let whole = subst (λ b. IsWholeLayout (state_of c.args.engine.now c.args.form.width b kept)) is c.requires in
    let size : c.total_chars-len.result ≡ length (text_of kept) = c.total_chars-len.ensures ∙ sym (length-text kept) in
    let range = range_of kept c.total_chars-len.result c.args.pos c.args.list.now c.front_border-front.result c.last_touched-last.result.end c.paragraphs_are_pieces.ensures c.lines_are_few.ensures
    c.total_chars-len.ensures (omega (arith, eqb-false (length c.args.list.now) 0 (sym c.if-is_empty.ensures))) (omega (arith, c.if-list-len.false, c.if-pos-len.false))
    c.front_border-front.ensures c.last_touched-last.ensures.end in
    let spliced-is : spliced (record { front = c.front_part.result.advances; new = c.args.list; back = c.back_part.result.advances })
    ≡ region c.args.engine.now c.args.form.width kept whole range =
    ap₂ (λ (xs ys : List ℕ). xs ++ (c.args.list.now ++ ys)) (c.front_part.ensures.advances kept c.get-first.ensures) (c.back_part.ensures.advances kept c.last_touched-last.ensures.kept _ refl) in
    omega (
      arith,
      ap length spliced-is,
      region_sizes c.args.engine.now c.args.form.width kept whole range,
      mid_within c.args.engine.now c.args.form.width kept whole range,
      size,
      c.total_chars-len.type_inv,
    )

pub returns-then-not-has_room-clause-err : goal.returns-then-not-has_room-clause-err
returns-then-not-has_room-clause-err g c =
    let kept = g.S.ParagraphStore.items c.args.store.now in
    let is = not-false c.args.form.is_measured c.if-not-form.false in
    let whole = subst (λ b. IsWholeLayout (state_of c.args.engine.now c.args.form.width b kept)) is c.requires in
    let range = range_of kept c.total_chars-len.result c.args.pos c.args.list.now c.front_border-front.result c.last_touched-last.result.end c.paragraphs_are_pieces.ensures c.lines_are_few.ensures
    c.total_chars-len.ensures (omega (arith, eqb-false (length c.args.list.now) 0 (sym c.if-is_empty.ensures))) (omega (arith, c.if-list-len.false, c.if-pos-len.false))
    c.front_border-front.ensures c.last_touched-last.ensures.end in
    let spliced-is : spliced (record { front = c.front_part.result.advances; new = c.args.list; back = c.back_part.result.advances })
    ≡ region c.args.engine.now c.args.form.width kept whole range =
    ap₂ (λ (xs ys : List ℕ). xs ++ (c.args.list.now ++ ys)) (c.front_part.ensures.advances kept c.get-first.ensures) (c.back_part.ensures.advances kept c.last_touched-last.ensures.kept _ refl) in
    let mid = slice_range (pars_of kept) c.front_border-front.result.index c.last_touched-last.result.end.index in
    let none : have_room (region c.args.engine.now c.args.form.width kept whole range) mid ≡ false =
    ap (λ l. have_room l mid) (sym spliced-is) ∙ sym c.has_room.ensures ∙ c.if-not-has_room.true in
    let refused = refusal_is c.args.engine.now c.args.form.width kept whole range
    ∙ ap (λ b. if b then None else Some ParagraphTooLong) none in
    Remains-unchanged c.args.engine.now c.args.form.width c.args.form.is_measured kept c.args.pos c.args.list.now ParagraphTooLong c.requires
    (subst (λ b. IsFaultFor (advances_refusal (cut_by (rules_of c.args.engine.now)) (advances_in b kept) (text_of kept) c.args.pos c.args.list.now) ParagraphTooLong) (sym is) refused) refl

pub remeasure_each-laid-requires-clause-order : goal.remeasure_each-laid-requires-clause-order
remeasure_each-laid-requires-clause-order g c =
    let kept = g.S.ParagraphStore.items c.args.store.now in
    let is = not-false c.args.form.is_measured c.if-not-form.false in
    let whole = subst (λ b. IsWholeLayout (state_of c.args.engine.now c.args.form.width b kept)) is c.requires in
    let range = range_of kept c.total_chars-len.result c.args.pos c.args.list.now c.front_border-front.result c.last_touched-last.result.end c.paragraphs_are_pieces.ensures c.lines_are_few.ensures
    c.total_chars-len.ensures (omega (arith, eqb-false (length c.args.list.now) 0 (sym c.if-is_empty.ensures))) (omega (arith, c.if-list-len.false, c.if-pos-len.false))
    c.front_border-front.ensures c.last_touched-last.ensures.end in
    omega (arith, order c.args.engine.now c.args.form.width kept whole range)

pub remeasure_each-laid-requires-clause-each : goal.remeasure_each-laid-requires-clause-each
remeasure_each-laid-requires-clause-each g c =
    let kept = g.S.ParagraphStore.items c.args.store.now in
    let is = not-false c.args.form.is_measured c.if-not-form.false in
    let whole = subst (λ b. IsWholeLayout (state_of c.args.engine.now c.args.form.width b kept)) is c.requires in
    let range = range_of kept c.total_chars-len.result c.args.pos c.args.list.now c.front_border-front.result c.last_touched-last.result.end c.paragraphs_are_pieces.ensures c.lines_are_few.ensures
    c.total_chars-len.ensures (omega (arith, eqb-false (length c.args.list.now) 0 (sym c.if-is_empty.ensures))) (omega (arith, c.if-list-len.false, c.if-pos-len.false))
    c.front_border-front.ensures c.last_touched-last.ensures.end in
    let spliced-is : spliced (record { front = c.front_part.result.advances; new = c.args.list; back = c.back_part.result.advances })
    ≡ region c.args.engine.now c.args.form.width kept whole range =
    ap₂ (λ (xs ys : List ℕ). xs ++ (c.args.list.now ++ ys)) (c.front_part.ensures.advances kept c.get-first.ensures) (c.back_part.ensures.advances kept c.last_touched-last.ensures.kept _ refl) in
    ap length spliced-is ∙ region_sizes c.args.engine.now c.args.form.width kept whole range

pub remeasure_each-laid-requires-clause-fits : goal.remeasure_each-laid-requires-clause-fits
remeasure_each-laid-requires-clause-fits g c =
    let kept = g.S.ParagraphStore.items c.args.store.now in
    let is = not-false c.args.form.is_measured c.if-not-form.false in
    let whole = subst (λ b. IsWholeLayout (state_of c.args.engine.now c.args.form.width b kept)) is c.requires in
    let size : c.total_chars-len.result ≡ length (text_of kept) = c.total_chars-len.ensures ∙ sym (length-text kept) in
    let range = range_of kept c.total_chars-len.result c.args.pos c.args.list.now c.front_border-front.result c.last_touched-last.result.end c.paragraphs_are_pieces.ensures c.lines_are_few.ensures
    c.total_chars-len.ensures (omega (arith, eqb-false (length c.args.list.now) 0 (sym c.if-is_empty.ensures))) (omega (arith, c.if-list-len.false, c.if-pos-len.false))
    c.front_border-front.ensures c.last_touched-last.ensures.end in
    let spliced-is : spliced (record { front = c.front_part.result.advances; new = c.args.list; back = c.back_part.result.advances })
    ≡ region c.args.engine.now c.args.form.width kept whole range =
    ap₂ (λ (xs ys : List ℕ). xs ++ (c.args.list.now ++ ys)) (c.front_part.ensures.advances kept c.get-first.ensures) (c.back_part.ensures.advances kept c.last_touched-last.ensures.kept _ refl) in
    omega (
      arith,
      ap length spliced-is,
      region_sizes c.args.engine.now c.args.form.width kept whole range,
      mid_within c.args.engine.now c.args.form.width kept whole range,
      size,
      c.total_chars-len.type_inv,
    )

pub remeasure_each-laid-requires-clause-fresh : goal.remeasure_each-laid-requires-clause-fresh
remeasure_each-laid-requires-clause-fresh g c =
    let kept = g.S.ParagraphStore.items c.args.store.now in
    all_each (IsFresh (rules_of c.args.engine.now)) kept (each_laid_out c.paragraphs_are_pieces.ensures c.args.engine.now c.args.form.width c.args.form.is_measured kept c.requires)

pub returns-in_default-clause-err : goal.returns-in_default-clause-err
returns-in_default-clause-err g c =
    let kept = g.S.ParagraphStore.items c.args.store.now in
    let is = not-false c.args.form.is_measured c.if-not-form.false in
    let whole = subst (λ b. IsWholeLayout (state_of c.args.engine.now c.args.form.width b kept)) is c.requires in
    let range = range_of kept c.total_chars-len.result c.args.pos c.args.list.now c.front_border-front.result c.last_touched-last.result.end c.paragraphs_are_pieces.ensures c.lines_are_few.ensures
    c.total_chars-len.ensures (omega (arith, eqb-false (length c.args.list.now) 0 (sym c.if-is_empty.ensures))) (omega (arith, c.if-list-len.false, c.if-pos-len.false))
    c.front_border-front.ensures c.last_touched-last.ensures.end in
    let spliced-is : spliced (record { front = c.front_part.result.advances; new = c.args.list; back = c.back_part.result.advances })
    ≡ region c.args.engine.now c.args.form.width kept whole range =
    ap₂ (λ (xs ys : List ℕ). xs ++ (c.args.list.now ++ ys)) (c.front_part.ensures.advances kept c.get-first.ensures) (c.back_part.ensures.advances kept c.last_touched-last.ensures.kept _ refl) in
    let mid = slice_range (pars_of kept) c.front_border-front.result.index c.last_touched-last.result.end.index in
    let has : have_room (region c.args.engine.now c.args.form.width kept whole range) mid ≡ true =
    ap (λ l. have_room l mid) (sym spliced-is) ∙ sym c.has_room.ensures ∙ c.if-not-has_room.false in
    subst (λ b. SetsAdvancesNot c.args.pos c.args.list.now (state_of c.args.engine.now c.args.form.width b kept) (state_of c.remeasure_each-laid.new.engine c.args.form.width b kept) NoMemory) (sym is)
    (SetsAdvancesNot-after c.args.engine.now c.args.form.width kept whole range c.remeasure_each-laid.new.engine has c.remeasure_each-laid.ensures.rules c.remeasure_each-laid.ensures.counts)

pub put-requires-clause-order : goal.put-requires-clause-order
put-requires-clause-order g c =
    let kept = g.S.ParagraphStore.items c.args.store.now in
    let is = not-false c.args.form.is_measured c.if-not-form.false in
    let whole = subst (λ b. IsWholeLayout (state_of c.args.engine.now c.args.form.width b kept)) is c.requires in
    let range = range_of kept c.total_chars-len.result c.args.pos c.args.list.now c.front_border-front.result c.last_touched-last.result.end c.paragraphs_are_pieces.ensures c.lines_are_few.ensures
    c.total_chars-len.ensures (omega (arith, eqb-false (length c.args.list.now) 0 (sym c.if-is_empty.ensures))) (omega (arith, c.if-list-len.false, c.if-pos-len.false))
    c.front_border-front.ensures c.last_touched-last.ensures.end in
    omega (arith, order c.args.engine.now c.args.form.width kept whole range)

pub put-requires-clause-chars_fit : goal.put-requires-clause-chars_fit
put-requires-clause-chars_fit g c =
    let kept = g.S.ParagraphStore.items c.args.store.now in
    let is = not-false c.args.form.is_measured c.if-not-form.false in
    let whole = subst (λ b. IsWholeLayout (state_of c.args.engine.now c.args.form.width b kept)) is c.requires in
    let range = range_of kept c.total_chars-len.result c.args.pos c.args.list.now c.front_border-front.result c.last_touched-last.result.end c.paragraphs_are_pieces.ensures c.lines_are_few.ensures
    c.total_chars-len.ensures (omega (arith, eqb-false (length c.args.list.now) 0 (sym c.if-is_empty.ensures))) (omega (arith, c.if-list-len.false, c.if-pos-len.false))
    c.front_border-front.ensures c.last_touched-last.ensures.end in
    let spliced-is : spliced (record { front = c.front_part.result.advances; new = c.args.list; back = c.back_part.result.advances })
    ≡ region c.args.engine.now c.args.form.width kept whole range =
    ap₂ (λ (xs ys : List ℕ). xs ++ (c.args.list.now ++ ys)) (c.front_part.ensures.advances kept c.get-first.ensures) (c.back_part.ensures.advances kept c.last_touched-last.ensures.kept _ refl) in
    let laid = c.in-Ok.ensures.ok ∙ ap (λ l. layouts_from (with_advances (rules_of c.args.engine.now) None) c.args.form.width (Some l)
    (slice_range (pars_of kept) c.front_border-front.result.index c.last_touched-last.result.end.index)) spliced-is in
    chars_fit c.args.engine.now c.args.form.width kept whole range
    c.in-Ok.new.items laid

pub put-requires-clause-lines_fit : goal.put-requires-clause-lines_fit
put-requires-clause-lines_fit g c =
    let kept = g.S.ParagraphStore.items c.args.store.now in
    let is = not-false c.args.form.is_measured c.if-not-form.false in
    let whole = subst (λ b. IsWholeLayout (state_of c.args.engine.now c.args.form.width b kept)) is c.requires in
    let range = range_of kept c.total_chars-len.result c.args.pos c.args.list.now c.front_border-front.result c.last_touched-last.result.end c.paragraphs_are_pieces.ensures c.lines_are_few.ensures
    c.total_chars-len.ensures (omega (arith, eqb-false (length c.args.list.now) 0 (sym c.if-is_empty.ensures))) (omega (arith, c.if-list-len.false, c.if-pos-len.false))
    c.front_border-front.ensures c.last_touched-last.ensures.end in
    let spliced-is : spliced (record { front = c.front_part.result.advances; new = c.args.list; back = c.back_part.result.advances })
    ≡ region c.args.engine.now c.args.form.width kept whole range =
    ap₂ (λ (xs ys : List ℕ). xs ++ (c.args.list.now ++ ys)) (c.front_part.ensures.advances kept c.get-first.ensures) (c.back_part.ensures.advances kept c.last_touched-last.ensures.kept _ refl) in
    let laid = c.in-Ok.ensures.ok ∙ ap (λ l. layouts_from (with_advances (rules_of c.args.engine.now) None) c.args.form.width (Some l)
    (slice_range (pars_of kept) c.front_border-front.result.index c.last_touched-last.result.end.index)) spliced-is in
    lines_fit c.args.engine.now c.args.form.width kept whole range
    c.in-Ok.new.items laid

pub put-requires-clause-bytes_fit : goal.put-requires-clause-bytes_fit
put-requires-clause-bytes_fit g c =
    let kept = g.S.ParagraphStore.items c.args.store.now in
    let is = not-false c.args.form.is_measured c.if-not-form.false in
    let whole = subst (λ b. IsWholeLayout (state_of c.args.engine.now c.args.form.width b kept)) is c.requires in
    let range = range_of kept c.total_chars-len.result c.args.pos c.args.list.now c.front_border-front.result c.last_touched-last.result.end c.paragraphs_are_pieces.ensures c.lines_are_few.ensures
    c.total_chars-len.ensures (omega (arith, eqb-false (length c.args.list.now) 0 (sym c.if-is_empty.ensures))) (omega (arith, c.if-list-len.false, c.if-pos-len.false))
    c.front_border-front.ensures c.last_touched-last.ensures.end in
    let spliced-is : spliced (record { front = c.front_part.result.advances; new = c.args.list; back = c.back_part.result.advances })
    ≡ region c.args.engine.now c.args.form.width kept whole range =
    ap₂ (λ (xs ys : List ℕ). xs ++ (c.args.list.now ++ ys)) (c.front_part.ensures.advances kept c.get-first.ensures) (c.back_part.ensures.advances kept c.last_touched-last.ensures.kept _ refl) in
    let laid = c.in-Ok.ensures.ok ∙ ap (λ l. layouts_from (with_advances (rules_of c.args.engine.now) None) c.args.form.width (Some l)
    (slice_range (pars_of kept) c.front_border-front.result.index c.last_touched-last.result.end.index)) spliced-is in
    units_fit c.args.engine.now c.args.form.width kept whole range
    c.in-Ok.new.items laid len_utf8 utf8_few

pub put-requires-clause-utf16_fit : goal.put-requires-clause-utf16_fit
put-requires-clause-utf16_fit g c =
    let kept = g.S.ParagraphStore.items c.args.store.now in
    let is = not-false c.args.form.is_measured c.if-not-form.false in
    let whole = subst (λ b. IsWholeLayout (state_of c.args.engine.now c.args.form.width b kept)) is c.requires in
    let range = range_of kept c.total_chars-len.result c.args.pos c.args.list.now c.front_border-front.result c.last_touched-last.result.end c.paragraphs_are_pieces.ensures c.lines_are_few.ensures
    c.total_chars-len.ensures (omega (arith, eqb-false (length c.args.list.now) 0 (sym c.if-is_empty.ensures))) (omega (arith, c.if-list-len.false, c.if-pos-len.false))
    c.front_border-front.ensures c.last_touched-last.ensures.end in
    let spliced-is : spliced (record { front = c.front_part.result.advances; new = c.args.list; back = c.back_part.result.advances })
    ≡ region c.args.engine.now c.args.form.width kept whole range =
    ap₂ (λ (xs ys : List ℕ). xs ++ (c.args.list.now ++ ys)) (c.front_part.ensures.advances kept c.get-first.ensures) (c.back_part.ensures.advances kept c.last_touched-last.ensures.kept _ refl) in
    let laid = c.in-Ok.ensures.ok ∙ ap (λ l. layouts_from (with_advances (rules_of c.args.engine.now) None) c.args.form.width (Some l)
    (slice_range (pars_of kept) c.front_border-front.result.index c.last_touched-last.result.end.index)) spliced-is in
    units_fit c.args.engine.now c.args.form.width kept whole range
    c.in-Ok.new.items laid len_utf16 utf16_few

pub returns-in-Ok-put-clause-ok : goal.returns-in-Ok-put-clause-ok
returns-in-Ok-put-clause-ok g c =
    let kept = g.S.ParagraphStore.items c.args.store.now in
    let is = not-false c.args.form.is_measured c.if-not-form.false in
    let whole = subst (λ b. IsWholeLayout (state_of c.args.engine.now c.args.form.width b kept)) is c.requires in
    let range = range_of kept c.total_chars-len.result c.args.pos c.args.list.now c.front_border-front.result c.last_touched-last.result.end c.paragraphs_are_pieces.ensures c.lines_are_few.ensures
    c.total_chars-len.ensures (omega (arith, eqb-false (length c.args.list.now) 0 (sym c.if-is_empty.ensures))) (omega (arith, c.if-list-len.false, c.if-pos-len.false))
    c.front_border-front.ensures c.last_touched-last.ensures.end in
    let spliced-is : spliced (record { front = c.front_part.result.advances; new = c.args.list; back = c.back_part.result.advances })
    ≡ region c.args.engine.now c.args.form.width kept whole range =
    ap₂ (λ (xs ys : List ℕ). xs ++ (c.args.list.now ++ ys)) (c.front_part.ensures.advances kept c.get-first.ensures) (c.back_part.ensures.advances kept c.last_touched-last.ensures.kept _ refl) in
    let mid = slice_range (pars_of kept) c.front_border-front.result.index c.last_touched-last.result.end.index in
    let has : have_room (region c.args.engine.now c.args.form.width kept whole range) mid ≡ true =
    ap (λ l. have_room l mid) (sym spliced-is) ∙ sym c.has_room.ensures ∙ c.if-not-has_room.false in
    let laid = c.in-Ok.ensures.ok ∙ ap (λ l. layouts_from (with_advances (rules_of c.args.engine.now) None) c.args.form.width (Some l)
    (slice_range (pars_of kept) c.front_border-front.result.index c.last_touched-last.result.end.index)) spliced-is in
    let done = SetsAdvances-after c.args.engine.now c.args.form.width kept whole range
    c.in-Ok.new.items laid c.remeasure_each-laid.new.engine has c.remeasure_each-laid.ensures.rules c.remeasure_each-laid.ensures.counts in
    rw c.put.ensures.engine (subst (λ d. SetsAdvances c.args.pos c.args.list.now (state_of c.args.engine.now c.args.form.width c.args.form.is_measured kept)
    (state_of c.remeasure_each-laid.new.engine c.args.form.width c.args.form.is_measured (g.S.ParagraphStore.items c.put.new.store)) d) (sym c.in-Ok-put.ensures.damage)
    (subst (λ ks. SetsAdvances c.args.pos c.args.list.now (state_of c.args.engine.now c.args.form.width c.args.form.is_measured kept)
    (state_of c.remeasure_each-laid.new.engine c.args.form.width c.args.form.is_measured ks) (damage_between c.front_border-front.result c.last_touched-last.result.end c.in-Ok.new.items)) (sym c.in-Ok-put.ensures.ok)
    (subst (λ b. SetsAdvances c.args.pos c.args.list.now (state_of c.args.engine.now c.args.form.width b kept)
    (state_of c.remeasure_each-laid.new.engine c.args.form.width b (splice kept c.front_border-front.result.index c.last_touched-last.result.end.index c.in-Ok.new.items))
    (damage_between c.front_border-front.result c.last_touched-last.result.end c.in-Ok.new.items)) (sym is) done)))

pub returns-in-Err-clause-err : goal.returns-in-Err-clause-err
returns-in-Err-clause-err g c =
    let kept = g.S.ParagraphStore.items c.args.store.now in
    let is = not-false c.args.form.is_measured c.if-not-form.false in
    let whole = subst (λ b. IsWholeLayout (state_of c.args.engine.now c.args.form.width b kept)) is c.requires in
    let range = range_of kept c.total_chars-len.result c.args.pos c.args.list.now c.front_border-front.result c.last_touched-last.result.end c.paragraphs_are_pieces.ensures c.lines_are_few.ensures
    c.total_chars-len.ensures (omega (arith, eqb-false (length c.args.list.now) 0 (sym c.if-is_empty.ensures))) (omega (arith, c.if-list-len.false, c.if-pos-len.false))
    c.front_border-front.ensures c.last_touched-last.ensures.end in
    let spliced-is : spliced (record { front = c.front_part.result.advances; new = c.args.list; back = c.back_part.result.advances })
    ≡ region c.args.engine.now c.args.form.width kept whole range =
    ap₂ (λ (xs ys : List ℕ). xs ++ (c.args.list.now ++ ys)) (c.front_part.ensures.advances kept c.get-first.ensures) (c.back_part.ensures.advances kept c.last_touched-last.ensures.kept _ refl) in
    let mid = slice_range (pars_of kept) c.front_border-front.result.index c.last_touched-last.result.end.index in
    let has : have_room (region c.args.engine.now c.args.form.width kept whole range) mid ≡ true =
    ap (λ l. have_room l mid) (sym spliced-is) ∙ sym c.has_room.ensures ∙ c.if-not-has_room.false in
    let worked = subst (λ b. SetsAdvancesNot c.args.pos c.args.list.now (state_of c.args.engine.now c.args.form.width b kept)
    (state_of c.remeasure_each-laid.new.engine c.args.form.width b kept) NoMemory) (sym is)
    (SetsAdvancesNot-after c.args.engine.now c.args.form.width kept whole range c.remeasure_each-laid.new.engine has c.remeasure_each-laid.ensures.rules c.remeasure_each-laid.ensures.counts) in
    rw c.put.ensures.engine (subst (λ ks. SetsAdvancesNot c.args.pos c.args.list.now (state_of c.args.engine.now c.args.form.width c.args.form.is_measured kept)
    (state_of c.remeasure_each-laid.new.engine c.args.form.width c.args.form.is_measured ks) NoMemory) (sym c.in-Err.ensures.err) worked)

pub returns-then-is_empty-clause-changed : goal.returns-then-is_empty-clause-changed
returns-then-is_empty-clause-changed g c = AreFound-none (g.S.ParagraphStore.items c.args.store.now) _ refl refl refl
