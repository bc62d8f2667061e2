use Rattle.std.proofs.Common.{◌≡◌, ◌∙◌, ℕ, List, IfErr, IfOk, false, length, map, take, drop, slice_index, ap, refl, subst, sym, arith}
use Rattle.std.proofs.lemmas.Bool.{both_ways}
use Rattle.std.proofs.lemmas.List.{length-take-le, with_items_is}
use Rattle.ucd.specs.Tables.{class_of}
use Rattle.reorder.specs.Order.{is_odd}
use Rattle.lines.specs.Bytes.{line_bytes}
use Rattle.lines.specs.Paragraphs.{shown_by}
use Rattle.lines.specs.Visual.{Visual}
use Rattle.lines.specs.Writing.{PassedOn, StoppedIn}
use Rattle.reorder.proofs.PlainLemmas.{plain_chars}
use Rattle.lines.proofs.WrittenLemmas.{is_part}
use Rattle.lines.specs.Reordering.{classes_by, reorders}
use Rattle.lines.proofs.printing.writing.write_with_levels.Goals as goal
use Rattle.lines.proofs.printing.writing.write_with_levels.Goals.{then-form-via-then-form, then-form-via-else-form+then-is_plain}

pub write_visual-requires-clause-within : goal.write_visual-requires-clause-within
write_visual-requires-clause-within g c =
    rw (with_items_is c.args.visual.now.maps c.order_front.new.maps (omega arith)) c.order_front.ensures.within

pub returns-then-asks_places-clause-ok : goal.returns-then-asks_places-clause-ok
returns-then-asks_places-clause-ok g c =
    let line = c.args.line.now in
    let n = line.shown.len in
    let before = c.args.visual.now in
    let order = c.order_front.ensures in
    let maps = with_items_is before.maps c.order_front.new.maps (omega arith) in
    let ltov = ap (take n) maps ∙ order.ltov ∙ ap (λ (ls : List ℕ). (shown_by line (take n ls)).ltov) c.deref.ensures.value in
    let vtol = ap (λ ms. take n (drop n ms)) maps ∙ order.vtol ∙ ap (λ (ls : List ℕ). (shown_by line (take n ls)).vtol) c.deref.ensures.value in
    let chars = ap (take n) (with_items_is before.chars c.order_front.new.chars (omega arith)) ∙ order.chars ∙ ap (λ (ls : List ℕ). (shown_by line (take n ls)).chars) c.deref.ensures.value in
    let same = is_part line.text.rules.tables.now line.text.rules.options line.text.base line.is_first line.text.characters.now line.text.ends.now line.shown.columns (take n before.levels.items)
    _ _ _ _ refl ltov vtol chars in
    subst (λ (view : Visual). IfOk c.write_visual.result (λ n. PassedOn (line_bytes c.args.form.now.width c.args.form.now.print.now view) c.args.before
    (g.W.Sink.state c.args.writer.now) (g.W.Sink.state c.write_visual.new.writer) n)) same c.write_visual.ensures.ok

pub returns-then-asks_places-clause-err : goal.returns-then-asks_places-clause-err
returns-then-asks_places-clause-err g c =
    let line = c.args.line.now in
    let n = line.shown.len in
    let before = c.args.visual.now in
    let order = c.order_front.ensures in
    let maps = with_items_is before.maps c.order_front.new.maps (omega arith) in
    let ltov = ap (take n) maps ∙ order.ltov ∙ ap (λ (ls : List ℕ). (shown_by line (take n ls)).ltov) c.deref.ensures.value in
    let vtol = ap (λ ms. take n (drop n ms)) maps ∙ order.vtol ∙ ap (λ (ls : List ℕ). (shown_by line (take n ls)).vtol) c.deref.ensures.value in
    let chars = ap (take n) (with_items_is before.chars c.order_front.new.chars (omega arith)) ∙ order.chars ∙ ap (λ (ls : List ℕ). (shown_by line (take n ls)).chars) c.deref.ensures.value in
    let same = is_part line.text.rules.tables.now line.text.rules.options line.text.base line.is_first line.text.characters.now line.text.ends.now line.shown.columns (take n before.levels.items)
    _ _ _ _ refl ltov vtol chars in
    subst (λ (view : Visual). IfErr c.write_visual.result (λ fault. StoppedIn (line_bytes c.args.form.now.width c.args.form.now.print.now view) c.args.before
    (g.W.Sink.state c.args.writer.now) (g.W.Sink.state c.write_visual.new.writer) fault.written)) same c.write_visual.ensures.err

pub write_ordered-requires-clause-chars : goal.write_ordered-requires-clause-chars
write_ordered-requires-clause-chars g c =
    let text = c.args.line.now.text in
    let n = c.args.line.now.shown.len in
    let levels = take n c.deref-then-form.result.now in
    let tables = text.rules.tables.now in
    let size : length levels ≡ n =
    length-take-le n c.deref-then-form.result.now (omega (arith, c.requires.visual.levels, c.requires.shown, ap length c.deref-then-form.ensures.value)) in
    let len = length-take-le (length levels) text.characters.now (omega (arith, size, c.requires.shown)) in
    λ on.
    elim c.then-form.branch [
      | then-form-via-then-form w ↦ absurd (both_ways c.args.form.now.print.now.novisual on w.if-form.true)
      | then-form-via-else-form+then-is_plain w ↦
          ap (λ (m : ℕ). take m text.characters.now) (sym size)
          ∙ plain_chars tables (reorders text.rules.options) (classes_by text.rules.options (map (class_of tables) text.characters.now) text.ends.now levels) levels (take (length levels) text.characters.now) (sym len)
          (subst (λ (xs : List ℕ). (k : ℕ) → is_odd (slice_index (take n xs) k) ≡ false) (w.deref-else-form.ensures.value ∙ sym c.deref-then-form.ensures.value)
          (w.is_plain.ensures w.if-is_plain.true))
    ]

pub write_ordered-requires-2-clause-chars : goal.write_ordered-requires-2-clause-chars
write_ordered-requires-2-clause-chars g c = λ on.
    let line = c.args.line.now in
    let n = line.shown.len in
    ap (take n) (c.deref-4.ensures.value ∙ with_items_is c.args.visual.now.chars c.chars_front.new.chars (omega arith)) ∙ c.chars_front.ensures
    ∙ ap (λ (ls : List ℕ). (shown_by line (take n ls)).chars) (c.deref-2.ensures.value ∙ sym c.deref-3.ensures.value)

pub returns-then-asks_places-clause-visual : goal.returns-then-asks_places-clause-visual
returns-then-asks_places-clause-visual g c =
    let before = c.args.visual.now in
    record {
      levels = refl;
      maps = omega (arith, ap length (with_items_is before.maps c.order_front.new.maps (omega arith)));
      chars = omega (arith, ap length (with_items_is before.chars c.order_front.new.chars (omega arith)));
    }

pub returns-clause-visual : goal.returns-clause-visual
returns-clause-visual g c =
    let before = c.args.visual.now in
    record {
      levels = refl;
      maps = omega (arith, ap length (with_items_is before.maps c.chars_front.new.places (omega arith)));
      chars = omega (arith, ap length (with_items_is before.chars c.chars_front.new.chars (omega arith)));
    }
