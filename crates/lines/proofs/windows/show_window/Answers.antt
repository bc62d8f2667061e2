use Rattle.std.proofs.Common.{◌≡◌, ◌∙◌, ◌+◌, ◌-◌, List, ℕ, OnOk, length, map, take, drop, ap, ap₂, subst, sym, arith}
use Rattle.std.specs.Prelude.{slice_range}
use Rattle.std.proofs.lemmas.List.{length-drop, length-take-le, take-map, take-take}
use Rattle.ucd.specs.Properties.{properties_of}
use Rattle.lines.specs.Buffers.{held_lines}
use Rattle.lines.specs.Extents.{shown_from}
use Rattle.lines.specs.Kept.{AreStarts}
use Rattle.lines.specs.ShownParts.{margin_of}
use Rattle.lines.specs.Showing.{lines_shown}
use Rattle.lines.specs.Visual.{Line, lines_from}
use Rattle.lines.specs.Windows.{window_lines}
use Rattle.lines.proofs.RefilledLemmas.{part_starts}
use Rattle.lines.proofs.WrittenLemmas.{shown_lines}
use Rattle.lines.proofs.windows.show_window.Goals as goal

pub put_starts-requires-clause-ordered : goal.put_starts-requires-clause-ordered
put_starts-requires-clause-ordered c =
    let size : length (take c.args.meeting.len c.args.infos.now) ≡ c.args.meeting.len = length-take-le c.args.meeting.len c.args.infos.now (omega (arith, c.requires.len, c.requires.filled.len)) in
    subst (λ n. AreStarts n (take c.args.meeting.lines c.deref.result.now)) (sym size)
    (subst (λ (ss : List ℕ). AreStarts c.args.meeting.len (take c.args.meeting.lines ss)) (sym c.deref.ensures.value)
    (part_starts c.args.edited.now c.requires.edited c.args.window c.requires.window c.args.infos.now c.args.buffers.now.starts.items c.args.meeting c.requires.filled))

pub show_lines-requires-clause-text : goal.show_lines-requires-clause-text
show_lines-requires-clause-text c =
    let w = c.args.window in
    let len = c.args.meeting.len in
    let f = properties_of c.args.edited.now.rules.tables.now in
    let rest = drop w.start c.args.edited.now.text.now in
    let size : len ≡ w.start + len - w.start = omega arith in
    sym (take-take len (w.end - w.start) c.args.properties.now c.requires.len) ∙ ap (take len) c.requires.properties
    ∙ take-map f len (take (w.end - w.start) rest) ∙ ap (map f) (take-take len (w.end - w.start) rest c.requires.len) ∙ ap (λ i. map f (take i rest)) size

pub show_lines-requires-clause-starts : goal.show_lines-requires-clause-starts
show_lines-requires-clause-starts c =
    let e = c.args.edited.now in
    let w = c.args.window in
    let len = c.args.meeting.len in
    let part = slice_range e.text.now w.start (w.start + len) in
    let size : len ≡ length part =
    sym (length-take-le (w.start + len - w.start) (drop w.start e.text.now) (omega (arith, c.requires.len, c.requires.window.within, length-drop w.start e.text.now)) ∙ omega arith) in
    let starts = part_starts e c.requires.edited w c.requires.window c.args.infos.now c.args.buffers.now.starts.items c.args.meeting c.requires.filled in
    let put = c.in_ok-put_starts.ensures.starts ∙ ap (take c.args.meeting.lines) c.deref.ensures.value in
    subst (λ n. AreStarts n c.put_starts.new.self.starts) size (subst (AreStarts len) (sym put) starts)

pub show_lines-requires-clause-shown : goal.show_lines-requires-clause-shown
show_lines-requires-clause-shown c =
    let e = c.args.edited.now in
    let w = c.args.window in
    let len = c.args.meeting.len in
    let infos = take len c.args.infos.now in
    let part = slice_range e.text.now w.start (w.start + len) in
    let size : length infos ≡ length part =
    length-take-le len c.args.infos.now (omega (arith, c.requires.len, c.requires.filled.len))
    ∙ sym (length-take-le (w.start + len - w.start) (drop w.start e.text.now) (omega (arith, c.requires.len, c.requires.window.within, length-drop w.start e.text.now)) ∙ omega arith) in (
      c.margin-margin.result,
      infos,
      c.in_ok-put_starts.ensures.shown
          ∙ ap₂ (λ n (ss : List ℕ). shown_from c.margin-margin.result n infos ss) size (sym c.in_ok-put_starts.ensures.starts),
    )

pub returns-clause-lines : goal.returns-clause-lines
returns-clause-lines c =
    let e = c.args.edited.now in
    let w = c.args.window in
    let len = c.args.meeting.len in
    let tables = e.rules.tables.now in
    let options = e.rules.options in
    let margin = margin_of options e.width in
    let infos = take len c.args.infos.now in
    let part = slice_range e.text.now w.start (w.start + len) in
    let levels = slice_range e.levels.now w.start (w.start + len) in
    let base = e.laid.now.base in
    let starts = c.put_starts.new.self.starts in
    let size : length infos ≡ length part =
    length-take-le len c.args.infos.now (omega (arith, c.requires.len, c.requires.filled.len))
    ∙ sym (length-take-le (w.start + len - w.start) (drop w.start e.text.now) (omega (arith, c.requires.len, c.requires.window.within, length-drop w.start e.text.now)) ∙ omega arith) in
    let shown = c.in_ok-put_starts.ensures.shown
    ∙ ap₂ (λ n (ss : List ℕ). shown_from c.margin-margin.result n infos ss) size (sym c.in_ok-put_starts.ensures.starts)
    ∙ ap (λ m. shown_from m (length part) infos starts) c.margin-margin.ensures in
    let put : starts ≡ take c.args.meeting.lines c.args.buffers.now.starts.items = c.in_ok-put_starts.ensures.starts ∙ ap (take c.args.meeting.lines) c.deref.ensures.value in
    let lines : lines_shown tables options c.base.result part levels starts c.put_starts.new.self.shown
    ≡ window_lines e w c.args.infos.now c.args.buffers.now.starts.items c.args.meeting =
    ap (λ b. lines_shown tables options b part levels starts c.put_starts.new.self.shown) c.base.ensures
    ∙ ap (lines_shown tables options base part levels starts) shown
    ∙ shown_lines tables options base part levels margin infos starts
    ∙ ap (lines_from tables options margin base part levels infos) put in
    subst (λ (ls : List Line). OnOk c.show_lines.result (held_lines c.show_lines.new.lines ≡ ls)) lines c.show_lines.ensures.lines
