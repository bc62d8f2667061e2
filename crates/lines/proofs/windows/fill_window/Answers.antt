use Rattle.std.proofs.Common.{◌≡◌, ◌∙◌, ◌-◌, ◌≤◌, List, ℕ, length, take, drop, ap, subst, sym, arith}
use Rattle.std.specs.Prelude.{slice_range}
use Rattle.std.proofs.lemmas.List.{length-drop, length-take-le}
use Rattle.std.proofs.lemmas.Option.{IfSome_then}
use Rattle.breaks.specs.Marks.{marks_of}
use Rattle.breaks.specs.declared.mark.Mark.{Mark}
use Rattle.lines.specs.Bare.{AreAlike}
use Rattle.lines.specs.BareInfos.{bare_infos}
use Rattle.lines.specs.Kept.{AreStarts}
use Rattle.lines.specs.Tabs.{tab_width_in}
use Rattle.lines.specs.Windows.{window_infos, Meets}
use Rattle.lines.specs.declared.char_info.CharInfo.{CharInfo}
use Rattle.lines.proofs.EditedLemmas.{part_alike}
use Rattle.lines.proofs.windows.fill_window.Goals as goal

pub returns-then-branch : goal.returns-then-branch
returns-then-branch c =
    let e = c.args.edited.now in
    let w = c.args.window in
    let tables = e.rules.tables.now in
    let options = e.rules.options in
    let m = w.end - w.start in
    let infos = c.fill_with.new.self.infos.items in
    let part = slice_range e.text.now w.start w.end in
    let size : length part ≡ m = length-take-le m (drop w.start e.text.now) (omega (arith, c.requires.window.within, length-drop w.start e.text.now)) in
    let marks_len : length (marks_of tables options.whole_numbers e.text.now) ≡ length e.text.now = sym (ap (λ (ms : List Mark). length ms) c.requires.edited.edited.marks) ∙ c.requires.edited.edited.marks_len in
    let filled : take m infos ≡ bare_infos tables (tab_width_in tables options) part (slice_range (marks_of tables options.whole_numbers e.text.now) w.start w.end) =
    ap (λ n. take n infos) (sym size) ∙ c.in_ok-fill_with.ensures.infos
    ∙ ap (λ (ms : List Mark). bare_infos tables (tab_width_in tables options) part (slice_range ms w.start w.end)) c.requires.edited.edited.marks in
    let alike : AreAlike (take m infos) (window_infos e w) =
    subst (λ (xs : List CharInfo). AreAlike xs (window_infos e w)) (sym filled) (part_alike tables options e.text.now w.start w.end c.requires.window.within marks_len) in
    let len : m ≤ length infos = omega (arith, size, c.in_ok-fill_with.ensures.len) in
    let found = c.in_ok-line_starts_by_breaks.ensures in
    IfSome_then c.meeting_of.result c.meeting_of.ensures (λ meeting meets. record {
      alike = alike;
      len = len;
      starts_are = found.lines c.if-branch.true (window_infos e w) (subst (λ (xs : List CharInfo). AreAlike (take m xs) (window_infos e w)) (sym c.deref.ensures.value) alike);
      ordered = subst (λ n. AreStarts n c.line_starts_by_breaks.new.starts.items) (ap (λ (xs : List CharInfo). length (take m xs)) c.deref.ensures.value ∙ length-take-le m infos len) (found.starts c.if-branch.true);
      meets = subst (λ (ss : List ℕ). Meets e w.start m ss meeting) c.deref-then-branch.ensures.value meets;
    })
