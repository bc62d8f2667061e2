use Rattle.std.proofs.Common.{◌∙◌, ◌-◌, ◌≤◌, List, None, take, drop, ap, ap₂, subst, sym, arith}
use Rattle.std.specs.Prelude.{IfSome}
use Rattle.std.specs.List.{All}
use Rattle.lines.specs.Layouts.{AreWithin}
use Rattle.lines.specs.Spliced.{spliced_lines}
use Rattle.lines.specs.Visual.{Line}
use Rattle.lines.specs.Windows.{window_lines, IsFilled, IsShared}
use Rattle.lines.specs.declared.char_info.CharInfo.{CharInfo}
use Rattle.lines.specs.declared.splicing.Gap.{Gap}
use Rattle.lines.proofs.RefilledLemmas.{after_gap, before_gap, gap_order, gap_within, lines_len, meets_lines, new_len, old_line_within, shares}
use Rattle.lines.proofs.workspace.Workspace.refill.Goals as goal

pub show_window-requires-clause-len : goal.show_window-requires-clause-len
show_window-requires-clause-len c =
    let f = subst (λ found. IfSome found (IsFilled c.args.edited.now c.in-Some.window c.fill_window.new.infos.infos.items c.fill_window.new.starts.items)) c.in-Some-2.is c.in_ok-meeting.ensures in
    lines_len c.args.edited.now c.requires c.in-Some.window c.in-Some.ensures c.fill_window.new.infos.infos.items c.fill_window.new.starts.items c.in-Some-2.meeting f

pub put_spliced-requires-clause-order : goal.put_spliced-requires-clause-order
put_spliced-requires-clause-order c =
    let f = subst (λ found. IfSome found (IsFilled c.args.edited.now c.in-Some.window c.fill_window.new.infos.infos.items c.fill_window.new.starts.items)) c.in-Some-2.is c.in_ok-meeting.ensures in
    gap_order c.args.edited.now c.requires c.in-Some.window c.in-Some.ensures c.fill_window.new.infos.infos.items c.fill_window.new.starts.items c.in-Some-2.meeting f

pub put_spliced-requires-clause-within : goal.put_spliced-requires-clause-within
put_spliced-requires-clause-within c =
    let f = subst (λ found. IfSome found (IsFilled c.args.edited.now c.in-Some.window c.fill_window.new.infos.infos.items c.fill_window.new.starts.items)) c.in-Some-2.is c.in_ok-meeting.ensures in
    omega (arith, c.lines.ensures.len, gap_within c.args.edited.now c.requires c.in-Some.window c.in-Some.ensures c.fill_window.new.infos.infos.items c.fill_window.new.starts.items c.in-Some-2.meeting f)

pub put_spliced-requires-clause-before : goal.put_spliced-requires-clause-before
put_spliced-requires-clause-before c =
    let f = subst (λ found. IfSome found (IsFilled c.args.edited.now c.in-Some.window c.fill_window.new.infos.infos.items c.fill_window.new.starts.items)) c.in-Some-2.is c.in_ok-meeting.ensures in
    subst (λ (ls : List Line). AreWithin c.in-Some.window.start (take c.in-Some.window.line ls)) (sym c.lines.ensures.lines)
    (before_gap c.args.edited.now c.requires c.in-Some.window c.in-Some.ensures c.fill_window.new.infos.infos.items c.fill_window.new.starts.items c.in-Some-2.meeting f)

pub put_spliced-requires-clause-after : goal.put_spliced-requires-clause-after
put_spliced-requires-clause-after c =
    let f = subst (λ found. IfSome found (IsFilled c.args.edited.now c.in-Some.window c.fill_window.new.infos.infos.items c.fill_window.new.starts.items)) c.in-Some-2.is c.in_ok-meeting.ensures in
    subst (λ (ls : List Line). All (λ (line : Line). c.in-Some-2.meeting.old_start ≤ line.start) (drop c.in-Some-2.meeting.old_line ls)) (sym c.lines.ensures.lines)
    (after_gap c.args.edited.now c.requires c.in-Some.window c.in-Some.ensures c.fill_window.new.infos.infos.items c.fill_window.new.starts.items c.in-Some-2.meeting f)

pub put_spliced-requires-clause-fits : goal.put_spliced-requires-clause-fits
put_spliced-requires-clause-fits c =
    let f = subst (λ found. IfSome found (IsFilled c.args.edited.now c.in-Some.window c.fill_window.new.infos.infos.items c.fill_window.new.starts.items)) c.in-Some-2.is c.in_ok-meeting.ensures in
    omega (
      arith,
      c.lines.ensures.len,
      c.in_ok-show_window.ensures.len,
      c.requires.edited.limits.1,
      new_len c.args.edited.now c.requires c.in-Some.window c.in-Some.ensures c.fill_window.new.infos.infos.items c.fill_window.new.starts.items c.in-Some-2.meeting f,
    )

pub returns-clause-lines : goal.returns-clause-lines
returns-clause-lines c =
    let e = c.args.edited.now in
    let infos = c.fill_window.new.infos.infos.items in
    let starts = c.fill_window.new.starts.items in
    let f = subst (λ found. IfSome found (IsFilled e c.in-Some.window infos starts)) c.in-Some-2.is c.in_ok-meeting.ensures in
    let gap : Gap = record { line = c.in-Some.window.line; start = c.in-Some.window.start; end_line = c.in-Some-2.meeting.old_line; end = c.in-Some-2.meeting.old_start } in
    c.in_ok-put_spliced.ensures.lines
    ∙ ap₂ (λ n (ls : List Line). spliced_lines gap n c.lines.result.now.lines ls) c.in_ok-show_window.ensures.len c.in_ok-show_window.ensures.lines
    ∙ ap (λ (xs : List CharInfo). spliced_lines gap c.in-Some-2.meeting.len c.lines.result.now.lines (window_lines e c.in-Some.window xs starts c.in-Some-2.meeting)) c.deref-2.ensures.value
    ∙ ap (λ (ls : List Line). spliced_lines gap c.in-Some-2.meeting.len ls (window_lines e c.in-Some.window infos starts c.in-Some-2.meeting)) c.lines.ensures.lines
    ∙ meets_lines e c.requires c.in-Some.window c.in-Some.ensures infos starts c.in-Some-2.meeting f

pub returns-clause-len : goal.returns-clause-len
returns-clause-len c =
    let f = subst (λ found. IfSome found (IsFilled c.args.edited.now c.in-Some.window c.fill_window.new.infos.infos.items c.fill_window.new.starts.items)) c.in-Some-2.is c.in_ok-meeting.ensures in
    omega (
      arith,
      c.in_ok-put_spliced.ensures.len,
      c.lines.ensures.len,
      c.in_ok-show_window.ensures.len,
      new_len c.args.edited.now c.requires c.in-Some.window c.in-Some.ensures c.fill_window.new.infos.infos.items c.fill_window.new.starts.items c.in-Some-2.meeting f,
    )

pub returns-clause-shared : goal.returns-clause-shared
returns-clause-shared c =
    let e = c.args.edited.now in
    let infos = c.fill_window.new.infos.infos.items in
    let starts = c.fill_window.new.starts.items in
    let f = subst (λ found. IfSome found (IsFilled e c.in-Some.window infos starts)) c.in-Some-2.is c.in_ok-meeting.ensures in
    subst (λ n. IsShared e None (record { front = c.in-Some.window.line; back = n - c.in-Some-2.meeting.old_line })) (sym c.line_count.ensures)
    (shares e c.requires c.in-Some.window c.in-Some.ensures infos starts c.in-Some-2.meeting f)

pub overflow_sub-result : goal.overflow_sub-result
overflow_sub-result c =
    let e = c.args.edited.now in
    let infos = c.fill_window.new.infos.infos.items in
    let starts = c.fill_window.new.starts.items in
    let f = subst (λ found. IfSome found (IsFilled e c.in-Some.window infos starts)) c.in-Some-2.is c.in_ok-meeting.ensures in
    subst (λ n. c.in-Some-2.meeting.old_line ≤ n) (sym c.line_count.ensures) (old_line_within e c.requires c.in-Some.window c.in-Some.ensures infos starts c.in-Some-2.meeting f)
