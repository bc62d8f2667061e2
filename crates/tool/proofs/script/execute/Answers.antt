use Rattle.std.proofs.Common.{◌≡◌, refl, sym, false, true, ◌∙◌}
use Rattle.lines.specs.Engine.{rules_of}
use Rattle.session.specs.Sessions.{held_at}
use Rattle.script_commands.specs.Parsed.{command_of}
use Rattle.tool.specs.Reading.{Edited, lacks_memory}
use Rattle.tool.proofs.CommandLemmas.{executes, stops, wants}
use Rattle.tool.proofs.script.execute.Goals as goal
use Rattle.tool.proofs.script.execute.Goals.{in-Insert, in-Delete, in-SetWidth}

pub returns-clause-ok : goal.returns-clause-ok
returns-clause-ok g c =
    let rules = rules_of c.args.session.now.engine in
    let replaced : Edited rules (command_of c.args.inserted.now c.args.command.now) (held_at c.args.session.now) (held_at c.match-command.session) c.match-command.edit = elim c.match-command.branch [
      | in-Insert w ↦ rw (w.edit-is, w.session-is, w.in-Insert.is) w.insert-edit.ensures.edited
      | in-Delete w ↦ rw (w.edit-is, w.session-is, w.in-Delete.is) w.delete-edit.ensures.edited
      | in-SetWidth w ↦ rw (w.edit-is, w.session-is, w.in-SetWidth.is) w.set_width-edit.ensures.edited
    ] in
    let room : lacks_memory c.match-command.edit ≡ false = sym c.lacks_memory.ensures ∙ c.if-lacks_memory.false in
    executes rules c.args.print.now (command_of c.args.inserted.now c.args.command.now) (held_at c.args.session.now)
    (held_at c.match-command.session) c.match-command.edit replaced room c.args.written
    (g.W.Sink.state c.args.writer.now) (g.W.Sink.state c.write_answer.new.writer) c.write_answer.result
    c.write_answer.ensures.ok

pub returns-clause-err : goal.returns-clause-err
returns-clause-err g c =
    let rules = rules_of c.args.session.now.engine in
    let replaced : Edited rules (command_of c.args.inserted.now c.args.command.now) (held_at c.args.session.now) (held_at c.match-command.session) c.match-command.edit = elim c.match-command.branch [
      | in-Insert w ↦ rw (w.edit-is, w.session-is, w.in-Insert.is) w.insert-edit.ensures.edited
      | in-Delete w ↦ rw (w.edit-is, w.session-is, w.in-Delete.is) w.delete-edit.ensures.edited
      | in-SetWidth w ↦ rw (w.edit-is, w.session-is, w.in-SetWidth.is) w.set_width-edit.ensures.edited
    ] in
    let room : lacks_memory c.match-command.edit ≡ false = sym c.lacks_memory.ensures ∙ c.if-lacks_memory.false in
    stops rules c.args.print.now (command_of c.args.inserted.now c.args.command.now) (held_at c.args.session.now)
    (held_at c.match-command.session) c.match-command.edit replaced room c.args.written
    (g.W.Sink.state c.args.writer.now) (g.W.Sink.state c.write_answer.new.writer) c.write_answer.result
    c.write_answer.ensures.err

-- if an allocation failed, the command was not refused, and nothing was changed
pub returns-then-lacks_memory-clause-err : goal.returns-then-lacks_memory-clause-err
returns-then-lacks_memory-clause-err g c =
    let rules = rules_of c.args.session.now.engine in
    let replaced : Edited rules (command_of c.args.inserted.now c.args.command.now) (held_at c.args.session.now) (held_at c.match-command.session) c.match-command.edit = elim c.match-command.branch [
      | in-Insert w ↦ rw (w.edit-is, w.session-is, w.in-Insert.is) w.insert-edit.ensures.edited
      | in-Delete w ↦ rw (w.edit-is, w.session-is, w.in-Delete.is) w.delete-edit.ensures.edited
      | in-SetWidth w ↦ rw (w.edit-is, w.session-is, w.in-SetWidth.is) w.set_width-edit.ensures.edited
    ] in
    let short : lacks_memory c.match-command.edit ≡ true = sym c.lacks_memory.ensures ∙ c.if-lacks_memory.true in
    let wanted = wants rules c.args.print.now (command_of c.args.inserted.now c.args.command.now) (held_at c.args.session.now) (held_at c.match-command.session) c.match-command.edit replaced short in
    (wanted.0, wanted.1, wanted.2, refl)

pub returns-then-lacks_memory-clause-works : goal.returns-then-lacks_memory-clause-works
returns-then-lacks_memory-clause-works g c =
    elim c.match-command.branch [
      | in-Insert w ↦ rw (w.session-is, w.in-Insert.is) w.insert-edit.ensures.works
      | in-Delete w ↦ rw (w.session-is, w.in-Delete.is) w.delete-edit.ensures.works
      | in-SetWidth w ↦ rw (w.session-is, w.in-SetWidth.is) w.set_width-edit.ensures.works
    ]

pub returns-clause-works : goal.returns-clause-works
returns-clause-works g c =
    elim c.match-command.branch [
      | in-Insert w ↦ rw (w.session-is, w.in-Insert.is) w.insert-edit.ensures.works
      | in-Delete w ↦ rw (w.session-is, w.in-Delete.is) w.delete-edit.ensures.works
      | in-SetWidth w ↦ rw (w.session-is, w.in-SetWidth.is) w.set_width-edit.ensures.works
    ]
