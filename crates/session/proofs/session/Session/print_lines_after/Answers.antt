use Rattle.std.proofs.Common.{◌≡◌, ◌+◌, ◌-◌, length, drop, take, refl, sym, subst, ◌∙◌, arith}
use Rattle.std.specs.List.{flat_map}
use Rattle.lines.specs.Bytes.{line_bytes}
use Rattle.lines.specs.Writing.{StoppedIn}
use Rattle.session.specs.Kept.{lines_in}
use Rattle.session.proofs.BorderLemmas.{length-lines}
use Rattle.session.proofs.session.Session.print_lines_after.Goals as goal
use Rattle.session.proofs.session.Session.print_lines_after.Goals.{then-first-lines-via-then-first-lines, then-first-lines-via-else-first-lines+then-count-lines}

pub returns-then-first-lines-clause-err : goal.returns-then-first-lines-clause-err
returns-then-first-lines-clause-err g c =
    let size : c.total_lines-lines.result
    ≡ length (lines_in c.args.self.now.kept) =
    rw (← c.self.view_is) (c.total_lines-lines.ensures
    ∙ sym (length-lines (g.S.ParagraphStore.items c.self.inside.store))) in
    elim c.then-first-lines.branch [
      | then-first-lines-via-then-first-lines w ↦ (omega (arith, size, w.if-first-lines.true), refl)
      | then-first-lines-via-else-first-lines+then-count-lines w ↦ (omega (arith, size, w.if-first-lines.false, w.if-count-lines.true), refl)
    ]

pub write_lines-requires-clause-within : goal.write_lines-requires-clause-within
write_lines-requires-clause-within g c =
    omega (arith, c.if-first-lines.false, c.if-count-lines.false, c.total_lines-lines.ensures, length-lines (g.S.ParagraphStore.items c.self.inside.store))

pub returns-in-Ok-clause-within : goal.returns-in-Ok-clause-within
returns-in-Ok-clause-within g c =
    rw (← c.self.view_is) (omega (arith, c.if-first-lines.false, c.if-count-lines.false, c.total_lines-lines.ensures, length-lines (g.S.ParagraphStore.items c.self.inside.store)))

pub returns-in-Err-clause-err : goal.returns-in-Err-clause-err
returns-in-Err-clause-err g c =
    let kept = g.S.ParagraphStore.items c.self.inside.store in
    let count : c.args.count ≡ c.args.first + c.args.count - c.args.first = omega arith in
    rw (← c.self.view_is) (
      omega (arith, c.if-first-lines.false, c.if-count-lines.false, c.total_lines-lines.ensures, length-lines kept),
      subst (λ n. StoppedIn (flat_map (line_bytes c.self.inside.form.width c.args.print.now)
          (take n (drop c.args.first (lines_in kept)))) c.args.before (g.W.Sink.state c.args.writer.now)
          (g.W.Sink.state c.write_lines.new.writer) c.in-Err.fault.written) count c.in-Err.ensures.err,
    )
