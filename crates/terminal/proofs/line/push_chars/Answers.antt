use Rattle.std.proofs.Common.{refl, arith}
use Rattle.lines.specs.Bytes.{ordered_chars}
use Rattle.terminal.specs.Numbers.{numbered}
use Rattle.terminal.specs.Parts.{styles_in}
use Rattle.terminal.proofs.WrittenLemmas.{end_line, step_line}
use Rattle.terminal.proofs.line.push_chars.Goals as goal

pub loop-place-preserved : goal.loop-place-preserved
loop-place-preserved c =
    let line = c.args.line.now in
    let part = c.args.part.now in
    let style = numbered part.text.now.links.items part.text.now.runs.items in
    let chars = ordered_chars c.args.print.now line in
    let at = c.loop-place.place in
    record {
      number = c.in_ok-last.ensures.number;
      text = λ more. step_line line (styles_in part) more chars line.vtol at (style c.loop-place.last) (style c.in_ok-last.last) c.loop-place.out.items _ _ _
          (omega (arith, c.ordered_len-place-end.ensures)) (omega (arith, c.ordered_len-place-end.ensures)) c.in_ok-last.ensures.style refl
          c.in_ok-last.ensures.some c.in_ok-last.ensures.text (c.loop-place.invariant.text more);
    }

pub returns-clause-text : goal.returns-clause-text
returns-clause-text c = λ more.
    let line = c.args.line.now in
    let part = c.args.part.now in
    let chars = ordered_chars c.args.print.now line in
    end_line line (styles_in part) more chars line.vtol c.loop-place.place _ c.loop-place.out.items _
    (omega (arith, c.ordered_len-place-end.ensures)) (c.loop-place.invariant.text more)
