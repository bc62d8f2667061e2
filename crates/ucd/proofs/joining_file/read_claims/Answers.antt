use Rattle.std.proofs.Common.{◌≤◌, length, option_map, refl, arith}
use Rattle.ucd.specs.Grammar.{lines_of}
use Rattle.ucd.specs.JoiningFiles.{file_number, readings}
use Rattle.ucd.proofs.FileLines.{size_left, size_falls}
use Rattle.ucd.proofs.JoiningReadings.{holds_all, next_fault, next_held, next_left}
use Rattle.ucd.proofs.joining_file.read_claims.Goals as goal

pub returns-in-Err-clause-err : goal.returns-in-Err-clause-err
returns-in-Err-clause-err c =
    rw (c.in_file.ensures, c.number.ensures)
    (next_fault c.args.file c.args.text.now c.loop-rest.line c.loop-rest.claims c.loop-rest.before c.in-Some.left.now c.cut.result.0.now
    (option_map (λ rest. rest.now) c.cut.result.1) c.loop-rest.invariant.held (rw c.in-Some.is at c.loop-rest.invariant.left)
    c.cut.ensures.parts (file_number c.args.file) c.in-Err.cause c.in-Err.ensures.err)

pub loop-rest-preserved : goal.loop-rest-preserved
loop-rest-preserved c =
    let rest = option_map (λ rest. rest.now) c.cut.result.1 in
    let left = rw c.in-Some.is at c.loop-rest.invariant.left in
    let count = rw c.in-Some.is at c.loop-rest.invariant.count in
    let falls : size_left rest ≤ length c.in-Some.left.now = size_falls (λ rest. rest.now) c.cut.result.1 _ c.cut.ensures.shorter in
    record {
      held = next_held c.args.file c.args.text.now c.loop-rest.line c.loop-rest.claims c.loop-rest.before c.in-Some.left.now c.cut.result.0.now
          rest c.loop-rest.invariant.held left c.cut.ensures.parts _ (c.in-Ok-add_line.ensures.read refl) c.in-Ok-add_line.ensures.adds;
      left = next_left c.args.file c.args.text.now c.loop-rest.line c.loop-rest.claims c.loop-rest.before c.in-Some.left.now c.cut.result.0.now
          rest c.loop-rest.invariant.held left c.cut.ensures.parts _ c.in-Ok-add_line.ensures.next;
      count = omega (arith, count, falls);
    }

pub returns-clause-ok : goal.returns-clause-ok
returns-clause-ok c =
    holds_all (readings c.args.file (lines_of c.args.text.now)) c.loop-rest.line c.loop-rest.claims c.loop-rest.invariant.held
    (rw c.in_default-rest.is at c.loop-rest.invariant.left)
