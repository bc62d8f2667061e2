use Rattle.std.proofs.Common.{◌≤◌, length, option_map, arith}
use Rattle.ucd.proofs.FileLines.{size_left, next_left, next_held, next_fault, size_falls, none_left, holds_file}
use Rattle.ucd.proofs.file.read_file.Goals as goal

pub returns-in-Err-clause-err : goal.returns-in-Err-clause-err
returns-in-Err-clause-err g c =
    next_fault (g.V.Property.form c.args.version) c.args.file.now c.loop-rest.line c.loop-rest.table c.in-Some.text.now c.cut.result.0.now (option_map (λ rest. rest.now) c.cut.result.1)
    c.loop-rest.invariant.held (rw c.in-Some.is at c.loop-rest.invariant.left) c.cut.ensures.parts _ c.in-Err.ensures.err

pub loop-rest-preserved : goal.loop-rest-preserved
loop-rest-preserved g c =
    let rest = option_map (λ rest. rest.now) c.cut.result.1 in
    let left = rw c.in-Some.is at c.loop-rest.invariant.left in
    let count = rw c.in-Some.is at c.loop-rest.invariant.count in
    let falls : size_left rest ≤ length c.in-Some.text.now = size_falls (λ rest. rest.now) c.cut.result.1 _ c.cut.ensures.shorter in
    record {
      held = next_held (g.V.Property.form c.args.version) c.args.file.now c.loop-rest.line c.loop-rest.table c.in-Some.text.now
          c.cut.result.0.now rest c.loop-rest.invariant.held left c.cut.ensures.parts _
          c.in_default-add_line.ensures.ok;
      left = next_left (g.V.Property.form c.args.version) c.args.file.now c.loop-rest.line c.loop-rest.table c.in-Some.text.now c.cut.result.0.now rest c.loop-rest.invariant.held left c.cut.ensures.parts;
      count = omega (arith, count, falls);
    }

pub returns-clause-ok : goal.returns-clause-ok
returns-clause-ok g c = holds_file (g.V.Property.form c.args.version) _ _ _ c.loop-rest.invariant.held (none_left _ _ (rw c.in_default.is at c.loop-rest.invariant.left))
