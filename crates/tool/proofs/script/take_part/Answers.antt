use Rattle.std.proofs.Common.{◌+◌, [], refl, sym, take, drop, inl, inr, ◌∙◌}
use Rattle.std.proofs.lemmas.List.{append-nil}
use Rattle.tool.proofs.script.take_part.Goals as goal

pub returns-in-Err-grow-clause-err : goal.returns-in-Err-grow-clause-err
returns-in-Err-grow-clause-err g c = inr (record {
  front = c.args.chunk.now;
  after = [];
  whole = sym (append-nil c.args.chunk.now);
  none = c.in-None.ensures;
  ends = inl refl;
  grows = c.in-Err-grow.ensures.err;
  state = refl;
  writer = refl;
})

pub returns-in-Err-execute_line-clause-err : goal.returns-in-Err-execute_line-clause-err
returns-in-Err-execute_line-clause-err g c =
    let grows = c.in-Ok.ensures.ok in
    inl (record {
      front = take c.in-Some.end c.args.chunk.now;
      after = drop (c.in-Some.end + 1) c.args.chunk.now;
      ends = c.in-Some.ensures.1;
      fails = rw (grows.line, grows.lines, grows.written) at c.in-Err-execute_line.ensures.err;
      works = rw grows.line at c.in-Err-execute_line.ensures.works;
      lines = c.in-Err-execute_line.ensures.lines ∙ grows.lines;
    })
