use Rattle.std.proofs.Common.{take, arith}
use Rattle.stream.proofs.PackingLemmas.{four-more, rest-more}
use Rattle.stream.proofs.encoding.encode_any.Goals as goal

pub loop-k-preserved : goal.loop-k-preserved
loop-k-preserved c = record {
  read = c.loop-k-test.true;
  within = omega (arith, c.loop-k.invariant.within, c.pack_any-len.ensures.within);
  bytes_are = four-more c.args.piece.now c.loop-k.k (take c.args.at c.args.buffer.now) c.loop-k.invariant.bytes_are c.lanes.result c.lanes.ensures.codes
      c.pack_any-len.ensures.bytes;
}

pub returns-clause-bytes : goal.returns-clause-bytes
returns-clause-bytes c = rest-more c.args.piece.now c.loop-k.k (take c.args.at c.args.buffer.now) c.loop-k.invariant.bytes_are c.encode_each.ensures.bytes
