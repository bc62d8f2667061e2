use Rattle.std.proofs.Common.{take, ap, ◌∙◌, arith}
use Rattle.std.specs.List.{list_all}
use Rattle.stream.specs.Packing.{fits_two_bytes}
use Rattle.stream.proofs.PackingLemmas.{all-part, four-more, rest-more}
use Rattle.stream.proofs.encoding.encode_short.Goals as goal

pub pack_short-len-requires-clause-short : goal.pack_short-len-requires-clause-short
pack_short-len-requires-clause-short c =
    ap (list_all fits_two_bytes) c.lanes.ensures.codes ∙ all-part fits_two_bytes c.args.piece.now c.loop-k.k 4 c.requires.short

pub loop-k-preserved : goal.loop-k-preserved
loop-k-preserved c = record {
  read = c.loop-k-test.true;
  within = omega (arith, c.loop-k.invariant.within, c.pack_short-len.ensures.within);
  bytes_are = four-more c.args.piece.now c.loop-k.k (take c.args.at c.args.buffer.now) c.loop-k.invariant.bytes_are c.lanes.result c.lanes.ensures.codes
      c.pack_short-len.ensures.bytes;
}

pub returns-clause-bytes : goal.returns-clause-bytes
returns-clause-bytes c = rest-more c.args.piece.now c.loop-k.k (take c.args.at c.args.buffer.now) c.loop-k.invariant.bytes_are c.encode_each.ensures.bytes
