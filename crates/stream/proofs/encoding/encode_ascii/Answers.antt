use Rattle.std.proofs.Common.{◌-◌, length, take, ap, ◌∙◌, arith}
use Rattle.std.specs.List.{list_all}
use Rattle.std.specs.Char.{is_ascii}
use Rattle.stream.proofs.PackingLemmas.{all-part, four-more, rest-more}
use Rattle.stream.proofs.encoding.encode_ascii.Goals as goal

pub pack_ascii-len-requires-clause-ascii : goal.pack_ascii-len-requires-clause-ascii
pack_ascii-len-requires-clause-ascii c =
    ap (list_all is_ascii) c.lanes.ensures.codes ∙ all-part is_ascii c.args.piece.now c.loop-k.k 4 c.requires.ascii

pub put_ascii-requires-clause-ascii : goal.put_ascii-requires-clause-ascii
put_ascii-requires-clause-ascii c = all-part is_ascii c.args.piece.now c.loop-k.k (length c.args.piece.now - c.loop-k.k) c.requires.ascii

pub loop-k-preserved : goal.loop-k-preserved
loop-k-preserved c = record {
  read = c.loop-k-test.true;
  within = omega (arith, c.loop-k.invariant.within, c.pack_ascii-len.ensures.within);
  bytes_are = four-more c.args.piece.now c.loop-k.k (take c.args.at c.args.buffer.now) c.loop-k.invariant.bytes_are c.lanes.result c.lanes.ensures.codes
      c.pack_ascii-len.ensures.bytes;
}

pub returns-clause-bytes : goal.returns-clause-bytes
returns-clause-bytes c = rest-more c.args.piece.now c.loop-k.k (take c.args.at c.args.buffer.now) c.loop-k.invariant.bytes_are c.put_ascii.ensures.bytes
