use Rattle.std.proofs.Common.{◌+◌, drop, sym, take, ap, arith}
use Rattle.std.proofs.lemmas.List.{length-take-le, take_all}
use Rattle.session.specs.Offsets.{length_in}
use Rattle.store.proofs.ListLemmas.{at_place}
use Rattle.session.proofs.offsets.unit_at.Goals as goal

pub returns-then-rest-size : goal.returns-then-rest-size
returns-then-rest-size c =
    let text = c.args.text.now in
    let pos = c.loop-pos.pos in
    let char = c.index-text-pos.result in
    record {
      before = take pos text;
      char = char;
      after = drop (pos + 1) text;
      place = at_place text pos char c.loop-pos-test.true c.index-text-pos.is;
      pos_is = sym (length-take-le pos text (omega arith));
      rest_is = c.loop-pos.invariant;
      within = omega (arith, c.size_of-size.ensures.size);
    }

pub unreachable-requires : goal.unreachable-requires
unreachable-requires c =
    let whole = ap (length_in c.args.encoding) (take_all c.loop-pos.pos c.args.text.now c.loop-pos-test.false) in
    omega (arith, whole, c.loop-pos.invariant)
