use Rattle.std.proofs.Common.{◌+◌, ◌-◌, ◌≤◌, length, arith}
use borrow.Rule.Slice.PartMut.{same_len_mid}
use Rattle.session.specs.Sessions.{text_at}
use Rattle.hordguli_c.proofs.PartLemmas.{next_part, part_few, part_front}
use Rattle.hordguli_c.proofs.line_calls.put_each_part.Goals as goal

pub loop-done-preserved : goal.loop-done-preserved
loop-done-preserved c =
    let kept = c.args.session.now.kept in
    let done = c.loop-done.done in
    let array = c.loop-done.array in
    let written = c.put_each_character.new.array in
    let part = c.in-Some.part.now in
    let now = c.loop-done.invariant in
    let inside : c.args.pos + done + (length array - done) ≤ length (text_at c.args.session.now) = omega (arith, c.requires, c.loop-done.auto.array, now.within) in
    let few = part_few kept (c.args.pos + done) (length array - done) inside part c.in-Some.ensures.part in
    let front = part_front kept (c.args.pos + done) (length array - done) inside part c.in-Some.ensures.part in
    record {
      within = omega (arith, few, now.within, same_len_mid done (done + length part - done) array written c.put_each_character.auto.array);
      front = next_part (text_at c.args.session.now) part array written c.args.pos done (done + length part - done) front c.put_each_character.ensures now.within now.front;
    }
