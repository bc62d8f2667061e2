use Rattle.std.proofs.Common.{◌≡◌, ◌∙◌, ◌+◌, ◌++◌, length, take, ap, arith}
use Rattle.std.proofs.Math.Seq.{take-append-add}
use Rattle.stream.proofs.reading.read_to.Goals as goal

pub returns-in-Ok-clause-ok : goal.returns-in-Ok-clause-ok
returns-in-Ok-clause-ok g c =
    let front = c.split_at_mut-after.result.0.now in
    let buffer = c.read.new.buffer in
    let n = c.in-Ok.n in
    let front_len : length front ≡ c.args.place = c.split_at_mut-after.ensures.front_len in
    let there : c.args.place + n ≡ length front + n = omega (arith, front_len) in
    record {
      buffer = buffer;
      gives = c.in-Ok.ensures.reads;
      within = c.in-Ok.ensures.bound;
      small = omega (arith, c.in-Ok.ensures.bound, c.split_at_mut-after.ensures.back_len, c.read.auto.buffer, c.requires);
      chunk = ap (λ k. take k (front ++ buffer)) there ∙ take-append-add front buffer n ∙ ap (λ t. t ++ take n buffer) c.split_at_mut-after.ensures.front;
    }
