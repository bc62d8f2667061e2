use Rattle.std.proofs.Common.{◌≡◌, ◌∙◌, ◌+◌, ◌-◌, take, drop, sym, ap, arith}
use Rattle.std.proofs.lemmas.List.{drop-take, length-drop}
use Rattle.std.proofs.lemmas.List.Edits.{take-paste}
use Rattle.std.proofs.Math.Seq.{paste}
use Rattle.terminal.proofs.decoder.Decoder.keep_bytes.Goals as goal

pub returns-clause-bytes : goal.returns-clause-bytes
returns-clause-bytes c =
    let chunk = c.args.self.now.chunk.items in
    let n = c.args.end - c.args.start in
    let zero_more : n ≡ 0 + n = omega arith in
    let there : c.args.start + n ≡ c.args.end = omega (arith, c.requires.within.0) in
    ap (take n) c.copy_within.ensures.items ∙ ap (λ k. take k (paste chunk 0 (drop c.args.start chunk) n)) zero_more
    ∙ take-paste chunk 0 (drop c.args.start chunk) n (omega arith) (omega (arith, c.requires.within.0, c.requires.within.1, length-drop c.args.start chunk))
    ∙ sym (drop-take c.args.start n chunk) ∙ ap (λ k. drop c.args.start (take k chunk)) there
