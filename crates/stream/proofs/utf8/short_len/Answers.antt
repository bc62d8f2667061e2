use Rattle.std.proofs.Common.{◌<◌, get_or, take, ap, arith}
use Rattle.std.proofs.lemmas.List.{get_or-take, length-take-le}
use Rattle.std.proofs.lemmas.Simd.{Each1-get_or}
use Rattle.stream.proofs.ShortTextLemmas.{ends_short}
use Rattle.stream.proofs.utf8.short_len.Goals as goal

pub returns-then-as_bytes-lt192-clause-boundary : goal.returns-then-as_bytes-lt192-clause-boundary
returns-then-as_bytes-lt192-clause-boundary c = λ few.
    let text = c.args.text.now in
    let long = length-take-le 16 text c.requires.long in
    ends_short text 15 c.utf8.text (omega (arith, c.requires.long))
    (λ k le. omega (arith, Each1-get_or (λ x. x < 224) (take 16 text) k 0 (omega (arith, long, le)) few, get_or-take 16 text k 0 (omega (arith, le))))
    (omega (arith, c.if-as_bytes-lt192.true, ap (λ t. get_or t 15 0) c.as_bytes.ensures.value))
