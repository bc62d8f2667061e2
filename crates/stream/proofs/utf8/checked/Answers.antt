use Rattle.std.proofs.Common.{◌∙◌, sym, arith}
use Rattle.std.proofs.lemmas.Str.{utf8_valid_len-IsUtf8}
use Rattle.stream.proofs.Utf8Lemmas.{whole_good, whole_text}
use Rattle.stream.proofs.utf8.checked.Goals as goal

pub returns-in-Ok-clause-text : goal.returns-in-Ok-clause-text
returns-in-Ok-clause-text c = c.in-Ok.ensures.cases.0 ∙ sym (whole_text c.args.bytes.now c.in-Ok.ensures.cases.1)

pub returns-in-Ok-clause-bad : goal.returns-in-Ok-clause-bad
returns-in-Ok-clause-bad c = whole_good c.args.bytes.now c.in-Ok.ensures.cases.1

pub returns-in-Ok-clause-few : goal.returns-in-Ok-clause-few
returns-in-Ok-clause-few c = λ good. omega (arith, utf8_valid_len-IsUtf8 c.args.bytes.now c.in-Ok.ensures.cases.1)
