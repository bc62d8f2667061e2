use Rattle.std.proofs.Common.{sym}
use Rattle.std.proofs.lemmas.Str.{utf8_valid_len-IsUtf8}
use Rattle.hordguli_c.proofs.text_calls.valid_len.Goals as goal

-- valid text is its own longest valid prefix
pub returns-in_default : goal.returns-in_default
returns-in_default c = sym (utf8_valid_len-IsUtf8 c.args.bytes.now c.in_default.ensures.cases.1)
