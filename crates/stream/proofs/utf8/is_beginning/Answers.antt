use Rattle.std.proofs.Common.{◌≡◌, ℕ, ◌==◌, true, length, List, refl, sym, ◌∙◌, arith}
use Rattle.std.proofs.lemmas.Bool.Decides.{nat_tests}
use Rattle.std.proofs.lemmas.Str.{utf8_valid_len-IsUtf8}
use Rattle.stream.proofs.Utf8Lemmas.{nothing_bad, nothing_valid}
use Rattle.stream.proofs.utf8.is_beginning.Goals as goal

empty : (bytes : List ℕ) → (length bytes == 0) ≡ true → length bytes ≡ 0
empty bytes is = grind (arith, nat_tests)

is_empty : (bytes : List ℕ) → length bytes ≡ 0 → (length bytes == 0) ≡ true
is_empty bytes none = rw none refl

pub returns-in-Ok-clause-none : goal.returns-in-Ok-clause-none
returns-in-Ok-clause-none c = λ is. nothing_valid c.args.bytes.now (empty c.args.bytes.now (sym c.is_empty.ensures ∙ is))

pub returns-in-Ok-clause-fault : goal.returns-in-Ok-clause-fault
returns-in-Ok-clause-fault c = λ is. nothing_bad c.args.bytes.now (empty c.args.bytes.now (sym c.is_empty.ensures ∙ is))

pub returns-in-Ok-clause-all : goal.returns-in-Ok-clause-all
returns-in-Ok-clause-all c = λ none good. c.is_empty.ensures ∙ is_empty _ (omega (arith, none, utf8_valid_len-IsUtf8 c.args.bytes.now c.in-Ok.ensures.cases.1))
