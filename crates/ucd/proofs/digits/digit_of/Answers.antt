-- The table holds the value of each byte.
use Rattle.std.proofs.Common.{◌≡◌, ℕ, ◌<◌, ◌∙◌, map, get_or, if◌then◌else◌, refl, ap, zero-add, arith}
use Rattle.std.specs.List.{range_with_len}
use Rattle.std.specs.Char.{is_ascii_hexdigit, digit_value}
use Rattle.std.proofs.lemmas.List.FromFn.{get_or-map-range_with_len}
use Rattle.ucd.specs.declared.digits.TheConstants.{DIGITS}
use Rattle.ucd.proofs.digits.digit_of.Goals as goal

value : ℕ → ℕ
value b = if is_ascii_hexdigit b then digit_value b else 16

table_is : DIGITS ≡ map value (range_with_len 0 256)
unfolding value
table_is = refl

read : (b : ℕ) → b < 256 → get_or DIGITS b 0 ≡ (if is_ascii_hexdigit b then digit_value b else 16)
unfolding value
read b lt = ap (λ bytes. get_or bytes b 0) table_is ∙ get_or-map-range_with_len value 0 256 b b 0 lt (zero-add b)

pub returns : goal.returns
returns c = c.from.ensures ∙ read c.args.byte (omega arith)
