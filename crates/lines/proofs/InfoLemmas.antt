-- Each printable ASCII character has one column.
use Rattle.std.proofs.Common.{◌≡◌, ℕ, ◌<◌, ◌≤◌, Option, Some, None, false, nat_le, nat_lt, unwrap_or, if◌then◌else◌, sym, ap, ◌∙◌}
use Rattle.std.proofs.lemmas.Bool.{cond-true, le-leb, lt-ltb}
use Rattle.unicode_width.specs.Width.{alone, char_width}
use Rattle.lines.specs.CharInfos.{columns_of}

printable : (c : ℕ) → 32 ≤ c → c < 127 → char_width false c ≡ Some 1
unfolding char_width
printable c low high =
    let printed : Option ℕ = if nat_le 32 c then Some 1 else None in
    let others : Option ℕ = if nat_le 160 c then Some (alone false c).0 else None in
    cond-true (nat_lt c 127) printed others (lt-ltb c 127 high) ∙ cond-true (nat_le 32 c) (Some 1) None (le-leb 32 c low)

pub printable_columns : (c : ℕ) → 32 ≤ c → c < 127 → 1 ≡ columns_of c
printable_columns c low high = sym (ap (λ (o : Option ℕ). unwrap_or o 0) (printable c low high))
