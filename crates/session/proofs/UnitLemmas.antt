-- Upper bounds on the lengths of texts in UTF-8 bytes and in UTF-16 code units.
use Rattle.std.proofs.Common.{ℕ, ◌*◌, ◌≤◌, nat_lt, true, false, if◌then◌else◌, List, [], ◌∷◌, length, sum_by, arith}
use Rattle.std.specs.Char.{len_utf8}
use Rattle.std.proofs.lemmas.List.Sums.{sum_by-cons}
use Rattle.std.proofs.lemmas.Str.{len_utf8_bounds}
use Rattle.lines.specs.Layouts.{Layout}
use Rattle.session.specs.Offsets.{len_utf16}
use Rattle.session.proofs.BorderLemmas.{chars_of}

-- a character has at most four units
abbrev pub AreFew : (ℕ → ℕ) → Type 0
AreFew size = (c : ℕ) → size c ≤ 4

pub utf8_few : AreFew len_utf8
utf8_few c = (len_utf8_bounds c).1

pub utf16_few : AreFew len_utf16
utf16_few c = elim (nat_lt c 0x1_0000) as (λ b. (if b then 1 else 2) ≤ 4) [ true ↦ omega arith | false ↦ omega arith ]

-- the number of units of the paragraphs' texts is at most four times their number of characters
module _ (size : ℕ → ℕ) (few : AreFew size) where
  pub few_units : (text : List ℕ) → sum_by size text ≤ 4 * length text
  few_units [] = omega arith
  few_units (c ∷ cs) = omega (arith, sum_by-cons size c cs, few c, few_units cs)

  pub few_in_all : (kept : List Layout) → sum_by (λ l. sum_by size l.text) kept ≤ 4 * sum_by chars_of kept
  few_in_all [] = omega arith
  few_in_all (l ∷ kept) =
      omega (arith, sum_by-cons (λ (x : Layout). sum_by size x.text) l kept, sum_by-cons chars_of l kept, few_units l.text, few_in_all kept)
