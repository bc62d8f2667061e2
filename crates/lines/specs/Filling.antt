-- Where the lines of a paragraph end at a width.
use Rattle.std.specs.Prelude.{ℕ, zero, suc, ◌-◌, nat_le, Bool, true, false, ◌&&◌, ◌||◌, List, [], ◌∷◌, length, take, fold, slice_index_or, Option, Some, None, unwrap_or, if◌then◌else◌}
use Rattle.std.specs.List.{suffix_len}
use Rattle.bidi.specs.Brackets.{greatest}
use Rattle.ucd.specs.Least.{least}
use Rattle.breaks.specs.declared.mark.Mark.{Mark}
use Rattle.breaks.specs.declared.mark.Mark.TheVariants.{Never, Must}
use Rattle.lines.specs.CharInfos.{advance, may_trail}
use Rattle.lines.specs.declared.char_info.CharInfo.{CharInfo}
use Rattle.lines.specs.declared.char_info.Trailing.TheVariants.{No}

-- the total columns of the characters at the start of a line
abbrev pub columns : List CharInfo → ℕ
columns piece = fold advance 0 piece

-- whether a character may be in a tail; the tail of a line is the longest suffix of such characters
abbrev pub trails : CharInfo → Bool
trails p = may_trail p.trailing

-- the number of characters before the tail
abbrev pub text_len : List CharInfo → ℕ
text_len piece = length piece - suffix_len trails piece

-- the characters before the tail
abbrev pub before_tail : List CharInfo → List CharInfo
before_tail piece = take (text_len piece) piece

-- whether the characters before the tail are no wider than the width
abbrev pub fits : ℕ → List CharInfo → Bool
fits width piece = nat_le (columns (before_tail piece)) width

abbrev pub is_must : Mark → Bool
is_must Must = true
is_must mark = false

abbrev pub is_break : Mark → Bool
is_break Never = false
is_break mark = true

-- a placeholder for a character past the end
abbrev pub nothing : CharInfo
nothing = record { columns = 0; trailing = No; mark = Never; ends_cluster = false }

-- the character at an index, or `nothing` past the end
abbrev pub place_at : List CharInfo → ℕ → CharInfo
place_at rest k = slice_index_or rest k nothing

-- the first result, or the second one if the first is `None`
abbrev pub or_else : Option ℕ → Option ℕ → Option ℕ
or_else (Some k) other = Some k
or_else None other = other

-- A line that starts at the first character of `rest`. A position in the line is given as the index of the
-- character before the position.
module _ (rest : List CharInfo) where
  -- whether a line must end after a character
  abbrev pub must_end : ℕ → Bool
  must_end k = is_must (place_at rest k).mark

  -- whether a line may or must end after a character
  abbrev pub may_end : ℕ → Bool
  may_end k = is_break (place_at rest k).mark

  -- whether a cluster ends after a character
  abbrev pub cluster_ends_at : ℕ → Bool
  cluster_ends_at k = (place_at rest k).ends_cluster

  -- the first position at which a line must end: at the first mandatory break, or else at the end of the
  -- paragraph
  abbrev pub stop : ℕ
  stop = unwrap_or (least must_end 0 (length rest)) (length rest - 1)

  -- the first position at which a line may end or a cluster ends, or else the end of the paragraph
  abbrev pub first_end : ℕ
  first_end = unwrap_or (least (λ k. may_end k || cluster_ends_at k) 0 (length rest)) (length rest - 1)

-- whether the line up to a position fits the width
abbrev pub fits_to : ℕ → List CharInfo → ℕ → Bool
fits_to width rest k = fits width (take (suc k) rest)

-- A line ends at the last break opportunity at which it fits, and no later than its first mandatory break. If
-- no break opportunity fits, the line ends at the last cluster end at which it fits. If no cluster end fits
-- either, the line ends at its first break opportunity or cluster end.
abbrev pub by_break : ℕ → List CharInfo → Option ℕ
by_break width rest = greatest (λ k. may_end rest k && fits_to width rest k) (suc (stop rest))

abbrev pub by_cluster : ℕ → List CharInfo → Option ℕ
by_cluster width rest = greatest (λ k. cluster_ends_at rest k && fits_to width rest k) (suc (stop rest))

abbrev pub line_end : ℕ → List CharInfo → ℕ
line_end width rest = unwrap_or (or_else (by_break width rest) (by_cluster width rest)) (first_end rest)

-- the length of the first line; with `nobreak`, the line ends at the first mandatory break
abbrev pub line_len : Bool → ℕ → List CharInfo → ℕ
line_len nobreak width rest = suc (if nobreak then stop rest else line_end width rest)

-- The starts of the lines from a position on. The first `left` characters from that position on belong to an
-- earlier line.
abbrev pub starts : Bool → ℕ → ℕ → ℕ → List CharInfo → List ℕ
starts nobreak width place left [] = []
starts nobreak width place zero (p ∷ rest) = place ∷ starts nobreak width (suc place) (line_len nobreak width (p ∷ rest) - 1) rest
starts nobreak width place (suc left) (p ∷ rest) = starts nobreak width (suc place) left rest

unfoldable pub line_starts_of : Bool → ℕ → List CharInfo → List ℕ
line_starts_of nobreak width infos = starts nobreak width 0 0 infos
