-- What is stored about the characters of a measured paragraph: their advances, and their widths on its lines.
use Rattle.std.specs.Prelude.{◌≡◌, ℕ, ◌+◌, ◌*◌, ◌^◌, ◌<◌, ◌≤◌, nat_lt, Bool, true, List, [], ◌∷◌, length, take, drop, sum, slice_range, All, ⊤, Option, None, Some, if◌then◌else◌}
use Rattle.lines.specs.Visual.{Line}
use Rattle.lines.specs.Widths.{widths_of}

-- the list, or `None` if the flag is false; for a list of advances, the flag says whether the line is
-- measured
abbrev pub given_if : Bool → List ℕ → Option (List ℕ)
given_if is_given items = if is_given then Some items else None

-- the known widths or, if they are `None`, the other list
abbrev pub known_or : Option (List ℕ) → List ℕ → List ℕ
known_or None others = others
known_or (Some widths) others = widths

-- whether the widths are those of the line's characters, if the line is measured
abbrev pub AreMeasured : ℕ → List ℕ → Bool → List ℕ → List ℕ → Type 0
AreMeasured tab_width text is_measured advances widths = is_measured ≡ true → widths ≡ widths_of tab_width (Some advances) text

-- the items for the shown characters of a line, from a list with an item for each character of the paragraph
abbrev pub on_line : Line → List ℕ → List ℕ
on_line line items = slice_range items line.start (line.start + length line.levels)

-- whether widths are those of the shown characters of each line, given the text and the advances of the paragraph
abbrev pub AreWidthsOf : ℕ → List ℕ → List ℕ → List ℕ → List Line → Type 0
AreWidthsOf tab_width text advances widths lines = All (λ line. on_line line widths ≡ widths_of tab_width (Some (on_line line advances)) (on_line line text)) lines

-- A paragraph stores its advances and widths in one list: the advances come first, and the widths follow if
-- there are tab stops. Without tab stops, the widths are the advances.
abbrev pub kept_advances : Bool → List ℕ → List ℕ → Option (List ℕ)
kept_advances is_measured text sizes = given_if is_measured (take (length text) sizes)

abbrev pub kept_widths : ℕ → List ℕ → List ℕ → List ℕ
kept_widths tab_width text sizes = take (length text) (if nat_lt 0 tab_width then drop (length text) sizes else sizes)

abbrev pub kept_len : ℕ → List ℕ → ℕ
kept_len tab_width text = if nat_lt 0 tab_width then 2 * length text else length text

pub record KeepsSizes (tab_width : ℕ) (text sizes : List ℕ) (lines : List Line) : Type 0 where
  pub len : kept_len tab_width text ≤ length sizes
  pub room : sum (take (length text) sizes) < 2 ^ 32
  pub widths : AreWidthsOf tab_width text (take (length text) sizes) (kept_widths tab_width text sizes) lines

-- whether the shown parts of lines are in order and do not overlap, and the first one starts at or after `low`
abbrev pub FollowFrom : ℕ → List Line → Type 0
FollowFrom low [] = ⊤
FollowFrom low (line ∷ lines) = (low ≤ line.start) × FollowFrom (line.start + length line.levels) lines
