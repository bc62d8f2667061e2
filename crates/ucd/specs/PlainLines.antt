-- Lines of table files that have one name after their code points, and possibly a comment.
use Rattle.std.specs.Prelude.{◌≡◌, ◌≢◌, ℕ, ◌<◌, ◌≤◌, ◌==◌, true, false, List, [], ◌∷◌, length, slice_index, Some}
use Rattle.std.specs.List.{list_all}
use Rattle.std.specs.Char.{is_ascii}
use Rattle.ucd.specs.Grammar.{before_comment, content_of, fields_of, points_of}

-- an ASCII byte other than white space, `#` and `;`
pub record IsWordByte (b : ℕ) : Type 0 where
  pub above : 32 < b
  pub ascii : b < 128
  pub no_comment : b ≢ 35
  pub no_separator : b ≢ 59

abbrev pub AreWord : List ℕ → ℕ → ℕ → Type 0
AreWord line from to = (k : ℕ) → from ≤ k → k < to → IsWordByte (slice_index line k)

abbrev pub AreSpaces : List ℕ → ℕ → ℕ → Type 0
AreSpaces line from to = (k : ℕ) → from ≤ k → k < to → slice_index line k ≡ 32

-- The line has no fault before its value is parsed. The line's two fields are these code points and this
-- name.
pub record IsPlain (line : List ℕ) (first last : ℕ) (name : List ℕ) : Type 0 where
  pub ascii : list_all is_ascii (before_comment line) ≡ true
  pub some : (length (content_of line) == 0) ≡ false
  pub field : List ℕ
  pub fields : fields_of (content_of line) ≡ field ∷ name ∷ []
  pub points : points_of true field ≡ Some (first, last)
