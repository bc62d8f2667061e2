-- Tables that assign the same properties to each character.
use Rattle.std.specs.Prelude.{◌≡◌, ℕ}
use Rattle.std.specs.Char.{IsScalar}
use Rattle.ucd.specs.declared.tables.Tables.{Tables}
use Rattle.ucd.specs.Tables.{class_of, bracket_of, mirror_of, line_class_of, line_detail_of, is_wide_in, is_mark_in, is_future_pictograph_in}

pub record Agree (t u : Tables) (c : ℕ) : Type 0 where
  pub bidi_class : class_of t c ≡ class_of u c
  pub bracket : bracket_of t c ≡ bracket_of u c
  pub mirror : mirror_of t c ≡ mirror_of u c
  pub line_class : line_class_of t c ≡ line_class_of u c
  pub line_detail : line_detail_of t c ≡ line_detail_of u c
  pub is_wide : is_wide_in t c ≡ is_wide_in u c
  pub is_mark : is_mark_in t c ≡ is_mark_in u c
  pub is_future_pictograph : is_future_pictograph_in t c ≡ is_future_pictograph_in u c

abbrev pub SayAlike : Tables → Tables → Type 0
SayAlike t u = (c : ℕ) → IsScalar c → Agree t u c
