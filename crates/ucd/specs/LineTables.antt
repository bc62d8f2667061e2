-- How tables in which only LF and CR end paragraphs differ from the tables that they are made from.
use Rattle.std.specs.Prelude.{◌≡◌, ℕ, ◌<◌}
use Rattle.ucd.specs.LineSeparators.{class_for_lines}
use Rattle.ucd.specs.Tables.{class_of, bracket_of, mirror_of, line_class_of, line_detail_of, is_wide_in, is_mark_in, is_future_pictograph_in}
use Rattle.ucd.specs.declared.tables.Tables.{Tables}

-- U+001C to U+001E, U+0085 and U+2029 have class S where they had B. Everything else is unchanged.
pub record SeparatesLines (t u : Tables) : Type 0 where
  pub version : u.version ≡ t.version
  pub bidi_class : (c : ℕ) → c < 1114112 → class_of u c ≡ class_for_lines c (class_of t c)
  pub bracket : (c : ℕ) → bracket_of u c ≡ bracket_of t c
  pub mirror : (c : ℕ) → mirror_of u c ≡ mirror_of t c
  pub line_class : (c : ℕ) → line_class_of u c ≡ line_class_of t c
  pub line_detail : (c : ℕ) → line_detail_of u c ≡ line_detail_of t c
  pub is_wide : (c : ℕ) → is_wide_in u c ≡ is_wide_in t c
  pub is_mark : (c : ℕ) → is_mark_in u c ≡ is_mark_in t c
  pub is_future_pictograph : (c : ℕ) → is_future_pictograph_in u c ≡ is_future_pictograph_in t c
