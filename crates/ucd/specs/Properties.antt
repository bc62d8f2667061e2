-- The properties of one character.
use Rattle.std.specs.Prelude.{ℕ, is_some}
use Rattle.ucd.specs.declared.properties.Properties.{Properties}
use Rattle.ucd.specs.declared.tables.Tables.{Tables}
use Rattle.ucd.specs.Tables.{class_of, bracket_of, mirror_of, line_class_of, line_detail_of, is_wide_in, is_mark_in, is_future_pictograph_in}

abbrev pub properties_of : Tables → ℕ → Properties
properties_of t c = record {
  bidi_class = class_of t c;
  line_class = line_class_of t c;
  line_detail = line_detail_of t c;
  is_wide = is_wide_in t c;
  is_mark = is_mark_in t c;
  is_future_pictograph = is_future_pictograph_in t c;
  has_bracket = is_some (bracket_of t c);
  has_mirror = is_some (mirror_of t c);
}
