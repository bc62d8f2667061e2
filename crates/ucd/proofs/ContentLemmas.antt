-- Joining tables change none of the other properties of tables.
use Rattle.std.proofs.Common.{◌≡◌, List, Option, Vec, Result, Ok, Err, IfOk, ℕ, refl}
use Rattle.std.specs.declared.alloc.Global.{Global}
use Rattle.ucd.specs.Contents.{joined}
use Rattle.ucd.specs.Imaged.{IsImageOf}
use Rattle.ucd.specs.LineSeparators.{with_line_separators}
use Rattle.ucd.specs.Properties.{properties_of}
use Rattle.ucd.specs.Tables.{class_of, bracket_of, mirror_of, line_class_of, line_detail_of, is_wide_in, is_mark_in, is_future_pictograph_in}
use Rattle.ucd.specs.declared.joining_tables.JoiningTables.{JoiningTables}
use Rattle.ucd.specs.declared.tables.Tables.{Tables}

module _ (joining : Option JoiningTables) (t : Tables) where
  pub properties_joined : properties_of (joined joining t) ≡ properties_of t
  unfolding class_of bracket_of mirror_of line_class_of line_detail_of is_wide_in is_mark_in is_future_pictograph_in
  properties_joined = refl

  pub lines_joined : with_line_separators (joined joining t) ≡ joined joining (with_line_separators t)
  unfolding with_line_separators
  lines_joined = refl

  -- an image does not store joining tables
  image_joined : (bytes : List ℕ) → IsImageOf bytes t → IsImageOf bytes (joined joining t)
  unfolding class_of bracket_of mirror_of line_class_of line_detail_of is_wide_in is_mark_in is_future_pictograph_in
  image_joined bytes is = record {
    image = is.image;
    version = is.version;
    say = λ c scalar.
        let says = is.say c scalar in
        record { properties = says.properties; bracket = says.bracket; mirror = says.mirror };
  }

  pub image_if_joined : {E : Type 0} (r : Result (Vec ℕ Global) E) → IfOk r (λ image. IsImageOf image.items t) → IfOk r (λ image. IsImageOf image.items (joined joining t))
  image_if_joined (Ok image) is = image_joined image.items is
  image_if_joined (Err e) is = is
