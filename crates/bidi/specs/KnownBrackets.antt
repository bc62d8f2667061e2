-- The cached bracket types of two characters agree with the tables.
use Rattle.std.specs.Prelude.{◌≡◌}
use Rattle.ucd.specs.Tables.{bracket_of}
use Rattle.ucd.specs.declared.tables.Tables.{Tables}
use Rattle.bidi.specs.BracketTypes.{type_by}
use Rattle.bidi.specs.declared.resolver.Known.{Known}

pub record AreKnown (tables : Tables) (known : Known) : Type 0 where
  pub first : known.first_type ≡ type_by (bracket_of tables known.first) known.first
  pub second : known.second_type ≡ type_by (bracket_of tables known.second) known.second
