-- The entries that determine the properties of a code point, in the order in which they are applied.
use Rattle.std.specs.Prelude.{List}
use Rattle.ucd.specs.declared.bidi_class.BidiClass.{BidiClass}
use Rattle.ucd.specs.declared.bracket.Bracket.{Bracket}
use Rattle.ucd.specs.declared.bracket.Mirror.{Mirror}
use Rattle.ucd.specs.declared.category.Category.{Category}
use Rattle.ucd.specs.declared.dotted_circle.Circle.{Circle}
use Rattle.ucd.specs.declared.emoji.Pictograph.{Pictograph}
use Rattle.ucd.specs.declared.grammar.Entry.{Entry}
use Rattle.ucd.specs.declared.line_class.LineClass.{LineClass}
use Rattle.ucd.specs.declared.version.Version.{Version}
use Rattle.ucd.specs.declared.width.Width.{Width}

pub record Layers : Type 0 where
  pub version : Version
  pub default_classes : List (Entry BidiClass)
  pub bidi_classes : List (Entry BidiClass)
  pub brackets : List (Entry Bracket)
  pub mirrors : List (Entry Mirror)
  pub line_classes : List (Entry LineClass)
  pub circles : List (Entry Circle)
  pub widths : List (Entry Width)
  pub pictographs : List (Entry Pictograph)
  pub categories : List (Entry Category)
