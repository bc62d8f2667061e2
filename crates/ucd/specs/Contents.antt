-- The contents of tables: their version, the entries of each file, the details of characters, and the joining tables.
use Rattle.std.specs.Prelude.{List, Option}
use Rattle.ucd.specs.declared.bidi_class.BidiClass.{BidiClass}
use Rattle.ucd.specs.declared.bracket.Bracket.{Bracket}
use Rattle.ucd.specs.declared.bracket.Mirror.{Mirror}
use Rattle.ucd.specs.declared.category.Category.{Category}
use Rattle.ucd.specs.declared.emoji.Pictograph.{Pictograph}
use Rattle.ucd.specs.declared.grammar.Entry.{Entry}
use Rattle.ucd.specs.declared.joining_tables.JoiningTables.{JoiningTables}
use Rattle.ucd.specs.declared.line_class.LineClass.{LineClass}
use Rattle.ucd.specs.declared.line_detail.LineDetail.{LineDetail}
use Rattle.ucd.specs.declared.version.Version.{Version}
use Rattle.ucd.specs.declared.width.Width.{Width}

pub record TableContents : Type 0 where
  pub version : Version
  pub bidi_classes : List (Entry BidiClass)
  pub brackets : List (Entry Bracket)
  pub mirrors : List (Entry Mirror)
  pub line_classes : List (Entry LineClass)
  pub categories : List (Entry Category)
  pub widths : List (Entry Width)
  pub pictographs : List (Entry Pictograph)
  pub line_details : List (Entry LineDetail)
  pub joining : Option JoiningTables

-- the same contents with the given joining tables
abbrev pub joined : Option JoiningTables → TableContents → TableContents
joined joining t = record t { joining = joining }
