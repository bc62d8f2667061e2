-- A paragraph that is one line at a width. No contract of an exported function uses this definition.
use Rattle.std.specs.Prelude.{◌≡◌, ℕ, [], ◌∷◌, length, None}
use Rattle.lines.specs.CharInfos.{infos_of}
use Rattle.lines.specs.Extents.{shown_from}
use Rattle.lines.specs.Filling.{line_starts_of}
use Rattle.lines.specs.ShownParts.{margin_of}
use Rattle.lines.specs.declared.fill.Shown.{Shown}
use Rattle.lines.specs.declared.paragraph.Text.{Text}

-- whether a paragraph is one line, and `part` is its shown part
pub record IsOneLine (text : Text) (width : ℕ) (part : Shown) : Type 0 where
  pub starts : line_starts_of text.rules.options.nobreak width (infos_of text.rules.tables.now text.rules.options None text.characters.now) ≡ 0 ∷ []
  pub shown : shown_from (margin_of text.rules.options width) (length text.characters.now) (infos_of text.rules.tables.now text.rules.options None text.characters.now) (0 ∷ [])
      ≡ part ∷ []
