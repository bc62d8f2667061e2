-- The base direction of a whole text.
use Rattle.std.specs.Prelude.{◌≡◌, ℕ, ◌≤◌, ◌==◌, List, [], ◌∷◌, ◌++◌, length, map, take, drop, Bool, not, Option, Some, None, is_some, unwrap_or, if◌then◌else◌}
use Rattle.std.specs.List.{list_all}
use Rattle.ucd.specs.Tables.{class_of}
use Rattle.ucd.specs.declared.tables.Tables.{Tables}
use Rattle.bidi.specs.Base.{first_strong_level}
use Rattle.bidi.specs.Cuts.{paragraphs}
use Rattle.bidi.specs.declared.base.Base.{Base}
use Rattle.bidi.specs.declared.base.Base.TheVariants.{Ltr, Rtl}
use Rattle.lines.specs.Layouts.{Rules, cut_by}
use Rattle.sequences.specs.Styled.{shown_text}
use Rattle.terminal.specs.Decoding.{IsBeginning, text_after}
use Rattle.terminal.specs.Texts.{input_text}
use Rattle.terminal.specs.declared.direction.TheConstants.{FIRST_CHARACTERS}
use Rattle.terminal.specs.declared.form.Escapes.{Escapes}

abbrev pub or_else : Option ℕ → Option ℕ → Option ℕ
or_else (Some level) other = Some level
or_else None other = other

-- the level of the first strong character of the first paragraph that has one, or `None` if none has
abbrev pub first_level : Tables → List (List ℕ) → Option ℕ
first_level tables [] = None
first_level tables (paragraph ∷ following) = or_else (first_strong_level (map (class_of tables) paragraph)) (first_level tables following)

-- the `first_level` of the paragraphs that a text shows
unfoldable pub shown_level : Rules → List ℕ → Option ℕ
shown_level rules text = first_level rules.tables (paragraphs (cut_by rules) (shown_text text))

-- whether no block, taken alone, shows a strong character
abbrev pub are_weak : Rules → List (List ℕ) → Bool
are_weak rules blocks = list_all (λ block. not (is_some (shown_level rules block))) blocks

-- the base direction that has this level; left-to-right for `None`
abbrev pub base_by : Option ℕ → Base
base_by level = if unwrap_or level 0 == 1 then Rtl else Ltr

-- the base direction of an input: that of the first paragraph with a strong character among those that the
-- first `FIRST_CHARACTERS` characters show
abbrev pub direction_of : Rules → Escapes → List ℕ → Base
direction_of rules escapes bytes = base_by (shown_level rules (take FIRST_CHARACTERS (input_text escapes bytes)))

-- The first n bytes of an input were decoded, and the other bytes are the beginning of a character. No
-- contract of an exported function uses this definition.
pub record StartsWith (escapes : Escapes) (bytes : List ℕ) (n : ℕ) (text : List ℕ) : Type 0 where
  pub started : Bool
  pub within : n ≤ length bytes
  pub begins : (more : List ℕ) → input_text escapes (bytes ++ more) ≡ text ++ text_after escapes started (drop n bytes ++ more)
  pub rest : IsBeginning (drop n bytes)
