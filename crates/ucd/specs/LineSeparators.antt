-- Tables in which only LF and CR end paragraphs, as in most editors.
use Rattle.std.specs.Prelude.{ℕ, ◌&&◌, ◌||◌, ◌==◌, nat_le, Bool, List, true, false, Some, unwrap_or, if◌then◌else◌}
use Rattle.ucd.specs.Answers.{PropertyAnswers}
use Rattle.ucd.specs.Classes.{is_separator}
use Rattle.ucd.specs.Contents.{TableContents}
use Rattle.ucd.specs.Defaults.{default_class}
use Rattle.ucd.specs.Entries.{value_at}
use Rattle.ucd.specs.Pages.{answers_at, singles}
use Rattle.ucd.specs.declared.bidi_class.BidiClass.{BidiClass}
use Rattle.ucd.specs.declared.bidi_class.BidiClass.TheVariants.{S}

-- U+001C to U+001E, U+0085 and U+2029: in Unicode's files, all code points of class B except LF and CR
abbrev pub is_rare_separator : ℕ → Bool
is_rare_separator c = (nat_le 28 c && nat_le c 30) || (c == 133 || c == 8233)

-- the class of a code point: S if it is a rare separator of class B, and otherwise unchanged
abbrev pub class_for_lines : ℕ → BidiClass → BidiClass
class_for_lines c class = if is_rare_separator c && is_separator class then S else class

-- the same tables with the bidi classes that `class_for_lines` returns
unfoldable pub with_line_separators : TableContents → TableContents
with_line_separators t = record t {
  bidi_classes = singles (λ c. Some (class_for_lines c (unwrap_or (value_at t.bidi_classes c) (default_class t.version c)))) 1114112;
}

abbrev pub contents_if : Bool → TableContents → TableContents
contents_if false t = t
contents_if true t = with_line_separators t

-- the properties of a code point in tables changed by `with_line_separators`
abbrev pub answers_for_lines : ℕ → PropertyAnswers → PropertyAnswers
answers_for_lines c a = record a { bidi_class = class_for_lines c a.bidi_class }

-- the properties of a code point, changed if the flag is true
abbrev pub answers_if : Bool → ℕ → PropertyAnswers → PropertyAnswers
answers_if false c a = a
answers_if true c a = answers_for_lines c a

-- the properties of a code point in pages, changed if the flag is true
abbrev pub answers_by : Bool → List ℕ → List PropertyAnswers → ℕ → PropertyAnswers
answers_by separates index entries c = answers_if separates c (answers_at index entries c)
