-- The properties that the entries of the files assign to each code point.
use Rattle.std.specs.Prelude.{◌≡◌, ℕ, Some, None, unwrap_or}
use Rattle.std.specs.Char.{IsScalar}
use Rattle.ucd.specs.Answers.{PropertyAnswers, unnamed}
use Rattle.ucd.specs.Contents.{TableContents}
use Rattle.ucd.specs.Defaults.{default_entries, circle_entries}
use Rattle.ucd.specs.Entries.{value_at}
use Rattle.ucd.specs.Layers.{Layers}
use Rattle.ucd.specs.Pages.{singles}
use Rattle.ucd.specs.Puts.{put_by, put_bidi_class, put_bracket, put_mirror, put_line_class, put_circle, put_width, put_category, put_pictograph}
use Rattle.ucd.specs.Versions.{detail_by, line_class_in}
use Rattle.ucd.specs.declared.category.Category.{Category}
use Rattle.ucd.specs.declared.category.Category.TheVariants.{Unassigned}
use Rattle.ucd.specs.declared.entries.Entries.{Entries}
use Rattle.ucd.specs.declared.line_class.LineClass.{LineClass}
use Rattle.ucd.specs.declared.line_class.LineClass.TheVariants.{XX}
use Rattle.ucd.specs.declared.version.Version.{Version}

-- the line breaking class that the entries assign to a code point, or XX if they assign none
abbrev pub line_class_by : Entries → ℕ → LineClass
line_class_by e c = unwrap_or (value_at e.breaks.classes c) XX

-- the category that the entries assign to a code point, or Cn if they assign none
abbrev pub category_by : Entries → ℕ → Category
category_by e c = unwrap_or (value_at e.breaks.categories c) Unassigned

abbrev pub contents_of : Version → Entries → TableContents
contents_of version e = record {
  version = version;
  bidi_classes = e.bidi.classes;
  brackets = e.bidi.brackets;
  mirrors = e.bidi.mirrors;
  line_classes = e.breaks.classes;
  categories = e.breaks.categories;
  widths = e.breaks.widths;
  pictographs = e.breaks.pictographs;
  line_details = singles (λ c. Some (detail_by version (category_by e c) (line_class_by e c) c)) 1114112;
  joining = None;
}

abbrev pub layers_of : Version → Entries → Layers
layers_of version e = record {
  version = version;
  default_classes = default_entries version;
  bidi_classes = e.bidi.classes;
  brackets = e.bidi.brackets;
  mirrors = e.bidi.mirrors;
  line_classes = e.breaks.classes;
  circles = circle_entries version;
  widths = e.breaks.widths;
  pictographs = e.breaks.pictographs;
  categories = e.breaks.categories;
}

-- the properties of a code point after the values that the entries assign to it have been applied
abbrev pub said : Layers → ℕ → PropertyAnswers
said k c =
    put_by (put_category k.version) (value_at k.categories c) (put_by put_pictograph (value_at k.pictographs c)
    (put_by put_width (value_at k.widths c) (put_by put_circle (value_at k.circles c)
    (put_by (put_line_class k.version) (value_at k.line_classes c) (put_by put_mirror (value_at k.mirrors c)
    (put_by put_bracket (value_at k.brackets c) (put_by put_bidi_class (value_at k.bidi_classes c)
    (put_by put_bidi_class (value_at k.default_classes c) unnamed))))))))

-- the line breaking class of each character exists in the version
abbrev pub AreKnown : Version → Entries → Type 0
AreKnown version e = (c : ℕ) → IsScalar c → line_class_in version (line_class_by e c) ≡ line_class_by e c
