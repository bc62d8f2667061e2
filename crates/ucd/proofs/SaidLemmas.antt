-- The properties that the entries assign to a code point, with one lemma for each property.
use Rattle.std.proofs.Common.{◌≡◌, ℕ, ◌<◌, ◌==◌, ◌&&◌, Bool, true, false, Option, Some, None, is_some, unwrap_or, refl, ◌∙◌, ap, arith, if◌then◌else◌}
use Rattle.std.proofs.lemmas.Bool.Decides.{nat_tests}
use Rattle.ucd.specs.Answers.{PropertyAnswers, unnamed, line_tag, line_number, circle_number}
use Rattle.ucd.specs.Bits.{line_tag_below}
use Rattle.ucd.specs.Defaults.{circle_entries}
use Rattle.ucd.specs.DistinctPages.{IsEntryOf}
use Rattle.ucd.specs.Entries.{value_at}
use Rattle.ucd.specs.Layers.{Layers}
use Rattle.ucd.specs.Puts.{put_by, put_bidi_class, put_bracket, put_mirror, put_line_class, put_circle, put_width, put_category, put_pictograph}
use Rattle.ucd.specs.Said.{said}
use Rattle.ucd.specs.Tables.{is_wide_by, is_mark_by, is_unassigned_by}
use Rattle.ucd.specs.Versions.{circle_by, detail_by, line_class_in, number_count, quote_by, quote_in}
use Rattle.ucd.specs.declared.bidi_class.BidiClass.{BidiClass}
use Rattle.ucd.specs.declared.bidi_class.BidiClass.TheVariants.{L}
use Rattle.ucd.specs.declared.bracket.Bracket.{Bracket}
use Rattle.ucd.specs.declared.bracket.Mirror.{Mirror}
use Rattle.ucd.specs.declared.category.Category.{Category}
use Rattle.ucd.specs.declared.category.Category.TheVariants as category
use Rattle.ucd.specs.declared.dotted_circle.Circle.{Circle}
use Rattle.ucd.specs.declared.emoji.Pictograph.{Pictograph}
use Rattle.ucd.specs.declared.line_class.LineClass.{LineClass}
use Rattle.ucd.specs.declared.line_class.LineClass.TheVariants.{BK, XX}
use Rattle.ucd.specs.declared.line_detail.LineDetail.{LineDetail}
use Rattle.ucd.specs.declared.line_detail.LineDetail.TheVariants.{Plain, Initial, Final, DottedCircle}
use Rattle.ucd.specs.declared.version.Version.{Version}
use Rattle.ucd.specs.declared.version.Version.TheVariants.{V15_0, V17_0}
use Rattle.ucd.specs.declared.width.Width.{Width}
use Rattle.ucd.specs.declared.width.Width.TheVariants as width

-- if no value of a layer changes a property, applying the layer leaves the property unchanged
kept : {V X : Type 0} (put : V → PropertyAnswers → PropertyAnswers) (property : PropertyAnswers → X)
    → ((v : V) (a : PropertyAnswers) → property (put v a) ≡ property a) → (o : Option V) (a : PropertyAnswers)
    → property (put_by put o a) ≡ property a
kept put property same None a = refl
kept put property same (Some v) a = same v a

category_keeps_bidi : (version : Version) (v : Category) (a : PropertyAnswers) → (put_category version v a).bidi_class ≡ a.bidi_class
category_keeps_bidi version category.Mark a = refl
category_keeps_bidi version category.Unassigned a = refl
category_keeps_bidi version category.InitialQuote a = refl
category_keeps_bidi version category.FinalQuote a = refl
category_keeps_bidi version category.Other a = refl

category_keeps_bracket : (version : Version) (v : Category) (a : PropertyAnswers) → (put_category version v a).has_bracket ≡ a.has_bracket
category_keeps_bracket version category.Mark a = refl
category_keeps_bracket version category.Unassigned a = refl
category_keeps_bracket version category.InitialQuote a = refl
category_keeps_bracket version category.FinalQuote a = refl
category_keeps_bracket version category.Other a = refl

category_keeps_mirror : (version : Version) (v : Category) (a : PropertyAnswers) → (put_category version v a).has_mirror ≡ a.has_mirror
category_keeps_mirror version category.Mark a = refl
category_keeps_mirror version category.Unassigned a = refl
category_keeps_mirror version category.InitialQuote a = refl
category_keeps_mirror version category.FinalQuote a = refl
category_keeps_mirror version category.Other a = refl

category_keeps_line : (version : Version) (v : Category) (a : PropertyAnswers) → (put_category version v a).line_class ≡ a.line_class
category_keeps_line version category.Mark a = refl
category_keeps_line version category.Unassigned a = refl
category_keeps_line version category.InitialQuote a = refl
category_keeps_line version category.FinalQuote a = refl
category_keeps_line version category.Other a = refl

category_keeps_wide : (version : Version) (v : Category) (a : PropertyAnswers) → (put_category version v a).is_wide ≡ a.is_wide
category_keeps_wide version category.Mark a = refl
category_keeps_wide version category.Unassigned a = refl
category_keeps_wide version category.InitialQuote a = refl
category_keeps_wide version category.FinalQuote a = refl
category_keeps_wide version category.Other a = refl

width_keeps_bidi : (v : Width) (a : PropertyAnswers) → (put_width v a).bidi_class ≡ a.bidi_class
width_keeps_bidi width.Wide a = refl
width_keeps_bidi width.Other a = refl

width_keeps_bracket : (v : Width) (a : PropertyAnswers) → (put_width v a).has_bracket ≡ a.has_bracket
width_keeps_bracket width.Wide a = refl
width_keeps_bracket width.Other a = refl

width_keeps_mirror : (v : Width) (a : PropertyAnswers) → (put_width v a).has_mirror ≡ a.has_mirror
width_keeps_mirror width.Wide a = refl
width_keeps_mirror width.Other a = refl

width_keeps_line : (v : Width) (a : PropertyAnswers) → (put_width v a).line_class ≡ a.line_class
width_keeps_line width.Wide a = refl
width_keeps_line width.Other a = refl

width_keeps_detail : (v : Width) (a : PropertyAnswers) → (put_width v a).line_detail ≡ a.line_detail
width_keeps_detail width.Wide a = refl
width_keeps_detail width.Other a = refl

width_keeps_mark : (v : Width) (a : PropertyAnswers) → (put_width v a).is_mark ≡ a.is_mark
width_keeps_mark width.Wide a = refl
width_keeps_mark width.Other a = refl

width_keeps_future : (v : Width) (a : PropertyAnswers) → (put_width v a).is_future_pictograph ≡ a.is_future_pictograph
width_keeps_future width.Wide a = refl
width_keeps_future width.Other a = refl

-- after its own layer has been applied, a property has the value from that layer, or its default if the layer
-- has no value
class_put : (o : Option BidiClass) (a : PropertyAnswers) (class : BidiClass) → a.bidi_class ≡ class → (put_by put_bidi_class o a).bidi_class ≡ unwrap_or o class
class_put None a class is = is
class_put (Some v) a class is = refl

bracket_put : (o : Option Bracket) (a : PropertyAnswers) → a.has_bracket ≡ false → (put_by put_bracket o a).has_bracket ≡ is_some o
bracket_put None a is = is
bracket_put (Some v) a is = refl

mirror_put : (o : Option Mirror) (a : PropertyAnswers) → a.has_mirror ≡ false → (put_by put_mirror o a).has_mirror ≡ is_some o
mirror_put None a is = is
mirror_put (Some v) a is = refl

xx_in : (version : Version) → XX ≡ line_class_in version XX
xx_in V15_0 = refl
xx_in V17_0 = refl

line_class_put : (version : Version) (o : Option LineClass) (a : PropertyAnswers) → a.line_class ≡ XX
    → (put_by (put_line_class version) o a).line_class ≡ line_class_in version (unwrap_or o XX)
line_class_put version None a is = is ∙ xx_in version
line_class_put version (Some v) a is = refl

plain_put : (version : Version) (o : Option LineClass) (a : PropertyAnswers) → a.line_detail ≡ Plain → (put_by (put_line_class version) o a).line_detail ≡ Plain
plain_put version None a is = is
plain_put version (Some v) a is = refl

circle_put : (o : Option Circle) (a : PropertyAnswers) (class : LineClass) → a.line_class ≡ class → a.line_detail ≡ Plain
    → (put_by put_circle o a).line_detail ≡ (if is_some o then circle_by class Plain else Plain)
circle_put None a class same is = is
circle_put (Some v) a class same is = rw (same, is) refl

quote_put : (version : Version) (o : Option Category) (a : PropertyAnswers) (class : LineClass) (detail : LineDetail) → a.line_class ≡ class → a.line_detail ≡ detail
    → (put_by (put_category version) o a).line_detail ≡ quote_in version (unwrap_or o category.Unassigned) class detail
quote_put V15_0 None a class detail same is = is
quote_put V15_0 (Some category.Mark) a class detail same is = is
quote_put V15_0 (Some category.Unassigned) a class detail same is = is
quote_put V15_0 (Some category.InitialQuote) a class detail same is = is
quote_put V15_0 (Some category.FinalQuote) a class detail same is = is
quote_put V15_0 (Some category.Other) a class detail same is = is
quote_put V17_0 None a class detail same is = is
quote_put V17_0 (Some category.Mark) a class detail same is = is
quote_put V17_0 (Some category.Unassigned) a class detail same is = is
quote_put V17_0 (Some category.InitialQuote) a class detail same is = rw (same, is) refl
quote_put V17_0 (Some category.FinalQuote) a class detail same is = rw (same, is) refl
quote_put V17_0 (Some category.Other) a class detail same is = is

wide_put : (o : Option Width) (a : PropertyAnswers) → a.is_wide ≡ false → (put_by put_width o a).is_wide ≡ is_wide_by o
wide_put None a is = is
wide_put (Some width.Wide) a is = refl
wide_put (Some width.Other) a is = is

pictograph_put : (o : Option Pictograph) (a : PropertyAnswers) → a.is_future_pictograph ≡ false → (put_by put_pictograph o a).is_future_pictograph ≡ is_some o
pictograph_put None a is = is
pictograph_put (Some v) a is = refl

mark_put : (version : Version) (o : Option Category) (a : PropertyAnswers) → a.is_mark ≡ false → (put_by (put_category version) o a).is_mark ≡ is_mark_by (unwrap_or o category.Unassigned)
mark_put version None a is = is
mark_put version (Some category.Mark) a is = refl
mark_put version (Some category.Unassigned) a is = is
mark_put version (Some category.InitialQuote) a is = is
mark_put version (Some category.FinalQuote) a is = is
mark_put version (Some category.Other) a is = is

future_put : (version : Version) (o : Option Category) (a : PropertyAnswers) (b : Bool) → a.is_future_pictograph ≡ b
    → (put_by (put_category version) o a).is_future_pictograph ≡ (b && is_unassigned_by (unwrap_or o category.Unassigned))
future_put version None a true is = is
future_put version None a false is = is
future_put version (Some category.Mark) a true is = refl
future_put version (Some category.Mark) a false is = refl
future_put version (Some category.Unassigned) a true is = is
future_put version (Some category.Unassigned) a false is = is
future_put version (Some category.InitialQuote) a true is = refl
future_put version (Some category.InitialQuote) a false is = refl
future_put version (Some category.FinalQuote) a true is = refl
future_put version (Some category.FinalQuote) a false is = refl
future_put version (Some category.Other) a true is = refl
future_put version (Some category.Other) a false is = refl

-- no category is both a mark and unassigned
apart_by : (category : Category) (b : Bool) → (is_mark_by category && (b && is_unassigned_by category)) ≡ false
apart_by category.Mark true = refl
apart_by category.Mark false = refl
apart_by category.Unassigned b = refl
apart_by category.InitialQuote b = refl
apart_by category.FinalQuote b = refl
apart_by category.Other b = refl

module _ (k : Layers) (c : ℕ) where
  -- the properties before each layer
  abbrev s1 : PropertyAnswers
  s1 = put_by put_bidi_class (value_at k.default_classes c) unnamed

  abbrev s2 : PropertyAnswers
  s2 = put_by put_bidi_class (value_at k.bidi_classes c) s1

  abbrev s3 : PropertyAnswers
  s3 = put_by put_bracket (value_at k.brackets c) s2

  abbrev s4 : PropertyAnswers
  s4 = put_by put_mirror (value_at k.mirrors c) s3

  abbrev s5 : PropertyAnswers
  s5 = put_by (put_line_class k.version) (value_at k.line_classes c) s4

  abbrev s6 : PropertyAnswers
  s6 = put_by put_circle (value_at k.circles c) s5

  abbrev s7 : PropertyAnswers
  s7 = put_by put_width (value_at k.widths c) s6

  abbrev s8 : PropertyAnswers
  s8 = put_by put_pictograph (value_at k.pictographs c) s7

  pub said_class : (said k c).bidi_class ≡ unwrap_or (value_at k.bidi_classes c) (unwrap_or (value_at k.default_classes c) L)
  said_class =
      kept (put_category k.version) (λ a. a.bidi_class) (category_keeps_bidi k.version) (value_at k.categories c) s8
      ∙ kept put_pictograph (λ a. a.bidi_class) (λ v a. refl) (value_at k.pictographs c) s7
      ∙ kept put_width (λ a. a.bidi_class) width_keeps_bidi (value_at k.widths c) s6
      ∙ kept put_circle (λ a. a.bidi_class) (λ v a. refl) (value_at k.circles c) s5
      ∙ kept (put_line_class k.version) (λ a. a.bidi_class) (λ v a. refl) (value_at k.line_classes c) s4
      ∙ kept put_mirror (λ a. a.bidi_class) (λ v a. refl) (value_at k.mirrors c) s3
      ∙ kept put_bracket (λ a. a.bidi_class) (λ v a. refl) (value_at k.brackets c) s2
      ∙ class_put (value_at k.bidi_classes c) s1 (unwrap_or (value_at k.default_classes c) L) (class_put (value_at k.default_classes c) unnamed L refl)

  pub said_bracket : (said k c).has_bracket ≡ is_some (value_at k.brackets c)
  said_bracket =
      kept (put_category k.version) (λ a. a.has_bracket) (category_keeps_bracket k.version) (value_at k.categories c) s8
      ∙ kept put_pictograph (λ a. a.has_bracket) (λ v a. refl) (value_at k.pictographs c) s7
      ∙ kept put_width (λ a. a.has_bracket) width_keeps_bracket (value_at k.widths c) s6
      ∙ kept put_circle (λ a. a.has_bracket) (λ v a. refl) (value_at k.circles c) s5
      ∙ kept (put_line_class k.version) (λ a. a.has_bracket) (λ v a. refl) (value_at k.line_classes c) s4
      ∙ kept put_mirror (λ a. a.has_bracket) (λ v a. refl) (value_at k.mirrors c) s3
      ∙ bracket_put (value_at k.brackets c) s2 (kept put_bidi_class (λ a. a.has_bracket) (λ v a. refl) (value_at k.bidi_classes c) s1
      ∙ kept put_bidi_class (λ a. a.has_bracket) (λ v a. refl) (value_at k.default_classes c) unnamed)

  pub said_mirror : (said k c).has_mirror ≡ is_some (value_at k.mirrors c)
  said_mirror =
      kept (put_category k.version) (λ a. a.has_mirror) (category_keeps_mirror k.version) (value_at k.categories c) s8
      ∙ kept put_pictograph (λ a. a.has_mirror) (λ v a. refl) (value_at k.pictographs c) s7
      ∙ kept put_width (λ a. a.has_mirror) width_keeps_mirror (value_at k.widths c) s6
      ∙ kept put_circle (λ a. a.has_mirror) (λ v a. refl) (value_at k.circles c) s5
      ∙ kept (put_line_class k.version) (λ a. a.has_mirror) (λ v a. refl) (value_at k.line_classes c) s4
      ∙ mirror_put (value_at k.mirrors c) s3 (kept put_bracket (λ a. a.has_mirror) (λ v a. refl) (value_at k.brackets c) s2
      ∙ kept put_bidi_class (λ a. a.has_mirror) (λ v a. refl) (value_at k.bidi_classes c) s1
      ∙ kept put_bidi_class (λ a. a.has_mirror) (λ v a. refl) (value_at k.default_classes c) unnamed)

  line_5 : s5.line_class ≡ line_class_in k.version (unwrap_or (value_at k.line_classes c) XX)
  line_5 =
      line_class_put k.version (value_at k.line_classes c) s4 (kept put_mirror (λ a. a.line_class) (λ v a. refl) (value_at k.mirrors c) s3
      ∙ kept put_bracket (λ a. a.line_class) (λ v a. refl) (value_at k.brackets c) s2
      ∙ kept put_bidi_class (λ a. a.line_class) (λ v a. refl) (value_at k.bidi_classes c) s1
      ∙ kept put_bidi_class (λ a. a.line_class) (λ v a. refl) (value_at k.default_classes c) unnamed)

  line_8 : s8.line_class ≡ line_class_in k.version (unwrap_or (value_at k.line_classes c) XX)
  line_8 =
      kept put_pictograph (λ a. a.line_class) (λ v a. refl) (value_at k.pictographs c) s7
      ∙ kept put_width (λ a. a.line_class) width_keeps_line (value_at k.widths c) s6
      ∙ kept put_circle (λ a. a.line_class) (λ v a. refl) (value_at k.circles c) s5
      ∙ line_5

  pub said_line_class : (said k c).line_class ≡ line_class_in k.version (unwrap_or (value_at k.line_classes c) XX)
  said_line_class =
      kept (put_category k.version) (λ a. a.line_class) (category_keeps_line k.version) (value_at k.categories c) s8
      ∙ line_8

  detail_5 : s5.line_detail ≡ Plain
  detail_5 =
      plain_put k.version (value_at k.line_classes c) s4 (kept put_mirror (λ a. a.line_detail) (λ v a. refl) (value_at k.mirrors c) s3
      ∙ kept put_bracket (λ a. a.line_detail) (λ v a. refl) (value_at k.brackets c) s2
      ∙ kept put_bidi_class (λ a. a.line_detail) (λ v a. refl) (value_at k.bidi_classes c) s1
      ∙ kept put_bidi_class (λ a. a.line_detail) (λ v a. refl) (value_at k.default_classes c) unnamed)

  detail_8 : s8.line_detail ≡ (if is_some (value_at k.circles c) then circle_by (line_class_in k.version (unwrap_or (value_at k.line_classes c) XX)) Plain else Plain)
  detail_8 =
      kept put_pictograph (λ a. a.line_detail) (λ v a. refl) (value_at k.pictographs c) s7
      ∙ kept put_width (λ a. a.line_detail) width_keeps_detail (value_at k.widths c) s6
      ∙ circle_put (value_at k.circles c) s5 (line_class_in k.version (unwrap_or (value_at k.line_classes c) XX)) line_5 detail_5

  said_quote : (said k c).line_detail
      ≡ quote_in k.version (unwrap_or (value_at k.categories c) category.Unassigned) (line_class_in k.version (unwrap_or (value_at k.line_classes c) XX))
      (if is_some (value_at k.circles c) then circle_by (line_class_in k.version (unwrap_or (value_at k.line_classes c) XX)) Plain else Plain)
  said_quote = quote_put k.version (value_at k.categories c) s8 _ _ line_8 detail_8

  pub said_wide : (said k c).is_wide ≡ is_wide_by (value_at k.widths c)
  said_wide =
      kept (put_category k.version) (λ a. a.is_wide) (category_keeps_wide k.version) (value_at k.categories c) s8
      ∙ kept put_pictograph (λ a. a.is_wide) (λ v a. refl) (value_at k.pictographs c) s7
      ∙ wide_put (value_at k.widths c) s6 (kept put_circle (λ a. a.is_wide) (λ v a. refl) (value_at k.circles c) s5
      ∙ kept (put_line_class k.version) (λ a. a.is_wide) (λ v a. refl) (value_at k.line_classes c) s4
      ∙ kept put_mirror (λ a. a.is_wide) (λ v a. refl) (value_at k.mirrors c) s3
      ∙ kept put_bracket (λ a. a.is_wide) (λ v a. refl) (value_at k.brackets c) s2
      ∙ kept put_bidi_class (λ a. a.is_wide) (λ v a. refl) (value_at k.bidi_classes c) s1
      ∙ kept put_bidi_class (λ a. a.is_wide) (λ v a. refl) (value_at k.default_classes c) unnamed)

  pub said_mark : (said k c).is_mark ≡ is_mark_by (unwrap_or (value_at k.categories c) category.Unassigned)
  said_mark =
      mark_put k.version (value_at k.categories c) s8 (kept put_pictograph (λ a. a.is_mark) (λ v a. refl) (value_at k.pictographs c) s7
      ∙ kept put_width (λ a. a.is_mark) width_keeps_mark (value_at k.widths c) s6
      ∙ kept put_circle (λ a. a.is_mark) (λ v a. refl) (value_at k.circles c) s5
      ∙ kept (put_line_class k.version) (λ a. a.is_mark) (λ v a. refl) (value_at k.line_classes c) s4
      ∙ kept put_mirror (λ a. a.is_mark) (λ v a. refl) (value_at k.mirrors c) s3
      ∙ kept put_bracket (λ a. a.is_mark) (λ v a. refl) (value_at k.brackets c) s2
      ∙ kept put_bidi_class (λ a. a.is_mark) (λ v a. refl) (value_at k.bidi_classes c) s1
      ∙ kept put_bidi_class (λ a. a.is_mark) (λ v a. refl) (value_at k.default_classes c) unnamed)

  pub said_future : (said k c).is_future_pictograph ≡ (is_some (value_at k.pictographs c) && is_unassigned_by (unwrap_or (value_at k.categories c) category.Unassigned))
  said_future =
      future_put k.version (value_at k.categories c) s8 (is_some (value_at k.pictographs c)) (pictograph_put (value_at k.pictographs c) s7 (kept put_width (λ a. a.is_future_pictograph) width_keeps_future (value_at k.widths c) s6
      ∙ kept put_circle (λ a. a.is_future_pictograph) (λ v a. refl) (value_at k.circles c) s5
      ∙ kept (put_line_class k.version) (λ a. a.is_future_pictograph) (λ v a. refl) (value_at k.line_classes c) s4
      ∙ kept put_mirror (λ a. a.is_future_pictograph) (λ v a. refl) (value_at k.mirrors c) s3
      ∙ kept put_bracket (λ a. a.is_future_pictograph) (λ v a. refl) (value_at k.brackets c) s2
      ∙ kept put_bidi_class (λ a. a.is_future_pictograph) (λ v a. refl) (value_at k.bidi_classes c) s1
      ∙ kept put_bidi_class (λ a. a.is_future_pictograph) (λ v a. refl) (value_at k.default_classes c) unnamed))

  pub said_apart : ((said k c).is_mark && (said k c).is_future_pictograph) ≡ false
  said_apart = rw (said_mark, said_future) (apart_by (unwrap_or (value_at k.categories c) category.Unassigned) (is_some (value_at k.pictographs c)))

-- only U+25CC is marked as a dotted circle
circle_at : (c : ℕ) → is_some (value_at (circle_entries V17_0) c) ≡ (c == 0x25CC)
circle_at c = grind (arith, nat_tests)

detail_in : (version : Version) (category : Category) (class : LineClass) (c : ℕ)
    → quote_in version category (line_class_in version class) (if is_some (value_at (circle_entries version) c) then circle_by (line_class_in version class) Plain else Plain)
    ≡ detail_by version category (line_class_in version class) c
detail_in V15_0 category class c = refl
detail_in V17_0 category class c = ap (λ is. quote_by category class (if is then circle_by class Plain else Plain)) (circle_at c)

pub said_detail : (k : Layers) (c : ℕ) → k.circles ≡ circle_entries k.version
    → (said k c).line_detail ≡ detail_by k.version (unwrap_or (value_at k.categories c) category.Unassigned) (line_class_in k.version (unwrap_or (value_at k.line_classes c) XX)) c
said_detail k c circles = said_quote k c ∙ ap (λ es. quote_in k.version (unwrap_or (value_at k.categories c) category.Unassigned) (line_class_in k.version (unwrap_or (value_at k.line_classes c) XX))
    (if is_some (value_at es c) then circle_by (line_class_in k.version (unwrap_or (value_at k.line_classes c) XX)) Plain else Plain)) circles
    ∙ detail_in k.version (unwrap_or (value_at k.categories c) category.Unassigned) (unwrap_or (value_at k.line_classes c) XX) c

-- the line-breaking number of the class and the detail exists in the version
circle_below : (class : LineClass) → circle_number class < 56
circle_below BK = omega arith
circle_below class = omega arith

number_below : (class : LineClass) (detail : LineDetail) → line_number class detail < 56
number_below class Plain = omega (arith, line_tag_below class)
number_below class Initial = omega arith
number_below class Final = omega arith
number_below class DottedCircle = circle_below class

tag_below : (class : LineClass) → line_tag (line_class_in V15_0 class) < 43
tag_below class = grind (arith, nat_tests)

number_in : (version : Version) (category : Category) (class : LineClass) (c : ℕ)
    → line_number (line_class_in version class) (detail_by version category (line_class_in version class) c) < number_count version
number_in V15_0 category class c = tag_below class
number_in V17_0 category class c = number_below class (detail_by V17_0 category class c)

pub said_entry : (k : Layers) (c : ℕ) → k.circles ≡ circle_entries k.version → IsEntryOf k.version (said k c)
said_entry k c circles = record {
  apart = said_apart k c;
  number = rw (said_line_class k c, said_detail k c circles) (number_in k.version (unwrap_or (value_at k.categories c) category.Unassigned) (unwrap_or (value_at k.line_classes c) XX) c);
}
