-- Tables in which only LF and CR end paragraphs.
use Rattle.std.proofs.Common.{◌≡◌, ◌≢◌, ℕ, zero, suc, ◌<◌, ◌&&◌, Bool, true, false, if◌then◌else◌, Option, Some, unwrap_or, refl, sym, ◌∙◌, ap, arith}
use Rattle.std.proofs.lemmas.Bool.Decides.{nat_tests}
use Rattle.ucd.specs.Answers.{PropertyAnswers}
use Rattle.ucd.specs.Classes.{is_separator}
use Rattle.ucd.specs.Contents.{TableContents}
use Rattle.ucd.specs.Defaults.{default_class}
use Rattle.ucd.specs.DistinctPages.{IsEntryOf}
use Rattle.ucd.specs.Entries.{value_at}
use Rattle.ucd.specs.LineSeparators.{is_rare_separator, class_for_lines, with_line_separators, contents_if, answers_for_lines, answers_if}
use Rattle.ucd.specs.LineTables.{SeparatesLines}
use Rattle.ucd.specs.Pages.{singles}
use Rattle.ucd.specs.Properties.{properties_of}
use Rattle.ucd.specs.Separators.{may_separate}
use Rattle.ucd.specs.Tables.{class_of, bracket_of, mirror_of, line_class_of, line_detail_of, is_wide_in, is_mark_in, is_future_pictograph_in}
use Rattle.ucd.specs.declared.bidi_class.BidiClass.{BidiClass}
use Rattle.ucd.specs.declared.bidi_class.BidiClass.TheVariants.{B, S}
use Rattle.ucd.specs.declared.tables.Tables.{Tables}
use Rattle.ucd.specs.declared.version.Version.{Version}
use Rattle.ucd.proofs.PagedLemmas.{value_singles}

-- if two functions agree below n, `singles` returns the same entries for both
singles_same : {V : Type 0} (f g : ℕ → Option V) (n : ℕ) → ((c : ℕ) → c < n → f c ≡ g c) → singles f n ≡ singles g n
unfolding singles
singles_same f g zero same = refl
singles_same f g (suc n) same = rw (singles_same f g n (λ c lt. same c (omega arith)), same n (omega arith)) refl

-- the class of a code point: S for a rare separator of class B, and otherwise unchanged
abbrev class_in : TableContents → ℕ → BidiClass
class_in t c = class_for_lines c (unwrap_or (value_at t.bidi_classes c) (default_class t.version c))

class_changed : (t : Tables) (c : ℕ) → c < 1114112 → class_of (with_line_separators t) c ≡ class_for_lines c (class_of t c)
unfolding class_of with_line_separators
class_changed t c lt = ap (λ o. unwrap_or o (default_class t.version c)) (value_singles (λ k. Some (class_in t k)) 1114112 c lt)

pub separates_lines : (t : Tables) → SeparatesLines t (with_line_separators t)
unfolding with_line_separators bracket_of mirror_of line_class_of line_detail_of is_wide_in is_mark_in is_future_pictograph_in
separates_lines t = record {
  version = refl;
  bidi_class = class_changed t;
  bracket = λ c. refl;
  mirror = λ c. refl;
  line_class = λ c. refl;
  line_detail = λ c. refl;
  is_wide = λ c. refl;
  is_mark = λ c. refl;
  is_future_pictograph = λ c. refl;
}

pub properties_changed : (t : Tables) (c : ℕ) → c < 1114112 → properties_of (with_line_separators t) c ≡ answers_for_lines c (properties_of t c)
properties_changed t c lt =
    let is = separates_lines t in
    rw (is.bidi_class c lt, is.bracket c, is.mirror c, is.line_class c, is.line_detail c, is.is_wide c, is.is_mark c, is.is_future_pictograph c) refl

pub properties_if : (separates : Bool) (t : Tables) (c : ℕ) → c < 1114112 → properties_of (contents_if separates t) c ≡ answers_if separates c (properties_of t c)
properties_if true t c lt = properties_changed t c lt
properties_if false t c lt = refl

pub bracket_if : (separates : Bool) (t : Tables) (c : ℕ) → bracket_of (contents_if separates t) c ≡ bracket_of t c
bracket_if true t c = (separates_lines t).bracket c
bracket_if false t c = refl

pub mirror_if : (separates : Bool) (t : Tables) (c : ℕ) → mirror_of (contents_if separates t) c ≡ mirror_of t c
mirror_if true t c = (separates_lines t).mirror c
mirror_if false t c = refl

pub version_if : (separates : Bool) (t : Tables) → (contents_if separates t).version ≡ t.version
version_if true t = (separates_lines t).version
version_if false t = refl

-- line breaking classes and details do not change
pub line_class_if : (separates : Bool) (t : Tables) (c : ℕ) → line_class_of (contents_if separates t) c ≡ line_class_of t c
line_class_if true t c = (separates_lines t).line_class c
line_class_if false t c = refl

pub line_detail_if : (separates : Bool) (t : Tables) (c : ℕ) → line_detail_of (contents_if separates t) c ≡ line_detail_of t c
line_detail_if true t c = (separates_lines t).line_detail c
line_detail_if false t c = refl

-- a class other than B is not a separator
pub no_separator : (class : BidiClass) → class ≢ B → is_separator class ≡ false
no_separator B other = absurd (other refl)
no_separator class other = refl

-- changing a class twice has the same effect as changing it once
again_by : (rare : Bool) (class : BidiClass) → (if rare && is_separator (if rare && is_separator class then S else class) then S else (if rare && is_separator class then S else class)) ≡ (if rare && is_separator class then S else class)
again_by false class = refl
again_by true B = refl
again_by true class = refl

class_again : (c : ℕ) (class : BidiClass) → class_for_lines c (class_for_lines c class) ≡ class_for_lines c class
class_again c class = again_by (is_rare_separator c) class

-- changing tables twice has the same effect as changing them once
changed_again : (t : Tables) → with_line_separators (with_line_separators t) ≡ with_line_separators t
unfolding with_line_separators class_of
changed_again t = ap (λ list. record t { bidi_classes = list })
    (singles_same (λ c. Some (class_in (with_line_separators t) c)) (λ c. Some (class_in t c)) 1114112
    (λ c lt. ap Some (ap (class_for_lines c) (class_changed t c lt) ∙ class_again c (class_of t c))))

pub changed_if : (separates : Bool) (t : Tables) → with_line_separators t ≡ with_line_separators (contents_if separates t)
changed_if true t = sym (changed_again t)
changed_if false t = refl

-- no class becomes B, and the class of a code point that is not a usual separator is unchanged
stays_no_b : (rare : Bool) (class : BidiClass) → class ≢ B → (if rare && is_separator class then S else class) ≢ B
stays_no_b false class other is = other is
stays_no_b true class other is = elim (is_separator class) as (λ b. (if b then S else class) ≡ B → ⊥) [ true ↦ (λ same. cc) | false ↦ other ] is

stays_b : (c : ℕ) (class : BidiClass) → may_separate c ≡ false → class_for_lines c class ≡ class
stays_b c class isnt = let other : is_rare_separator c ≡ false = grind (arith, nat_tests) in rw other refl

pub usual_if : (separates : Bool) (t : Tables) (c : ℕ) → c < 1114112 → class_of t c ≢ B → class_of (contents_if separates t) c ≢ B
usual_if false t c lt other is = other is
usual_if true t c lt other is = stays_no_b (is_rare_separator c) (class_of t c) other (sym (class_changed t c lt) ∙ is)

pub unusual_if : (separates : Bool) (t : Tables) (c : ℕ) → c < 1114112 → may_separate c ≡ false → class_of (contents_if separates t) c ≢ B → class_of t c ≢ B
unusual_if false t c lt isnt other is = other is
unusual_if true t c lt isnt other is = other (class_changed t c lt ∙ stays_b c (class_of t c) isnt ∙ is)

-- if an image can contain the original properties, an image can contain the changed properties
pub entry_if : (separates : Bool) (version : Version) (c : ℕ) (a : PropertyAnswers) → IsEntryOf version a → IsEntryOf version (answers_if separates c a)
entry_if false version c a is = is
entry_if true version c a is = record { apart = is.apart; number = is.number }

-- the changed properties have the same flags
pub bracket_flag_if : (separates : Bool) (c : ℕ) (a : PropertyAnswers) → (answers_if separates c a).has_bracket ≡ a.has_bracket
bracket_flag_if true c a = refl
bracket_flag_if false c a = refl

pub mirror_flag_if : (separates : Bool) (c : ℕ) (a : PropertyAnswers) → (answers_if separates c a).has_mirror ≡ a.has_mirror
mirror_flag_if true c a = refl
mirror_flag_if false c a = refl
