-- The properties that paged tables return for each code point, and the contents that they model.
use Rattle.std.proofs.Common.{◌≡◌, ℕ, zero, suc, ◌<◌, ◌≤◌, ◌+◌, ◌&&◌, Bool, true, false, List, [], ◌∷◌, ◌++◌, Option, Some, None, is_some, unwrap_or, length, map, take, set, get_or, refl, sym, ◌∙◌, ap, inl, inr, arith, if◌then◌else◌}
use Rattle.std.specs.Char.{IsScalar}
use Rattle.std.specs.BTreeMap.{BTreeMap, get}
use Rattle.std.specs.Ordering.{nat_cmp}
use Rattle.std.proofs.lemmas.Bool.{cases_lt}
use Rattle.std.proofs.lemmas.List.{map-append, take_more, take_more_set}
use Rattle.std.proofs.lemmas.Bool.Decides.{nat_tests}
use Rattle.ucd.specs.Answers.{PropertyAnswers}
use Rattle.ucd.specs.Entries.{value_at}
use Rattle.ucd.specs.Pages.{answers_at, single, singles, category_in, width_in, pictograph_in}
use Rattle.ucd.specs.Paged.{contents_in, AreSound}
use Rattle.ucd.specs.Properties.{properties_of}
use Rattle.ucd.specs.Tables.{mirror_by, is_wide_by, is_mark_by, is_unassigned_by, category_of, class_of, bracket_of, mirror_of, line_class_of, line_detail_of, is_wide_in, is_mark_in, is_future_pictograph_in}
use Rattle.ucd.specs.declared.bracket.Bracket.{Bracket}
use Rattle.ucd.specs.declared.bracket.Mirror.{Mirror}
use Rattle.ucd.specs.declared.category.Category.TheVariants as category
use Rattle.ucd.specs.declared.emoji.Pictograph.{Pictograph}
use Rattle.ucd.specs.declared.version.Version.{Version}
use Rattle.ucd.specs.declared.width.Width.TheVariants as width
use Rattle.ucd.specs.declared.grammar.Entry.{Entry}
use Rattle.ucd.specs.declared.tables.Tables.{Tables}

module _ {V : Type 0} where
  -- In a concatenation, a code point has its value in the first list, or else its value in the second list.
  -- In `single c`, only `c` can have a value.
  value_append_some : (xs ys : List (Entry V)) (c : ℕ) (v : V) → value_at xs c ≡ Some v → value_at (xs ++ ys) c ≡ Some v
  value_append_some [] ys c v is = cc
  value_append_some (x ∷ xs) ys c v is = grind (arith, nat_tests, value_append_some xs ys c v)

  value_append_none : (xs ys : List (Entry V)) (c : ℕ) → value_at xs c ≡ None → value_at (xs ++ ys) c ≡ value_at ys c
  value_append_none [] ys c is = refl
  value_append_none (x ∷ xs) ys c is = grind (arith, nat_tests, value_append_none xs ys c)

  value_single : (c : ℕ) (o : Option V) → value_at (single c o) c ≡ o
  value_single c None = refl
  value_single c (Some v) = grind (arith, nat_tests)

  value_other : (n c : ℕ) (o : Option V) → n < c → value_at (single n o) c ≡ None
  value_other n c None lt = refl
  value_other n c (Some v) lt = grind (arith, nat_tests)

  value_elsewhere : (n c : ℕ) (o : Option V) → c < n → value_at (single n o) c ≡ None
  value_elsewhere n c None lt = refl
  value_elsewhere n c (Some v) lt = grind (arith, nat_tests)

  value_above : (f : ℕ → Option V) (n c : ℕ) → n ≤ c → value_at (singles f n) c ≡ None
  unfolding singles
  value_above f zero c le = refl
  value_above f (suc n) c le = value_append_none (singles f n) (single n (f n)) c (value_above f n c (omega arith)) ∙ value_other n c (f n) (omega arith)

  kept : (xs ys : List (Entry V)) (c : ℕ) (o : Option V) → value_at xs c ≡ o → (o ≡ None → value_at ys c ≡ None) → value_at (xs ++ ys) c ≡ o
  kept xs ys c None is other = value_append_none xs ys c is ∙ other refl
  kept xs ys c (Some v) is other = value_append_some xs ys c v is

  -- for a code point c below n, the value in `singles f n` is `f c`
  pub value_singles : (f : ℕ → Option V) (n c : ℕ) → c < n → value_at (singles f n) c ≡ f c
  unfolding singles
  value_singles f zero c lt = absurd (omega arith)
  value_singles f (suc n) c lt = elim (cases_lt c n) [
    | inl below ↦ kept (singles f n) (single n (f n)) c (f c) (value_singles f n c below) (λ _. value_elsewhere n c (f n) below)
    | inr from ↦ let here : n ≡ c = omega arith in
        value_append_none (singles f n) (single n (f n)) c (value_above f n c (omega arith)) ∙ rw here (value_single c (f c))
  ]

-- a scalar value is below 0x110000
pub below_limit : (c : ℕ) → IsScalar c → c < 1114112
below_limit c is = grind (arith, nat_tests, is)

-- the general category computed from the flags is a mark if and only if the mark flag is set
mark_by : (mark future : Bool) → (mark && future) ≡ false → is_mark_by (if future then category.Unassigned else (if mark then category.Mark else category.Other)) ≡ mark
mark_by true true apart = cc
mark_by true false apart = refl
mark_by false true apart = refl
mark_by false false apart = refl

-- a character is a future pictograph if and only if its flag for this is set, and the same holds for wide characters
abbrev pictograph_if : Bool → Option Pictograph
pictograph_if future = if future then Some (record {}) else None

future_by : (mark future : Bool) →
    (is_some (pictograph_if future) && is_unassigned_by (if future then category.Unassigned else (if mark then category.Mark else category.Other))) ≡ future
future_by mark true = refl
future_by true false = refl
future_by false false = refl

wide_by : (wide : Bool) → is_wide_by (Some (if wide then width.Wide else width.Other)) ≡ wide
wide_by true = refl
wide_by false = refl

pub none_there : {V : Type 0} (o : Option V) → is_some o ≡ false → o ≡ None
none_there None is = refl
none_there (Some v) is = cc

some_mirror : (m : Option Mirror) → is_some (mirror_by m) ≡ is_some m
some_mirror None = refl
some_mirror (Some m) = refl

module _ (version : Version) (index : List ℕ) (entries : List PropertyAnswers) (brackets : BTreeMap ℕ Bracket) (mirrors : BTreeMap ℕ Mirror) (c : ℕ) (lt : c < 1114112) where
  abbrev tables : Tables
  tables = contents_in version index entries brackets mirrors

  abbrev answers : PropertyAnswers
  answers = answers_at index entries c

  pub class_is : class_of tables c ≡ answers.bidi_class
  unfolding class_of
  class_is = rw (value_singles (λ k. Some (answers_at index entries k).bidi_class) 1114112 c lt) refl

  pub bracket_is : bracket_of tables c ≡ get nat_cmp brackets c
  unfolding bracket_of
  bracket_is = value_singles (get nat_cmp brackets) 1114112 c lt

  pub mirror_is : mirror_of tables c ≡ mirror_by (get nat_cmp mirrors c)
  unfolding mirror_of
  mirror_is = ap mirror_by (value_singles (get nat_cmp mirrors) 1114112 c lt)

  pub line_class_is : line_class_of tables c ≡ answers.line_class
  unfolding line_class_of
  line_class_is = rw (value_singles (λ k. Some (answers_at index entries k).line_class) 1114112 c lt) refl

  pub line_detail_is : line_detail_of tables c ≡ answers.line_detail
  unfolding line_detail_of
  line_detail_is = rw (value_singles (λ k. Some (answers_at index entries k).line_detail) 1114112 c lt) refl

  pub wide_is : is_wide_in tables c ≡ answers.is_wide
  unfolding is_wide_in
  wide_is = ap is_wide_by (value_singles (λ k. Some (width_in (answers_at index entries k))) 1114112 c lt) ∙ wide_by answers.is_wide

  category_is : category_of tables c ≡ category_in answers
  category_is = ap (λ o. unwrap_or o category.Unassigned) (value_singles (λ k. Some (category_in (answers_at index entries k))) 1114112 c lt)

  pub mark_is : (answers.is_mark && answers.is_future_pictograph) ≡ false → is_mark_in tables c ≡ answers.is_mark
  unfolding is_mark_in
  mark_is apart = ap is_mark_by category_is ∙ mark_by answers.is_mark answers.is_future_pictograph apart

  pub future_is : is_future_pictograph_in tables c ≡ answers.is_future_pictograph
  unfolding is_future_pictograph_in
  future_is =
      let pictograph = value_singles (λ k. pictograph_in (answers_at index entries k)) 1114112 c lt in
      rw (pictograph, category_is) (future_by answers.is_mark answers.is_future_pictograph)

  pub properties_are : AreSound version index entries brackets mirrors → answers ≡ properties_of tables c
  properties_are sound =
      let bracket : is_some (bracket_of tables c) ≡ answers.has_bracket = ap is_some bracket_is ∙ sym (sound.bracket c lt) in
      let mirror : is_some (mirror_of tables c) ≡ answers.has_mirror = ap is_some mirror_is ∙ some_mirror (get nat_cmp mirrors c) ∙ sym (sound.mirror c lt) in
      rw (class_is, line_class_is, line_detail_is, wide_is, mark_is ((sound.entry c lt).apart), future_is, bracket, mirror) refl

-- A loop has looked up `f` of the first k characters, and looks it up for one more.
pub looked_up_more : {T : Type 0} → (f : ℕ → T) (text : List ℕ) (found : List T) (k one : ℕ) (v : T) → k < length text → k < length found → v ≡ f (get_or text k one) → take k found ≡ map f (take k text) → take (k + 1) (set found k v) ≡ map f (take (k + 1) text)
looked_up_more {T} f text found k one v in_text in_found is before =
    take_more_set found k v in_found ∙ ap (λ (vs : List T). vs ++ v ∷ []) before
    ∙ ap (λ x. map f (take k text) ++ x ∷ []) is
    ∙ sym (ap (map f) (take_more text k one in_text) ∙ map-append f (take k text) (get_or text k one ∷ []))
