-- Positions of a text, and numbers of UTF-8 bytes or UTF-16 code units before them.
use Rattle.std.proofs.Common.{◌≡◌, ℕ, ◌+◌, ◌-◌, ◌<◌, ◌≤◌, nat_le, nat_lt, Bool, true, false, if◌then◌else◌, List, [], ◌∷◌, ◌++◌, length, take, drop, get_or, sum_by, encode_utf8, encode_utf8_all, Option, Some, None, is_none, unwrap_or, inl, inr, zero, suc, add-one, refl, sym, ap, ap₂, ◌∙◌, arith, append_assoc, length-append, cond}
use Rattle.std.specs.Char.{len_utf8}
use Rattle.std.specs.Str.{chars, IsUtf8}
use Rattle.std.specs.List.{slice_get, slice_range}
use Rattle.std.specs.Option.{option_map}
use Rattle.std.proofs.lemmas.Bool.{cases_Bool, cases_lt, cond-true, cond-false, le-ltb, lt-ltb, le-leb, lt-leb}
use Rattle.std.proofs.lemmas.List.{get_or_default, length-drop, length-take, length-take-le, take-append-le}
use Rattle.std.proofs.lemmas.List.Sums.{sum_by-append, sum_by-cons, sum_by-take-drop, sum_by-take-le}
use Rattle.std.proofs.Math.Seq.{take-add, take-append_seam, take-append-add, take-length}
use Rattle.std.proofs.lemmas.Str.{encodes-chars, length-encode, len_utf8_ascii, len_utf8_bounds}
use Rattle.bidi.specs.Brackets.{greatest}
use Rattle.bidi.proofs.PairLemmas.{greatest_here}
use Rattle.lines.proofs.FillingLemmas.{greatest_skips}
use Rattle.lines.specs.Layouts.{Layout}
use Rattle.session.specs.Kept.{text_of}
use Rattle.session.specs.Offsets.{length_in, offset_of, position_of, before_in, size_in, units_of, IsUnitAt}
use Rattle.session.specs.declared.offsets.Encoding.{Encoding}
use Rattle.session.specs.declared.offsets.Encoding.TheVariants.{Utf8, Utf16}
use Rattle.session.specs.Reading.{utf8_part}
use Rattle.store.specs.Finding.{CountsBefore, Finds}
use Rattle.store.specs.declared.found.Found.{Found}
use Rattle.store.proofs.ListLemmas.{at_place, take_far}
use Rattle.session.proofs.BorderLemmas.{chars_of, lines_of, front_is, item_read, length-text, sum_whole}
use Rattle.session.proofs.PlaceLemmas.{text_append}
use Rattle.session.proofs.ReadingLemmas.{same_none}

-- if 0 passes a test, there is a greatest number that passes
greatest_some : (test : ℕ → Bool) (n : ℕ) → test 0 ≡ true → is_none (greatest test (suc n)) ≡ false
greatest_some test zero e = ap is_none (cond-true (test 0) (Some 0) None e)
greatest_some test (suc n) e = elim (cases_Bool (test (suc n))) [
  | inl passed ↦ ap is_none (cond-true (test (suc n)) (Some (suc n)) (greatest test (suc n)) passed)
  | inr failed ↦ ap is_none (cond-false (test (suc n)) (Some (suc n)) (greatest test (suc n)) failed) ∙ greatest_some test n e
]

none_unless : {A : Type 0} (b : Bool) (o : Option A) → is_none o ≡ false → is_none (if b then None else o) ≡ b
none_unless true o h = refl
none_unless false o h = h

-- a character has at least one unit
pub some_in_each : (encoding : Encoding) (c : ℕ) → 0 < size_in encoding c
some_in_each Utf8 c = omega (arith, (len_utf8_bounds c).0)
some_in_each Utf16 c = elim (nat_lt c 0x1_0000) as (λ b. 0 < (if b then 1 else 2)) [ true ↦ omega arith | false ↦ omega arith ]

module _ (encoding : Encoding) where
  least_length : (text : List ℕ) → length text ≤ length_in encoding text
  least_length [] = omega arith
  least_length (c ∷ cs) = omega (arith, sum_by-cons (size_in encoding) c cs, some_in_each encoding c, least_length cs)

  -- if the number of units of a text is its number of characters, the same holds for each prefix
  pub same_front : (text : List ℕ) (count : ℕ) → length_in encoding text ≡ length text → count ≤ length text → length_in encoding (take count text) ≡ count
  same_front text count same within =
      omega (
        arith,
        same,
        within,
        sum_by-take-drop (size_in encoding) text count,
        least_length (take count text),
        least_length (drop count text),
        length-take count text,
        length-drop count text,
      )

  pub unit_of_same : (text : List ℕ) (offset : ℕ) → length_in encoding text ≡ length text → offset < length_in encoding text → IsUnitAt encoding text offset offset 0
  unit_of_same text offset same within =
      let c = get_or text offset 0 in
      let below : offset < length text = omega (arith, same, within) in
      record {
        before = take offset text;
        char = c;
        after = drop (offset + 1) text;
        place = at_place text offset c below (get_or_default text offset 0 c below);
        pos_is = sym (length-take-le offset text (omega arith));
        rest_is = omega (arith, same_front text offset same (omega arith));
        within = some_in_each encoding c;
      }

  -- the number of units of a text is the sum over its paragraphs
  pub length-units : (kept : List Layout) → length_in encoding (text_of kept) ≡ sum_by (units_of encoding) kept
  length-units [] = refl
  length-units (l ∷ kept) =
      sum_by-append (size_in encoding) l.text (text_of kept) ∙ ap (λ (n : ℕ). length_in encoding l.text + n) (length-units kept)
      ∙ sym (sum_by-cons (units_of encoding) l kept)

  pub offset_past : (text : List ℕ) (pos : ℕ) → length text < pos → offset_of encoding text pos ≡ None
  offset_past text pos past = cond-true (nat_lt (length text) pos) None _ (lt-ltb (length text) pos past)

  pub offset_within : (text : List ℕ) (pos : ℕ) → pos ≤ length text → offset_of encoding text pos ≡ Some (length_in encoding (take pos text))
  offset_within text pos within = cond-false (nat_lt (length text) pos) None _ (le-ltb (length text) pos within)

  pub position_past : (text : List ℕ) (offset : ℕ) → length_in encoding text < offset → position_of encoding text offset ≡ None
  position_past text offset past = cond-true (nat_lt (length_in encoding text) offset) None _ (lt-ltb (length_in encoding text) offset past)

  -- `pos` is the last position with at most `offset` units before it
  module _ (text : List ℕ) (offset pos rest : ℕ) (sum : length_in encoding (take pos text) + rest ≡ offset) (inside : pos ≤ length text)
      (later : (j : ℕ) → pos + 1 ≤ j → j < length text + 1 → offset < length_in encoding (take j text)) where
    abbrev fits : ℕ → Bool
    fits j = nat_le (length_in encoding (take j text)) offset

    pub position_found : offset ≤ length_in encoding text → position_of encoding text offset ≡ Some (pos, rest)
    position_found within =
        let skipped = greatest_skips fits (pos + 1) (length text + 1) (omega arith) (λ j from to. lt-leb (length_in encoding (take j text)) offset (later j from to)) in
        let here = greatest_here fits pos (pos + 1) refl (le-leb (length_in encoding (take pos text)) offset (omega arith)) in
        let left : offset - length_in encoding (take pos text) ≡ rest = omega arith in
        cond-false (nat_lt (length_in encoding text) offset) None _ (le-ltb (length_in encoding text) offset within)
        ∙ ap (option_map (λ p. (p, offset - length_in encoding (take p text)))) (skipped ∙ here)
        ∙ ap (λ n. Some (pos, n)) left

  -- the position of the offset at the end of the text is the length of the text
  pub position_end : (text : List ℕ) (offset : ℕ) → offset ≡ length_in encoding text → position_of encoding text offset ≡ Some (length text, 0)
  position_end text offset all =
      let whole : length_in encoding (take (length text) text) ≡ length_in encoding text = ap (length_in encoding) (take-length text) in
      position_found text offset (length text) 0 (omega (arith, whole, all)) (omega arith) (λ j from to. absurd (omega arith)) (omega (arith, all))

  -- the position of a unit is that of the character that contains it
  pub unit_position : (text : List ℕ) (offset pos rest : ℕ) → IsUnitAt encoding text offset pos rest → position_of encoding text offset ≡ Some (pos, rest)
  unit_position text offset pos rest u =
      let size = size_in encoding in
      let front : take pos text ≡ u.before =
      ap₂ (λ (n : ℕ) (cs : List ℕ). take n cs) u.pos_is u.place ∙ take-append_seam u.before (u.char ∷ u.after) in
      let sum : length_in encoding (take pos text) + rest ≡ offset = omega (arith, ap (length_in encoding) front, u.rest_is) in
      let inside : pos ≤ length text = omega (arith, u.pos_is, ap length u.place, length-append u.before (u.char ∷ u.after)) in
      position_found text offset pos rest sum inside
      (λ j from to.
      let far : length u.before < j = omega (arith, from, u.pos_is) in
      let more = ap (take j) u.place ∙ take_far u.before u.after u.char j far in
      let rest_of = take (j - length u.before - 1) u.after in
      omega (arith, ap (length_in encoding) more, sum_by-append size u.before (u.char ∷ rest_of), sum_by-cons size u.char rest_of, u.rest_is, u.within))
      (omega (arith, ap (length_in encoding) u.place, sum_by-append size u.before (u.char ∷ u.after), sum_by-cons size u.char u.after, u.rest_is, u.within))

  -- there is a position unless the offset is past the end
  pub none_position : (text : List ℕ) (offset : ℕ) → is_none (position_of encoding text offset) ≡ nat_lt (length_in encoding text) offset
  none_position text offset =
      let test = λ (pos : ℕ). nat_le (length_in encoding (take pos text)) offset in
      let last : is_none (greatest test (length text + 1)) ≡ false =
      rw (add-one) (greatest_some test (length text) (le-leb 0 offset (omega arith))) in
      none_unless (nat_lt (length_in encoding text) offset) _ (sym (same_none _ (greatest test (length text + 1))) ∙ last)

pub counts_before : (encoding : Encoding) (size : Layout → ℕ) (kept : List Layout) (n : ℕ) (found : Found) (f : Finds size chars_of lines_of kept n found)
    → CountsBefore (units_of Utf8) (units_of Utf16) kept found → before_in encoding found ≡ sum_by (units_of encoding) f.before
counts_before Utf8 size kept n found f counts = counts.bytes_before ∙ ap (sum_by (units_of Utf8)) (front_is size kept n found f)
counts_before Utf16 size kept n found f counts = counts.utf16_before ∙ ap (sum_by (units_of Utf16)) (front_is size kept n found f)

-- ---- the offset of a position, from the paragraph that the search finds
module _ (encoding : Encoding) (kept : List Layout) (pos : ℕ) (found : Found) (f : Finds chars_of chars_of lines_of kept pos found) (l : Layout)
    (read : Some l ≡ slice_get kept found.index) (counts : CountsBefore (units_of Utf8) (units_of Utf16) kept found) where
  pub front_within : found.rest ≤ length l.text
  front_within = omega (arith, f.within, ap chars_of (item_read chars_of kept pos found f l read))

  pub offset_fits : before_in encoding found + length_in encoding (take found.rest l.text) ≤ sum_by (units_of encoding) kept
  offset_fits =
      omega (
        arith,
        counts_before encoding chars_of kept pos found f counts,
        ap (units_of encoding) (item_read chars_of kept pos found f l read),
        sum_by-take-le (size_in encoding) l.text found.rest,
        sum_whole chars_of kept pos found f (units_of encoding),
      )

  pub offset_read : offset_of encoding (text_of kept) pos ≡ Some (before_in encoding found + length_in encoding (take found.rest l.text))
  offset_read =
      let item : l ≡ f.item = item_read chars_of kept pos found f l read in
      let place : length (text_of f.before) + found.rest ≡ pos = omega (arith, f.rest, length-text f.before) in
      let whole : text_of kept ≡ text_of f.before ++ (f.item.text ++ text_of f.after) = ap text_of f.place ∙ text_append f.before (f.item ∷ f.after) in
      let sizes = ap length whole ∙ length-append (text_of f.before) (f.item.text ++ text_of f.after) in
      let within : pos ≤ length (text_of kept) = omega (arith, sizes, length-append f.item.text (text_of f.after), place, f.within) in
      let front : take pos (text_of kept) ≡ text_of f.before ++ take found.rest l.text =
      ap₂ (λ (n : ℕ) (cs : List ℕ). take n cs) (sym place) whole ∙ take-append-add (text_of f.before) (f.item.text ++ text_of f.after) found.rest
      ∙ ap (λ cs. text_of f.before ++ cs) (take-append-le found.rest f.item.text (text_of f.after) (omega (arith, f.within)))
      ∙ ap (λ (x : Layout). text_of f.before ++ take found.rest x.text) (sym item) in
      let sum : length_in encoding (take pos (text_of kept)) ≡ before_in encoding found + length_in encoding (take found.rest l.text) =
      omega (
        arith,
        ap (length_in encoding) front,
        sum_by-append (size_in encoding) (text_of f.before) (take found.rest l.text),
        length-units encoding f.before,
        counts_before encoding chars_of kept pos found f counts,
      ) in
      offset_within encoding (text_of kept) pos within ∙ ap Some sum

-- ---- the position of a unit, from its place in the paragraph that the search finds
module _ (encoding : Encoding) (kept : List Layout) (offset : ℕ) (found : Found) (f : Finds (units_of encoding) chars_of lines_of kept offset found) (l : Layout)
    (read : Some l ≡ slice_get kept found.index) where
  pub unit_within : found.rest < units_of encoding l
  unit_within = omega (arith, f.within, ap (units_of encoding) (item_read (units_of encoding) kept offset found f l read))

  module _ (pos rest : ℕ) (u : IsUnitAt encoding l.text found.rest pos rest) where
    pub position_fits : found.chars_before + pos ≤ sum_by chars_of kept
    position_fits =
        omega (
          arith,
          f.chars_before,
          ap chars_of (item_read (units_of encoding) kept offset found f l read),
          u.pos_is,
          ap length u.place,
          length-append u.before (u.char ∷ u.after),
          sum_whole (units_of encoding) kept offset found f chars_of,
        )

    pub position_read : position_of encoding (text_of kept) offset ≡ Some (found.chars_before + pos, rest)
    position_read =
        let item : l ≡ f.item = item_read (units_of encoding) kept offset found f l read in
        let front = text_of f.before in
        let back = text_of f.after in
        let whole : text_of kept ≡ (front ++ u.before) ++ u.char ∷ (u.after ++ back) =
        ap text_of f.place ∙ text_append f.before (f.item ∷ f.after) ∙ ap (λ (x : Layout). front ++ (x.text ++ back)) (sym item)
        ∙ ap (λ cs. front ++ (cs ++ back)) u.place ∙ simp append_assoc in
        unit_position encoding (text_of kept) offset (found.chars_before + pos) rest record {
          before = front ++ u.before;
          char = u.char;
          after = u.after ++ back;
          place = whole;
          pos_is = omega (arith, u.pos_is, f.chars_before, length-text f.before, length-append front u.before);
          rest_is = omega (arith, u.rest_is, f.rest, length-units encoding f.before, sum_by-append (size_in encoding) front u.before);
          within = u.within;
        }

-- a position inside the text has an offset
pub offset_there : (encoding : Encoding) (text : List ℕ) (pos : ℕ) → pos ≤ length text → None ≡ offset_of encoding text pos → ⊥
offset_there encoding text pos within none = let wrong = none ∙ offset_within encoding text pos within in cc wrong

pub offset_is : (encoding : Encoding) (text : List ℕ) (pos n : ℕ) → pos ≤ length text → Some n ≡ offset_of encoding text pos → n ≡ length_in encoding (take pos text)
offset_is encoding text pos n within some = ap (λ o. unwrap_or o n) (some ∙ offset_within encoding text pos within)

-- the number of bytes in the UTF-8 encoding of a text is its length in UTF-8 bytes
encoded_length : (text : List ℕ) → length (encode_utf8_all text) ≡ length_in Utf8 text
encoded_length [] = refl
encoded_length (c ∷ cs) =
    length-append (encode_utf8 c) (encode_utf8_all cs) ∙ ap₂ (λ (m : ℕ) (n : ℕ). m + n) (length-encode c) (encoded_length cs) ∙ sym (sum_by-cons len_utf8 c cs)

pub length-part : (kept : List Layout) (pos count : ℕ)
    → length_in Utf8 (take (pos + count) (text_of kept)) ≡ length_in Utf8 (take pos (text_of kept)) + length (utf8_part kept pos count)
length-part kept pos count =
    let text = text_of kept in
    let number : pos + count - pos ≡ count = omega arith in
    let part : slice_range text pos (pos + count) ≡ take count (drop pos text) = ap (λ (n : ℕ). take n (drop pos text)) number in
    omega (
      arith,
      ap (length_in Utf8) (take-add pos count text),
      sum_by-append len_utf8 (take pos text) (take count (drop pos text)),
      encoded_length (slice_range text pos (pos + count)),
      ap (length_in Utf8) part,
    )

-- the number of bytes of a text
pub bytes_of : (bytes : List ℕ) → IsUtf8 bytes → length bytes ≡ length_in Utf8 (chars bytes)
bytes_of bytes utf8 = ap length (sym (encodes-chars bytes utf8)) ∙ encoded_length (chars bytes)

-- a character has at least as many bytes as UTF-16 code units
no_more_units : (c : ℕ) → size_in Utf16 c ≤ size_in Utf8 c
no_more_units c = elim (cases_lt c 0x1_0000) [
  | inl low ↦ omega (arith, cond-true {A = ℕ} (nat_lt c 0x1_0000) 1 2 (lt-ltb c 0x1_0000 low), (len_utf8_bounds c).0)
  | inr high ↦
      let four : len_utf8 c ≡ 4 =
      cond-false {A = ℕ} (nat_lt c 0x80) 1 (cond (nat_lt c 0x800) 2 (cond (nat_lt c 0x1_0000) 3 4)) (le-ltb c 0x80 (omega (arith, high)))
      ∙ cond-false {A = ℕ} (nat_lt c 0x800) 2 (cond (nat_lt c 0x1_0000) 3 4) (le-ltb c 0x800 (omega (arith, high)))
      ∙ cond-false {A = ℕ} (nat_lt c 0x1_0000) 3 4 (le-ltb c 0x1_0000 high) in
      omega (arith, cond-false {A = ℕ} (nat_lt c 0x1_0000) 1 2 (le-ltb c 0x1_0000 high), four)
]

no_longer : (text : List ℕ) → length_in Utf16 text ≤ length_in Utf8 text
no_longer [] = omega arith
no_longer (c ∷ cs) = omega (arith, sum_by-cons (size_in Utf16) c cs, sum_by-cons (size_in Utf8) c cs, no_more_units c, no_longer cs)

-- if each character of a text has one byte, it has one UTF-16 code unit
pub one_byte_each : (text : List ℕ) → length text ≡ length_in Utf8 text → length text ≡ length_in Utf16 text
one_byte_each text bytes = omega (arith, bytes, least_length Utf16 text, no_longer text)

-- if each character of a text has one unit, the number of units is the number of characters
one_each : (encoding : Encoding) (text : List ℕ) → ((k : ℕ) → k < length text → size_in encoding (get_or text k 0) ≡ 1) → length_in encoding text ≡ length text
one_each encoding [] one = refl
one_each encoding (c ∷ text) one =
    let first : size_in encoding c ≡ 1 = one 0 (omega arith) in
    let rest = one_each encoding text (λ k less. one (suc k) (omega (arith, less))) in
    omega (arith, sum_by-cons (size_in encoding) c text, first, rest)

pub all_ascii : (text : List ℕ) (most : ℕ) → ((k : ℕ) → k < length text → get_or text k 0 ≤ most) → most < 0x80 → length text ≡ length_in Utf8 text
all_ascii text most low small = sym (one_each Utf8 text (λ k less. len_utf8_ascii (get_or text k 0) (omega (arith, low k less, small))))

pub all_basic : (text : List ℕ) (most : ℕ) → ((k : ℕ) → k < length text → get_or text k 0 ≤ most) → most < 0x1_0000 → length text ≡ length_in Utf16 text
all_basic text most low small =
    sym (one_each Utf16 text (λ k less. cond-true (nat_lt (get_or text k 0) 0x1_0000) 1 2 (lt-ltb (get_or text k 0) 0x1_0000 (omega (arith, low k less, small)))))

-- a character below U+0800 has one byte or two
pub two_bytes : (c : ℕ) → c < 0x800 → len_utf8 c ≡ cond (nat_lt c 0x80) 1 2
two_bytes c small =
    ap (λ n. cond (nat_lt c 0x80) 1 n) (cond-true (nat_lt c 0x800) 2 (cond (nat_lt c 0x1_0000) 3 4) (lt-ltb c 0x800 small))
