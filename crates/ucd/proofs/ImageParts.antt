-- Bytes that equal a part of an image have the same numbers, pairs and checksum as that part.
use Rattle.std.proofs.Common.{◌==◌, ◌≡◌, ℕ, codes, zero, suc, ◌+◌, ◌-◌, ◌*◌, ◌/◌, ◌%◌, ◌<◌, ◌≤◌, nat_lt, List, [], ◌∷◌, ◌++◌, Option, Some, None, MatchOption, length, take, get_or, below_more, if◌then◌else◌, refl, sym, ◌∙◌, ap, subst, inl, inr, arith}
use Rattle.std.proofs.lemmas.Bool.{cases_eq}
use Rattle.std.proofs.lemmas.Bool.Decides.{nat_tests}
use Rattle.std.proofs.lemmas.List.{length-append, length-take, get_or-take, ext_get_or, get_or_append_left, get_or-append_right, get_or_push, length_push}
use Rattle.ucd.specs.declared.version.Version.{Version}
use Rattle.ucd.specs.declared.version.Version.TheVariants.{V15_0, V17_0}
use Rattle.ucd.specs.Images.{image_version, version_number, u16_at, u32_at, u64_at, checksum, page_count, bracket_count, mirror_count, brackets_at, mirrors_at, checksum_at, point_at, point_value, found, ArePoints}
use Rattle.ucd.specs.ImageParts.{Shows, Adds16, Adds32, AddsPoint, AddsChecksum, Joins}
use Rattle.ucd.proofs.ImagePoints.{found_more, point_more}

module _ (bytes : List ℕ) (at : ℕ) (part : List ℕ) (from count : ℕ) (shows : Shows bytes at part from count) where
  pub u16_shown : (i j : ℕ) → at ≤ i → i + 2 ≤ at + count → i + from ≡ j + at → u16_at bytes i ≡ u16_at part j
  unfolding u16_at
  u16_shown i j least most is = rw (shows.each i j least (omega arith) is, shows.each (i + 1) (j + 1) (omega arith) (omega arith) (omega arith)) refl

  pub u32_shown : (i j : ℕ) → at ≤ i → i + 4 ≤ at + count → i + from ≡ j + at → u32_at bytes i ≡ u32_at part j
  unfolding u32_at
  u32_shown i j least most is = rw (u16_shown i j least (omega arith) is, u16_shown (i + 2) (j + 2) (omega arith) (omega arith) (omega arith)) refl

  pub u64_shown : (i j : ℕ) → at ≤ i → i + 8 ≤ at + count → i + from ≡ j + at → u64_at bytes i ≡ u64_at part j
  unfolding u64_at
  u64_shown i j least most is = rw (u32_shown i j least (omega arith) is, u32_shown (i + 4) (j + 4) (omega arith) (omega arith) (omega arith)) refl

  -- `Shows` for `count` bytes implies `Shows` for any smaller number of bytes
  pub shows_less : (less : ℕ) → less ≤ count → Shows bytes at part from less
  shows_less less le = record { each = λ i j least most is. shows.each i j least (omega arith) is }

-- ---- the pairs that a part of an image holds
module _ {V : Type 0} (decode : ℕ → Option V) (bytes : List ℕ) (at : ℕ) (part : List ℕ) (from count : ℕ) (shows : Shows bytes at part from (8 * count)) where
  pub point_shown : (k : ℕ) → k < count → point_at decode bytes at k ≡ point_at decode part from k
  point_shown k lt = u32_shown bytes at part from (8 * count) shows (at + 8 * k) (from + 8 * k) (omega arith) (omega arith) (omega arith)

  pub value_shown : (k : ℕ) → k < count → point_value decode bytes at k ≡ point_value decode part from k
  value_shown k lt = ap decode (u32_shown bytes at part from (8 * count) shows (at + 8 * k + 4) (from + 8 * k + 4) (omega arith) (omega arith) (omega arith))

  pub points_shown : ArePoints decode part from count → ArePoints decode bytes at count
  points_shown are k lt = record {
    within = rw (point_shown k lt) (are k lt).within;
    ascending = λ j below. rw (point_shown k lt, point_shown j (omega arith)) ((are k lt).ascending j below);
    value = rw (value_shown k lt) (are k lt).value;
  }

pub found_shown : {V : Type 0} (decode : ℕ → Option V) (bytes : List ℕ) (at : ℕ) (part : List ℕ) (from count : ℕ) → Shows bytes at part from (8 * count)
    → (c : ℕ) → found decode bytes at count c ≡ found decode part from count c
unfolding found
found_shown decode bytes at part from zero shows c = refl
found_shown decode bytes at part from (suc n) shows c =
    let rest : found decode bytes at n c ≡ found decode part from n c =
    found_shown decode bytes at part from n (shows_less bytes at part from (8 * suc n) shows (8 * n) (omega arith)) c in
    rw (point_shown decode bytes at part from (suc n) shows n (omega arith), value_shown decode bytes at part from (suc n) shows n (omega arith), rest) refl

pub checksum_shown : (bytes part : List ℕ) (k : ℕ) → Shows bytes 0 part 0 (8 * k) → checksum bytes k ≡ checksum part k
unfolding checksum
checksum_shown bytes part zero shows = refl
checksum_shown bytes part (suc k) shows =
    let rest : checksum bytes k ≡ checksum part k = checksum_shown bytes part k (shows_less bytes 0 part 0 (8 * suc k) shows (8 * k) (omega arith)) in
    rw (rest, u64_shown bytes 0 part 0 (8 * suc k) shows (8 * k) (8 * k) (omega arith) (omega arith) (omega arith)) refl

-- a concatenation begins with the bytes of its first list, and ends with those of its second list
pub shows_front : (front back : List ℕ) → Shows (front ++ back) 0 front 0 (length front)
shows_front front back = record { each = λ i j least most is. (let same : i ≡ j = omega arith in rw same (get_or_append_left front back 0 j (omega arith))) }

pub shows_back : (front back : List ℕ) → Shows (front ++ back) (length front) back 0 (length back)
shows_back front back = record {
  each = λ i j least most is.
      let same : i - length front ≡ j = omega arith in
      get_or-append_right front back (length front) i 0 refl least ∙ ap (λ k. get_or back k 0) same;
}

pub shows_through : (bytes : List ℕ) (at : ℕ) (mid : List ℕ) (part : List ℕ) (from count n : ℕ)
    → Shows bytes 0 mid 0 n → Shows mid at part from count → at + count ≤ n → Shows bytes at part from count
shows_through bytes at mid part from count n outer inner le = record {
  each = λ i j least most is. outer.each i i (omega arith) (omega arith) (omega arith) ∙ inner.each i j least most is;
}

-- appending the low byte and then the high byte appends a 16-bit number
pub adds_16 : (old : List ℕ) (number : ℕ) → Adds16 old ((old ++ (number % 256) ∷ []) ++ (number / 256) ∷ []) number
unfolding u16_at
adds_16 old number =
    let low = old ++ (number % 256) ∷ [] in
    let len : length low ≡ length old + 1 = length_push old (number % 256) in
    let first : get_or (low ++ (number / 256) ∷ []) (length old) 0 ≡ number % 256 =
    get_or_append_left low ((number / 256) ∷ []) 0 (length old) (omega arith) ∙ get_or_push old (number % 256) 0 (length old) refl in
    let second : get_or (low ++ (number / 256) ∷ []) (length old + 1) 0 ≡ number / 256 = get_or_push low (number / 256) 0 (length old + 1) len in
    record {
      kept = record { each = λ i j least most is. (let same : i ≡ j = omega arith in rw same (get_or_append_left low ((number / 256) ∷ []) 0 j (omega arith) ∙ get_or_append_left old ((number % 256) ∷ []) 0 j (omega arith))) };
      len = length_push low (number / 256) ∙ ap (λ n. n + 1) len ∙ omega arith;
      here = rw (first, second) (omega arith);
    }

-- appending the lower and then the upper half appends a 32-bit number
pub adds_32 : (old mid new : List ℕ) (number : ℕ) → Adds16 old mid (number % 65536) → Adds16 mid new (number / 65536) → Adds32 old new number
unfolding u32_at
adds_32 old mid new number low high =
    let len_mid = low.len in
    let len_new = high.len in
    let first : u16_at new (length old) ≡ number % 65536 =
    u16_shown new 0 mid 0 (length mid) high.kept (length old) (length old) (omega arith) (omega arith) refl ∙ low.here in
    let second : u16_at new (length old + 2) ≡ number / 65536 = subst (λ i. u16_at new i ≡ number / 65536) len_mid high.here in
    record {
      kept = record { each = λ i j least most is. high.kept.each i i (omega arith) (omega arith) refl ∙ low.kept.each i j least most is };
      len = omega arith;
      here = rw (first, second) (omega arith);
    }

pub adds_point : {V : Type 0} (decode : ℕ → Option V) (old mid new : List ℕ) (c number : ℕ) (value : V) → decode number ≡ Some value
    → Adds32 old mid c → Adds32 mid new number → AddsPoint decode old new c value
adds_point decode old mid new c number value encodes first second =
    let len_mid = first.len in
    let len_new = second.len in
    record {
      kept = record { each = λ i j least most is. second.kept.each i i (omega arith) (omega arith) refl ∙ first.kept.each i j least most is };
      len = omega arith;
      point = u32_shown new 0 mid 0 (length mid) second.kept (length old) (length old) (omega arith) (omega arith) refl ∙ first.here;
      number = ap decode (subst (λ i. u32_at new i ≡ number) len_mid second.here) ∙ encodes;
    }

-- five numbers appended to the magic bytes
pub record IsHeader (magic bytes : List ℕ) (a b c d e : ℕ) : Type 0 where
  pub len : length bytes ≡ 32
  pub magic_is : take 12 bytes ≡ magic
  pub a_is : u32_at bytes 12 ≡ a
  pub b_is : u32_at bytes 16 ≡ b
  pub c_is : u32_at bytes 20 ≡ c
  pub d_is : u32_at bytes 24 ≡ d
  pub e_is : u32_at bytes 28 ≡ e

number_kept : (old new : List ℕ) (number i n : ℕ) → Adds32 old new number → i + 4 ≤ length old → u32_at old i ≡ n → u32_at new i ≡ n
number_kept old new number i n adds within is = u32_shown new 0 old 0 (length old) adds.kept i i (omega arith) (omega arith) refl ∙ is

number_here : (old new : List ℕ) (number i : ℕ) → Adds32 old new number → length old ≡ i → u32_at new i ≡ number
number_here old new number i adds is = subst (λ k. u32_at new k ≡ number) is adds.here

pub header_is : (b0 b1 b2 b3 b4 b5 : List ℕ) (a b c d e : ℕ) → length b0 ≡ 12 → Adds32 b0 b1 a → Adds32 b1 b2 b → Adds32 b2 b3 c → Adds32 b3 b4 d → Adds32 b4 b5 e → IsHeader b0 b5 a b c d e
header_is b0 b1 b2 b3 b4 b5 a b c d e len one two three four five =
    let l1 : length b1 ≡ 16 = omega (arith, one.len) in
    let l2 : length b2 ≡ 20 = omega (arith, two.len) in
    let l3 : length b3 ≡ 24 = omega (arith, three.len) in
    let l4 : length b4 ≡ 28 = omega (arith, four.len) in
    let l5 : length b5 ≡ 32 = omega (arith, five.len) in
    record {
      len = l5;
      magic_is = ext_get_or 0 (take 12 b5) b0 (omega (arith, length-take 12 b5)) (λ i lt.
          let within : i < 12 = omega (arith, length-take 12 b5) in
          get_or-take 12 b5 i 0 within
          ∙ five.kept.each i i (omega arith) (omega arith) refl ∙ four.kept.each i i (omega arith) (omega arith) refl ∙ three.kept.each i i (omega arith) (omega arith) refl
          ∙ two.kept.each i i (omega arith) (omega arith) refl ∙ one.kept.each i i (omega arith) (omega arith) refl);
      a_is = number_kept b4 b5 e 12 a five (omega arith) (number_kept b3 b4 d 12 a four (omega arith) (number_kept b2 b3 c 12 a three (omega arith) (number_kept b1 b2 b 12 a two (omega arith) (number_here b0 b1 a 12 one len))));
      b_is = number_kept b4 b5 e 16 b five (omega arith) (number_kept b3 b4 d 16 b four (omega arith) (number_kept b2 b3 c 16 b three (omega arith) (number_here b1 b2 b 16 two l1)));
      c_is = number_kept b4 b5 e 20 c five (omega arith) (number_kept b3 b4 d 20 c four (omega arith) (number_here b2 b3 c 20 three l2));
      d_is = number_kept b4 b5 e 24 d five (omega arith) (number_here b3 b4 d 24 four l3);
      e_is = number_here b4 b5 e 28 five l4;
    }

-- `new` consists of the k 16-bit numbers of `old`, followed by `number`
pub record Has16 (old new : List ℕ) (number k : ℕ) : Type 0 where
  pub len : length new ≡ 2 * (k + 1)
  pub before : (j : ℕ) → j < k → u16_at new (2 * j) ≡ u16_at old (2 * j)
  pub here : u16_at new (2 * k) ≡ number

pub more_16 : (old new : List ℕ) (number k : ℕ) → length old ≡ 2 * k → Adds16 old new number → Has16 old new number k
more_16 old new number k len adds = record {
  len = omega (arith, adds.len);
  before = λ j lt. u16_shown new 0 old 0 (length old) adds.kept (2 * j) (2 * j) (omega arith) (omega arith) refl;
  here = subst (λ i. u16_at new i ≡ number) len adds.here;
}

-- ---- the pairs of the code points below c
module _ {V : Type 0} (decode : ℕ → Option V) (value_of : ℕ → Option V) where
  pub record PointsBelow (bytes : List ℕ) (c : ℕ) : Type 0 where
    pub whole : length bytes % 8 ≡ 0
    pub room : length bytes ≤ 8 * c
    pub points : ArePoints decode bytes 0 (length bytes / 8)
    pub below : (k : ℕ) → k < length bytes / 8 → point_at decode bytes 0 k < c
    pub values : (x : ℕ) → found decode bytes 0 (length bytes / 8) x ≡ (if nat_lt x c then value_of x else None)

  -- `PointsBelow` holds before any pair is added
  pub points_none : PointsBelow [] 0
  unfolding found
  points_none = record {
    whole = refl;
    room = omega arith;
    points = λ k lt. absurd (omega arith);
    below = λ k lt. absurd (omega arith);
    values = λ x. grind (arith, nat_tests);
  }

  points_same : (bytes : List ℕ) (c : ℕ) → PointsBelow bytes c → value_of c ≡ None → PointsBelow bytes (c + 1)
  points_same bytes c are none = record {
    whole = are.whole;
    room = omega (arith, are.room);
    points = are.points;
    below = λ k lt. omega (arith, are.below k lt);
    values = λ x. are.values x ∙ elim (cases_eq x c) [ inl here ↦ rw (here, none) (grind (arith, nat_tests)) | inr other ↦ grind (arith, nat_tests) ];
  }

  points_pair : (old new : List ℕ) (c : ℕ) (value : V) → c < 1114112 → PointsBelow old c → value_of c ≡ Some value → AddsPoint decode old new c value → PointsBelow new (c + 1)
  points_pair old new c value within are some adds =
      let n = length old / 8 in
      let len : length old ≡ 8 * n = omega (arith, are.whole) in
      let total : length new / 8 ≡ n + 1 = omega (arith, adds.len) in
      let shows : Shows new 0 old 0 (8 * n) = shows_less new 0 old 0 (length old) adds.kept (8 * n) (omega arith) in
      let point : point_at decode new 0 n ≡ c = subst (λ i. u32_at new i ≡ c) {y = 0 + 8 * n} (omega arith) adds.point in
      let is : point_value decode new 0 n ≡ Some value = subst (λ i. decode (u32_at new (i + 4)) ≡ Some value) {y = 0 + 8 * n} (omega arith) adds.number in
      let below : (k : ℕ) → k < n → point_at decode new 0 k < c = λ k lt. rw (point_shown decode new 0 old 0 n shows k lt) (are.below k lt) in
      record {
        whole = omega (arith, adds.len, are.whole);
        room = omega (arith, adds.len, are.room);
        points = rw total (below_more _ _ (points_shown decode new 0 old 0 n shows are.points) (point_more decode new 0 n c value below (omega arith) (omega arith) is));
        below = rw total (below_more _ _ (λ k lt. omega (arith, below k lt)) (omega arith));
        values = λ x. rw (total, found_more decode new 0 n x, point, is, found_shown decode new 0 old 0 n shows x, are.values x) (
            elim (cases_eq x c) [ inl here ↦ rw (here, some) (grind (arith, nat_tests)) | inr other ↦ grind (arith, nat_tests) ]);
      }

  pub points_next : (old new : List ℕ) (c : ℕ) (o : Option V) → c < 1114112 → value_of c ≡ o → PointsBelow old c
      → MatchOption o (new ≡ old) (AddsPoint decode old new c) → PointsBelow new (c + 1)
  points_next old new c None within is are same = rw same (points_same old c are is)
  points_next old new c (Some value) within is are adds = points_pair old new c value within are is adds

-- `Shows` still holds if its numbers are replaced with equal ones
pub shows_at : (bytes : List ℕ) (at at' : ℕ) (part : List ℕ) (count count' : ℕ) → Shows bytes at part 0 count → at ≡ at' → count ≡ count' → Shows bytes at' part 0 count'
shows_at bytes at at' part count count' shows same_at same_count = record { each = λ i j least most is. shows.each i j (omega arith) (omega arith) (omega arith) }

-- appending the low and the high half appends a 64-bit number
pub adds_checksum : (old mid new : List ℕ) (sum : ℕ) → sum ≡ checksum old (length old / 8) → Adds32 old mid (sum % 4294967296) → Adds32 mid new (sum / 4294967296) → AddsChecksum old new
unfolding u64_at
adds_checksum old mid new sum is low high =
    let len_mid = low.len in
    let len_new = high.len in
    let first : u32_at new (length old) ≡ sum % 4294967296 =
    u32_shown new 0 mid 0 (length mid) high.kept (length old) (length old) (omega arith) (omega arith) refl ∙ low.here in
    let second : u32_at new (length old + 4) ≡ sum / 4294967296 = subst (λ i. u32_at new i ≡ sum / 4294967296) len_mid high.here in
    let whole : sum % 4294967296 + 4294967296 * (sum / 4294967296) ≡ sum = omega arith in
    record {
      kept = record { each = λ i j least most is. high.kept.each i i (omega arith) (omega arith) refl ∙ low.kept.each i j least most is };
      len = omega arith;
      here = rw (first, second) (whole ∙ is);
    }

-- decoding the number of a version yields the version
number_version : (version : Version) → (if version_number version == 0x0011_0000 then V17_0 else V15_0) ≡ version
number_version V15_0 = refl
number_version V17_0 = refl

-- ---- the concatenated parts
module _ (version : Version) (head index pages brackets mirrors bytes : List ℕ)
    (is : IsHeader (codes "hordguli-ucd") head 1 (version_number version) (length pages / 512) (length brackets / 8) (length mirrors / 8))
    (index_len : length index ≡ 8704) (pages_whole : length pages % 512 ≡ 0) (brackets_whole : length brackets % 8 ≡ 0) (mirrors_whole : length mirrors % 8 ≡ 0)
    (adds : AddsChecksum ((((head ++ index) ++ pages) ++ brackets) ++ mirrors) bytes) where
  abbrev b1 : List ℕ
  b1 = head ++ index

  abbrev b2 : List ℕ
  b2 = b1 ++ pages

  abbrev b3 : List ℕ
  b3 = b2 ++ brackets

  abbrev b4 : List ℕ
  b4 = b3 ++ mirrors

  l1 : length b1 ≡ 8736
  l1 = omega (arith, length-append head index, is.len, index_len)

  l2 : length b2 ≡ 8736 + length pages
  l2 = omega (arith, length-append b1 pages, l1)

  l3 : length b3 ≡ 8736 + length pages + length brackets
  l3 = omega (arith, length-append b2 brackets, l2)

  l4 : length b4 ≡ 8736 + length pages + length brackets + length mirrors
  l4 = omega (arith, length-append b3 mirrors, l3)

  s3 : Shows bytes 0 b3 0 (length b3)
  s3 = shows_through bytes 0 b4 b3 0 (length b3) (length b4) adds.kept (shows_front b3 mirrors) (omega (arith, l3, l4))

  s2 : Shows bytes 0 b2 0 (length b2)
  s2 = shows_through bytes 0 b3 b2 0 (length b2) (length b3) s3 (shows_front b2 brackets) (omega (arith, l2, l3))

  s1 : Shows bytes 0 b1 0 (length b1)
  s1 = shows_through bytes 0 b2 b1 0 (length b1) (length b2) s2 (shows_front b1 pages) (omega (arith, l1, l2))

  s0 : Shows bytes 0 head 0 (length head)
  s0 = shows_through bytes 0 b1 head 0 (length head) (length b1) s1 (shows_front head index) (omega (arith, l1, is.len))

  from_head : (i n : ℕ) → i + 4 ≤ 32 → u32_at head i ≡ n → u32_at bytes i ≡ n
  from_head i n within value = u32_shown bytes 0 head 0 (length head) s0 i i (omega arith) (omega (arith, is.len)) refl ∙ value

  pages_is : page_count bytes ≡ length pages / 512
  pages_is = from_head 20 (length pages / 512) (omega arith) is.c_is

  brackets_is : bracket_count bytes ≡ length brackets / 8
  brackets_is = from_head 24 (length brackets / 8) (omega arith) is.d_is

  mirrors_is : mirror_count bytes ≡ length mirrors / 8
  mirrors_is = from_head 28 (length mirrors / 8) (omega arith) is.e_is

  brackets_place : length b2 ≡ brackets_at bytes
  brackets_place = omega (arith, l2, pages_is, pages_whole)

  mirrors_place : length b3 ≡ mirrors_at bytes
  mirrors_place = omega (arith, l3, pages_is, pages_whole, brackets_is, brackets_whole)

  checksum_place : length b4 ≡ checksum_at bytes
  checksum_place = omega (arith, l4, pages_is, pages_whole, brackets_is, brackets_whole, mirrors_is, mirrors_whole)

  magic_shown : take 12 bytes ≡ take 12 head
  magic_shown = ext_get_or 0 (take 12 bytes) (take 12 head) (omega (arith, length-take 12 bytes, length-take 12 head, is.len, adds.len, l4)) (λ i lt.
      let within : i < 12 = omega (arith, length-take 12 bytes) in
      get_or-take 12 bytes i 0 within ∙ s0.each i i (omega arith) (omega (arith, is.len)) refl ∙ sym (get_or-take 12 head i 0 within))

  checksum_is : checksum bytes (length b4 / 8) ≡ checksum b4 (length b4 / 8)
  checksum_is = checksum_shown bytes b4 (length b4 / 8) (shows_less bytes 0 b4 0 (length b4) adds.kept (8 * (length b4 / 8)) (omega arith))

  version_is : image_version bytes ≡ version
  version_is = rw (from_head 16 (version_number version) (omega arith) is.b_is) (number_version version)

  pub joins : Joins version bytes index pages brackets mirrors
  joins = record {
    framed = record {
      header = omega (arith, adds.len, l4);
      magic = magic_shown ∙ is.magic_is;
      format = from_head 12 1 (omega arith) is.a_is;
      version = from_head 16 (version_number version) (omega arith) is.b_is ∙ ap version_number (sym version_is);
      room = omega (arith, adds.len, checksum_place);
      end = omega (arith, adds.len, checksum_place);
      checksum = subst (λ n. u64_at bytes n ≡ checksum bytes (n / 8)) checksum_place (adds.here ∙ sym checksum_is);
    };
    of_version = version_is;
    page_count = omega (arith, pages_is, pages_whole);
    bracket_count = omega (arith, brackets_is, brackets_whole);
    mirror_count = omega (arith, mirrors_is, mirrors_whole);
    index_shown = shows_at bytes (length head) 32 index (length index) 8704 (shows_through bytes (length head) b1 index 0 (length index) (length b1) s1 (shows_back head index) (omega (arith, l1, is.len, index_len))) is.len index_len;
    pages_shown = shows_at bytes (length b1) 8736 pages (length pages) (length pages) (shows_through bytes (length b1) b2 pages 0 (length pages) (length b2) s2 (shows_back b1 pages) (omega (arith, l1, l2))) l1 refl;
    brackets_shown = shows_at bytes (length b2) (brackets_at bytes) brackets (length brackets) (length brackets) (shows_through bytes (length b2) b3 brackets 0 (length brackets) (length b3) s3 (shows_back b2 brackets) (omega (arith, l2, l3))) brackets_place refl;
    mirrors_shown = shows_at bytes (length b3) (mirrors_at bytes) mirrors (length mirrors) (length mirrors) (shows_through bytes (length b3) b4 mirrors 0 (length mirrors) (length b4) adds.kept (shows_back b3 mirrors) (omega (arith, l3, l4))) mirrors_place refl;
  }
