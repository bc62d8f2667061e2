-- Encoding properties as bits and decoding bits are inverse operations.
use Rattle.std.proofs.Common.{◌*◌, ◌==◌, if◌then◌else◌, ◌≡◌, ℕ, ◌/◌, ◌%◌, ◌<◌, ◌==◌, map, get_or, refl, sym, ◌∙◌, ap, arith, zero-add, lit<, ◌⊎◌, inl, inr, zero, suc}
use Rattle.std.specs.List.{range_with_len}
use Rattle.std.proofs.lemmas.List.FromFn.{get_or-range_with_len, get_or-map-range_with_len}
use Rattle.ucd.specs.declared.bidi_class.TheConstants.{BIDI_CLASS_COUNT}
use Rattle.ucd.specs.declared.bidi_class.BidiClass.{BidiClass}
use Rattle.ucd.specs.declared.bidi_class.BidiClass.TheVariants.{L, B}
use Rattle.ucd.specs.declared.line_class.TheConstants.{LINE_CLASS_COUNT, LINE_NUMBER_COUNT}
use Rattle.ucd.specs.declared.line_class.LineClass.{LineClass}
use Rattle.ucd.specs.declared.line_class.LineClass.TheVariants.{BK}
use Rattle.ucd.specs.declared.line_detail.LineDetail.TheVariants.{Plain}
use Rattle.ucd.specs.Answers.{bidi_tag, bidi_class_at, line_tag, line_class_at, line_detail_at, line_number, bit, bits_of, answers_in, AreBits, line_answers, line_answers_at, line_index}

-- Converting an index to a class and converting a class to its index are inverse operations. The same holds
-- for line-breaking numbers. Indices are below the number of classes.
pub bidi_tag_at : (k : ℕ) → k < BIDI_CLASS_COUNT → bidi_tag (bidi_class_at k) ≡ k
bidi_tag_at k lt =
    let f : ℕ → ℕ = λ n. bidi_tag (bidi_class_at n) in
    let all : map f (range_with_len 0 BIDI_CLASS_COUNT) ≡ range_with_len 0 BIDI_CLASS_COUNT = refl in
    sym (get_or-map-range_with_len f 0 BIDI_CLASS_COUNT k k 0 lt (zero-add k)) ∙ ap (λ places. get_or places k 0) all ∙ get_or-range_with_len 0 BIDI_CLASS_COUNT k 0 lt ∙ zero-add k

-- class B has index 10
pub separator_at : (k : ℕ) → k < BIDI_CLASS_COUNT → bidi_class_at k ≡ B → k ≡ 10
separator_at k lt is = sym (bidi_tag_at k lt) ∙ ap bidi_tag is

pub line_number_at : (k : ℕ) → k < LINE_NUMBER_COUNT → line_number (line_class_at k) (line_detail_at k) ≡ k
line_number_at k lt =
    let f : ℕ → ℕ = λ n. line_number (line_class_at n) (line_detail_at n) in
    let all : map f (range_with_len 0 LINE_NUMBER_COUNT) ≡ range_with_len 0 LINE_NUMBER_COUNT = refl in
    sym (get_or-map-range_with_len f 0 LINE_NUMBER_COUNT k k 0 lt (zero-add k)) ∙ ap (λ places. get_or places k 0) all ∙ get_or-range_with_len 0 LINE_NUMBER_COUNT k 0 lt ∙ zero-add k

pub bidi_at_tag : (class : BidiClass) → bidi_class_at (bidi_tag class) ≡ class
bidi_at_tag L = refl
bidi_at_tag class = refl

pub bidi_tag_below : (class : BidiClass) → bidi_tag class < BIDI_CLASS_COUNT
bidi_tag_below L = lit< tt
bidi_tag_below class = lit< tt

pub line_at_tag : (class : LineClass) → line_class_at (line_tag class) ≡ class
line_at_tag BK = refl
line_at_tag class = refl

pub detail_at_tag : (class : LineClass) → line_detail_at (line_tag class) ≡ Plain
detail_at_tag BK = refl
detail_at_tag class = refl

pub line_tag_below : (class : LineClass) → line_tag class < LINE_CLASS_COUNT
line_tag_below BK = lit< tt
line_tag_below class = lit< tt

cases_zero : (n : ℕ) → (n ≡ 0) ⊎ (0 < n)
cases_zero zero = inl refl
cases_zero (suc n) = inr (omega arith)

bit_of : (n : ℕ) → n < 2 → bit (n == 1) ≡ n
bit_of n lt = elim (cases_zero n) [ inl none ↦ rw none refl | inr some ↦ (let one : n ≡ 1 = omega arith in rw one refl) ]

-- for a flag n, which is 0 or 1, `if n == 1 then k else 0` is the product k * n
times : (k n : ℕ) → n < 2 → (if n == 1 then k else 0) ≡ k * n
times k n lt = elim (cases_zero n) [ inl none ↦ rw none (omega arith) | inr some ↦ (let one : n ≡ 1 = omega arith in rw one (omega arith)) ]

-- decoding bits and encoding them again yields the same bits
pub bits_of-answers_in : (bits : ℕ) → AreBits bits → bits_of (answers_in bits) ≡ bits
bits_of-answers_in bits are =
    let bidi = bidi_tag_at (bits % 32) are.bidi in
    let line = line_number_at (bits / 1024) are.line in
    let bracket = bit_of (bits / 32 % 2) (omega arith) in
    let mirror = bit_of (bits / 64 % 2) (omega arith) in
    let pictograph = bit_of (bits / 128 % 2) (omega arith) in
    let mark = bit_of (bits / 256 % 2) (omega arith) in
    let wide = bit_of (bits / 512 % 2) (omega arith) in
    rw (bidi, line, bracket, mirror, wide, mark, pictograph) (omega arith)

-- the bits above the lowest seven are the number that encodes the properties for line breaking
pub line_index_in : (bits : ℕ) → AreBits bits → bits / 128 ≡ line_index (answers_in bits)
line_index_in bits are =
    let line = line_number_at (bits / 1024) are.line in
    let pictograph = times 1 (bits / 128 % 2) (omega arith) in
    let mark = times 2 (bits / 256 % 2) (omega arith) in
    let wide = times 4 (bits / 512 % 2) (omega arith) in
    rw (line, wide, mark, pictograph) (omega arith)

-- the bits above the lowest seven determine the properties for line breaking
pub line_answers_in : (bits : ℕ) → line_answers (answers_in bits) ≡ line_answers_at (bits / 128)
line_answers_in bits =
    let number : bits / 128 / 8 ≡ bits / 1024 = omega arith in
    let wide : bits / 128 / 4 % 2 ≡ bits / 512 % 2 = omega arith in
    let mark : bits / 128 / 2 % 2 ≡ bits / 256 % 2 = omega arith in
    rw (number, wide, mark) refl
