-- Each row of `SHUFFLES` keeps the first bytes of each lane. The lane's bits in the two masks encode how many
-- bytes are kept.
use Rattle.std.proofs.Common.{◌≡◌, ℕ, zero, suc, ◌+◌, ◌-◌, ◌*◌, ◌/◌, ◌%◌, ◌^◌, ◌<◌, ◌≤◌, Bool, true, ◌&&◌, w8, w32, Fits, List, [], ◌∷◌, ◌++◌, length, get_or, map, take, drop, T, cond, false, bit_and, bit_xor, encode_utf8, encode_utf8_all, ap₂, replicate, inl, inr, eqb, leb, leb→le, ltb, ltb→lt, eqb→eq, div-one, length-take-le, refl, sym, ap, subst, zero-add, ◌∙◌, arith}
use Rattle.std.proofs.lemmas.Bool.{and_parts, cases_lt, le-leb, lt-leb, ltb-true}
use Rattle.std.proofs.lemmas.List.{append_assoc, ext_get_or, length-drop, take_all, take-append-drop, take-append-le}
use Rattle.std.proofs.lemmas.List.Folds.{list_all-append}
use Rattle.std.proofs.lemmas.List.FromFn.{length-map-range_with_len, get_or-map-range_with_len}
use Rattle.std.proofs.lemmas.Simd.{swz_l, SwzOk, SwzOk-from_below, below_from_Fits, get_or_narrower, mask_l-mod, put_chunk_is, length-swz_l}
use Rattle.std.proofs.lemmas.Nat.{and_mask}
use Rattle.std.proofs.lemmas.Str.{encode_ascii}
use Rattle.stream.proofs.EncodingLemmas.{encoded-part, encoded-rest, two_bytes, three_bytes, four_bytes}
use Rattle.std.proofs.Math.Seq.{take-append-add}
use Rattle.std.specs.Char.{is_ascii}
use Rattle.std.specs.List.{list_all, range_with_len}
use lib.Lanes.{Each1, all_below, digits_l, mask_l, number_l, put_chunk, sel_l, top, zip2}
use Rattle.stream.specs.Packing.{bytes_of, is_code, kept, packed}
use Rattle.stream.specs.Packing.{fits_two_bytes}
use Rattle.stream.specs.declared.packing.TheConstants.{LENGTHS, SHUFFLES}

abbrev listed : (ℕ → ℕ) → ℕ → List ℕ
listed f n = map f (range_with_len 0 n)

-- the kept bytes of n lanes, of which the first starts at index p; f maps an index to a byte of the lanes
abbrev gathered : (ℕ → ℕ) → ℕ → ℕ → ℕ → ℕ → List ℕ
gathered f low high zero p = []
gathered f low high (suc n) p = take (kept (low % 2) (high % 2)) (f p ∷ f (p + 1) ∷ f (p + 2) ∷ f (p + 3) ∷ []) ++ gathered f (low / 2) (high / 2) n (p + 4)

abbrev shuffled : (ℕ → ℕ) → ℕ → List ℕ
shuffled f row = take (get_or LENGTHS row 0) (swz_l w8 16 (listed f 16) 0 (get_or SHUFFLES row []))

rows : (f : ℕ → ℕ) → map (shuffled f) (range_with_len 0 256) ≡ map (λ row. gathered f (row % 16) (row / 16) 4 0) (range_with_len 0 256)
rows f = refl

row-is : (f : ℕ → ℕ) (row : ℕ) → row < 256 → shuffled f row ≡ gathered f (row % 16) (row / 16) 4 0
row-is f row within =
    sym (get_or-map-range_with_len (shuffled f) 0 256 row row [] within (zero-add row))
    ∙ ap (λ xs. get_or xs row []) (rows f)
    ∙ get_or-map-range_with_len (λ r. gathered f (r % 16) (r / 16) 4 0) 0 256 row row [] within (zero-add row)

-- each row has 16 indices of bytes, and keeps at most 16 bytes
rows-ok : list_all (λ (row : List ℕ). eqb (length row) 16 && all_below 16 row) SHUFFLES ≡ true
rows-ok = refl

lengths-ok : list_all (λ n. leb n 16) LENGTHS ≡ true
lengths-ok = refl

all_at : {X : Type 0} (test : X → Bool) (xs : List X) (k : ℕ) (d : X) → list_all test xs ≡ true → k < length xs → test (get_or xs k d) ≡ true
all_at test [] k d all short = absurd (omega arith)
all_at test (x ∷ xs) zero d all within = (and_parts (test x) (list_all test xs) all).0
all_at test (x ∷ xs) (suc k) d all within = all_at test xs k d (and_parts (test x) (list_all test xs) all).1 (omega (arith, within))

is_true : (b : Bool) → b ≡ true → T b
is_true b e = subst T (sym e) tt

each_below : (n : ℕ) (xs : List ℕ) → all_below n xs ≡ true → Each1 (λ x. x < n) xs
each_below n [] all = tt
each_below n (x ∷ xs) all =
    let parts = and_parts (ltb x n) (all_below n xs) all in
    (ltb→lt x n (is_true (ltb x n) parts.0), each_below n xs parts.1)

-- `P` holds for each list of n numbers if `P` holds for each list that is written out as n items
pub spelled : (P : List ℕ → Type 0) (n : ℕ) → ((f : ℕ → ℕ) → P (listed f n)) → (xs : List ℕ) → length xs ≡ n → P xs
spelled P n h xs long =
    let f = λ (k : ℕ). get_or xs k 0 in
    let many = length-map-range_with_len f 0 n in
    subst P (ext_get_or 0 _ xs (many ∙ sym long) (λ i l. get_or-map-range_with_len f 0 n i i 0 (omega (arith, many, l)) (zero-add i))) (h f)

-- the byte at an index of the concatenated bytes of four lanes
abbrev lane_bytes : List ℕ → ℕ → ℕ
lane_bytes words k = get_or (bytes_of (get_or words (k / 4) 0)) (k % 4) 0

byte-at : (word i : ℕ) → i < 4 → get_or (bytes_of word) i 0 ≡ word / 256 ^ i % 256
byte-at word zero within = ap (λ n. n % 256) (sym (div-one word))
byte-at word (suc zero) within = refl
byte-at word (suc (suc zero)) within = refl
byte-at word (suc (suc (suc zero))) within = refl
byte-at word (suc (suc (suc (suc i)))) within = absurd (omega (arith, within))

bytes-listed : (words : List ℕ) → Each1 (Fits w32) words → digits_l 256 16 (number_l 4294967296 words) ≡ listed (lane_bytes words) 16
bytes-listed words fits =
    let bytes = digits_l 256 16 (number_l 4294967296 words) in
    ext_get_or 0 bytes (listed (lane_bytes words) 16) refl (λ i within.
    let same : 4 * (i / 4) + i % 4 ≡ i = omega arith in
    let lane : 4 * (i / 4) + i % 4 < 16 = omega (arith, within) in
    ap (λ k. get_or bytes k 0) (sym same)
    ∙ get_or_narrower 4294967296 4 256 16 words (i / 4) (i % 4) refl (below_from_Fits w32 words fits) (omega arith) lane
    ∙ sym (byte-at (get_or words (i / 4) 0) (i % 4) (omega arith))
    ∙ sym (get_or-map-range_with_len (lane_bytes words) 0 16 i i 0 within (zero-add i)))

packed-four : (words : List ℕ) → length words ≡ 4 → (low high : ℕ) → gathered (lane_bytes words) low high 4 0 ≡ packed words low high
packed-four words long low high = spelled (λ ws. gathered (lane_bytes ws) low high 4 0 ≡ packed ws low high) 4 (λ f. refl) words long

-- the index of a row, computed from the two masks of the lanes
module _ {low high : ℕ} (few : low < 16) (some : high < 16) where
  abbrev row : ℕ
  row = low + 16 * high

  row-below : row < 256
  row-below = omega (arith, few, some)

  row-parts : (eqb (length (get_or SHUFFLES row [])) 16 ≡ true) × (all_below 16 (get_or SHUFFLES row []) ≡ true)
  row-parts =
      let bytes = get_or SHUFFLES row [] in
      and_parts (eqb (length bytes) 16) (all_below 16 bytes) (all_at (λ (r : List ℕ). eqb (length r) 16 && all_below 16 r) SHUFFLES row [] rows-ok row-below)

  length-row : length (get_or SHUFFLES row []) ≡ 16
  length-row = eqb→eq (length (get_or SHUFFLES row [])) 16 (is_true _ row-parts.0)

  pub row-ok : SwzOk w8 16 16 0 (get_or SHUFFLES row [])
  row-ok = SwzOk-from_below w8 16 1 16 0 (get_or SHUFFLES row []) refl (omega (arith, length-row)) (each_below 16 (get_or SHUFFLES row []) row-parts.1)

  pub length-ok : get_or LENGTHS row 0 ≤ 16
  length-ok = leb→le (get_or LENGTHS row 0) 16 (is_true _ (all_at (λ n. leb n 16) LENGTHS row 0 lengths-ok row-below))

  -- ---- the contents of the buffer after the shuffled vector has been written
  module _ (words : List ℕ) (long : length words ≡ 4) (fits : Each1 (Fits w32) words) where
    kept-bytes : take (get_or LENGTHS row 0) (swz_l w8 16 (digits_l 256 16 (number_l 4294967296 words)) 0 (get_or SHUFFLES row [])) ≡ packed words low high
    kept-bytes =
        let f = lane_bytes words in
        let first : row % 16 ≡ low = omega (arith, few, some) in
        let second : row / 16 ≡ high = omega (arith, few, some) in
        ap (λ xs. take (get_or LENGTHS row 0) (swz_l w8 16 xs 0 (get_or SHUFFLES row []))) (bytes-listed words fits)
        ∙ row-is f row row-below
        ∙ ap (λ n. gathered f n (row / 16) 4 0) first
        ∙ ap (λ n. gathered f low n 4 0) second
        ∙ packed-four words long low high

    pub packed-written : (buffer : List ℕ) (at : ℕ) → at + 16 ≤ length buffer
        → take (at + get_or LENGTHS row 0) (put_chunk at buffer (swz_l w8 16 (digits_l 256 16 (number_l 4294967296 words)) 0 (get_or SHUFFLES row [])))
        ≡ take at buffer ++ packed words low high
    packed-written buffer at room =
        let bytes = swz_l w8 16 (digits_l 256 16 (number_l 4294967296 words)) 0 (get_or SHUFFLES row []) in
        let n = get_or LENGTHS row 0 in
        let size = length-swz_l w8 16 (digits_l 256 16 (number_l 4294967296 words)) 0 (get_or SHUFFLES row []) in
        let rest = bytes ++ drop (length bytes) (drop at buffer) in
        ap (take (at + n)) (put_chunk_is at buffer bytes (omega (arith, size, length-row, room)))
        ∙ ap (λ k. take (k + n) (take at buffer ++ rest)) (sym (length-take-le at buffer (omega (arith, room))))
        ∙ take-append-add (take at buffer) rest n
        ∙ ap (λ more. take at buffer ++ more) (take-append-le n bytes (drop (length bytes) (drop at buffer)) (omega (arith, size, length-row, length-ok)) ∙ kept-bytes)

lowest : (b : Bool) (n : ℕ) → ((cond b 1 0 + 2 * n) % 2 ≡ cond b 1 0) × ((cond b 1 0 + 2 * n) / 2 ≡ n)
lowest true n = omega arith
lowest false n = omega arith

-- packing lanes that start with the bytes of the characters yields the UTF-8 of the characters
pub packed-encoded : (word : ℕ → ℕ) (low high test : ℕ → Bool)
    → ((c : ℕ) → test c ≡ true → take (kept (cond (low c) 1 0) (cond (high c) 1 0)) (bytes_of (word c)) ≡ encode_utf8 c)
    → (cs : List ℕ) → list_all test cs ≡ true → packed (map word cs) (mask_l (map low cs)) (mask_l (map high cs)) ≡ encode_utf8_all cs
packed-encoded word low high test each [] all = refl
packed-encoded word low high test each (c ∷ cs) all =
    let parts = and_parts (test c) (list_all test cs) all in
    let first = lowest (low c) (mask_l (map low cs)) in
    let second = lowest (high c) (mask_l (map high cs)) in
    (λ i. take (kept (first.0 i) (second.0 i)) (bytes_of (word c)) ++ packed (map word cs) (first.1 i) (second.1 i))
    ∙ ap₂ ◌++◌ (each c parts.0) (packed-encoded word low high test each cs parts.1)

four-parts : (a b d e word : ℕ) → a < 256 → b < 256 → d < 256 → e < 256 → word ≡ a + 256 * b + 65536 * d + 16777216 * e → bytes_of word ≡ a ∷ b ∷ d ∷ e ∷ []
four-parts a b d e word p q r s is =
    let first : word % 256 ≡ a = omega (arith, p, q, r, s, is) in
    let second : word / 256 % 256 ≡ b = omega (arith, p, q, r, s, is) in
    let third : word / 65536 % 256 ≡ d = omega (arith, p, q, r, s, is) in
    let fourth : word / 16777216 % 256 ≡ e = omega (arith, p, q, r, s, is) in
    λ i. first i ∷ second i ∷ third i ∷ fourth i ∷ []

-- the lanes of a character that has two, three or four bytes
abbrev two_word : ℕ → ℕ
two_word c = ((c / 2 ^ 6 + bit_and c 63 * 2 ^ 8 % 2 ^ 32) % 2 ^ 32 + 0x80c0) % 2 ^ 32

abbrev three_word : ℕ → ℕ
three_word c = (((c / 2 ^ 12 + bit_and (c / 2 ^ 6) 63 * 2 ^ 8 % 2 ^ 32) % 2 ^ 32 + bit_and c 63 * 2 ^ 16 % 2 ^ 32) % 2 ^ 32 + 0x8080e0) % 2 ^ 32

abbrev four_word : ℕ → ℕ
four_word c =
    ((((c / 2 ^ 18 + bit_and (c / 2 ^ 12) 63 * 2 ^ 8 % 2 ^ 32) % 2 ^ 32 + bit_and (c / 2 ^ 6) 63 * 2 ^ 16 % 2 ^ 32) % 2 ^ 32 + bit_and c 63 * 2 ^ 24 % 2 ^ 32) % 2 ^ 32
    + 0x808080f0) % 2 ^ 32

module _ (c : ℕ) where
  last : bit_and c 63 ≡ c % 64
  last = and_mask c 6

  middle : bit_and (c / 2 ^ 6) 63 ≡ c / 64 % 64
  middle = and_mask (c / 2 ^ 6) 6

  second : bit_and (c / 2 ^ 12) 63 ≡ c / 4096 % 64
  second = and_mask (c / 2 ^ 12) 6

  one-lane : c < 128 → take 1 (bytes_of c) ≡ encode_utf8 c
  one-lane short = let same : c % 256 ≡ c = omega (arith, short) in ap (λ n. n ∷ []) same ∙ sym (encode_ascii c short)

  two-lane : 128 ≤ c → c < 0x800 → take 2 (bytes_of (two_word c)) ≡ encode_utf8 c
  two-lane long short =
      let word : two_word c ≡ (192 + c / 64) + 256 * (128 + c % 64) + 65536 * 0 + 16777216 * 0 = omega (arith, last, long, short) in
      ap (take 2) (four-parts (192 + c / 64) (128 + c % 64) 0 0 (two_word c) (omega (arith, short)) (omega arith) (omega arith) (omega arith) word)
      ∙ sym (two_bytes c long short)

  three-lane : 0x800 ≤ c → c < 0x10000 → take 3 (bytes_of (three_word c)) ≡ encode_utf8 c
  three-lane long short =
      let word : three_word c ≡ (224 + c / 4096) + 256 * (128 + c / 64 % 64) + 65536 * (128 + c % 64) + 16777216 * 0 = omega (arith, last, middle, long, short) in
      ap (take 3) (four-parts (224 + c / 4096) (128 + c / 64 % 64) (128 + c % 64) 0 (three_word c) (omega (arith, short)) (omega arith) (omega arith) (omega arith) word)
      ∙ sym (three_bytes c long short)

  four-lane : 0x10000 ≤ c → c < 0x110000 → take 4 (bytes_of (four_word c)) ≡ encode_utf8 c
  four-lane long short =
      let word : four_word c ≡ (240 + c / 262144) + 256 * (128 + c / 4096 % 64) + 65536 * (128 + c / 64 % 64) + 16777216 * (128 + c % 64) =
      omega (arith, last, middle, second, long, short) in
      ap (take 4) (four-parts (240 + c / 262144) (128 + c / 4096 % 64) (128 + c / 64 % 64) (128 + c % 64) (four_word c) (omega (arith, short)) (omega arith) (omega arith) (omega arith) word)
      ∙ sym (four_bytes c long)

-- the value of a lane after a comparison, and whether the mask has a bit for this lane
abbrev compared : Bool → ℕ
compared b = cond b 4294967295 0

abbrev is_set : Bool → Bool
is_set b = top 31 (compared b)

abbrev short_word : ℕ → Bool → ℕ
short_word c long = cond (is_set long) (two_word c) c

abbrev short_lane : ℕ → Bool → List ℕ
short_lane c long = take (kept (cond (is_set long) 1 0) 0) (bytes_of (short_word c long))

short-lane : (c : ℕ) → fits_two_bytes c ≡ true → short_lane c (leb 128 c) ≡ encode_utf8 c
short-lane c short =
    elim (cases_lt c 128) [
      | inl one ↦ ap (short_lane c) (lt-leb 128 c one) ∙ one-lane c one
      | inr two ↦ ap (short_lane c) (le-leb 128 c (omega (arith, two))) ∙ two-lane c (omega (arith, two)) (ltb-true c 0x800 short)
    ]

abbrev any_word : ℕ → Bool → Bool → Bool → ℕ
any_word c from_two from_three from_four =
    cond (is_set from_three) (cond (is_set from_four) (four_word c) (three_word c)) (cond (is_set from_two) (two_word c) c)

-- whether exactly one of two comparisons is true
abbrev either : Bool → Bool → Bool
either from_two from_four = top 31 (bit_xor (compared from_two) (compared from_four))

abbrev any_lane : ℕ → Bool → Bool → Bool → List ℕ
any_lane c from_two from_three from_four =
    take (kept (cond (either from_two from_four) 1 0) (cond (is_set from_three) 1 0)) (bytes_of (any_word c from_two from_three from_four))

any-lane : (c : ℕ) → is_code c ≡ true → any_lane c (leb 128 c) (leb 0x800 c) (leb 0x10000 c) ≡ encode_utf8 c
any-lane c bounded =
    elim (cases_lt c 128) [
      | inl one ↦
          (λ i. any_lane c (lt-leb 128 c one i) (lt-leb 0x800 c (omega (arith, one)) i) (lt-leb 0x10000 c (omega (arith, one)) i))
          ∙ one-lane c one
      | inr above ↦ elim (cases_lt c 0x800) [
        | inl two ↦
            (λ i. any_lane c (le-leb 128 c (omega (arith, above)) i) (lt-leb 0x800 c two i) (lt-leb 0x10000 c (omega (arith, two)) i))
            ∙ two-lane c (omega (arith, above)) two
        | inr higher ↦ elim (cases_lt c 0x10000) [
          | inl three ↦
              (λ i. any_lane c (le-leb 128 c (omega (arith, higher)) i) (le-leb 0x800 c (omega (arith, higher)) i) (lt-leb 0x10000 c three i))
              ∙ three-lane c (omega (arith, higher)) three
          | inr four ↦
              (λ i. any_lane c (le-leb 128 c (omega (arith, four)) i) (le-leb 0x800 c (omega (arith, four)) i) (le-leb 0x10000 c (omega (arith, four)) i))
              ∙ four-lane c (omega (arith, four)) (ltb-true c 0x110000 bounded)
        ]
      ]
    ]

-- the operations on vectors of four lanes
abbrev plus : List ℕ → List ℕ → List ℕ
plus = zip2 (λ a b. (a + b) % 2 ^ 32)

abbrev and_low : List ℕ → List ℕ
and_low xs = zip2 bit_and xs (replicate 4 63)

abbrev up : List ℕ → ℕ → List ℕ
up xs n = zip2 (λ a b. a * 2 ^ b % 2 ^ 32) xs (replicate 4 n)

abbrev down : List ℕ → ℕ → List ℕ
down xs n = zip2 (λ a b. a / 2 ^ b) xs (replicate 4 n)

abbrev from : ℕ → List ℕ → List ℕ
from bound xs = zip2 (λ a b. compared (leb a b)) (replicate 4 bound) xs

abbrev select : List ℕ → List ℕ → List ℕ → List ℕ
select mask xs ys = sel_l (map (top 31) mask) xs ys

abbrev mask_of : List ℕ → ℕ
mask_of mask = mask_l (map (top 31) mask) % 18446744073709551616

abbrev twos : List ℕ → List ℕ
twos cs = plus (plus (down cs 6) (up (and_low cs) 8)) (replicate 4 0x80c0)

abbrev threes : List ℕ → List ℕ
threes cs = plus (plus (plus (down cs 12) (up (and_low (down cs 6)) 8)) (up (and_low cs) 16)) (replicate 4 0x8080e0)

abbrev fours : List ℕ → List ℕ
fours cs = plus (plus (plus (plus (down cs 18) (up (and_low (down cs 12)) 8)) (up (and_low (down cs 6)) 16)) (up (and_low cs) 24)) (replicate 4 0x808080f0)

pub ascii-encoded : (cs : List ℕ) → length cs ≡ 4 → list_all is_ascii cs ≡ true → packed cs 0 0 ≡ encode_utf8_all cs
ascii-encoded = spelled (λ cs. list_all is_ascii cs ≡ true → packed cs 0 0 ≡ encode_utf8_all cs) 4 (λ f ascii.
    packed-encoded (λ c. c) (λ c. false) (λ c. false) is_ascii (λ c one. one-lane c (ltb-true c 128 one)) (listed f 4) ascii)

abbrev short_packed : List ℕ → List ℕ
short_packed cs = packed (select (from 128 cs) (twos cs) cs) (mask_of (from 128 cs)) 0

pub short-encoded : (cs : List ℕ) → length cs ≡ 4 → list_all fits_two_bytes cs ≡ true → short_packed cs ≡ encode_utf8_all cs
short-encoded = spelled (λ cs. list_all fits_two_bytes cs ≡ true → short_packed cs ≡ encode_utf8_all cs) 4 (λ f short.
    let cs = listed f 4 in
    let words = map (λ c. short_word c (leb 128 c)) cs in
    let long = λ (c : ℕ). is_set (leb 128 c) in
    ap (λ mask. packed words mask 0) (mask_l-mod (map long cs) 64 (omega arith))
    ∙ packed-encoded (λ c. short_word c (leb 128 c)) long (λ c. false) fits_two_bytes short-lane cs short)

abbrev any_packed : List ℕ → List ℕ
any_packed cs =
    packed (select (from 0x800 cs) (select (from 0x10000 cs) (fours cs) (threes cs)) (select (from 128 cs) (twos cs) cs))
    (mask_of (zip2 bit_xor (from 128 cs) (from 0x10000 cs))) (mask_of (from 0x800 cs))

pub any-encoded : (cs : List ℕ) → length cs ≡ 4 → list_all is_code cs ≡ true → any_packed cs ≡ encode_utf8_all cs
any-encoded = spelled (λ cs. list_all is_code cs ≡ true → any_packed cs ≡ encode_utf8_all cs) 4 (λ f bounded.
    let cs = listed f 4 in
    let word = λ (c : ℕ). any_word c (leb 128 c) (leb 0x800 c) (leb 0x10000 c) in
    let low = λ (c : ℕ). either (leb 128 c) (leb 0x10000 c) in
    let high = λ (c : ℕ). is_set (leb 0x800 c) in
    (λ i. packed (map word cs) (mask_l-mod (map low cs) 64 (omega arith) i) (mask_l-mod (map high cs) 64 (omega arith) i))
    ∙ packed-encoded word low high is_code any-lane cs bounded)

-- ---- a loop that encodes four characters at a time, and then the rest
module _ (cs : List ℕ) (k : ℕ) (front : List ℕ) {before after : List ℕ} (now : before ≡ front ++ encode_utf8_all (take k cs)) where
  pub four-more : (four : List ℕ) → four ≡ take 4 (drop k cs) → after ≡ before ++ encode_utf8_all four → after ≡ front ++ encode_utf8_all (take (k + 4) cs)
  four-more four four-is after-is =
      let count : k + 4 - k ≡ 4 = omega arith in
      after-is
      ∙ ap₂ (λ xs ys. xs ++ encode_utf8_all ys) now four-is
      ∙ append_assoc front (encode_utf8_all (take k cs)) (encode_utf8_all (take 4 (drop k cs)))
      ∙ ap (λ n. front ++ (encode_utf8_all (take k cs) ++ encode_utf8_all (take n (drop k cs)))) (sym count)
      ∙ ap (λ bytes. front ++ bytes) (sym (encoded-part cs k (k + 4) (omega arith)))

  pub rest-more : after ≡ before ++ encode_utf8_all (take (length cs - k) (drop k cs)) → after ≡ front ++ encode_utf8_all cs
  rest-more after-is =
      let rest : take (length cs - k) (drop k cs) ≡ drop k cs = take_all (length cs - k) (drop k cs) (omega (arith, length-drop k cs)) in
      after-is
      ∙ ap₂ (λ xs ys. xs ++ encode_utf8_all ys) now rest
      ∙ append_assoc front (encode_utf8_all (take k cs)) (encode_utf8_all (drop k cs))
      ∙ ap (λ bytes. front ++ bytes) (sym (encoded-rest cs k))

pub all-part : (test : ℕ → Bool) (cs : List ℕ) (k n : ℕ) → list_all test cs ≡ true → list_all test (take n (drop k cs)) ≡ true
all-part test cs k n all =
    let rest : list_all test (drop k cs) ≡ true = (all-parts (take k cs) (drop k cs) (ap (list_all test) (take-append-drop k cs) ∙ all)).1 in
    (all-parts (take n (drop k cs)) (drop n (drop k cs)) (ap (list_all test) (take-append-drop n (drop k cs)) ∙ rest)).0
  where
    all-parts : (xs ys : List ℕ) → list_all test (xs ++ ys) ≡ true → (list_all test xs ≡ true) × (list_all test ys ≡ true)
    all-parts xs ys both = and_parts (list_all test xs) (list_all test ys) (sym (list_all-append test xs ys) ∙ both)
