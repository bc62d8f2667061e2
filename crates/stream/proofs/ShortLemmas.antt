-- Characters of one or two bytes, decoded with vectors.
use Rattle.std.proofs.Common.{◌≡◌, ◌∙◌, ◌+◌, ◌-◌, ◌*◌, ◌/◌, ◌%◌, ◌^◌, ◌<◌, ◌≤◌, ◌==◌, nat_eq, nat_lt, not, ◌&&◌, Bool, replicate, true, false, cond, if◌then◌else◌, arith, get_or, inl, inr, take, drop, ℕ, zero, suc, List, [], ◌∷◌, ◌++◌, length, map, refl, sym, ap, ap₂, subst, w8, w32, Fits, bit_and, ltb, leb}
use Rattle.std.specs.Prelude.{⊤}
use Rattle.std.specs.List.{list_all, range_with_len}
use Rattle.std.specs.Str.{chars}
use Rattle.std.proofs.lemmas.Bool.{agree_below, agree_below_at, and_parts, cases_lt, ltb-true}
use Rattle.std.proofs.lemmas.Bool.Decides.{nat_tests}
use Rattle.std.proofs.lemmas.List.{append_assoc, ext_get_or, length-append, length-map, length-take-le, take-append-le, take_at, take-take}
use Rattle.std.proofs.lemmas.List.FromFn.{length-map-range_with_len, get_or-map-range_with_len}
use Rattle.std.proofs.lemmas.Nat.{and_mask}
use Rattle.std.proofs.lemmas.Simd.{below_from_Fits, get_or_wider, swz_l, map-map, mask_l-mod, zip2_splat_left}
use lib.Count.{ones}
use lib.Lanes.{chunk, digits_l, number_l, Each1, mask_l, top, zip2}
use mir.Val.{zeroes}
use Rattle.stream.specs.declared.short.TheConstants.{PAIRS}
use Rattle.std.proofs.Math.Seq.{take-append-add}
use Rattle.stream.specs.Short.{pairs, short_char}

-- ---- lists that are written out

abbrev pub listed : (ℕ → ℕ) → ℕ → List ℕ
listed f n = map f (range_with_len 0 n)

-- ---- masks

each_byte : (f : ℕ → ℕ) (p : ℕ → Bool) → agree_below (λ x. top 7 (f x)) p 256 ≡ true → (v : List ℕ) → Each1 (Fits w8) v → map (top 7) (map f v) ≡ map p v
each_byte f p all [] fits = refl
each_byte f p all (x ∷ xs) fits = ap₂ (λ a b. a ∷ b) (agree_below_at (λ y. top 7 (f y)) p 256 x all fits.0.fits) (each_byte f p all xs fits.1)

-- a mask computed lane by lane marks the bytes that pass a test, if it does so for each of the 256 byte
-- values
pub masked : (f : ℕ → ℕ) (p : ℕ → Bool) (v z : List ℕ) → length v ≤ 64 → Each1 (Fits w8) v → z ≡ map f v → agree_below (λ x. top 7 (f x)) p 256 ≡ true
    → mask_l (map (top 7) z) % 2 ^ 64 ≡ mask_l (map p v)
masked f p v z short fits is all =
    ap (λ l. mask_l l % 2 ^ 64) (ap (map (top 7)) is ∙ each_byte f p all v fits) ∙ mask_l-mod (map p v) 64 (omega (arith, length-map v p))

-- ---- the pairs of four bytes, and of all

chain : (a b c d : Bool) (w x y z : ℕ) (tail : List ℕ)
    → (let three = if d then z ∷ tail else tail in let two = if c then y ∷ three else three in let one = if b then x ∷ two else two in if a then w ∷ one else one)
    ≡ (let three = if d then z ∷ [] else [] in let two = if c then y ∷ three else three in let one = if b then x ∷ two else two in if a then w ∷ one else one) ++ tail
chain true true true true w x y z tail = refl
chain true true true false w x y z tail = refl
chain true true false true w x y z tail = refl
chain true true false false w x y z tail = refl
chain true false true true w x y z tail = refl
chain true false true false w x y z tail = refl
chain true false false true w x y z tail = refl
chain true false false false w x y z tail = refl
chain false true true true w x y z tail = refl
chain false true true false w x y z tail = refl
chain false true false true w x y z tail = refl
chain false true false false w x y z tail = refl
chain false false true true w x y z tail = refl
chain false false true false w x y z tail = refl
chain false false false true w x y z tail = refl
chain false false false false w x y z tail = refl

abbrev pub at_most : ℕ → ℕ → ℕ
at_most a b = cond (leb a b) 255 0

-- `simd_ge` is `simd_le` with its operands exchanged
pub from_splat : (f : ℕ → ℕ) (y n : ℕ) (v : List ℕ) {a : List ℕ} → length v ≡ n → a ≡ map f v → zip2 at_most (replicate n y) a ≡ map (λ x. at_most y (f x)) v
from_splat f y n v long p = ap (zip2 at_most (replicate n y)) p ∙ zip2_splat_left at_most y n (map f v) (length-map v f ∙ long) ∙ map-map (at_most y) f v

pub itself : (v : List ℕ) → v ≡ map (λ x. x) v
itself [] = refl
itself (x ∷ xs) = ap (λ t. x ∷ t) (itself xs)

doubled : (n : ℕ) → nat_eq (0 + 2 * n) 0 ≡ nat_eq n 0
doubled n = grind (arith, nat_tests)

odd : (n : ℕ) → nat_eq (1 + 2 * n) 0 ≡ false
odd n = grind (arith, nat_tests)

one_more : (b : Bool) (n : ℕ) (t : Bool) → nat_eq n 0 ≡ t → nat_eq (cond (not b) 1 0 + 2 * n) 0 ≡ (b && t)
one_more true n t is = doubled n ∙ is
one_more false n t is = odd n

none_marked : (p : ℕ → Bool) (xs : List ℕ) → nat_eq (mask_l (map (λ x. not (p x)) xs)) 0 ≡ list_all p xs
none_marked p [] = refl
none_marked p (x ∷ xs) = one_more (p x) (mask_l (map (λ y. not (p y)) xs)) (list_all p xs) (none_marked p xs)

-- if exactly the byte values below y pass the test, the mask of the lanes that are at least y is empty if and
-- only if all lanes pass the test
pub none_from : (p : ℕ → Bool) (y : ℕ) (v : List ℕ) → length v ≡ 16 → Each1 (Fits w8) v → agree_below (λ x. top 7 (at_most y x)) (λ x. not (p x)) 256 ≡ true
    → nat_eq (mask_l (map (top 7) (zip2 at_most (replicate 16 y) v)) % 2 ^ 64) 0 ≡ list_all p v
none_from p y v long fits all =
    ap (λ n. nat_eq n 0) (masked (at_most y) (λ x. not (p x)) v _ (omega arith) fits (from_splat (λ x. x) y 16 v long (itself v)) all) ∙ none_marked p v

pub all_below_from_list_all : (y : ℕ) (xs : List ℕ) → list_all (λ x. nat_lt x y) xs ≡ true → Each1 (λ x. x < y) xs
all_below_from_list_all y [] all = tt
all_below_from_list_all y (x ∷ xs) all =
    let parts = and_parts (nat_lt x y) (list_all (λ z. nat_lt z y) xs) all in
    (ltb-true x y parts.0, all_below_from_list_all y xs parts.1)

-- ---- one character

-- a list of n numbers equals its items written out
pub spell : (n : ℕ) (xs : List ℕ) → length xs ≡ n → xs ≡ listed (λ k. get_or xs k 0) n
spell n xs long =
    let f = λ (k : ℕ). get_or xs k 0 in
    let many = length-map-range_with_len f 0 n in
    sym (ext_get_or 0 _ xs (many ∙ sym long) (λ i l. get_or-map-range_with_len f 0 n i i 0 (omega arith) (omega arith)))

-- each lane computes the character of its pair of bytes
pub lane : (x : ℕ) → Fits w32 x → cond (top 31 (cond (ltb (bit_and x 255) 128) (2 ^ 32 - 1) 0)) (bit_and x 255) (((bit_and x 31 * 2 ^ 6) % 2 ^ 32 + bit_and (x / 2 ^ 8) 63) % 2 ^ 32) ≡ short_char x
lane x fits =
    rw (and_mask x 8, and_mask x 5, and_mask (x / 2 ^ 8) 6)
    (pick (ltb (x % 256) 128) _ _ ∙ ap (λ (n : ℕ). if nat_lt (x % 256) 128 then x % 256 else n) (omega arith))
  where
    pick : (b : Bool) (m n : ℕ) → cond (top 31 (cond b (2 ^ 32 - 1) 0)) m n ≡ (if b then m else n)
    pick true m n = refl
    pick false m n = refl

-- ---- the shuffle

abbrev Each : (ℕ → Type 0) → ℕ → Type 0
Each P zero = ⊤
Each P (suc n) = P n × Each P n

each : (P : ℕ → Type 0) (n k : ℕ) → Each P n → k < n → P k
each P zero k h l = absurd (omega arith)
each P (suc n) k h l = elim (cases_lt k n) [ inl a ↦ each P n k h.1 a | inr a ↦ let e : n ≡ k = omega arith in subst P e h.0 ]

small_at : (xs : List ℕ) → Each1 (λ x. x < 256) xs → (n : ℕ) → get_or xs n 0 < 256
small_at [] all n = omega arith
small_at (x ∷ xs) all zero = all.0
small_at (x ∷ xs) all (suc n) = small_at xs all.1 n

small_or_zero : (b : Bool) (n : ℕ) → n < 256 → cond b 0 n < 256
small_or_zero true n small = omega arith
small_or_zero false n small = small

shuffled_small : (xs : List ℕ) (i : ℕ) (js : List ℕ) → Each1 (λ x. x < 256) xs → Each1 (λ x. x < 256) (swz_l w8 16 xs i js)
shuffled_small xs i [] all = tt
shuffled_small xs i (j ∷ js) all = (small_or_zero (zeroes 16 w8 j) _ (small_at xs all (16 * (i / 16) + j)), shuffled_small xs (suc i) js all)

abbrev wide : List ℕ → List ℕ
wide xs = number_l 256 (chunk 0 4 xs) ∷ number_l 256 (chunk 4 4 xs) ∷ number_l 256 (chunk 8 4 xs) ∷ number_l 256 (chunk 12 4 xs) ∷ []

-- the digits, in base 2^32, of the number that the bytes encode are the numbers that each four bytes encode
widened : (xs : List ℕ) → Each1 (λ x. x < 256) xs → digits_l (2 ^ 32) 4 (number_l 256 xs) ≡ wide xs
widened xs all =
    let w : (j : ℕ) → j < 4 → get_or (digits_l (2 ^ 32) 4 (number_l 256 xs)) j 0 ≡ number_l 256 (chunk (4 * j) 4 xs) = λ j lt. get_or_wider 256 4 (2 ^ 32) 4 xs j refl all lt in
    λ i. w 0 (omega arith) i ∷ w 1 (omega arith) i ∷ w 2 (omega arith) i ∷ w 3 (omega arith) i ∷ []

abbrev Gathers : List ℕ → List ℕ → ℕ → Type 0
Gathers none bytes marks = take (length (pairs 4 marks bytes)) (wide (swz_l w8 16 bytes 0 (get_or PAIRS marks none))) ≡ pairs 4 marks bytes

-- each row of the table gathers the pairs of its mask
table_gathers : (none : List ℕ) (f : ℕ → ℕ) → Each (Gathers none (listed f 16)) 16
table_gathers none f =
    let p : (k : ℕ) → number_l 256 (f k ∷ f (suc k) ∷ 0 ∷ 0 ∷ []) ≡ f k + 256 * f (suc k) = λ k. omega arith in
    let m15 : Gathers none (listed f 16) 15 = λ i. p 0 i ∷ p 1 i ∷ p 2 i ∷ p 3 i ∷ [] in
    let m14 : Gathers none (listed f 16) 14 = λ i. p 1 i ∷ p 2 i ∷ p 3 i ∷ [] in
    let m13 : Gathers none (listed f 16) 13 = λ i. p 0 i ∷ p 2 i ∷ p 3 i ∷ [] in
    let m12 : Gathers none (listed f 16) 12 = λ i. p 2 i ∷ p 3 i ∷ [] in
    let m11 : Gathers none (listed f 16) 11 = λ i. p 0 i ∷ p 1 i ∷ p 3 i ∷ [] in
    let m10 : Gathers none (listed f 16) 10 = λ i. p 1 i ∷ p 3 i ∷ [] in
    let m9 : Gathers none (listed f 16) 9 = λ i. p 0 i ∷ p 3 i ∷ [] in
    let m8 : Gathers none (listed f 16) 8 = λ i. p 3 i ∷ [] in
    let m7 : Gathers none (listed f 16) 7 = λ i. p 0 i ∷ p 1 i ∷ p 2 i ∷ [] in
    let m6 : Gathers none (listed f 16) 6 = λ i. p 1 i ∷ p 2 i ∷ [] in
    let m5 : Gathers none (listed f 16) 5 = λ i. p 0 i ∷ p 2 i ∷ [] in
    let m4 : Gathers none (listed f 16) 4 = λ i. p 2 i ∷ [] in
    let m3 : Gathers none (listed f 16) 3 = λ i. p 0 i ∷ p 1 i ∷ [] in
    let m2 : Gathers none (listed f 16) 2 = λ i. p 1 i ∷ [] in
    let m1 : Gathers none (listed f 16) 1 = λ i. p 0 i ∷ [] in
    let m0 : Gathers none (listed f 16) 0 = refl in
    (m15, (m14, (m13, (m12, (m11, (m10, (m9, (m8, (m7, (m6, (m5, (m4, (m3, (m2, (m1, (m0, tt))))))))))))))))

pub gathered : (none bytes : List ℕ) (marks : ℕ) → marks < 16 → length bytes ≡ 16 → Each1 (Fits w8) bytes
    → take (length (pairs 4 marks bytes)) (digits_l (2 ^ 32) 4 (number_l 256 (swz_l w8 16 bytes 0 (get_or PAIRS marks none)))) ≡ pairs 4 marks bytes
gathered none bytes marks few long fits =
    let small = below_from_Fits w8 bytes fits in
    ap (take (length (pairs 4 marks bytes))) (widened _ (shuffled_small bytes 0 (get_or PAIRS marks none) small))
    ∙ subst (λ xs. Gathers none xs marks) (sym (spell 16 bytes long)) (each (Gathers none (listed (λ k. get_or bytes k 0) 16)) 16 marks (table_gathers none (λ k. get_or bytes k 0)) few)

-- ---- the number of pairs

abbrev Counts : List ℕ → ℕ → Type 0
Counts bytes marks = ones marks ≡ length (pairs 4 marks bytes)

-- the number of marks in a mask is the number of pairs
pub counted : (bytes : List ℕ) (marks : ℕ) → marks < 16 → length bytes ≡ 16 → ones marks ≡ length (pairs 4 marks bytes)
unfolding ones
counted bytes marks few long =
    let f = λ (k : ℕ). get_or bytes k 0 in
    subst (λ xs. Counts xs marks) (sym (spell 16 bytes long))
    (each (Counts (listed f 16)) 16 marks (refl, (refl, (refl, (refl, (refl, (refl, (refl, (refl, (refl, (refl, (refl, (refl, (refl, (refl, (refl, (refl, tt)))))))))))))))) few)

pub length_if : (b : Bool) (n x : ℕ) (xs : List ℕ) → length xs ≤ n → length (if b then x ∷ xs else xs) ≤ suc n
length_if true n x xs le = omega arith
length_if false n x xs le = omega arith

pub pairs_le : (n marks : ℕ) (bytes : List ℕ) → length (pairs n marks bytes) ≤ n
pairs_le zero marks bytes = omega arith
pairs_le (suc n) marks [] = omega arith
pairs_le (suc n) marks (x ∷ xs) = length_if (marks % 2 == 1) n _ (pairs n (marks / 2) xs) (pairs_le n (marks / 2) xs)

pub take_map : {X Y : Type 0} (f : X → Y) (n : ℕ) (xs : List X) → take n (map f xs) ≡ map f (take n xs)
take_map f zero xs = refl
take_map f (suc n) [] = refl
take_map f (suc n) (x ∷ xs) = ap (λ t. f x ∷ t) (take_map f n xs)

-- if four items were written at an index, the first n of them follow the items before the index
pub written : (at n : ℕ) (out four post : List ℕ) → at ≤ length out → n ≤ length four → take (at + n) (take at out ++ (four ++ post)) ≡ take at out ++ take n four
written at n out four post within few =
    let len : length (take at out) ≡ at = length-take-le at out within in
    ap (λ k. take (k + n) (take at out ++ (four ++ post))) (sym len) ∙ take-append-add (take at out) (four ++ post) n ∙ ap (λ t. take at out ++ t) (take-append-le n four post few)

-- the first decoded characters are those of the pairs in the first four bytes
pub first_chars : (f : ℕ → ℕ) (pair decoded : List ℕ) (bytes : List ℕ) (marks : ℕ) → marks < 16 → length bytes ≡ 16 → take (length (pairs 4 marks bytes)) pair ≡ pairs 4 marks bytes
    → decoded ≡ map f pair → take (ones marks) decoded ≡ map f (pairs 4 marks bytes)
first_chars f pair decoded bytes marks few long gathers is =
    ap₂ take (counted bytes marks few long) is ∙ take_map f (length (pairs 4 marks bytes)) pair ∙ ap (map f) gathers

-- ---- all pairs

-- the pairs of bytes are the pairs of the first four bytes, followed by the pairs of the remaining bytes
pub pairs_after_4 : (n marks : ℕ) (w x y z : ℕ) (bytes : List ℕ)
    → pairs (suc (suc (suc (suc n)))) marks (w ∷ x ∷ y ∷ z ∷ bytes) ≡ pairs 4 (marks % 16) (w ∷ x ∷ y ∷ z ∷ bytes) ++ pairs n (marks / 16) bytes
pairs_after_4 n marks w x y z bytes =
    let a : marks % 16 % 2 ≡ marks % 2 = omega arith in
    let b : marks % 16 / 2 % 2 ≡ marks / 2 % 2 = omega arith in
    let c : marks % 16 / 2 / 2 % 2 ≡ marks / 2 / 2 % 2 = omega arith in
    let d : marks % 16 / 2 / 2 / 2 % 2 ≡ marks / 2 / 2 / 2 % 2 = omega arith in
    let e : marks / 2 / 2 / 2 / 2 ≡ marks / 16 = omega arith in
    rw (a, b, c, d, sym e)
    (chain (marks % 2 == 1) (marks / 2 % 2 == 1) (marks / 2 / 2 % 2 == 1) (marks / 2 / 2 / 2 % 2 == 1)
    (w + 256 * x) (x + 256 * y) (y + 256 * z) (z + 256 * get_or bytes 0 0) (pairs n (marks / 2 / 2 / 2 / 2) bytes))

-- the pairs of 16 bytes are the concatenated pairs of each four bytes
pub pairs_by_4 : (marks : ℕ) (f : ℕ → ℕ) → marks < 2 ^ 16
    → pairs 16 marks (listed f 16)
    ≡ pairs 4 (marks % 16) (listed f 16) ++ (pairs 4 (marks / 16 % 16) (drop 4 (listed f 16)) ++ (pairs 4 (marks / 256 % 16) (drop 8 (listed f 16)) ++ pairs 4 (marks / 4096) (drop 12 (listed f 16))))
pairs_by_4 marks f small =
    let a : marks / 16 / 16 ≡ marks / 256 = omega arith in
    let b : marks / 16 / 16 / 16 ≡ marks / 4096 = omega arith in
    pairs_after_4 12 marks (f 0) (f 1) (f 2) (f 3) (drop 4 (listed f 16))
    ∙ ap (λ t. pairs 4 (marks % 16) (listed f 16) ++ t) (
    pairs_after_4 8 (marks / 16) (f 4) (f 5) (f 6) (f 7) (drop 8 (listed f 16))
    ∙ ap (λ t. pairs 4 (marks / 16 % 16) (drop 4 (listed f 16)) ++ t) (
    pairs_after_4 4 (marks / 16 / 16) (f 8) (f 9) (f 10) (f 11) (drop 12 (listed f 16))
    ∙ ap₂ (λ m n. pairs 4 (m % 16) (drop 8 (listed f 16)) ++ pairs 4 n (drop 12 (listed f 16))) a b))

map_append : (f : ℕ → ℕ) (xs ys : List ℕ) → map f (xs ++ ys) ≡ map f xs ++ map f ys
map_append f [] ys = refl
map_append f (x ∷ xs) ys = ap (λ t. f x ∷ t) (map_append f xs ys)

-- decoding four lists one after another yields the characters of their concatenation
pub joined : (f : ℕ → ℕ) (a b c d w x y z : List ℕ) → a ≡ map f w → b ≡ a ++ map f x → c ≡ b ++ map f y → d ≡ c ++ map f z → d ≡ map f (w ++ (x ++ (y ++ z)))
joined f a b c d w x y z p q r s =
    s ∙ ap (λ t. t ++ map f z) (r ∙ ap (λ t. t ++ map f y) (q ∙ ap (λ t. t ++ map f x) p ∙ sym (map_append f w x)) ∙ sym (map_append f (w ++ x) y)) ∙ sym (map_append f ((w ++ x) ++ y) z)
    ∙ ap (map f) (append_assoc (w ++ x) y z ∙ append_assoc w x (y ++ z))

-- If items are appended to `chars` and then overwritten so that `new` comes first, the list up to the first k
-- of these items is `chars ++ new`.
pub in_list : (chars zeros front out post rest new : List ℕ) (len k all : ℕ) → front ≡ chars ++ zeros → len ≡ length chars → k ≤ length out → len + k ≤ all → take k out ≡ new
    → take (len + k) (take all ((take len front ++ (out ++ post)) ++ rest)) ≡ chars ++ new
in_list chars zeros front out post rest new len k all is len_is few within written_is =
    let parts : (take len front ++ (out ++ post)) ++ rest ≡ take len front ++ (out ++ (post ++ rest)) =
    append_assoc (take len front) (out ++ post) rest ∙ ap (λ t. take len front ++ t) (append_assoc out post rest) in
    let long : len ≤ length front = omega (arith, ap length is, length-append chars zeros) in
    take-take (len + k) all _ within ∙ ap (take (len + k)) parts ∙ written len k front out (post ++ rest) long few
    ∙ ap₂ (λ s t. s ++ t) (ap (take len) is ∙ take_at chars zeros len (sym len_is)) written_is
