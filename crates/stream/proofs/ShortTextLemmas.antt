-- Characters of one or two bytes at the front of a text.
use Rattle.std.proofs.Common.{◌≡◌, ◌∙◌, ◌+◌, ◌*◌, ◌/◌, ◌%◌, ◌^◌, ◌<◌, ◌≤◌, nat_lt, Bool, true, false, cond, if◌then◌else◌, arith, get_or, take, drop, ℕ, zero, suc, List, [], ◌∷◌, ◌++◌, length, map, refl, sym, ap, subst}
use Rattle.std.specs.Prelude.{IsUtf8, IsCharBoundary}
use Rattle.std.specs.Str.{chars}
use Rattle.std.proofs.lemmas.Bool.{and_parts}
use Rattle.std.proofs.lemmas.Bool.Decides.{nat_tests}
use Rattle.std.proofs.lemmas.List.{append_assoc, length-map, length-take-le, take-append-drop, take-take}
use Rattle.std.proofs.lemmas.Nat.{mod-pow-add}
use Rattle.std.proofs.lemmas.Str.{chars-append, chars_from_encodes, IsCharBoundary-from_drop, IsUtf8-take}
use Rattle.std.proofs.str.Laws.{Follows, Shape, of1, of2, of3, of4, shape}
use native.Mathlib.Nat.{mod-lt, mod-one, one-le-pow}
use Rattle.std.proofs.lemmas.Simd.{Each1-chunk}
use lib.Lanes.{Each1, mask_l}
use lib.Pow.{pow_mono}
use lib.Utf8.{encode, encodes, scalar, scalars, scalar_cases}
use Rattle.stream.proofs.ShortLemmas.{length_if, take_map}
use Rattle.stream.specs.Short.{begins, pairs, short_char}
use Rattle.stream.specs.Utf8.{Moved}

-- ---- marks as a list

-- the pairs that begin with marked bytes; a list of flags marks the bytes
abbrev picked : List Bool → List ℕ → List ℕ
picked [] bytes = []
picked (m ∷ ms) [] = []
picked (m ∷ ms) (b ∷ bs) = if m then (b + 256 * get_or bs 0 0) ∷ picked ms bs else picked ms bs

pairs_picked : (n : ℕ) (ms : List Bool) (bytes : List ℕ) → length ms ≤ n → pairs n (mask_l ms) bytes ≡ picked ms bytes
pairs_picked zero [] bytes le = refl
pairs_picked zero (m ∷ ms) bytes le = absurd (omega arith)
pairs_picked (suc n) [] [] le = refl
pairs_picked (suc n) [] (b ∷ bs) le = pairs_picked n [] bs (omega arith)
pairs_picked (suc n) (m ∷ ms) [] le = refl
pairs_picked (suc n) (true ∷ ms) (b ∷ bs) le =
    let low : (1 + 2 * mask_l ms) % 2 ≡ 1 = omega arith in
    let high : (1 + 2 * mask_l ms) / 2 ≡ mask_l ms = omega arith in
    rw (low, high) (ap (λ t. (b + 256 * get_or bs 0 0) ∷ t) (pairs_picked n ms bs (omega arith)))
pairs_picked (suc n) (false ∷ ms) (b ∷ bs) le =
    let low : (0 + 2 * mask_l ms) % 2 ≡ 0 = omega arith in
    let high : (0 + 2 * mask_l ms) / 2 ≡ mask_l ms = omega arith in
    rw (low, high) (pairs_picked n ms bs (omega arith))

picked_le : (ms : List Bool) (bytes : List ℕ) → length (picked ms bytes) ≤ length ms
picked_le [] bytes = omega arith
picked_le (m ∷ ms) [] = omega arith
picked_le (m ∷ ms) (b ∷ bs) = length_if m (length ms) _ (picked ms bs) (picked_le ms bs)

lowest : (b : Bool) (n : ℕ) → ((cond b 1 0 + 2 * n) % 2 ≡ cond b 1 0) × ((cond b 1 0 + 2 * n) / 2 ≡ n)
lowest true n = omega arith
lowest false n = omega arith

-- the low n bits of a mask are the mask of the first n lanes
mask_take : (n : ℕ) (ms : List Bool) → n ≤ length ms → mask_l ms % 2 ^ n ≡ mask_l (take n ms)
mask_take zero ms le = mod-one (mask_l ms)
mask_take (suc n) [] le = absurd (omega arith)
mask_take (suc n) (m ∷ ms) le =
    let x = cond m 1 0 + 2 * mask_l ms in
    let next : suc n ≡ n + 1 = omega arith in
    ap (λ k. x % 2 ^ k) next ∙ mod-pow-add x n 1 ∙ (λ i. ((lowest m (mask_l ms)).1 i % 2 ^ n) * 2 + (lowest m (mask_l ms)).0 i)
    ∙ ap (λ t. t * 2 + cond m 1 0) (mask_take n ms (omega arith)) ∙ omega arith

-- ---- characters

begins_ascii : (c : ℕ) → c < 128 → begins c ≡ true
begins_ascii c low = grind (arith, nat_tests)

begins_two : (a : ℕ) → 192 ≤ a → begins a ≡ true
begins_two a high = grind (arith, nat_tests)

begins_not : (b : ℕ) → Follows b → begins b ≡ false
begins_not b follows = let low = follows.0 in let high = follows.1 in grind (arith, nat_tests)

short_ascii : (c x : ℕ) → c < 128 → short_char (c + 256 * x) ≡ c
short_ascii c x low =
    let is : (c + 256 * x) % 256 ≡ c = omega arith in
    let test : nat_lt c 128 ≡ true = grind (arith, nat_tests) in
    rw (is, test) refl

short_two : (a b c : ℕ) → 192 ≤ a → a < 224 → Follows b → c + 12416 ≡ a * 64 + b → short_char (a + 256 * b) ≡ c
short_two a b c low high follows is =
    let first : (a + 256 * b) % 256 ≡ a = omega arith in
    let test : nat_lt a 128 ≡ false = grind (arith, nat_tests) in
    let follows_low = follows.0 in
    let follows_high = follows.1 in
    rw (first, test) (omega arith)

picked_one : (c : ℕ) (bs more : List ℕ) → c < 128
    → map short_char (picked (begins c ∷ map begins bs) (c ∷ (bs ++ more))) ≡ c ∷ map short_char (picked (map begins bs) (bs ++ more))
picked_one c bs more low = rw (begins_ascii c low) (ap (λ t. t ∷ map short_char (picked (map begins bs) (bs ++ more))) (short_ascii c (get_or (bs ++ more) 0 0) low))

picked_two : (a b c : ℕ) (bs more : List ℕ) → 192 ≤ a → a < 224 → Follows b → c + 12416 ≡ a * 64 + b
    → map short_char (picked (begins a ∷ begins b ∷ map begins bs) (a ∷ b ∷ (bs ++ more))) ≡ c ∷ map short_char (picked (map begins bs) (bs ++ more))
picked_two a b c bs more low high follows is =
    rw (begins_two a low, begins_not b follows) (ap (λ t. t ∷ map short_char (picked (map begins bs) (bs ++ more))) (short_two a b c low high follows is))

-- each character of one or two bytes is decoded from its first byte and the byte after it
picked_chars : (cs front more : List ℕ) → encodes cs ≡ front → scalars cs ≡ true → Each1 (λ x. x < 224) front → map short_char (picked (map begins front) (front ++ more)) ≡ cs
picked_chars [] front more is all few = ap (λ t. map short_char (picked (map begins t) (t ++ more))) (sym is)
picked_chars (c ∷ cs) front more is all few = go (λ few_2. picked_chars cs (encodes cs) more refl (and_parts _ _ all).1 few_2) (shape c (scalar_cases c (and_parts _ _ all).0))
  where
    spelt : (start : List ℕ) → encode c ≡ start → front ≡ start ++ encodes cs
    spelt start e = sym is ∙ ap (λ t. t ++ encodes cs) e

    below : (start : List ℕ) → encode c ≡ start → Each1 (λ x. x < 224) (start ++ encodes cs)
    below start e = subst (Each1 (λ x. x < 224)) (spelt start e) few

    shown : (start : List ℕ) → encode c ≡ start → map short_char (picked (map begins front) (front ++ more)) ≡ map short_char (picked (map begins (start ++ encodes cs)) ((start ++ encodes cs) ++ more))
    shown start e = ap (λ t. map short_char (picked (map begins t) (t ++ more))) (spelt start e)

    go : (Each1 (λ x. x < 224) (encodes cs) → map short_char (picked (map begins (encodes cs)) (encodes cs ++ more)) ≡ cs) → Shape c → map short_char (picked (map begins front) (front ++ more)) ≡ c ∷ cs
    go hyp (of1 low e) =
        shown (c ∷ []) e ∙ picked_one c (encodes cs) more low ∙ ap (λ t. c ∷ t) (hyp (below (c ∷ []) e).1)
    go hyp (of2 a b low high follows value e) =
        shown (a ∷ b ∷ []) e ∙ picked_two a b c (encodes cs) more low high follows value
        ∙ ap (λ t. c ∷ t) (hyp (below (a ∷ b ∷ []) e).1.1)
    go hyp (of3 a b d low high f g value e) = absurd (omega (arith, low, (below (a ∷ b ∷ d ∷ []) e).0))
    go hyp (of4 a b d x low high f g h value e) = absurd (omega (arith, low, (below (a ∷ b ∷ d ∷ x ∷ []) e).0))

-- ---- where a character ends

-- if all bytes up to index n are in characters of one or two bytes, and no two-byte character begins with the byte at
-- n, then a character ends with that byte
ends_after : (cs bytes : List ℕ) → encodes cs ≡ bytes → scalars cs ≡ true → (n : ℕ) → n < length bytes → ((k : ℕ) → k ≤ n → get_or bytes k 0 < 224)
    → get_or bytes n 0 < 192 → IsUtf8 (drop (suc n) bytes)
ends_after [] bytes is all n within few last = absurd (omega (arith, ap length is))
ends_after (c ∷ cs) bytes is all n within few last = go (λ m w f l. ends_after cs (encodes cs) refl (and_parts _ _ all).1 m w f l) n refl (shape c (scalar_cases c (and_parts _ _ all).0))
  where
    parts : (scalar c ≡ true) × (scalars cs ≡ true)
    parts = and_parts _ _ all

    spelt : (start : List ℕ) → encode c ≡ start → bytes ≡ start ++ encodes cs
    spelt start e = sym is ∙ ap (λ t. t ++ encodes cs) e

    at : (start : List ℕ) → encode c ≡ start → (k : ℕ) → get_or bytes k 0 ≡ get_or (start ++ encodes cs) k 0
    at start e k = ap (λ t. get_or t k 0) (spelt start e)

    go : ((m : ℕ) → m < length (encodes cs) → ((k : ℕ) → k ≤ m → get_or (encodes cs) k 0 < 224) → get_or (encodes cs) m 0 < 192 → IsUtf8 (drop (suc m) (encodes cs))) → (m : ℕ) → n ≡ m → Shape c → IsUtf8 (drop (suc n) bytes)
    go hyp zero same (of1 low e) = subst (λ t. IsUtf8 (drop (suc n) t)) (sym (spelt (c ∷ []) e)) (subst (λ k. IsUtf8 (drop (suc k) (c ∷ encodes cs))) (sym same) (cs, (parts.1, refl)))
    go hyp (suc m) same (of1 low e) =
        subst (λ t. IsUtf8 (drop (suc n) t)) (sym (spelt (c ∷ []) e)) (subst (λ k. IsUtf8 (drop (suc k) (c ∷ encodes cs))) (sym same)
        (hyp m (omega (arith, within, same, ap length (spelt (c ∷ []) e)))
        (λ k le. omega (arith, few (suc k) (omega (arith, le, same)), at (c ∷ []) e (suc k)))
        (omega (arith, last, ap (λ k. get_or bytes k 0) same, at (c ∷ []) e (suc m)))))
    go hyp zero same (of2 a b low high follows value e) = absurd (omega (arith, last, low, ap (λ k. get_or bytes k 0) same, at (a ∷ b ∷ []) e 0))
    go hyp (suc zero) same (of2 a b low high follows value e) =
        subst (λ t. IsUtf8 (drop (suc n) t)) (sym (spelt (a ∷ b ∷ []) e)) (subst (λ k. IsUtf8 (drop (suc k) (a ∷ b ∷ encodes cs))) (sym same) (cs, (parts.1, refl)))
    go hyp (suc (suc m)) same (of2 a b low high follows value e) =
        subst (λ t. IsUtf8 (drop (suc n) t)) (sym (spelt (a ∷ b ∷ []) e)) (subst (λ k. IsUtf8 (drop (suc k) (a ∷ b ∷ encodes cs))) (sym same)
        (hyp m (omega (arith, within, same, ap length (spelt (a ∷ b ∷ []) e)))
        (λ k le. omega (arith, few (suc (suc k)) (omega (arith, le, same)), at (a ∷ b ∷ []) e (suc (suc k))))
        (omega (arith, last, ap (λ k. get_or bytes k 0) same, at (a ∷ b ∷ []) e (suc (suc m))))))
    go hyp m same (of3 a b d low high f g value e) = absurd (omega (arith, low, few 0 (omega arith), at (a ∷ b ∷ d ∷ []) e 0))
    go hyp m same (of4 a b d x low high f g h value e) = absurd (omega (arith, low, few 0 (omega arith), at (a ∷ b ∷ d ∷ x ∷ []) e 0))

pub ends_short : (text : List ℕ) (n : ℕ) → IsUtf8 text → n < length text → ((k : ℕ) → k ≤ n → get_or text k 0 < 224) → get_or text n 0 < 192 → IsCharBoundary text (suc n)
ends_short text n utf8 within few last = IsCharBoundary-from_drop text (suc n) (omega arith) (ends_after utf8.0 text utf8.1.1 utf8.1.0 n within few last)

-- `1 << n` is 2^n
pub shifted_one : (n : ℕ) → n ≤ 16 → (1 * 2 ^ n) % 2 ^ 64 ≡ 2 ^ n
shifted_one n le = let most : 2 ^ n ≤ 2 ^ 16 = pow_mono le in omega (arith, most)

-- `marks % (1 << n)` is below 2^16
pub few_marks : (m n : ℕ) → n ≤ 16 → m % ((1 * 2 ^ n) % 2 ^ 64) < 2 ^ 16
few_marks m n le =
    let most : 2 ^ n ≤ 2 ^ 16 = pow_mono le in
    let some : 0 < 2 ^ n = one-le-pow n 2 (omega arith) in
    let below : m % 2 ^ n < 2 ^ n = mod-lt m some in
    omega (arith, most, below, ap (λ k. m % k) (shifted_one n le))

-- ---- the front of a text

module _ (text bytes : List ℕ) (len : ℕ) (utf8 : IsUtf8 text) (is : bytes ≡ take 16 text) (within : len ≤ 16) (long : 16 ≤ length text) (few : Each1 (λ x. x < 224) bytes)
    (boundary : IsCharBoundary text len) where
  front_is : take len bytes ≡ take len text
  front_is = ap (take len) is ∙ take-take len 16 text within

  sixteen : length bytes ≡ 16
  sixteen = ap length is ∙ length-take-le 16 text long

  front_len : length (take len text) ≡ len
  front_len = length-take-le len text (omega arith)

  marks_are : mask_l (map begins bytes) % 2 ^ len ≡ mask_l (map begins (take len text))
  marks_are =
      mask_take len (map begins bytes) (omega (arith, length-map bytes begins, sixteen, within)) ∙ ap mask_l (take_map begins len bytes ∙ ap (map begins) front_is)

  pairs_are : pairs 16 (mask_l (map begins bytes) % 2 ^ len) bytes ≡ picked (map begins (take len text)) bytes
  pairs_are = ap (λ m. pairs 16 m bytes) marks_are ∙ pairs_picked 16 (map begins (take len text)) bytes (omega (arith, length-map (take len text) begins, front_len, within))

  pub few_pairs : length (map short_char (pairs 16 (mask_l (map begins bytes) % 2 ^ len) bytes)) ≤ len
  few_pairs =
      omega (arith, length-map (pairs 16 (mask_l (map begins bytes) % 2 ^ len) bytes) short_char, ap length pairs_are, picked_le (map begins (take len text)) bytes, length-map (take len text) begins, front_len)

  front_chars : map short_char (pairs 16 (mask_l (map begins bytes) % 2 ^ len) bytes) ≡ chars (take len text)
  front_chars =
      let utf8_front = IsUtf8-take text len utf8 boundary in
      let parts : bytes ≡ take len text ++ drop len bytes = sym (take-append-drop len bytes) ∙ ap (λ t. t ++ drop len bytes) front_is in
      ap (map short_char) (pairs_are ∙ ap (picked (map begins (take len text))) parts)
      ∙ picked_chars utf8_front.0 (take len text) (drop len bytes) utf8_front.1.1 utf8_front.1.0 (subst (Each1 (λ x. x < 224)) front_is (Each1-chunk (λ x. x < 224) 0 len bytes few))
      ∙ chars_from_encodes utf8_front.0 (take len text) utf8_front utf8_front.1.1

  -- appending the characters of the front of the text moves them
  pub moved_short : (before after : List ℕ) → after ≡ before ++ map short_char (pairs 16 (mask_l (map begins bytes) % 2 ^ len) bytes) → Moved before text after (drop len text)
  moved_short before after is_after =
      ap (λ t. t ++ chars (drop len text)) (is_after ∙ ap (λ t. before ++ t) front_chars) ∙ append_assoc before (chars (take len text)) (chars (drop len text))
      ∙ ap (λ t. before ++ t) (sym (chars-append (take len text) (drop len text) (IsUtf8-take text len utf8 boundary)) ∙ ap chars (take-append-drop len text))
