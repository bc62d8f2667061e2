-- The longest UTF-8 prefix of some bytes, and the bytes that can follow it.
use Rattle.std.proofs.Common.{◌≡◌, ◌⊎◌, Bool, if◌then◌else◌, inl, inr, ⊎_elim, ℕ, zero, suc, ◌+◌, ◌-◌, ◌*◌, ◌<◌, ◌≤◌, true, false, List, [], ◌∷◌, ◌++◌, length, take, drop, Some, None, refl, sym, subst, ap, ◌∙◌, arith, true≢false}
use Rattle.std.proofs.lemmas.Bool.{cases_Bool, cases_lt, cond-true, cond-false, and_parts}
use Rattle.std.proofs.lemmas.Bool.Decides.{nat_tests}
use Rattle.std.proofs.lemmas.List.{append_assoc, append-nil, nil_from_length, drop_all, length-append, length-take-le, take_all, take-append-drop, take-append-le}
use Rattle.std.proofs.Math.Seq.{take-append-add, drop-append-add}
use Rattle.std.proofs.lemmas.Str.{IsUtf8-append, IsUtf8-from_is_utf8, is_utf8-from_IsUtf8, utf8_valid_len_le, utf8_valid_len-IsUtf8, utf8_valid_len-IsValidUpTo, cons_from_encodes, IsUtf8-encode, len_utf8_bounds, length-encode}
use Rattle.std.proofs.str.Laws.{Follows, Scalar, Shape, of1, of2, of3, of4, shape, one, two, three}
use Rattle.std.specs.Prelude.{is_some}
use Rattle.std.specs.Str.{IsUtf8, IsValidUpTo, is_utf8}
use Rattle.std.specs.Int.{is_in_range}
use Rattle.std.specs.Str.Lossy.{utf8_valid_len, utf8_error_len, valid_len_up_to, second_byte_min, second_byte_max, error_len_after_one, error_len_after_two}
use Rattle.stream.specs.Utf8.{is_bad}
use lib.Utf8.{encode, encodes, scalar, scalars, scalar_cases}

longest_front : (bs : List ℕ) (m : ℕ)
    → IsUtf8 (take (valid_len_up_to bs m) bs) × ((k : ℕ) → valid_len_up_to bs m < k → k ≤ m → ¬ (IsUtf8 (take k bs)))
longest_front bs zero = (([], (refl, refl)), λ k above within. absurd (omega arith))
longest_front bs (suc m) =
    let rest = longest_front bs m in
    ⊎_elim
    (λ is_one.
    let is : valid_len_up_to bs (suc m) ≡ suc m = cond-true _ _ _ is_one in
    (subst (λ n. IsUtf8 (take n bs)) (sym is) (IsUtf8-from_is_utf8 _ is_one), λ k above within. absurd (omega arith)))
    (λ is_none.
    let is : valid_len_up_to bs (suc m) ≡ valid_len_up_to bs m = cond-false _ _ _ is_none in (
      subst (λ n. IsUtf8 (take n bs)) (sym is) rest.0,
      λ k above within u. ⊎_elim
          (λ (top : m < k).
          let same : k ≡ suc m = omega arith in
          true≢false (sym (is_utf8-from_IsUtf8 _ (subst (λ n. IsUtf8 (take n bs)) same u)) ∙ is_none))
          (λ (low : k ≤ m). rest.1 k (omega arith) low u)
          (cases_lt m k),
    ))
    (cases_Bool (is_utf8 (take (suc m) bs)))

-- bytes are UTF-8, or they are UTF-8 up to `utf8_valid_len` and no further
pub utf8_or_not : (bs : List ℕ) → IsUtf8 bs ⊎ IsValidUpTo bs (utf8_valid_len bs)
unfolding utf8_valid_len
utf8_or_not bs =
    let n = utf8_valid_len bs in
    let front = longest_front bs (length bs) in
    ⊎_elim
    (λ (short : n < length bs). inr (record {
      short = short;
      front = front.0;
      longest = λ m above u. ⊎_elim
          (λ (past : length bs < m).
          front.1 (length bs) short (omega arith) (subst IsUtf8 (take_all m bs (omega arith) ∙ sym (take_all (length bs) bs (omega arith))) u))
          (λ (within : m ≤ length bs). front.1 m above within u)
          (cases_lt (length bs) m);
    }))
    (λ (whole : length bs ≤ n). inl (subst IsUtf8 (take_all n bs whole) front.0))
    (cases_lt n (length bs))

-- the prefix of length `utf8_valid_len` is UTF-8
pub utf8_front : (bs : List ℕ) → IsUtf8 (take (utf8_valid_len bs) bs)
utf8_front bs = ⊎_elim
    (λ u. subst IsUtf8 (sym (take_all (utf8_valid_len bs) bs (omega (arith, utf8_valid_len-IsUtf8 bs u)))) u)
    (λ valid. valid.front)
    (utf8_or_not bs)

after : (cs : List ℕ) (es b : List ℕ) → scalars es ≡ true → encodes es ≡ encodes cs ++ b → IsUtf8 b
after [] es b all is = (es, (all, is))
after (c ∷ cs) es b all is =
    let later = cons_from_encodes es (encodes cs ++ b) c (is ∙ append_assoc (encode c) (encodes cs) b) in
    let both = and_parts _ _ (ap scalars (sym later.1) ∙ all) in
    after cs later.0 b both.1 later.2

-- if UTF-8 text starts with UTF-8 text, the rest of the text is also UTF-8
pub IsUtf8-after : (a b : List ℕ) → IsUtf8 (a ++ b) → IsUtf8 a → IsUtf8 b
IsUtf8-after a b all front = after front.0 all.0 b all.1.0 (all.1.1 ∙ ap (λ t. t ++ b) (sym front.1.1))

take_after : (a b : List ℕ) (m : ℕ) → length a ≤ m → take m (a ++ b) ≡ a ++ take (m - length a) b
take_after a b m more =
    let same : m ≡ length a + (m - length a) = omega arith in
    ap (λ k. take k (a ++ b)) same ∙ take-append-add a b (m - length a)

valid_after : (a b : List ℕ) (v : ℕ) → IsUtf8 a → IsValidUpTo b v → IsValidUpTo (a ++ b) (length a + v)
valid_after a b v u valid = record {
  short = omega (arith, length-append a b, valid.short);
  front = subst IsUtf8 (sym (take-append-add a b v)) (IsUtf8-append a (take v b) u valid.front);
  longest = λ m above all.
      valid.longest (m - length a) (omega arith) (IsUtf8-after a (take (m - length a) b) (subst IsUtf8 (take_after a b m (omega arith)) all) u);
}

-- the valid length of UTF-8 text followed by other bytes is the length of the text plus the valid length of
-- these bytes
pub utf8_valid_len-after : (a b : List ℕ) → IsUtf8 a → utf8_valid_len (a ++ b) ≡ length a + utf8_valid_len b
utf8_valid_len-after a b u = ⊎_elim
    (λ v.
    let all = utf8_valid_len-IsUtf8 (a ++ b) (IsUtf8-append a b u v) in
    let part = utf8_valid_len-IsUtf8 b v in
    omega (arith, length-append a b, all, part))
    (λ valid. utf8_valid_len-IsValidUpTo (a ++ b) (length a + utf8_valid_len b) (valid_after a b (utf8_valid_len b) u valid))
    (utf8_or_not b)

-- prepending UTF-8 text does not change the bytes after the valid prefix
pub drop-valid-after : (a b : List ℕ) → IsUtf8 a → drop (utf8_valid_len (a ++ b)) (a ++ b) ≡ drop (utf8_valid_len b) b
drop-valid-after a b u = ap (λ n. drop n (a ++ b)) (utf8_valid_len-after a b u) ∙ drop-append-add a b (utf8_valid_len b)

pub take-valid-after : (a b : List ℕ) → IsUtf8 a → take (utf8_valid_len (a ++ b)) (a ++ b) ≡ a ++ take (utf8_valid_len b) b
take-valid-after a b u = ap (λ n. take n (a ++ b)) (utf8_valid_len-after a b u) ∙ take-append-add a b (utf8_valid_len b)

pub is_bad-after : (a b : List ℕ) → IsUtf8 a → is_bad (a ++ b) ≡ is_bad b
is_bad-after a b u = ap (λ t. is_some (utf8_error_len t)) (drop-valid-after a b u)

-- the valid prefix of UTF-8 text is the whole text
pub whole_text : (bytes : List ℕ) → IsUtf8 bytes → take (utf8_valid_len bytes) bytes ≡ bytes
whole_text bytes u = take_all (utf8_valid_len bytes) bytes (omega (arith, utf8_valid_len-IsUtf8 bytes u))

pub utf8_error_len-nil : utf8_error_len [] ≡ None
unfolding utf8_error_len
utf8_error_len-nil = refl

pub nothing_valid : (bytes : List ℕ) → length bytes ≡ 0 → utf8_valid_len bytes ≡ 0
nothing_valid bytes is = omega (arith, utf8_valid_len_le bytes)

pub nothing_bad : (bytes : List ℕ) → length bytes ≡ 0 → utf8_error_len bytes ≡ None
nothing_bad bytes is = ap utf8_error_len (nil_from_length bytes is) ∙ utf8_error_len-nil

pub whole_good : (bytes : List ℕ) → IsUtf8 bytes → false ≡ is_bad bytes
whole_good bytes u =
    let none : drop (utf8_valid_len bytes) bytes ≡ [] = drop_all (utf8_valid_len bytes) bytes (omega (arith, utf8_valid_len-IsUtf8 bytes u)) in
    sym (ap (λ t. is_some (utf8_error_len t)) none ∙ ap is_some utf8_error_len-nil)

-- `front` is the valid prefix of the bytes, and the bytes after it are empty or the beginning of a character
pub record IsTextUpTo (bytes front : List ℕ) : Type 0 where
  pub text : front ≡ take (utf8_valid_len bytes) bytes
  pub good : false ≡ is_bad bytes
  pub few : length bytes < utf8_valid_len bytes + 4

pub text_up_to : (bytes front cut : List ℕ) → front ++ cut ≡ bytes → IsUtf8 front → utf8_valid_len cut ≡ 0 → utf8_error_len cut ≡ None → length cut < 4 → IsTextUpTo bytes front
text_up_to bytes front cut parts u none fault few =
    let text : take (utf8_valid_len bytes) bytes ≡ front =
    ap (λ t. take (utf8_valid_len t) t) (sym parts) ∙ take-valid-after front cut u ∙ ap (λ n. front ++ take n cut) none ∙ append-nil front in
    let len : utf8_valid_len bytes ≡ length front + 0 = ap utf8_valid_len (sym parts) ∙ utf8_valid_len-after front cut u ∙ ap (λ n. length front + n) none in
    let bad : is_bad bytes ≡ is_some (utf8_error_len cut) =
    ap is_bad (sym parts) ∙ is_bad-after front cut u ∙ ap (λ n. is_some (utf8_error_len (drop n cut))) none in
    record {
      text = sym text;
      good = sym (bad ∙ ap is_some fault);
      few = omega (arith, len, ap length parts, length-append front cut);
    }

-- ---- bytes that cannot begin a character

error_one : (a : ℕ) → 194 ≤ a → a ≤ 244 → utf8_error_len (a ∷ []) ≡ None
unfolding utf8_error_len
error_one a low high =
    let first : is_in_range 0xC2 0xF4 a ≡ true = grind (arith, nat_tests) in
    ap (λ (t : Bool). if t then error_len_after_one (a ∷ []) else Some 1) first

error_two : (a b : ℕ) → 194 ≤ a → a ≤ 244 → is_in_range (second_byte_min a) (second_byte_max a) b ≡ true → utf8_error_len (a ∷ b ∷ []) ≡ None
unfolding utf8_error_len
error_two a b low high second =
    let first : is_in_range 0xC2 0xF4 a ≡ true = grind (arith, nat_tests) in
    ap (λ (t : Bool). if t then error_len_after_one (a ∷ b ∷ []) else Some 1) first
    ∙ ap (λ (t : Bool). if t then error_len_after_two (a ∷ b ∷ []) else Some 1) second

error_three : (a b d : ℕ) → 194 ≤ a → a ≤ 244 → is_in_range (second_byte_min a) (second_byte_max a) b ≡ true → Follows d → utf8_error_len (a ∷ b ∷ d ∷ []) ≡ None
unfolding utf8_error_len
error_three a b d low high second third =
    let first : is_in_range 0xC2 0xF4 a ≡ true = grind (arith, nat_tests) in
    let third_is : is_in_range 0x80 0xBF d ≡ true = grind (arith, nat_tests) in
    ap (λ (t : Bool). if t then error_len_after_one (a ∷ b ∷ d ∷ []) else Some 1) first
    ∙ ap (λ (t : Bool). if t then error_len_after_two (a ∷ b ∷ d ∷ []) else Some 1) second
    ∙ ap (λ (t : Bool). if t then None else Some 2) third_is

-- the second byte of a character of three or four bytes is in the range that its first byte allows
second_of_3 : (c a b d : ℕ) → Scalar c → 2048 ≤ c → 224 ≤ a → a < 240 → Follows b → Follows d → c + 925824 ≡ a * 4096 + b * 64 + d → is_in_range (second_byte_min a) (second_byte_max a) b ≡ true
second_of_3 c a b d valid least low high f g is = go (cases_lt 224 a) (cases_lt a 237) (cases_lt 237 a) valid
  where
    go : (224 < a) ⊎ (a ≤ 224) → (a < 237) ⊎ (237 ≤ a) → (237 < a) ⊎ (a ≤ 237) → Scalar c → is_in_range (second_byte_min a) (second_byte_max a) b ≡ true
    go (inr first) _ _ _ =
        let a_is : a ≡ 224 = omega arith in
        let b_low : 160 ≤ b = omega (arith, is, a_is, least) in
        subst (λ x. is_in_range (second_byte_min x) (second_byte_max x) b ≡ true) (sym a_is) (grind (arith, nat_tests))
    go (inl more) (inl less) _ _ = grind (arith, nat_tests)
    go (inl more) (inr _) (inl above) _ = grind (arith, nat_tests)
    go (inl more) (inr low_2) (inr high_2) (inl below) =
        let a_is : a ≡ 237 = omega arith in
        let b_high : b ≤ 159 = omega (arith, is, a_is, below) in
        subst (λ x. is_in_range (second_byte_min x) (second_byte_max x) b ≡ true) (sym a_is) (grind (arith, nat_tests))
    go (inl more) (inr low_2) (inr high_2) (inr above) = absurd (omega (arith, is, above.0))

second_of_4 : (c a b d e : ℕ) → Scalar c → 65536 ≤ c → 240 ≤ a → Follows b → Follows d → Follows e → c + 63447168
    ≡ a * 262144 + b * 4096 + d * 64 + e → (a ≤ 244) × (is_in_range (second_byte_min a) (second_byte_max a) b ≡ true)
second_of_4 c a b d e valid least low f g h is = go (cases_lt 240 a) (cases_lt a 244)
  where
    top : c < 1114112
    top = ⊎_elim (λ x. omega arith) (λ x. x.1) valid

    at_most : a ≤ 244
    at_most = omega (arith, is, top)

    go : (240 < a) ⊎ (a ≤ 240) → (a < 244) ⊎ (244 ≤ a) → (a ≤ 244) × (is_in_range (second_byte_min a) (second_byte_max a) b ≡ true)
    go (inr first) _ =
        let a_is : a ≡ 240 = omega arith in
        let b_low : 144 ≤ b = omega (arith, is, a_is, least) in
        (at_most, subst (λ x. is_in_range (second_byte_min x) (second_byte_max x) b ≡ true) (sym a_is) (grind (arith, nat_tests)))
    go (inl more) (inl less) = (at_most, grind (arith, nat_tests))
    go (inl more) (inr last) =
        let a_is : a ≡ 244 = omega arith in
        let b_high : b ≤ 143 = omega (arith, is, a_is, top) in
        (at_most, subst (λ x. is_in_range (second_byte_min x) (second_byte_max x) b ≡ true) (sym a_is) (grind (arith, nat_tests)))

encode_filled : (c : ℕ) → 0 < length (encode c)
encode_filled c = omega (arith, length-encode c, (len_utf8_bounds c).0)

-- a code point whose encoding has more than one, two or three bytes is at least 128, 2048 or 65536,
-- respectively
past_one : (c : ℕ) → 1 < length (encode c) → 128 ≤ c
past_one c h = ⊎_elim (λ l. absurd (omega (arith, ap length (one c l)))) (λ l. l) (cases_lt c 128)

past_two : (c : ℕ) → 2 < length (encode c) → 2048 ≤ c
past_two c h = ⊎_elim (λ l. absurd (omega (arith, ap length (two c (past_one c (omega arith)) l)))) (λ l. l) (cases_lt c 2048)

past_three : (c : ℕ) → 3 < length (encode c) → 65536 ≤ c
past_three c h = ⊎_elim (λ l. absurd (omega (arith, ap length (three c (past_two c (omega arith)) l)))) (λ l. l) (cases_lt c 65536)

-- the beginning of a character is not an error
beginning_of : (c n : ℕ) → Scalar c → Shape c → n < length (encode c) → utf8_error_len (take n (encode c)) ≡ None
beginning_of c zero valid s less = utf8_error_len-nil
beginning_of c (suc n) valid (of1 l e) less = absurd (omega (arith, ap length e))
beginning_of c (suc zero) valid (of2 a b l u f is e) less =
    ap (λ t. utf8_error_len (take 1 t)) e ∙ error_one a (omega (arith, past_one c (omega (arith, ap length e)))) (omega arith)
beginning_of c (suc (suc n)) valid (of2 a b l u f is e) less = absurd (omega (arith, ap length e))
beginning_of c (suc zero) valid (of3 a b d l u f g is e) less = ap (λ t. utf8_error_len (take 1 t)) e ∙ error_one a (omega arith) (omega arith)
beginning_of c (suc (suc zero)) valid (of3 a b d l u f g is e) less =
    ap (λ t. utf8_error_len (take 2 t)) e ∙ error_two a b (omega arith) (omega arith) (second_of_3 c a b d valid (past_two c (omega (arith, ap length e))) l u f g is)
beginning_of c (suc (suc (suc n))) valid (of3 a b d l u f g is e) less = absurd (omega (arith, ap length e))
beginning_of c (suc zero) valid (of4 a b d x l u f g h is e) less =
    let both = second_of_4 c a b d x valid (past_three c (omega (arith, ap length e))) l f g h is in
    ap (λ t. utf8_error_len (take 1 t)) e ∙ error_one a (omega arith) both.0
beginning_of c (suc (suc zero)) valid (of4 a b d x l u f g h is e) less =
    let both = second_of_4 c a b d x valid (past_three c (omega (arith, ap length e))) l f g h is in
    ap (λ t. utf8_error_len (take 2 t)) e ∙ error_two a b (omega arith) both.0 both.1
beginning_of c (suc (suc (suc zero))) valid (of4 a b d x l u f g h is e) less =
    let both = second_of_4 c a b d x valid (past_three c (omega (arith, ap length e))) l f g h is in
    ap (λ t. utf8_error_len (take 3 t)) e ∙ error_three a b d (omega arith) both.0 both.1 g
beginning_of c (suc (suc (suc (suc n)))) valid (of4 a b d x l u f g h is e) less = absurd (omega (arith, ap length e))

-- if bytes have an error and no valid prefix, they neither start with a character nor are the start of one,
-- whatever follows
char_before : (x more r : List ℕ) (c : ℕ) → scalar c ≡ true → x ++ more ≡ encode c ++ r → utf8_valid_len x ≡ 0 → is_some (utf8_error_len x) ≡ true → ⊥
char_before x more r c s is none fault = go (cases_lt (length x) (length (encode c)))
  where
    front : (n : ℕ) → n ≤ length x → n ≤ length (encode c) → take n x ≡ take n (encode c)
    front n le le_2 = sym (take-append-le n x more le) ∙ ap (take n) is ∙ take-append-le n (encode c) r le_2

    go : (length x < length (encode c)) ⊎ (length (encode c) ≤ length x) → ⊥
    go (inl less) =
        let x_is : x ≡ take (length x) (encode c) = sym (take_all (length x) x (omega arith)) ∙ front (length x) (omega arith) (omega arith) in
        let no_fault : utf8_error_len x ≡ None = ap utf8_error_len x_is ∙ beginning_of c (length x) (scalar_cases c s) (shape c (scalar_cases c s)) less in
        true≢false (sym fault ∙ ap is_some no_fault)
    go (inr all) =
        let n = length (encode c) in
        let x_is : x ≡ encode c ++ drop n x =
        sym (take-append-drop n x) ∙ ap (λ t. t ++ drop n x) (front n all (omega arith) ∙ take_all n (encode c) (omega arith)) in
        let len = utf8_valid_len-after (encode c) (drop n x) (IsUtf8-encode c s) in
        omega (arith, none, ap utf8_valid_len x_is, len, encode_filled c)

-- if bytes have an error and no valid prefix, they have no valid prefix whatever follows them
pub bad_stays : (x more : List ℕ) → utf8_valid_len x ≡ 0 → is_some (utf8_error_len x) ≡ true → utf8_valid_len (x ++ more) ≡ 0
bad_stays x more none fault = go (utf8_valid_len (x ++ more)) refl (utf8_front (x ++ more))
  where
    go : (n : ℕ) → utf8_valid_len (x ++ more) ≡ n → IsUtf8 (take (utf8_valid_len (x ++ more)) (x ++ more)) → utf8_valid_len (x ++ more) ≡ 0
    go zero is u = is
    go (suc n) is ([], (all, spelt)) = omega (arith, ap length spelt, length-take-le (utf8_valid_len (x ++ more)) (x ++ more) (utf8_valid_len_le (x ++ more)))
    go (suc n) is (c ∷ cs, (all, spelt)) =
        let m = utf8_valid_len (x ++ more) in
        let parts : x ++ more ≡ encode c ++ (encodes cs ++ drop m (x ++ more)) =
        sym (take-append-drop m (x ++ more)) ∙ ap (λ t. t ++ drop m (x ++ more)) (sym spelt) ∙ append_assoc (encode c) (encodes cs) (drop m (x ++ more)) in
        absurd (char_before x more (encodes cs ++ drop m (x ++ more)) c (and_parts _ _ all).0 parts none fault)
