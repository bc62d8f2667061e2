-- The UTF-8 encoding of a list of characters, and bytes written to a buffer one after another.
use Rattle.std.specs.Char.{is_ascii}
use Rattle.std.specs.List.{list_all}
use Rattle.std.proofs.Common.{◌&&◌, nat_lt, ◌/◌, ◌%◌, set, true, ap₂, ◌≡◌, ℕ, suc, ◌+◌, ◌-◌, ◌<◌, ◌≤◌, List, [], ◌∷◌, ◌++◌, length, get_or, take}
use Rattle.std.proofs.Common.{drop, encode_utf8, encode_utf8_all, refl, sym, ap, ◌∙◌, arith}
use Rattle.std.proofs.lemmas.Str.{encode_ascii}
use Rattle.std.proofs.str.Laws.{two, three, four}
use Rattle.std.proofs.lemmas.Bool.{and_parts, lt-ltb, ltb-true}
use Rattle.std.proofs.lemmas.List.{append_assoc, append-nil, length-set, take-append-drop, take_more, take-set-le, take_more_set}
use Rattle.std.proofs.Math.Seq.{take-add}

-- the UTF-8 encoding of a concatenation is the concatenation of the encodings
pub encoded-append : (xs ys : List ℕ) → encode_utf8_all (xs ++ ys) ≡ encode_utf8_all xs ++ encode_utf8_all ys
encoded-append [] ys = refl
encoded-append (x ∷ xs) ys = ap (λ more. encode_utf8 x ++ more) (encoded-append xs ys) ∙ sym (append_assoc (encode_utf8 x) (encode_utf8_all xs) (encode_utf8_all ys))

pub encoded-more : (cs : List ℕ) (k c : ℕ) → k < length cs → c ≡ get_or cs k c → encode_utf8_all (take (k + 1) cs) ≡ encode_utf8_all (take k cs) ++ encode_utf8 c
encoded-more cs k c within is =
    ap encode_utf8_all (take_more cs k c within ∙ ap (λ d. take k cs ++ d ∷ []) (sym is))
    ∙ encoded-append (take k cs) (c ∷ []) ∙ ap (λ more. encode_utf8_all (take k cs) ++ more) (append-nil (encode_utf8 c))

pub encoded-part : (cs : List ℕ) (at to : ℕ) → at ≤ to
    → encode_utf8_all (take to cs) ≡ encode_utf8_all (take at cs) ++ encode_utf8_all (take (to - at) (drop at cs))
encoded-part cs at to le =
    let whole : at + (to - at) ≡ to = omega arith in
    ap encode_utf8_all (ap (λ n. take n cs) (sym whole) ∙ take-add at (to - at) cs) ∙ encoded-append (take at cs) (take (to - at) (drop at cs))

pub encoded-rest : (cs : List ℕ) (at : ℕ) → encode_utf8_all cs ≡ encode_utf8_all (take at cs) ++ encode_utf8_all (drop at cs)
encoded-rest cs at = ap encode_utf8_all (sym (take-append-drop at cs)) ∙ encoded-append (take at cs) (drop at cs)

pub encoded-ascii : (cs : List ℕ) → list_all is_ascii cs ≡ true → encode_utf8_all cs ≡ cs
encoded-ascii [] all = refl
encoded-ascii (c ∷ cs) all =
    let parts = and_parts (is_ascii c) (list_all is_ascii cs) all in
    ap₂ ◌++◌ (encode_ascii c (ltb-true c 128 parts.0)) (encoded-ascii cs parts.1)

-- if no character is above `top`, all characters are below each bound above `top`
pub all_below : (cs : List ℕ) (top bound : ℕ) → ((k : ℕ) → k < length cs → get_or cs k 0 ≤ top) → top < bound → list_all (λ c. nat_lt c bound) cs ≡ true
all_below [] top bound most less = refl
all_below (c ∷ cs) top bound most less =
    ap (λ b. b && list_all (λ d. nat_lt d bound) cs) (lt-ltb c bound (omega (arith, most 0 (omega arith), less)))
    ∙ all_below cs top bound (λ k within. most (suc k) (omega (arith, within))) less

-- a byte written at an index is not changed by writing a byte at the next index
pub put_one : (bytes : List ℕ) (at a b : ℕ) → at + 1 < length bytes → take (at + 1) (set (set bytes at a) (at + 1) b) ≡ take at bytes ++ a ∷ []
put_one bytes at a b room =
    take-set-le (at + 1) (set bytes at a) (at + 1) b (omega arith) ∙ take_more_set bytes at a (omega (arith, room))

pub put_two : (bytes : List ℕ) (at a b : ℕ) → at + 1 < length bytes → take (at + 2) (set (set bytes at a) (at + 1) b) ≡ take at bytes ++ a ∷ b ∷ []
put_two bytes at a b room =
    let next : at + 2 ≡ at + 1 + 1 = omega arith in
    ap (λ n. take n (set (set bytes at a) (at + 1) b)) next
    ∙ take_more_set (set bytes at a) (at + 1) b (omega (arith, room, length-set bytes at a))
    ∙ ap (λ front. front ++ b ∷ []) (take_more_set bytes at a (omega (arith, room)))
    ∙ append_assoc (take at bytes) (a ∷ []) (b ∷ [])

pub put_three : (bytes : List ℕ) (at a b d : ℕ) → at + 2 < length bytes
    → take (at + 3) (set (set (set bytes at a) (at + 1) b) (at + 2) d) ≡ take at bytes ++ a ∷ b ∷ d ∷ []
put_three bytes at a b d room =
    let next : at + 3 ≡ at + 2 + 1 = omega arith in
    let two = set (set bytes at a) (at + 1) b in
    ap (λ n. take n (set two (at + 2) d)) next
    ∙ take_more_set two (at + 2) d (omega (arith, room, length-set (set bytes at a) (at + 1) b, length-set bytes at a))
    ∙ ap (λ front. front ++ d ∷ []) (put_two bytes at a b (omega (arith, room)))
    ∙ append_assoc (take at bytes) (a ∷ b ∷ []) (d ∷ [])

pub put_four : (bytes : List ℕ) (at a b d e : ℕ) → at + 3 < length bytes
    → take (at + 4) (set (set (set (set bytes at a) (at + 1) b) (at + 2) d) (at + 3) e) ≡ take at bytes ++ a ∷ b ∷ d ∷ e ∷ []
put_four bytes at a b d e room =
    let next : at + 4 ≡ at + 3 + 1 = omega arith in
    let two = set (set bytes at a) (at + 1) b in
    let three = set two (at + 2) d in
    ap (λ n. take n (set three (at + 3) e)) next
    ∙ take_more_set three (at + 3) e
    (omega (arith, room, length-set two (at + 2) d, length-set (set bytes at a) (at + 1) b, length-set bytes at a))
    ∙ ap (λ front. front ++ e ∷ []) (put_three bytes at a b d (omega (arith, room)))
    ∙ append_assoc (take at bytes) (a ∷ b ∷ d ∷ []) (e ∷ [])

pub two_bytes : (c : ℕ) → 128 ≤ c → c < 2048 → encode_utf8 c ≡ (192 + c / 64) ∷ (128 + c % 64) ∷ []
two_bytes c low high = two c low high

pub three_bytes : (c : ℕ) → 0x800 ≤ c → c < 0x10000 → encode_utf8 c ≡ (224 + c / 4096) ∷ (128 + c / 64 % 64) ∷ (128 + c % 64) ∷ []
three_bytes c low high = three c low high

pub four_bytes : (c : ℕ) → 0x10000 ≤ c → encode_utf8 c ≡ (240 + c / 262144) ∷ (128 + c / 4096 % 64) ∷ (128 + c / 64 % 64) ∷ (128 + c % 64) ∷ []
four_bytes c low = four c low
