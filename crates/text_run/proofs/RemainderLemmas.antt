-- The last paragraph of a text, and the lines that are still to be written when an allocation fails.
use Rattle.std.proofs.Common.{◌≡◌, ℕ, ◌+◌, ◌<◌, ◌≤◌, ◌==◌, ◌&&◌, Bool, true, false, List, [], ◌∷◌, length, take, encode_utf8_all, refl, sym, ap, ◌∙◌, arith, if◌then◌else◌}
use Rattle.std.specs.Str.Lossy.{utf8_valid_len}
use Rattle.std.proofs.lemmas.Bool.Decides.{nat_tests}
use Rattle.std.proofs.lemmas.List.{length-take-le}
use Rattle.std.proofs.lemmas.Str.{encodes-chars, utf8_valid_len_le}
use Rattle.bidi.specs.Cuts.{paragraphs}
use Rattle.lines.specs.Layouts.{Rules, cut_by}
use Rattle.stream.specs.Utf8.{front_of}
use Rattle.text_run.specs.TextRun.{are_within}
use Rattle.text_run.specs.Streaming.{IsOpen}
use Rattle.bidi.proofs.FrontLemmas.{first_paragraph}
use Rattle.text_run.proofs.StreamLemmas.{short_is}
use Rattle.stream.proofs.Utf8Lemmas.{utf8_front}

-- a text without a paragraph boundary is one paragraph, or empty
pub last_pars : (rules : Rules) (text : List ℕ) → IsOpen (cut_by rules) text → paragraphs (cut_by rules) text ≡ (if length text == 0 then [] else text ∷ [])
last_pars rules [] is_open = refl
last_pars rules (a ∷ text) is_open =
    let filled : (length (a ∷ text) == 0) ≡ false = grind (arith, nat_tests) in
    is_open.uncut (omega arith) ∙ sym (ap (λ (b : Bool). if b then [] else (a ∷ text) ∷ []) filled)

pub last_within : (text : List ℕ) → length text ≤ 1048576 → are_within (if length text == 0 then [] else text ∷ []) ≡ true
last_within [] short = refl
last_within (a ∷ text) short =
    let filled : (length (a ∷ text) == 0) ≡ false = grind (arith, nat_tests) in
    ap (λ (b : Bool). are_within (if b then [] else (a ∷ text) ∷ [])) filled ∙ ap (λ (b : Bool). b && true) (short_is (a ∷ text) short)

pub not_none : (text : List ℕ) → 0 < length text → (length text == 0) ≡ false
not_none text some = grind (arith, nat_tests)

-- if the valid UTF-8 prefix of some bytes is not empty, it has at least one character
pub front_some : (bytes : List ℕ) → 0 < utf8_valid_len bytes → 0 < length (front_of bytes)
front_some bytes some = go (front_of bytes) refl
  where
    valid : List ℕ
    valid = take (utf8_valid_len bytes) bytes

    go : (cs : List ℕ) → front_of bytes ≡ cs → 0 < length (front_of bytes)
    go [] none =
        let encoded : encode_utf8_all (front_of bytes) ≡ valid = encodes-chars valid (utf8_front bytes) in
        absurd (omega (arith, some, length-take-le (utf8_valid_len bytes) bytes (utf8_valid_len_le bytes), ap length (sym encoded ∙ ap encode_utf8_all none)))
    go (c ∷ cs) is = omega (arith, ap length is)

-- k, or k + 1 if `bad` is true, is less than n
pub left_by : (k n : ℕ) (bad : Bool) → k < n → (bad ≡ true → k + 1 < n) → (if bad then k + 1 else k) < n
left_by k n true less more = more refl
left_by k n false less more = less

pub pars_some : (is_cut : ℕ → ℕ → Bool) (text : List ℕ) → 0 < length text → 0 < length (paragraphs is_cut text)
pars_some is_cut [] some = absurd (omega arith)
pars_some is_cut (c ∷ text) some = omega (arith, ap length (first_paragraph is_cut c text).2)
