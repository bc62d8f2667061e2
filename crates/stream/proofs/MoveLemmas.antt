-- Moving characters from the front of a text to a list.
use Rattle.std.proofs.Common.{◌≡◌, ◌∙◌, ◌<◌, ◌≤◌, arith, get_or, inl, inr, take, ℕ, List, [], ◌∷◌, ◌++◌, length, refl, sym, ap, true}
use Rattle.std.specs.Prelude.{IsUtf8}
use Rattle.std.specs.Char.{is_ascii}
use Rattle.std.specs.List.{list_all}
use Rattle.std.specs.Str.{chars}
use Rattle.std.proofs.lemmas.Bool.{and_parts, both_ways, cases_Bool, ltb-true}
use Rattle.std.proofs.lemmas.List.Folds.{list_all_at}
use Rattle.std.proofs.lemmas.List.{append_assoc, append-nil, get_or-take, length-take-le, nil_from_length}
use Rattle.std.proofs.lemmas.Str.{chars-nil, chars_past_char, encode_ascii, IsCharBoundary-after_ascii, IsUtf8-drop}
use Rattle.stream.specs.Utf8.{Moved}
use lib.Utf8.{encode}

pub moved_one : (before text after new rest more : List ℕ) (c : ℕ) → Moved before text after rest → new ≡ after ++ c ∷ [] → IsUtf8 rest → rest ≡ encode c ++ more → Moved before text new more
moved_one before text after new rest more c moved new_is utf8 is =
    ap (λ t. t ++ chars more) new_is ∙ append_assoc after (c ∷ []) (chars more)
    ∙ ap (λ t. after ++ t) (sym (chars_past_char rest more c utf8 is)) ∙ moved

pub moved_all : (before text after rest : List ℕ) → Moved before text after rest → length rest ≡ 0 → after ≡ before ++ chars text
moved_all before text after rest moved none =
    sym (append-nil after) ∙ ap (λ t. after ++ t) (sym (ap chars (nil_from_length rest none) ∙ chars-nil)) ∙ moved

-- if `list_all is_ascii` holds for the first n bytes, each of these bytes is below 128
pub ascii_at : (text : List ℕ) (n k : ℕ) → k < n → n ≤ length text → list_all is_ascii (take n text) ≡ true → get_or text k 0 < 128
ascii_at text n k below within all =
    let same : get_or (take n text) k 0 ≡ get_or text k 0 = get_or-take n text k 0 below in
    elim (cases_Bool (is_ascii (get_or (take n text) k 0))) [
      | inl passed ↦ omega (arith, ltb-true (get_or (take n text) k 0) 128 passed, same)
      | inr failed ↦ absurd (both_ways (list_all is_ascii (take n text)) (list_all_at is_ascii (take n text) k 0 (omega (arith, below, length-take-le n text within)) failed) all)
    ]

-- ASCII characters can be moved byte by byte
pub moved_ascii : (group before text after more : List ℕ) → list_all is_ascii group ≡ true → Moved before text after (group ++ more) → IsUtf8 (group ++ more)
    → Moved before text (after ++ group) more
moved_ascii [] before text after more all moved utf8 = ap (λ t. t ++ chars more) (append-nil after) ∙ moved
moved_ascii (c ∷ group) before text after more all moved utf8 =
    let parts = and_parts (is_ascii c) (list_all is_ascii group) all in
    let one : encode c ≡ c ∷ [] = encode_ascii c (ltb-true c 128 parts.0) in
    let split : c ∷ (group ++ more) ≡ encode c ++ (group ++ more) = ap (λ t. t ++ (group ++ more)) (sym one) in
    let low : c < 128 = ltb-true c 128 parts.0 in
    let rest : IsUtf8 (group ++ more) = IsUtf8-drop (c ∷ (group ++ more)) 1 utf8 (IsCharBoundary-after_ascii (c ∷ (group ++ more)) 0 utf8 (omega arith) low) in
    ap (λ t. t ++ chars more) (sym (append_assoc after (c ∷ []) group))
    ∙ moved_ascii group before text (after ++ c ∷ []) more parts.1 (moved_one before text after (after ++ c ∷ []) (c ∷ (group ++ more)) (group ++ more) c moved refl utf8 split) rest
