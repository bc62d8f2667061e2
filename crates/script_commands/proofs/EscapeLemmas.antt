-- Decoding the characters that a text represents, one at a time.
use Rattle.std.proofs.Common.{◌≡◌, ℕ, zero, suc, ◌+◌, ◌-◌, ◌<◌, ◌≤◌, true, false, List, [], ◌∷◌, ◌++◌, length, get_or, drop, Option, Some, None, option_map, encode_utf8, refl, add-one, sym, ap, ◌∙◌, arith}
use Rattle.std.specs.Prelude.{is_some}
use Rattle.std.specs.Char.{IsScalar}
use Rattle.std.specs.Str.{chars, IsUtf8}
use Rattle.std.proofs.lemmas.List.{append_assoc, append-nil, drop-drop, length-append}
use Rattle.std.proofs.lemmas.Str.{chars-append, chars-encodes}
use Rattle.std.proofs.lemmas.Bool.{true≢false}
use Rattle.script_commands.specs.Commands.{LacksText, onto, unescaped, unescaped_after, written}

-- `unescaped_after` decodes the text after its first n characters
skipped : (n : ℕ) (text : List ℕ) → unescaped_after n text ≡ unescaped (drop n text)
unfolding unescaped_after
skipped zero text = refl
skipped (suc n) [] = refl
skipped (suc n) (c ∷ text) = skipped n text

begins_at : (text : List ℕ) (n d : ℕ) → n < length text → drop n text ≡ get_or text n d ∷ drop (n + 1) text
begins_at [] n d within = absurd (omega arith)
begins_at (c ∷ text) zero d within = refl
begins_at (c ∷ text) (suc n) d within = let later = begins_at text n d (omega (arith, within)) in rw add-one (rw add-one at later)

one : (c : ℕ) (after : List ℕ) (w : Option (ℕ × ℕ)) → written c after ≡ w → unescaped (c ∷ after) ≡ onto w (λ len. unescaped_after (len - 1) after)
unfolding unescaped_after
one c after w is = ap (λ (o : Option (ℕ × ℕ)). onto o (λ len. unescaped_after (len - 1) after)) is

none_left : unescaped [] ≡ Some []
unfolding unescaped_after
none_left = refl

joined : (front : List ℕ) (c : ℕ) (rest : Option (List ℕ)) → option_map (λ cs. front ++ cs) (option_map (λ cs. c ∷ cs) rest) ≡ option_map (λ cs. (front ++ c ∷ []) ++ cs) rest
joined front c None = refl
joined front c (Some cs) = ap Some (sym (append_assoc front (c ∷ []) cs))

pub chars-push : (bytes : List ℕ) (c : ℕ) → IsUtf8 bytes → IsScalar c → chars (bytes ++ encode_utf8 c) ≡ chars bytes ++ c ∷ []
chars-push bytes c utf8 is =
    let one : chars (encode_utf8 c) ≡ c ∷ [] = ap chars (sym (append-nil (encode_utf8 c))) ∙ chars-encodes (c ∷ []) (rw is refl) in
    chars-append bytes (encode_utf8 c) utf8 ∙ ap (λ t. chars bytes ++ t) one

module _ (text : List ℕ) (n d : ℕ) (within : n < length text) where
  -- if the next character or escape is valid, its character is decoded, and decoding continues after it
  pub next_written : (front : List ℕ) (c len : ℕ) → written (get_or text n d) (drop (n + 1) text) ≡ Some (c, len) → 0 < len
      → option_map (λ cs. front ++ cs) (unescaped (drop n text)) ≡ option_map (λ cs. (front ++ c ∷ []) ++ cs) (unescaped (drop (n + len) text))
  next_written front c len is some =
      let place : (n + 1) + (len - 1) ≡ n + len = omega (arith, some) in
      let rest : unescaped_after (len - 1) (drop (n + 1) text) ≡ unescaped (drop (n + len) text) =
      skipped (len - 1) (drop (n + 1) text) ∙ ap unescaped (drop-drop (len - 1) (n + 1) text ∙ ap (λ k. drop k text) place) in
      let here : unescaped (drop n text) ≡ option_map (λ cs. c ∷ cs) (unescaped (drop (n + len) text)) =
      ap unescaped (begins_at text n d within) ∙ one (get_or text n d) (drop (n + 1) text) (Some (c, len)) is ∙ ap (option_map (λ cs. c ∷ cs)) rest in
      ap (option_map (λ cs. front ++ cs)) here ∙ joined front c (unescaped (drop (n + len) text))

  -- if the next escape is invalid, decoding the text yields `None`
  pub none_written : (front : List ℕ) → written (get_or text n d) (drop (n + 1) text) ≡ None → option_map (λ cs. front ++ cs) (unescaped (drop n text)) ≡ None
  none_written front is =
      ap (option_map (λ cs. front ++ cs)) (ap unescaped (begins_at text n d within) ∙ one (get_or text n d) (drop (n + 1) text) None is)

pub all_written : (text front : List ℕ) (n : ℕ) → length text ≤ n → option_map (λ cs. front ++ cs) (unescaped (drop n text)) ≡ Some front
all_written [] front zero past = ap (option_map (λ cs. front ++ cs)) none_left ∙ ap Some (append-nil front)
all_written [] front (suc n) past = ap (option_map (λ cs. front ++ cs)) none_left ∙ ap Some (append-nil front)
all_written (c ∷ text) front zero past = absurd (omega arith)
all_written (c ∷ text) front (suc n) past = all_written text front n (omega (arith, past))

-- ---- whether all escapes of a text are valid

is_some_map : {A B : Type 0} (f : A → B) (o : Option A) → is_some (option_map f o) ≡ is_some o
is_some_map f None = refl
is_some_map f (Some a) = refl

module _ (text : List ℕ) (n d : ℕ) (within : n < length text) where
  -- if the next character or escape is valid, the text is valid if and only if the text after it is valid
  pub next_right : (c len : ℕ) → written (get_or text n d) (drop (n + 1) text) ≡ Some (c, len) → 0 < len → is_some (unescaped (drop n text)) ≡ is_some (unescaped (drop (n + len) text))
  next_right c len is some =
      sym (is_some_map (λ cs. [] ++ cs) (unescaped (drop n text))) ∙ ap is_some (next_written text n d within [] c len is some)
      ∙ is_some_map (λ cs. ([] ++ c ∷ []) ++ cs) (unescaped (drop (n + len) text))

  -- if the next escape is invalid, the text is invalid
  pub none_right : written (get_or text n d) (drop (n + 1) text) ≡ None → is_some (unescaped (drop n text)) ≡ false
  none_right is = sym (is_some_map (λ cs. [] ++ cs) (unescaped (drop n text))) ∙ ap is_some (none_written text n d within [] is)

pub all_right : (text : List ℕ) (n : ℕ) → length text ≤ n → is_some (unescaped (drop n text)) ≡ true
all_right text n past = sym (is_some_map (λ cs. [] ++ cs) (unescaped (drop n text))) ∙ ap is_some (all_written text [] n past)

-- if one more character can be decoded, fewer characters have been kept than the text represents
pub lacks_next : (text front : List ℕ) (c : ℕ) (rest : Option (List ℕ)) → unescaped text ≡ option_map (λ cs. (front ++ c ∷ []) ++ cs) rest → is_some (unescaped text) ≡ true
    → LacksText text front
lacks_next text front c None is right = absurd (true≢false (sym right ∙ ap is_some is))
lacks_next text front c (Some cs) is right = record {
  whole = (front ++ c ∷ []) ++ cs;
  right = is;
  short = omega (arith, length-append (front ++ c ∷ []) cs, length-append front (c ∷ []));
}
