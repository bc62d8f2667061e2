-- Bytes that are not UTF-8, in chunks.
use Rattle.std.proofs.Common.{◌≡◌, ⊎_elim, ℕ, ◌+◌, ◌<◌, ◌≤◌, Bool, true, false, ◌&&◌, if◌then◌else◌, List, [], ◌∷◌, ◌++◌, length, take, drop, Some, None, refl, sym, subst, ap, ap₂, inl, inr, ◌∙◌, append_assoc, arith, zero-add, take_all, take-take}
use Rattle.std.specs.Prelude.{IsUtf8, is_some, Option, unwrap_or}
use Rattle.std.proofs.lemmas.Bool.{and_parts, cases_Bool, cond-false, cond-true}
use Rattle.std.specs.Str.{IsValidUpTo, chars}
use Rattle.std.specs.Str.Lossy.{after_first_chunk, replacement_bytes, utf8_error_len, utf8_invalid_len, utf8_lossy, utf8_valid_len}
use Rattle.std.proofs.lemmas.Bool.Decides.{nat_tests}
use Rattle.std.proofs.lemmas.Grind.{common_steps}
use Rattle.std.proofs.lemmas.List.{append-nil, drop-append-le, drop_all, length-append, length-drop, length-take-le, drop-drop, take-append-drop}
use Rattle.std.proofs.lemmas.Str.{IsUtf8-append, chars-append, chars-nil, utf8_lossy-IsUtf8, utf8_lossy_empty, utf8_lossy_step, utf8_valid_len-IsUtf8, utf8_valid_len_le}
use Rattle.std.proofs.Math.Seq.{drop-append-add}
use Rattle.stream.proofs.Utf8Lemmas.{bad_stays, drop-valid-after, take-valid-after, utf8_front, utf8_or_not, utf8_valid_len-after, whole_good, whole_text}
use Rattle.stream.specs.Utf8.{is_bad}
use lib.Utf8.{encode}
use Rattle.terminal.specs.Decoding.{Decodes, IsAllDecoded, IsBeginning, IsDecoded, IsValidPrefix, good_part, lossy}

-- valid text at the front is decoded unchanged
pub lossy_after : (a b : List ℕ) → IsUtf8 a → utf8_lossy (a ++ b) ≡ a ++ utf8_lossy b
lossy_after a b u = ⊎_elim
    (λ (v : IsUtf8 b). utf8_lossy-IsUtf8 (a ++ b) (IsUtf8-append a b u v) ∙ ap (λ t. a ++ t) (sym (utf8_lossy-IsUtf8 b v)))
    (λ (valid : IsValidUpTo b (utf8_valid_len b)).
    let v = utf8_valid_len b in
    let n = utf8_valid_len (a ++ b) in
    let n_is : n ≡ length a + v = utf8_valid_len-after a b u in
    let some : v < length b = valid.short in
    let front : take n (a ++ b) ≡ a ++ take v b = take-valid-after a b u in
    let k : utf8_invalid_len (drop n (a ++ b)) ≡ utf8_invalid_len (drop v b) = ap utf8_invalid_len (drop-valid-after a b u) in
    let size : n + utf8_invalid_len (drop n (a ++ b)) ≡ length a + (v + utf8_invalid_len (drop v b)) = omega (arith, n_is, k) in
    let rest : after_first_chunk (a ++ b) ≡ after_first_chunk b =
    ap (λ i. drop i (a ++ b)) size ∙ drop-append-add a b (v + utf8_invalid_len (drop v b)) in
    utf8_lossy_step (a ++ b) (λ e. omega (arith, e, n_is, some, length-append a b))
    ∙ ap₂ (λ x y. x ++ (replacement_bytes ++ utf8_lossy y)) front rest
    ∙ append_assoc a (take v b) (replacement_bytes ++ utf8_lossy (after_first_chunk b))
    ∙ ap (λ t. a ++ t) (sym (utf8_lossy_step b (λ e. omega (arith, e, some)))))
    (utf8_or_not b)

-- an invalid sequence stays invalid, whatever follows
pub error_more : (x more : List ℕ) (n : ℕ) → utf8_error_len x ≡ Some n → utf8_error_len (x ++ more) ≡ Some n
unfolding utf8_error_len
error_more [] more n e = absurd cc
error_more (a ∷ []) more n e = grind (arith, common_steps, nat_tests)
error_more (a ∷ b ∷ []) more n e = grind (arith, common_steps, nat_tests)
error_more (a ∷ b ∷ d ∷ []) more n e = grind (arith, common_steps, nat_tests)
error_more (a ∷ b ∷ d ∷ f ∷ x) more n e = grind (arith, common_steps, nat_tests)

pub error_within : (x : List ℕ) (n : ℕ) → utf8_error_len x ≡ Some n → (0 < n) × (n ≤ length x)
unfolding utf8_error_len
error_within [] n e = absurd cc
error_within (a ∷ []) n e = grind (arith, common_steps, nat_tests)
error_within (a ∷ b ∷ []) n e = grind (arith, common_steps, nat_tests)
error_within (a ∷ b ∷ d ∷ []) n e = grind (arith, common_steps, nat_tests)
error_within (a ∷ b ∷ d ∷ f ∷ x) n e = grind (arith, common_steps, nat_tests)

replacement_utf8 : IsUtf8 replacement_bytes
unfolding encode
replacement_utf8 = (0xFFFD ∷ [], (refl, refl))

replacement_char : chars replacement_bytes ≡ 0xFFFD ∷ []
unfolding chars
replacement_char = refl

after_replacement : (bytes : List ℕ) → chars (replacement_bytes ++ bytes) ≡ 0xFFFD ∷ chars bytes
after_replacement bytes = chars-append replacement_bytes bytes replacement_utf8 ∙ ap (λ xs. xs ++ chars bytes) replacement_char

-- an invalid sequence is decoded as U+FFFD
pub lossy_error : (x more : List ℕ) (n : ℕ) → utf8_valid_len x ≡ 0 → utf8_error_len x ≡ Some n → lossy (x ++ more) ≡ 0xFFFD ∷ lossy (drop n x ++ more)
lossy_error x more n none e =
    let bounds = error_within x n e in
    let zero_is : utf8_valid_len (x ++ more) ≡ 0 = bad_stays x more none (ap is_some e) in
    let len : utf8_invalid_len (x ++ more) ≡ n = ap (λ (o : Option ℕ). unwrap_or o (length (x ++ more))) (error_more x more n e) in
    let rest : after_first_chunk (x ++ more) ≡ drop n x ++ more =
    ap (λ v. drop (v + utf8_invalid_len (drop v (x ++ more))) (x ++ more)) zero_is ∙ ap (λ k. drop k (x ++ more)) (zero-add _ ∙ len) ∙ drop-append-le n x more bounds.1 in
    ap chars (utf8_lossy_step (x ++ more) (λ w. omega (arith, w, zero_is, bounds.0, bounds.1, length-append x more)))
    ∙ ap₂ (λ v t. chars (take v (x ++ more) ++ (replacement_bytes ++ utf8_lossy t))) zero_is rest
    ∙ after_replacement (utf8_lossy (drop n x ++ more))

-- at the end of the bytes, an incomplete character is decoded as U+FFFD too
pub lossy_beginning : (x : List ℕ) → 0 < length x → utf8_valid_len x ≡ 0 → utf8_error_len x ≡ None → lossy x ≡ 0xFFFD ∷ []
lossy_beginning x some none e =
    let len : utf8_invalid_len x ≡ length x = ap (λ (o : Option ℕ). unwrap_or o (length x)) e in
    let rest : after_first_chunk x ≡ [] =
    ap (λ v. drop (v + utf8_invalid_len (drop v x)) x) none ∙ ap (λ k. drop k x) (zero-add _ ∙ len) ∙ drop_all (length x) x (omega arith) in
    ap chars (utf8_lossy_step x (λ w. omega (arith, w, none, some)))
    ∙ ap₂ (λ v t. chars (take v x ++ (replacement_bytes ++ utf8_lossy t))) none rest
    ∙ ap (λ t. chars (replacement_bytes ++ t)) (utf8_lossy_empty [] refl)
    ∙ after_replacement [] ∙ ap (λ t. 0xFFFD ∷ t) chars-nil

-- the bytes after the longest valid prefix have an empty valid prefix
pub none_after : (x : List ℕ) → utf8_valid_len (drop (utf8_valid_len x) x) ≡ 0
none_after x =
    let v = utf8_valid_len x in
    let whole : utf8_valid_len x ≡ length (take v x) + utf8_valid_len (drop v x) =
    ap utf8_valid_len (sym (take-append-drop v x)) ∙ utf8_valid_len-after (take v x) (drop v x) (utf8_front x) in
    omega (arith, whole, length-take-le v x (utf8_valid_len_le x))

-- the valid prefix is decoded as its characters, followed by the decoded rest
lossy_valid : (x more : List ℕ) → lossy (x ++ more) ≡ chars (take (utf8_valid_len x) x) ++ lossy (drop (utf8_valid_len x) x ++ more)
lossy_valid x more =
    let v = utf8_valid_len x in
    ap (λ t. lossy (t ++ more)) (sym (take-append-drop v x)) ∙ ap lossy (append_assoc (take v x) (drop v x) more)
    ∙ ap chars (lossy_after (take v x) (drop v x ++ more) (utf8_front x)) ∙ chars-append (take v x) (utf8_lossy (drop v x ++ more)) (utf8_front x)

text_len : (x text : List ℕ) → text ≡ take (utf8_valid_len x) x → length text ≡ utf8_valid_len x
text_len x text e = ap length e ∙ length-take-le (utf8_valid_len x) x (utf8_valid_len_le x)

-- ---- the steps of a loop

pub decoded_none : (bytes before : List ℕ) → IsDecoded bytes 0 before before
decoded_none bytes before = record { characters = []; added = sym (append-nil before); within = omega arith; text = λ more. refl }

-- decoding the valid text at an index preserves `IsDecoded`
pub decoded_text : (bytes rest before after new text : List ℕ) (at : ℕ) (error : Option ℕ) → IsDecoded bytes at before after → rest ≡ drop at bytes
    → IsValidPrefix rest text error → new ≡ after ++ chars text → IsDecoded bytes (at + length text) before new
decoded_text bytes rest before after new text at error d r p e =
    let v = utf8_valid_len rest in
    let len : length text ≡ v = text_len rest text p.text_is in
    let next : drop (at + length text) bytes ≡ drop v rest = ap (λ n. drop (at + n) bytes) len ∙ sym (drop-drop v at bytes) ∙ ap (drop v) (sym r) in
    record {
      characters = d.characters ++ chars text;
      added = e ∙ ap (λ xs. xs ++ chars text) d.added ∙ append_assoc before d.characters (chars text);
      within = omega (arith, len, utf8_valid_len_le rest, ap length r, length-drop at bytes, d.within);
      text = λ more. d.text more ∙ ap (λ t. d.characters ++ lossy (t ++ more)) (sym r) ∙ ap (λ xs. d.characters ++ xs) (lossy_valid rest more)
          ∙ ap (λ t. d.characters ++ (chars t ++ lossy (drop v rest ++ more))) (sym p.text_is)
          ∙ sym (append_assoc d.characters (chars text) (lossy (drop v rest ++ more)))
          ∙ ap (λ t. (d.characters ++ chars text) ++ lossy (t ++ more)) (sym next);
    }

-- if the rest of the bytes has no error, `IsAllDecoded` holds after the valid prefix of the rest is decoded
pub all_decoded : (bytes rest before after new text : List ℕ) (at : ℕ) (error : Option ℕ) → IsDecoded bytes at before after → rest ≡ drop at bytes
    → IsValidPrefix rest text error → new ≡ after ++ chars text → error ≡ None → IsAllDecoded bytes (at + length text) before new
all_decoded bytes rest before after new text at error d r p e none =
    let v = utf8_valid_len rest in
    let len : v ≡ length text = sym (text_len rest text p.text_is) in
    let next : drop v rest ≡ drop (at + length text) bytes = ap (drop v) r ∙ drop-drop v at bytes ∙ ap (λ n. drop (at + n) bytes) len in
    let few = p.few none in
    record {
      decoded = decoded_text bytes rest before after new text at error d r p e;
      rest = subst IsBeginning next (record { none = none_after rest; fault = sym p.error_is ∙ none; few = omega (arith, few, length-drop v rest) });
    }

-- decoding the invalid sequence after the valid text as U+FFFD preserves `IsDecoded`
pub decoded_error : (bytes rest before after new text last : List ℕ) (at n : ℕ) (error : Option ℕ) → IsDecoded bytes at before after → rest ≡ drop at bytes
    → IsValidPrefix rest text error → new ≡ after ++ chars text → error ≡ Some n → last ≡ new ++ 0xFFFD ∷ [] → IsDecoded bytes (at + length text + n) before last
decoded_error bytes rest before after new text last at n error d r p e is added =
    let v = utf8_valid_len rest in
    let k = at + length text in
    let t = decoded_text bytes rest before after new text at error d r p e in
    let len : v ≡ length text = sym (text_len rest text p.text_is) in
    let next : drop v rest ≡ drop k bytes = ap (drop v) r ∙ drop-drop v at bytes ∙ ap (λ i. drop (at + i) bytes) len in
    let none : utf8_valid_len (drop k bytes) ≡ 0 = ap utf8_valid_len (sym next) ∙ none_after rest in
    let fault : utf8_error_len (drop k bytes) ≡ Some n = ap utf8_error_len (sym next) ∙ sym p.error_is ∙ is in
    let bounds = error_within (drop k bytes) n fault in
    record {
      characters = t.characters ++ 0xFFFD ∷ [];
      added = added ∙ ap (λ xs. xs ++ 0xFFFD ∷ []) t.added ∙ append_assoc before t.characters (0xFFFD ∷ []);
      within = omega (arith, bounds.1, length-drop k bytes, t.within);
      text = λ more. t.text more ∙ ap (λ xs. t.characters ++ xs) (lossy_error (drop k bytes) more n none fault)
          ∙ sym (append_assoc t.characters (0xFFFD ∷ []) (lossy (drop n (drop k bytes) ++ more)))
          ∙ ap (λ x. (t.characters ++ 0xFFFD ∷ []) ++ lossy (x ++ more)) (drop-drop n k bytes);
    }

-- an invalid sequence is not empty, and ends at or before the end of the bytes
pub error_bounds : (bytes rest text : List ℕ) (at n : ℕ) (error : Option ℕ) → at ≤ length bytes → rest ≡ drop at bytes → IsValidPrefix rest text error → error ≡ Some n
    → (0 < n) × (at + length text + n ≤ length bytes)
error_bounds bytes rest text at n error within r p is =
    let v = utf8_valid_len rest in
    let bounds = error_within (drop v rest) n (sym p.error_is ∙ is) in (
      bounds.0,
      omega (arith, bounds.1, length-drop v rest, utf8_valid_len_le rest, text_len rest text p.text_is, ap length r, length-drop at bytes, within),
    )

-- if the bytes have no error, at most an incomplete character at their end is not decoded
pub front_decoded : (bytes text before new : List ℕ) (bad : Bool) → text ≡ take (utf8_valid_len bytes) bytes → bad ≡ is_bad bytes → bad ≡ false
    → (bad ≡ false → length bytes < utf8_valid_len bytes + 4) → new ≡ before ++ chars text → IsAllDecoded bytes (length text) before new
front_decoded bytes text before new bad t b good few e =
    let prefix : IsValidPrefix bytes text None = record {
      text_is = t;
      error_is = sym (no_error _ (sym b ∙ good));
      few = λ _. few good;
    } in
    subst (λ n. IsAllDecoded bytes n before new) (zero-add (length text))
    (all_decoded bytes bytes before before new text 0 None (decoded_none bytes before) refl prefix e refl)
  where
    no_error : (o : Option ℕ) → is_some o ≡ false → o ≡ None
    no_error None h = refl
    no_error (Some n) h = absurd cc

-- ---- bytes up to an error

pub good_whole : (strict : Bool) (bytes : List ℕ) → (strict && is_bad bytes) ≡ false → good_part strict bytes ≡ bytes
good_whole strict bytes e = cond-false (strict && is_bad bytes) (take (utf8_valid_len bytes) bytes) bytes e

pub good_front : (strict : Bool) (bytes : List ℕ) → (strict && is_bad bytes) ≡ true → good_part strict bytes ≡ take (utf8_valid_len bytes) bytes
good_front strict bytes e = cond-true (strict && is_bad bytes) (take (utf8_valid_len bytes) bytes) bytes e

-- if the form is strict, the valid prefix of the bytes that are decoded is as long as the valid prefix of all
-- bytes
pub good_len : (bytes : List ℕ) → utf8_valid_len (good_part true bytes) ≡ utf8_valid_len bytes
good_len bytes =
    let v = utf8_valid_len bytes in
    elim (cases_Bool (is_bad bytes)) [
      | inl y ↦
          ap utf8_valid_len (good_front true bytes y) ∙ utf8_valid_len-IsUtf8 (take v bytes) (utf8_front bytes) ∙ length-take-le v bytes (utf8_valid_len_le bytes)
      | inr n ↦ ap utf8_valid_len (good_whole true bytes n)
    ]

pub good_take : (bytes : List ℕ) → take (utf8_valid_len bytes) (good_part true bytes) ≡ take (utf8_valid_len bytes) bytes
good_take bytes =
    let v = utf8_valid_len bytes in
    elim (cases_Bool (is_bad bytes)) [
      | inl y ↦
          ap (take v) (good_front true bytes y) ∙ take_all v (take v bytes) (omega (arith, length-take-le v bytes (utf8_valid_len_le bytes)))
      | inr n ↦ ap (take v) (good_whole true bytes n)
    ]

-- the longest valid prefix is decoded as its characters, whatever bytes follow
pub lossy_front : (bytes more : List ℕ) → lossy (take (utf8_valid_len bytes) bytes ++ more) ≡ chars (take (utf8_valid_len bytes) bytes) ++ lossy more
lossy_front bytes more =
    let front = take (utf8_valid_len bytes) bytes in
    ap chars (lossy_after front more (utf8_front bytes)) ∙ chars-append front (utf8_lossy more) (utf8_front bytes)

pub front_decodes : (bad : Bool) (bytes text before new : List ℕ) → text ≡ take (utf8_valid_len bytes) bytes → bad ≡ is_bad bytes
    → (bad ≡ false → length bytes < utf8_valid_len bytes + 4) → new ≡ before ++ chars text → Decodes true bytes (length text) bad before new
front_decodes bad bytes text before new t b few e = record {
  all = by_test bad b few;
  stops_is = b;
  within = omega (arith, len, utf8_valid_len_le bytes);
  valid = λ _. (len, e ∙ ap (λ x. before ++ chars x) (t ∙ ap (λ n. take n bytes) (sym len)));
}
  where
    len : length text ≡ utf8_valid_len bytes
    len = text_len bytes text t

    by_test : (bad : Bool) → bad ≡ is_bad bytes → (bad ≡ false → length bytes < utf8_valid_len bytes + 4) → IsAllDecoded (good_part true bytes) (length text) before new
    by_test false b few =
        subst (λ (x : List ℕ). IsAllDecoded x (length text) before new) (sym (good_whole true bytes (sym b)))
        (front_decoded bytes text before new false t b refl few e)
    by_test true b few =
        let v = utf8_valid_len bytes in
        let front = take v bytes in
        let u = utf8_front bytes in
        let text_is : text ≡ take (utf8_valid_len front) front = t ∙ sym (whole_text front u) in
        subst (λ (x : List ℕ). IsAllDecoded x (length text) before new) (sym (good_front true bytes (sym b)))
        (front_decoded front text before new false text_is (whole_good front u) refl (λ _. omega (arith, utf8_valid_len-IsUtf8 front u)) e)

-- if `strict` is false, `IsAllDecoded` implies `Decodes`
pub lossy_decodes : (bytes before new : List ℕ) (n : ℕ) → IsAllDecoded bytes n before new → Decodes false bytes n false before new
lossy_decodes bytes before new n all = record { all = all; stops_is = refl; within = all.decoded.within; valid = λ s. absurd cc }

-- the bytes up to the computed end are the good part of the chunk
pub ended_part : (strict stops : Bool) (chunk : List ℕ) (filled n end : ℕ) → end ≡ (if stops then n else filled) → stops ≡ (strict && is_bad (take filled chunk))
    → (strict ≡ true → n ≡ utf8_valid_len (take filled chunk)) → n ≤ length (take filled chunk) → filled ≤ length chunk → take end chunk ≡ good_part strict (take filled chunk)
ended_part strict false chunk filled n end e s valid small within = ap (λ k. take k chunk) e ∙ sym (good_whole strict (take filled chunk) (sym s))
ended_part strict true chunk filled n end e s valid small within =
    let bytes = take filled chunk in
    let v = utf8_valid_len bytes in
    let v_is : n ≡ v = valid (and_parts strict (is_bad bytes) (sym s)).0 in
    let below : n ≤ filled = omega (arith, small, length-take-le filled chunk within) in
    ap (λ k. take k chunk) (e ∙ v_is) ∙ sym (take-take v filled chunk (omega (arith, v_is, below))) ∙ sym (good_front strict bytes (sym s))

pub end_bounds : (stops : Bool) (n filled end : ℕ) → end ≡ (if stops then n else filled) → n ≤ filled → (n ≤ end) × (end ≤ filled)
end_bounds false n filled end e within = (omega (arith, e, within), omega (arith, e))
end_bounds true n filled end e within = (omega (arith, e), omega (arith, e, within))

pub lossy_none : lossy [] ≡ []
lossy_none = ap chars (utf8_lossy_empty [] refl) ∙ chars-nil
