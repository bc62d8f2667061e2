-- The characters of an input whose bytes come in chunks.
use Rattle.std.proofs.Common.{◌≡◌, ℕ, zero, suc, ◌+◌, ◌<◌, ◌≤◌, ◌==◌, nat_lt, vec_len, Bool, true, false, ◌||◌, List, [], ◌∷◌, ◌++◌, length, map, take, drop, get_or, slice_set, if◌then◌else◌, refl, sym, subst, ap, ap₂, inl, inr, ◌∙◌, append_assoc, arith, take_at, drop_at, drop-cons, take-suc}
use Rattle.std.specs.Str.{chars}
use Rattle.std.specs.Str.Lossy.{utf8_valid_len}
use Rattle.std.proofs.lemmas.Bool.{cases_Bool, cond-true, cond-false, lt-ltb}
use Rattle.std.proofs.lemmas.Bool.Decides.{nat_tests}
use Rattle.std.proofs.lemmas.List.{length-append, length-map, length-take-le, map-append}
use Rattle.std.proofs.Math.Seq.{get_or-append_seam}
use Rattle.terminal.specs.Decoding.{Decodes, IsBeginning, IsValidText, Takes, good_part, lossy, pictures, text_after}
use Rattle.terminal.specs.Texts.{picture, without_mark}
use Rattle.terminal.specs.declared.decoder.Decoder.{Decoder}
use Rattle.terminal.specs.declared.form.Escapes.{Escapes}
use Rattle.terminal.specs.declared.form.Escapes.TheVariants.{Keep, Strip, Text}
use Rattle.terminal.proofs.LossyLemmas.{good_len, good_take, lossy_front}

pictures-append : (escapes : Escapes) (xs ys : List ℕ) → pictures escapes (xs ++ ys) ≡ pictures escapes xs ++ pictures escapes ys
pictures-append Keep xs ys = refl
pictures-append Strip xs ys = refl
pictures-append Text xs ys = map-append picture xs ys

abbrev pub marked : Bool → List ℕ → List ℕ
marked started text = if started then text else without_mark text

marked-append : (started : Bool) (xs ys : List ℕ) → marked started (xs ++ ys) ≡ marked started xs ++ marked (started || nat_lt 0 (length xs)) ys
marked-append true xs ys = refl
marked-append false [] ys = refl
marked-append false (c ∷ xs) ys = split ∙ ap (λ (b : Bool). marked false (c ∷ xs) ++ marked b ys) (sym (lt-ltb 0 (length (c ∷ xs)) (omega arith)))
  where
    split : marked false (c ∷ (xs ++ ys)) ≡ marked false (c ∷ xs) ++ ys
    split = elim (cases_Bool (c == 0xFEFF)) [
      | inl y ↦ cond-true (c == 0xFEFF) (xs ++ ys) (c ∷ (xs ++ ys)) y ∙ ap (λ t. t ++ ys) (sym (cond-true (c == 0xFEFF) xs (c ∷ xs) y))
      | inr n ↦ cond-false (c == 0xFEFF) (xs ++ ys) (c ∷ (xs ++ ys)) n ∙ ap (λ t. t ++ ys) (sym (cond-false (c == 0xFEFF) xs (c ∷ xs) n))
    ]

not_less : (a b : ℕ) → b ≤ a → nat_lt a b ≡ false
not_less a b le = grind (arith, nat_tests)

-- the text of some bytes is their first decoded characters, followed by the text of the remaining bytes
text_by : (escapes : Escapes) (old new : Bool) (bytes rest xs : List ℕ) → lossy bytes ≡ xs ++ lossy rest → new ≡ (old || nat_lt 0 (length xs))
    → text_after escapes old bytes ≡ pictures escapes (marked old xs) ++ text_after escapes new rest
text_by escapes old new bytes rest xs e flag =
    ap (λ t. pictures escapes (marked old t)) e ∙ ap (pictures escapes) (marked-append old xs (lossy rest))
    ∙ pictures-append escapes (marked old xs) (marked (old || nat_lt 0 (length xs)) (lossy rest))
    ∙ ap (λ b. pictures escapes (marked old xs) ++ pictures escapes (marked b (lossy rest))) (sym flag)

pub takes : (strict stops : Bool) (escapes : Escapes) (whole : List ℕ) (old new : Decoder) (before mid started after : List ℕ) (from n : ℕ) → Decodes strict whole n stops before mid → from ≡ length before
    → started ≡ take from mid ++ marked old.started (drop from mid) → new.started ≡ (old.started || nat_lt from (length mid))
    → after ≡ take from started ++ pictures escapes (drop from started) → take new.waiting new.chunk.items ≡ drop n (good_part strict whole)
    → new.waiting ≤ length new.chunk.items → vec_len new.chunk ≡ vec_len old.chunk → new.decoded + new.waiting ≡ old.decoded + length (good_part strict whole)
    → Takes strict escapes (good_part strict whole) old new before after
takes strict stops escapes whole old new before mid started after from n d f s flag a w small room counts =
    let bytes = good_part strict whole in
    let xs = d.all.decoded.characters in
    let front : take from mid ≡ before = ap (take from) d.all.decoded.added ∙ take_at before xs from (sym f) in
    let back : drop from mid ≡ xs = ap (drop from) d.all.decoded.added ∙ drop_at before xs from (sym f) in
    let m = marked old.started xs in
    let started_is : started ≡ before ++ m = s ∙ ap₂ (λ x y. x ++ marked old.started y) front back in
    let front_2 : take from started ≡ before = ap (take from) started_is ∙ take_at before m from (sym f) in
    let back_2 : drop from started ≡ m = ap (drop from) started_is ∙ drop_at before m from (sym f) in
    let flag_is : new.started ≡ (old.started || nat_lt 0 (length xs)) = flag ∙ ap (λ b. old.started || b) (some_more before mid xs from d.all.decoded.added f) in
    record {
      characters = pictures escapes m;
      added = a ∙ ap₂ (λ x y. x ++ pictures escapes y) front_2 back_2;
      text = λ more.
          text_by escapes old.started new.started (bytes ++ more) (drop n bytes ++ more) xs (d.all.decoded.text more) flag_is
          ∙ ap (λ t. pictures escapes m ++ text_after escapes new.started (t ++ more)) (sym w);
      beginning = subst IsBeginning (sym w) d.all.rest;
      waits = length-take-le new.waiting new.chunk.items small;
      room = room;
      counts = counts;
      valid = λ is. valid_text is (d.valid is) flag_is back;
    }
  where
    valid_text : strict ≡ true → (n ≡ utf8_valid_len whole) × (mid ≡ before ++ chars (take n whole)) → new.started ≡ (old.started || nat_lt 0 (length d.all.decoded.characters))
        → drop from mid ≡ d.all.decoded.characters
        → IsValidText escapes (good_part strict whole) (take new.waiting new.chunk.items) (pictures escapes (marked old.started d.all.decoded.characters)) old.started new.started
    valid_text is (len, added) flag_is back =
        let xs = d.all.decoded.characters in
        let v = utf8_valid_len whole in
        let good : good_part strict whole ≡ good_part true whole = ap (λ b. good_part b whole) is in
        let v_is : utf8_valid_len (good_part strict whole) ≡ v = ap utf8_valid_len good ∙ good_len whole in
        let text_is : take (utf8_valid_len (good_part strict whole)) (good_part strict whole) ≡ take v whole = ap₂ (λ k t. take k t) v_is good ∙ good_take whole in
        let xs_is : chars (take v whole) ≡ xs =
        ap (λ k. chars (take k whole)) (sym len) ∙ sym (drop_at before (chars (take n whole)) from (sym f)) ∙ ap (drop from) (sym added) ∙ back in
        record {
          rest = w ∙ ap (λ k. drop k (good_part strict whole)) (len ∙ sym v_is);
          text = λ more.
              ap (λ t. text_after escapes old.started (t ++ more)) text_is
              ∙ text_by escapes old.started new.started (take v whole ++ more) more xs (lossy_front whole more ∙ ap (λ t. t ++ lossy more) xs_is) flag_is;
        }

    some_more : (before mid xs : List ℕ) (from : ℕ) → mid ≡ before ++ xs → from ≡ length before → nat_lt from (length mid) ≡ nat_lt 0 (length xs)
    some_more before mid xs from e f = by_cases xs (ap length e ∙ length-append before xs)
      where
        by_cases : (xs : List ℕ) → length mid ≡ length before + length xs → nat_lt from (length mid) ≡ nat_lt 0 (length xs)
        by_cases [] len = not_less from (length mid) (omega (arith, len, f))
        by_cases (x ∷ xs) len = lt-ltb from (length mid) (omega (arith, len, f)) ∙ sym (lt-ltb 0 (length (x ∷ xs)) (omega arith))

-- setting the item after a prefix changes neither the prefix nor the later items
set_front : (front rest : List ℕ) (c v k : ℕ) → length front ≡ k → slice_set (front ++ c ∷ rest) k v ≡ front ++ v ∷ rest
set_front [] rest c v k len = ap (λ n. slice_set (c ∷ rest) n v) (sym len)
set_front (x ∷ front) rest c v zero len = absurd (omega (arith, len))
set_front (x ∷ front) rest c v (suc k) len = ap (λ t. x ∷ t) (set_front front rest c v k (omega (arith, len)))

pub put_one : (all text : List ℕ) (k c : ℕ) → k < length all → text ≡ map picture (take k all) ++ drop k all → c ≡ get_or text k c
    → slice_set text k (picture c) ≡ map picture (take (k + 1) all) ++ drop (k + 1) all
put_one all text k c within e read =
    let x = get_or all k 0 in
    let front = map picture (take k all) in
    let rest = drop (suc k) all in
    let len : length front ≡ k = omega (arith, length-map (take k all) picture, length-take-le k all (omega (arith, within))) in
    let text_is : text ≡ front ++ x ∷ rest = e ∙ ap (λ t. front ++ t) (drop-cons all k 0 within) in
    let c_is : c ≡ x = read ∙ ap (λ t. get_or t k c) text_is ∙ ap (λ n. get_or (front ++ x ∷ rest) n c) (sym len) ∙ get_or-append_seam front x rest c in
    let next : suc k ≡ k + 1 = omega arith in
    let more : map picture (take (suc k) all) ≡ front ++ picture x ∷ [] =
    ap (map picture) (take-suc all k 0 within) ∙ map-append picture (take k all) (x ∷ []) in
    ap₂ (λ t v. slice_set t k (picture v)) text_is c_is ∙ set_front front rest x (picture x) k len
    ∙ sym (append_assoc front (picture x ∷ []) rest) ∙ ap (λ t. t ++ rest) (sym more)
    ∙ ap (λ n. map picture (take n all) ++ drop n all) next
