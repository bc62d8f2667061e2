-- Whether the first paragraph of a text without a paragraph boundary is too long, checked character by character.
use Rattle.std.proofs.Common.{◌≡◌, ℕ, zero, suc, get_or, ◌+◌, ◌-◌, ◌<◌, ◌≤◌, ◌&&◌, Bool, true, false, List, [], ◌∷◌, ◌++◌, length, map, map-id, take, drop, Option, Some, None, MatchOption, encode_utf8_all, refl, sym, subst, ap, ◌∙◌, arith}
use Rattle.std.specs.Prelude.{⊤, IsUtf8}
use Rattle.std.specs.List.{concat, slice_get}
use Rattle.std.specs.Str.{chars}
use Rattle.std.specs.Str.Lossy.{utf8_valid_len}
use Rattle.std.proofs.lemmas.List.{append_assoc, length-append, length-take-le}
use Rattle.std.proofs.lemmas.Str.{encodes-chars, len_utf8_bounds, length-encode, utf8_valid_len_le}
use Rattle.bidi.specs.Cuts.{paragraphs, SplitsAt}
use Rattle.bidi.specs.Pieces.{ParagraphsArePieces}
use Rattle.stream.specs.Utf8.{front_of}
use Rattle.text_run.specs.TextRun.{are_within, is_within}
use Rattle.text_run.specs.Streaming.{IsEnded, IsOpen, StartsLong}
use Rattle.bidi.proofs.LastLemmas.{last_pushed, split_before, uncut_more}
use Rattle.text_run.proofs.Fronts.{long_more, long_uncut}
use Rattle.text_run.proofs.StreamLemmas.{short_is}
use Rattle.stream.proofs.Utf8Lemmas.{utf8_front}
use lib.Utf8.{encode}

-- if all paragraphs together are within the limit, each of them is
few_within : (ps : List (List ℕ)) → length (concat ps) ≤ 1048576 → are_within ps ≡ true
few_within [] few = refl
few_within (p ∷ ps) few =
    ap (λ (b : Bool). is_within p && b) (few_within ps (omega (arith, few, length-append p (concat ps))))
    ∙ ap (λ (b : Bool). b && true) (short_is p (omega (arith, few, length-append p (concat ps))))

pub text_within : ParagraphsArePieces → (is_cut : ℕ → ℕ → Bool) (text : List ℕ) → length text ≤ 1048576 → are_within (paragraphs is_cut text) ≡ true
text_within law is_cut text few = few_within (paragraphs is_cut text) (omega (arith, few, ap length (law.whole is_cut text)))

-- a text has at most as many characters as bytes
encodes_few : (cs : List ℕ) → length cs ≤ length (encode_utf8_all cs)
encodes_few [] = omega arith
encodes_few (c ∷ cs) = omega (arith, length-append (encode c) (encode_utf8_all cs), length-encode c, (len_utf8_bounds c).0, encodes_few cs)

pub text_few : (bytes : List ℕ) → IsUtf8 bytes → length (chars bytes) ≤ length bytes
text_few bytes utf8 = omega (arith, encodes_few (chars bytes), ap length (encodes-chars bytes utf8))

pub front_few : (bytes : List ℕ) → length (front_of bytes) ≤ length bytes
front_few bytes =
    let front = take (utf8_valid_len bytes) bytes in
    omega (arith, encodes_few (chars front), ap length (encodes-chars front (utf8_front bytes)), length-take-le (utf8_valid_len bytes) bytes (utf8_valid_len_le bytes), utf8_valid_len_le bytes)

-- ---- characters one after another

-- a text is its first n characters, followed by the character at index n and the rest
next_of : (all : List ℕ) (n c : ℕ) → n < length all → c ≡ get_or all n c → all ≡ take n all ++ c ∷ drop (suc n) all
next_of [] n c less is = absurd (omega arith)
next_of (x ∷ all) zero c less is = ap (λ y. y ∷ all) (sym is)
next_of (x ∷ all) (suc n) c less is = ap (λ t. x ∷ t) (next_of all n c (omega arith) is)

-- a text consists of the characters read so far, the current character, and the rest
pub at_hand : (all taken : List ℕ) (c : ℕ) → map (λ x. x) taken ≡ take (length taken) all → (length taken < length all)
    × (c ≡ get_or all (length taken) c) → all ≡ taken ++ c ∷ drop (suc (length taken)) all
at_hand all taken c so_far turn =
    next_of all (length taken) c turn.0 turn.1 ∙ ap (λ t. t ++ c ∷ drop (suc (length taken)) all) (sym so_far ∙ map-id taken)

-- a text that is not empty has at least one paragraph
some_pars : (pars : List (List ℕ)) → 0 < length (concat pars) → 0 < length pars
some_pars [] some = absurd (omega (arith, some))
some_pars (p ∷ pars) some = omega arith

module _ (is_cut : ℕ → ℕ → Bool) where
  -- whether the scan has read a text that has no paragraph boundary and is within the limit
  pub record HasTaken (text : List ℕ) (last : Option ℕ) (len : ℕ) : Type 0 where
    pub uncut : SplitsAt is_cut text None
    pub last_is : last ≡ slice_get text (length text - 1)
    pub len_is : len ≡ length text
    pub short : len ≤ 1048576

  -- if the text is still within the limit with one more character, `HasTaken` still holds
  pub take_one : (text : List ℕ) (last : Option ℕ) (len c : ℕ) → HasTaken text last len → MatchOption last ⊤ (λ a. is_cut a c ≡ false) → len < 1048576 → HasTaken (text ++ c ∷ []) (Some c) (len + 1)
  take_one text last len c taken no_cut less = record {
    uncut = uncut_more is_cut text last c (sym taken.last_is) taken.uncut no_cut;
    last_is = sym (last_pushed text c);
    len_is = omega (arith, taken.len_is, length-append text (c ∷ []));
    short = omega (arith, less);
  }

  -- if the text exceeds the limit with one more character, its first paragraph is too long
  pub one_too_many : (text more : List ℕ) (last : Option ℕ) (len c : ℕ) → HasTaken text last len → MatchOption last ⊤ (λ a. is_cut a c ≡ false) → len ≡ 1048576 → StartsLong is_cut (text ++ c ∷ more)
  one_too_many text more last len c taken no_cut full =
      subst (λ (t : List ℕ). StartsLong is_cut t) (append_assoc text (c ∷ []) more)
      (long_more is_cut (text ++ c ∷ []) more
      (long_uncut is_cut (text ++ c ∷ []) (uncut_more is_cut text last c (sym taken.last_is) taken.uncut no_cut) (omega (arith, full, taken.len_is, length-append text (c ∷ [])))))

  -- if there is a paragraph boundary before the next character, the first paragraph ends within the text
  pub cut_before : ParagraphsArePieces → (text more : List ℕ) (last : Option ℕ) (len c a : ℕ) → HasTaken text last len
      → last ≡ Some a → is_cut a c ≡ true → length (c ∷ more) ≤ 1048576 → IsEnded is_cut (text ++ c ∷ more)
  cut_before law text more last len c a taken last_is cut few =
      let split : paragraphs is_cut (text ++ c ∷ more) ≡ text ∷ paragraphs is_cut (c ∷ more) = (split_before is_cut text more last c a taken.last_is taken.uncut last_is cut).1 in
      let whole_more : c ∷ more ≡ concat (paragraphs is_cut (c ∷ more)) = sym (law.whole is_cut (c ∷ more)) in
      record {
        within =
            ap are_within split
            ∙ ap (λ (b : Bool). is_within text && b) (text_within law is_cut (c ∷ more) few)
            ∙ ap (λ (b : Bool). b && true) (short_is text (omega (arith, taken.short, taken.len_is)));
        more = omega (arith, ap length split, some_pars (paragraphs is_cut (c ∷ more)) (omega (arith, ap length whole_more)));
      }

-- if a text has no paragraph boundary and is within the limit, none of its paragraphs is too long
pub open_within : (is_cut : ℕ → ℕ → Bool) (text : List ℕ) → IsOpen is_cut text → are_within (paragraphs is_cut text) ≡ true
open_within is_cut [] is_open = refl
open_within is_cut (a ∷ text) is_open = ap are_within (is_open.uncut (omega arith)) ∙ ap (λ (b : Bool). b && true) (short_is (a ∷ text) is_open.short)
