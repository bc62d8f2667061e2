-- The reasons why a session cannot be opened on a text, in the order in which they are tested.
use Rattle.std.proofs.Common.{◌≡◌, ℕ, ◌<◌, ◌≤◌, ◌==◌, nat_le, Bool, ◌&&◌, true, false, List, [], ◌∷◌, length, encode_utf8_all, Some, None, refl, ap, ◌∙◌, arith}
use Rattle.std.specs.Prelude.{IsUtf8}
use Rattle.std.specs.List.{concat}
use Rattle.std.specs.Str.{chars}
use Rattle.std.proofs.lemmas.Bool.{cond-true, cond-false, le-leb, ne_eqb}
use Rattle.std.proofs.lemmas.List.{length-append}
use Rattle.std.proofs.lemmas.Str.{encodes-chars, len_utf8_bounds, length-encode}
use Rattle.bidi.specs.Cuts.{paragraphs}
use Rattle.bidi.specs.Pieces.{ParagraphsArePieces}
use Rattle.lines.specs.declared.engine.TheConstants.{PARAGRAPH_LIMIT}
use Rattle.session.specs.Edits.{are_within, is_within_limit, text_refusal}
use Rattle.session.specs.Sessions.{opening_refusal}
use Rattle.session.specs.declared.edits.EditFault.TheVariants.{WidthOutOfRange, TextTooLong, ParagraphTooLong}
use Rattle.session.specs.declared.edits.TheConstants.{TEXT_LIMIT}
use Rattle.session.proofs.RefusalLemmas.{text_refusal-long, text_refusal-short}
use lib.Utf8.{encode}

-- a text has at most as many characters as bytes
encodes_few : (cs : List ℕ) → length cs ≤ length (encode_utf8_all cs)
encodes_few [] = omega arith
encodes_few (c ∷ cs) = omega (arith, length-append (encode c) (encode_utf8_all cs), length-encode c, (len_utf8_bounds c).0, encodes_few cs)

pub text_few : (bytes : List ℕ) → IsUtf8 bytes → length (chars bytes) ≤ length bytes
text_few bytes utf8 = omega (arith, encodes_few (chars bytes), ap length (encodes-chars bytes utf8))

-- if all paragraphs together are within the limit, each of them is
few_within : (ps : List (List ℕ)) → length (concat ps) ≤ PARAGRAPH_LIMIT → are_within ps ≡ true
few_within [] few = refl
few_within (p ∷ ps) few =
    ap (λ (b : Bool). nat_le (length p) PARAGRAPH_LIMIT && b) (few_within ps (omega (arith, few, length-append p (concat ps))))
    ∙ ap (λ (b : Bool). b && true) (le-leb (length p) PARAGRAPH_LIMIT (omega (arith, few, length-append p (concat ps))))

pub short_within : ParagraphsArePieces → (is_cut : ℕ → ℕ → Bool) (text : List ℕ) → length text ≤ PARAGRAPH_LIMIT → is_within_limit is_cut text ≡ true
short_within law is_cut text few = few_within (paragraphs is_cut text) (omega (arith, few, ap length (law.whole is_cut text)))

module _ (is_cut : ℕ → ℕ → Bool) (text : List ℕ) (width : ℕ) (some : width ≡ 0 → ⊥) where
  by_text : opening_refusal is_cut text width ≡ text_refusal is_cut text
  by_text = cond-false (width == 0) (Some WidthOutOfRange) (text_refusal is_cut text) (ne_eqb width 0 some)

  pub long_text : TEXT_LIMIT < length text → opening_refusal is_cut text width ≡ Some TextTooLong
  long_text long = by_text ∙ text_refusal-long is_cut None text long

  pub long_paragraph : length text ≤ TEXT_LIMIT → is_within_limit is_cut text ≡ false → opening_refusal is_cut text width ≡ Some ParagraphTooLong
  long_paragraph short long =
      by_text ∙ text_refusal-short is_cut None text short
      ∙ cond-false (is_within_limit is_cut text) None (Some ParagraphTooLong) long

  pub not_refused : length text ≤ TEXT_LIMIT → is_within_limit is_cut text ≡ true → opening_refusal is_cut text width ≡ None
  not_refused short within =
      by_text ∙ text_refusal-short is_cut None text short
      ∙ cond-true (is_within_limit is_cut text) None (Some ParagraphTooLong) within
