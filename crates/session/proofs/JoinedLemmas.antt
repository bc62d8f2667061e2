-- A text that is given in three parts, and the layout of a text one paragraph at a time.
use Rattle.std.proofs.Common.{◌≡◌, ℕ, ◌+◌, ◌<◌, ◌≤◌, Bool, true, false, not, ◌&&◌, ◌==◌, List, [], ◌∷◌, ◌++◌, length, take, drop, Option, Some, None, nat_lt, nat_le, ⊎_elim, refl, sym, ap, ap₂, subst, ◌∙◌, arith}
use Rattle.std.specs.List.{concat}
use Rattle.std.specs.Str.{chars, IsUtf8}
use Rattle.std.proofs.Math.Utf8.{encodes, scalars}
use Rattle.std.proofs.lemmas.Str.{chars-encodes, chars-nil}
use Rattle.std.proofs.lemmas.Bool.{and_parts, both_ways, eqb-true, cases_lt, le-leb, le-ltb, leb-true, lt-leb, lt-ltb, not-false, not-true}
use Rattle.std.proofs.lemmas.List.{append-nil, append_assoc, length-append, nil_from_length, take_all}
use Rattle.bidi.specs.Cuts.{paragraphs, SplitsAt}
use Rattle.bidi.specs.TextCuts.{EndsAfter}
use Rattle.bidi.proofs.TextCutLemmas.{ends_parts}
use Rattle.bidi.specs.Pieces.{ArePieces, ParagraphsArePieces}
use Rattle.lines.specs.Layouts.{Layout, Rules, cut_by, layout_of, with_advances, IsParagraph}
use Rattle.session.specs.Edits.{are_within, is_within_limit}
use Rattle.session.specs.Kept.{back_advances, front_advances, layouts_from, AreForEach}
use Rattle.session.specs.Scans.{HasScanned}
use Rattle.session.specs.declared.scan.Scan.{Scan}
use Rattle.lines.specs.declared.engine.TheConstants.{PARAGRAPH_LIMIT}

and-true : (b : Bool) → (b && true) ≡ b
and-true true = refl
and-true false = refl

module _ (is_cut : ℕ → ℕ → Bool) where
  pub long_of_parts : (front piece back : List ℕ) (scan : Scan) → HasScanned is_cut ([] ++ front ++ piece ++ back) scan
      → scan.is_long ≡ not (is_within_limit is_cut (front ++ (piece ++ back)))
  long_of_parts front piece back scan known = known.is_long ∙ ap (λ text. not (is_within_limit is_cut text)) (append_assoc front piece back)

  -- a text between two adjacent paragraph boundaries is one paragraph
  pub first_piece : (piece : List ℕ) (pieces : List (List ℕ)) → ArePieces is_cut (piece ∷ pieces) → ArePieces is_cut (piece ∷ [])
  first_piece piece [] h = h
  first_piece piece (next ∷ pieces) h = h.0

  pub whole_piece : ParagraphsArePieces → (text first : List ℕ) (pieces : List (List ℕ)) → paragraphs is_cut text ≡ first ∷ pieces → paragraphs is_cut first ≡ first ∷ []
  whole_piece law text first pieces e =
      let one : ArePieces is_cut (first ∷ []) = first_piece first pieces (subst (ArePieces is_cut) e (law.pieces is_cut text)) in
      ap (paragraphs is_cut) (sym (append-nil first)) ∙ law.only is_cut (first ∷ []) one

  -- if no paragraph of a text is too long, the first paragraph is within the limit, and so are the others
  pub within_parts : (text first : List ℕ) (pieces : List (List ℕ)) → paragraphs is_cut text ≡ first ∷ pieces
      → is_within_limit is_cut text ≡ true → (length first ≤ PARAGRAPH_LIMIT) × (are_within pieces ≡ true)
  within_parts text first pieces e within =
      let parts = and_parts (nat_le (length first) PARAGRAPH_LIMIT) (are_within pieces) (sym (ap are_within e) ∙ within) in
      (leb-true (length first) PARAGRAPH_LIMIT parts.0, parts.1)

  first_tested : (text first after : List ℕ) → paragraphs is_cut text ≡ first ∷ paragraphs is_cut after → (b : Bool) → nat_le (length first) PARAGRAPH_LIMIT ≡ b
      → is_within_limit is_cut text ≡ (b && is_within_limit is_cut after)
  first_tested text first after split b e = ap are_within split ∙ ap (λ c. c && is_within_limit is_cut after) e

  -- if the first paragraph is not too long, the text is within the limit if and only if the others are
  pub within_after : (text first after : List ℕ) → paragraphs is_cut text ≡ first ∷ paragraphs is_cut after → not (nat_le (length first) PARAGRAPH_LIMIT) ≡ false
      → is_within_limit is_cut text ≡ is_within_limit is_cut after
  within_after text first after split short = first_tested text first after split true (not-false _ short)

  pub long_first : (text first after : List ℕ) → paragraphs is_cut text ≡ first ∷ paragraphs is_cut after → not (nat_le (length first) PARAGRAPH_LIMIT) ≡ true
      → is_within_limit is_cut text ≡ false
  long_first text first after split long = first_tested text first after split false (not-true _ long)

  -- if the first paragraph of a text ends at byte n, the others are the paragraphs of the text after byte n
  pub split_at_end : (text first after : List ℕ) (n : ℕ) → EndsAfter is_cut [] text n → first ≡ take n text → after ≡ drop n text
      → paragraphs is_cut (chars text) ≡ chars first ∷ paragraphs is_cut (chars after)
  split_at_end text first after n ends first-is after-is =
      let parts = ends_parts [] text n ends.front in
      ends.splits.2 ∙ ap₂ (λ p q. p ∷ paragraphs is_cut q) (sym parts.0 ∙ ap chars (sym first-is)) (sym parts.1 ∙ ap chars (sym after-is))

  -- a text without a paragraph boundary is within the limit if and only if its length is
  pub within_uncut : (text : List ℕ) → SplitsAt is_cut text None → is_within_limit is_cut text ≡ nat_le (length text) PARAGRAPH_LIMIT
  within_uncut [] split = refl
  within_uncut (c ∷ text) split = ap are_within (split (omega arith)) ∙ and-true (nat_le (length (c ∷ text)) PARAGRAPH_LIMIT)

-- if a text is split after its first paragraph, the first part is one paragraph, and the lengths of the two
-- parts add up to that of the text
module _ (law : ParagraphsArePieces) (rules : Rules) (text first after : List ℕ) (split : paragraphs (cut_by rules) text ≡ first ∷ paragraphs (cut_by rules) after) where
  pub first_paragraph : is_within_limit (cut_by rules) text ≡ true → IsParagraph rules first
  first_paragraph within = record {
    whole = whole_piece (cut_by rules) law text first (paragraphs (cut_by rules) after) split;
    within = (within_parts (cut_by rules) text first (paragraphs (cut_by rules) after) split within).0;
  }

  pub others_within : is_within_limit (cut_by rules) text ≡ true → is_within_limit (cut_by rules) after ≡ true
  others_within within = (within_parts (cut_by rules) text first (paragraphs (cut_by rules) after) split within).1

  pub text_parts : text ≡ first ++ after
  text_parts = sym (law.whole (cut_by rules) text) ∙ ap concat split ∙ ap (λ b. first ++ b) (law.whole (cut_by rules) after)

  pub split_length : length text ≡ length first + length after
  split_length = ap length text_parts ∙ length-append first after

module _ (law : ParagraphsArePieces) (rules : Rules) (text : List ℕ) (within : is_within_limit (cut_by rules) text ≡ true) where
  pub paragraph_in_front : (k : ℕ) → SplitsAt (cut_by rules) text (Some k) → IsParagraph rules (take k text)
  paragraph_in_front k split = record {
    whole = whole_piece (cut_by rules) law text (take k text) (paragraphs (cut_by rules) (drop k text)) split.2;
    within = (within_parts (cut_by rules) text (take k text) (paragraphs (cut_by rules) (drop k text)) split.2 within).0;
  }

  pub rest_within : (k : ℕ) → SplitsAt (cut_by rules) text (Some k) → is_within_limit (cut_by rules) (drop k text) ≡ true
  rest_within k split = (within_parts (cut_by rules) text (take k text) (paragraphs (cut_by rules) (drop k text)) split.2 within).1

  pub last_paragraph : SplitsAt (cut_by rules) text None → 0 < length text → IsParagraph rules text
  last_paragraph split some = record {
    whole = split some;
    within = (within_parts (cut_by rules) text text [] (split some) within).0;
  }

-- The layouts so far, followed by those of the remaining text, are still all layouts after one more paragraph
-- has been laid out. The remaining text has its own advances, if the text is measured.
module _ (rules : Rules) (width : ℕ) (all : List Layout) (rest : List ℕ) (advances : Option (List ℕ)) (kept : List Layout)
    (so_far : kept ++ layouts_from rules width advances (paragraphs (cut_by rules) rest) ≡ all) where
  pub layouts_more : (first after : List ℕ) (others : Option (List ℕ)) (more : List Layout) (one : Layout)
      → paragraphs (cut_by rules) rest ≡ first ∷ paragraphs (cut_by rules) after → others ≡ back_advances (length first) advances
      → one ≡ layout_of (with_advances rules (front_advances (length first) advances)) width first → more ≡ kept ++ one ∷ []
      → more ++ layouts_from rules width others (paragraphs (cut_by rules) after) ≡ all
  layouts_more first after others more one split others-is one-is more-is =
      ap₂ (λ (ks : List Layout) (a : Option (List ℕ)). ks ++ layouts_from rules width a (paragraphs (cut_by rules) after)) more-is others-is
      ∙ append_assoc kept (one ∷ []) (layouts_from rules width (back_advances (length first) advances) (paragraphs (cut_by rules) after))
      ∙ ap (λ k. kept ++ k ∷ layouts_from rules width (back_advances (length first) advances) (paragraphs (cut_by rules) after)) one-is
      ∙ ap (λ ps. kept ++ layouts_from rules width advances ps) (sym split)
      ∙ so_far

  pub layouts_last : (more : List Layout) (one : Layout) → paragraphs (cut_by rules) rest ≡ rest ∷ []
      → one ≡ layout_of (with_advances rules (front_advances (length rest) advances)) width rest → more ≡ kept ++ one ∷ [] → more ≡ all
  layouts_last more one split one-is more-is =
      more-is ∙ ap (λ k. kept ++ k ∷ []) one-is ∙ ap (λ ps. kept ++ layouts_from rules width advances ps) (sym split) ∙ so_far

  pub layouts_none : rest ≡ [] → kept ≡ all
  layouts_none none = sym (append-nil kept) ∙ ap (λ r. kept ++ layouts_from rules width advances (paragraphs (cut_by rules) r)) (sym none) ∙ so_far

-- if a text of n characters has an advance for each character, the first n advances are all of them
pub front_all : (text : List ℕ) (advances : Option (List ℕ)) → AreForEach advances text → front_advances (length text) advances ≡ advances
front_all text None each = refl
front_all text (Some list) each = ap Some (take_all (length text) list (omega (arith, each)))

-- a list has items if and only if the test for an empty list fails
pub some_left : (xs : List ℕ) (b : Bool) → b ≡ (length xs == 0) → b ≡ false → 0 < length xs
some_left [] b e t = absurd (both_ways b t e)
some_left (x ∷ xs) b e t = omega arith

pub none_left : (xs : List ℕ) (b : Bool) → b ≡ (length xs == 0) → b ≡ true → xs ≡ []
none_left xs b e t = nil_from_length xs (eqb-true (length xs) 0 (sym e ∙ t))

-- a UTF-8 text has characters if and only if it has bytes
some_spelled : (bytes cs : List ℕ) → scalars cs ≡ true → encodes cs ≡ bytes → 0 < length bytes → 0 < length (chars bytes)
some_spelled bytes [] s e some = absurd (omega (arith, some, ap length e))
some_spelled bytes (c ∷ cs) s e some = omega (arith, ap length (ap chars (sym e) ∙ chars-encodes (c ∷ cs) s))

pub some_chars : (bytes : List ℕ) → IsUtf8 bytes → 0 < length bytes → 0 < length (chars bytes)
some_chars bytes u some = some_spelled bytes u.0 u.1.0 u.1.1 some

-- a text has characters if a test shows that it has bytes
pub text_some : (bytes : List ℕ) (b : Bool) → IsUtf8 bytes → b ≡ (length bytes == 0) → b ≡ false → 0 < length (chars bytes)
text_some bytes b utf8 e t = some_chars bytes utf8 (some_left bytes b e t)

pub no_chars : (bytes : List ℕ) → length bytes ≡ 0 → length (chars bytes) ≡ 0
no_chars [] none = ap length chars-nil
no_chars (b ∷ bytes) none = absurd (omega (arith, none))

pub text_none : (bytes : List ℕ) (b : Bool) → b ≡ (length bytes == 0) → b ≡ true → chars bytes ≡ []
text_none bytes b e t = nil_from_length (chars bytes) (no_chars bytes (ap length (none_left bytes b e t)))

-- ---- the tests of a length against the limit
pub is_counted : (m n : ℕ) → m ≡ n → nat_lt PARAGRAPH_LIMIT m ≡ not (nat_le n PARAGRAPH_LIMIT)
is_counted m n e = ap (nat_lt PARAGRAPH_LIMIT) e ∙ ⊎_elim
    (λ long. lt-ltb PARAGRAPH_LIMIT n long ∙ sym (ap not (lt-leb n PARAGRAPH_LIMIT long)))
    (λ short. le-ltb PARAGRAPH_LIMIT n short ∙ sym (ap not (le-leb n PARAGRAPH_LIMIT short)))
    (cases_lt PARAGRAPH_LIMIT n)
