-- Opening a session, and the reasons why it can fail.
use Rattle.std.proofs.Common.{◌≡◌, ℕ, ◌≤◌, ◌<◌, ◌^◌, ◌==◌, Bool, true, false, List, [], ◌∷◌, ◌++◌, length, replicate, sum_by, Option, Some, None, refl, sym, ap, ap₂, subst, ◌∙◌, arith}
use Rattle.std.specs.Char.{len_utf8}
use Rattle.std.proofs.lemmas.Bool.{cond-true, cond-false, ne_eqb}
use Rattle.std.proofs.lemmas.List.{append_assoc}
use Rattle.std.proofs.lemmas.List.Sums.{sum_by-append}
use Rattle.bidi.specs.Cuts.{paragraphs}
use Rattle.bidi.specs.Pieces.{ParagraphsArePieces}
use Rattle.lines.specs.Engine.{rules_of, SameRules, LaysOutAtMost}
use Rattle.lines.specs.Layouts.{Layout, Rules, cut_by, layout_of, with_advances}
use Rattle.lines.specs.declared.engine.Engine.{Engine}
use Rattle.session.specs.Sessions.{IsCountedFor, OpensAs, OpensNotFor, is_no_width, measured_refusal, opening_refusal, state_of}
use Rattle.session.specs.Edits.{content_refusal, is_within_limit, paragraphs_refusal, text_refusal}
use Rattle.session.specs.Kept.{advances_in, back_advances, first_advances, front_advances, layouts_from, layouts_of, text_of, AreForEach, TotalsFit}
use Rattle.session.specs.Offsets.{len_utf16, units_of}
use Rattle.session.specs.declared.offsets.Encoding.TheVariants.{Utf8, Utf16}
use Rattle.session.specs.Sessions.{IsAnswerFor}
use Rattle.session.specs.declared.edits.EditFault.{EditFault}
use Rattle.session.specs.declared.edits.EditFault.TheVariants.{WidthOutOfRange, TextTooLong, ParagraphTooLong, NoMemory}
use Rattle.session.proofs.AdvanceLemmas.{advances-layouts, first_back, first_each, first_fits, first_front}
use Rattle.session.proofs.JoinedLemmas.{front_all, layouts_more}
use Rattle.session.proofs.UnitLemmas.{few_in_all, utf8_few, utf16_few, AreFew}
use Rattle.session.proofs.BorderLemmas.{chars_of, lines_of}
use Rattle.session.proofs.EditLemmas.{LinesAreFew, chars-laid, few-laid, text-layouts, IsWholeLayout-same}
use Rattle.session.proofs.RefusalLemmas.{refusal-none, text_refusal-long, text_refusal-short}
use Rattle.session.specs.declared.edits.TheConstants.{TEXT_LIMIT}

pub positive : (n : ℕ) → (n ≡ 0 → ⊥) → 0 < n
positive n some = omega (arith, some)

module _ (is_measured : Bool) (engine : Engine) (whole : List ℕ) (width : ℕ) (reason : Option EditFault) (by_text : reason ≡ text_refusal (cut_by (rules_of engine)) whole) where
  pub OpensNot-too_long : TEXT_LIMIT < length whole → OpensNotFor reason engine whole (engine, TextTooLong)
  OpensNot-too_long long = record {
    reason_is = by_text ∙ text_refusal-long (cut_by (rules_of engine)) None whole long;
    rules = refl;
    counts = refl;
  }

  module _ (new_engine : Engine) (short : length whole ≤ TEXT_LIMIT) (same : SameRules engine new_engine) where
    opening-paragraphs : reason ≡ paragraphs_refusal (cut_by (rules_of engine)) None whole
    opening-paragraphs = by_text ∙ text_refusal-short (cut_by (rules_of engine)) None whole short

    pub OpensNot-refused : (fault : EditFault) → IsAnswerFor (paragraphs_refusal (cut_by (rules_of engine)) None whole) fault → IsCountedFor fault (LaysOutAtMost (length whole)) engine new_engine
        → OpensNotFor reason engine whole (new_engine, fault)
    OpensNot-refused fault answer counts = record {
      reason_is = subst (λ o. IsAnswerFor o fault) (sym opening-paragraphs) answer;
      rules = same;
      counts = counts;
    }

    pub OpensNot-long_paragraph : is_within_limit (cut_by (rules_of engine)) whole ≡ false → new_engine ≡ engine
        → OpensNotFor reason engine whole (new_engine, ParagraphTooLong)
    OpensNot-long_paragraph long unchanged =
        OpensNot-refused ParagraphTooLong (cond-false (is_within_limit (cut_by (rules_of engine)) whole) None (Some ParagraphTooLong) long) unchanged

    module _ (within : is_within_limit (cut_by (rules_of engine)) whole ≡ true) (counts : LaysOutAtMost (length whole) engine new_engine) where
      allowed : paragraphs_refusal (cut_by (rules_of engine)) None whole ≡ None
      allowed = cond-true (is_within_limit (cut_by (rules_of engine)) whole) None (Some ParagraphTooLong) within

      pub OpensNot-no_memory : OpensNotFor reason engine whole (new_engine, NoMemory)
      OpensNot-no_memory = OpensNot-refused NoMemory allowed counts

      pub Opens-laid : ParagraphsArePieces → (kept : List Layout) → kept ≡ layouts_of (with_advances (rules_of engine) (first_advances is_measured (length whole))) width whole
          → 0 < width → OpensAs is_measured reason engine whole width (state_of new_engine width is_measured kept)
      Opens-laid law kept laid some =
          let first = first_advances is_measured (length whole) in
          let rules = with_advances (rules_of engine) first in
          let text : text_of kept ≡ whole = ap text_of laid ∙ text-layouts law rules width whole in
          let given : advances_in is_measured kept ≡ first =
          ap (advances_in is_measured) laid
          ∙ advances-layouts (with_advances (rules_of engine) None) width is_measured (replicate (length whole) 0) (paragraphs (cut_by rules) whole)
          (subst (AreForEach first) (sym (law.whole (cut_by rules) whole)) (first_each is_measured whole)) in
          record {
            allowed = opening-paragraphs ∙ allowed;
            text = text;
            at_width = refl;
            advances = given;
            laid_out = IsWholeLayout-same engine new_engine width (advances_in is_measured kept) kept same (record {
              kept = laid ∙ ap₂ (λ (a : Option (List ℕ)) (t : List ℕ). layouts_of (with_advances (rules_of engine) a) width t) (sym given) (sym text);
              allowed = ap₂ (λ (a : Option (List ℕ)) (t : List ℕ). content_refusal (cut_by rules) a t) given text
                  ∙ text_refusal-short (cut_by rules) first whole short
                  ∙ refusal-none (cut_by rules) first whole within (first_fits is_measured (length whole) (paragraphs (cut_by rules) whole));
              filled = some;
              advances = subst (λ (t : List ℕ). AreForEach (advances_in is_measured kept) t) (sym text) (subst (λ (a : Option (List ℕ)). AreForEach a whole) (sym given) (first_each is_measured whole));
            });
            rules = same;
            counts = counts;
          }

-- if the width is not 0, the reason for refusing to open a session is the reason for refusing its text
pub opening-text : (is_cut : ℕ → ℕ → Bool) (whole : List ℕ) (width : ℕ) → (width ≡ 0 → ⊥) → opening_refusal is_cut whole width ≡ text_refusal is_cut whole
opening-text is_cut whole width some = cond-false (width == 0) (Some WidthOutOfRange) (text_refusal is_cut whole) (ne_eqb width 0 some)

pub measured-text : (is_cut : ℕ → ℕ → Bool) (whole : List ℕ) (width : ℕ) → is_no_width width ≡ false → measured_refusal is_cut whole width ≡ text_refusal is_cut whole
measured-text is_cut whole width some = cond-false (is_no_width width) (Some WidthOutOfRange) (text_refusal is_cut whole) some

-- the totals of the fresh layouts of a text fit in a `usize`
module _ (law : ParagraphsArePieces) (few : LinesAreFew) (rules : Rules) (width : ℕ) (whole : List ℕ) (short : length whole ≤ TEXT_LIMIT) where
  units-laid : (size : ℕ → ℕ) → AreFew size → sum_by (λ l. sum_by size l.text) (layouts_of rules width whole) < 2 ^ 64
  units-laid size few_units =
      omega (arith, few_in_all size few_units (layouts_of rules width whole), chars-laid law few rules width whole (layouts_of rules width whole) refl)

  pub TotalsFit-laid : TotalsFit (layouts_of rules width whole)
  TotalsFit-laid =
      let new = layouts_of rules width whole in
      record {
        chars = omega (arith, chars-laid law few rules width whole new refl);
        lines = omega (arith, few-laid law few rules width whole new refl);
        bytes = units-laid len_utf8 utf8_few;
        utf16 = units-laid len_utf16 utf16_few;
      }

-- if the totals of a list of layouts fit, so do those of a prefix of the list
sum-front : (size : Layout → ℕ) (front more all : List Layout) → front ++ more ≡ all → sum_by size all < 2 ^ 64 → sum_by size front < 2 ^ 64
sum-front size front more all parts fits = omega (arith, fits, sum_by-append size front more, ap (sum_by size) parts)

pub TotalsFit-front : (front more all : List Layout) → front ++ more ≡ all → TotalsFit all → TotalsFit front
TotalsFit-front front more all parts fits = record {
  chars = sum-front chars_of front more all parts fits.chars;
  lines = sum-front lines_of front more all parts fits.lines;
  bytes = sum-front (units_of Utf8) front more all parts fits.bytes;
  utf16 = sum-front (units_of Utf16) front more all parts fits.utf16;
}

-- a text that is one paragraph has one layout
pub layouts_one : (is_measured : Bool) (rules : Rules) (width : ℕ) (text : List ℕ) → paragraphs (cut_by rules) text ≡ text ∷ []
    → layouts_from rules width (first_advances is_measured (length text)) (paragraphs (cut_by rules) text)
    ≡ layout_of (with_advances rules (first_advances is_measured (length text))) width text ∷ []
layouts_one is_measured rules width text one =
    let first = first_advances is_measured (length text) in
    ap (layouts_from rules width first) one ∙ ap (λ (a : Option (List ℕ)). layout_of (with_advances rules a) width text ∷ []) (front_all text first (first_each is_measured text))

-- the stored layouts, the pending ones and those of the remaining text still make up all layouts after one
-- more paragraph has been laid out
pub layouts_stored : (is_measured : Bool) (rules : Rules) (width : ℕ) (all : List Layout) (rest first after : List ℕ) (stored new more : List Layout) (one : Layout)
    → rest ≡ first ++ after → paragraphs (cut_by rules) rest ≡ first ∷ paragraphs (cut_by rules) after
    → one ≡ layout_of (with_advances rules (first_advances is_measured (length first))) width first → more ≡ new ++ one ∷ []
    → stored ++ new ++ layouts_from rules width (first_advances is_measured (length rest)) (paragraphs (cut_by rules) rest) ≡ all
    → stored ++ more ++ layouts_from rules width (first_advances is_measured (length after)) (paragraphs (cut_by rules) after) ≡ all
layouts_stored is_measured rules width all rest first after stored new more one parts split one-is more-is so_far =
    let count : first_advances is_measured (length rest) ≡ first_advances is_measured (length (first ++ after)) = ap (λ (t : List ℕ). first_advances is_measured (length t)) parts in
    let front : first_advances is_measured (length first) ≡ front_advances (length first) (first_advances is_measured (length rest)) =
    sym (ap (front_advances (length first)) count ∙ first_front is_measured first after) in
    let back : first_advances is_measured (length after) ≡ back_advances (length first) (first_advances is_measured (length rest)) =
    sym (ap (back_advances (length first)) count ∙ first_back is_measured first after) in
    layouts_more rules width all rest (first_advances is_measured (length rest)) (stored ++ new) so_far first after (first_advances is_measured (length after)) (stored ++ more) one split back
    (one-is ∙ ap (λ a. layout_of (with_advances rules a) width first) front)
    (ap (λ ks. stored ++ ks) more-is ∙ sym (append_assoc stored new (one ∷ [])))
