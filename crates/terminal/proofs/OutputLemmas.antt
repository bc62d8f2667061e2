-- The page of an input whose first blocks were written before its last one.
use Rattle.std.proofs.Common.{◌≡◌, ℕ, ◌<◌, Bool, true, ◌||◌, List, [], ◌∷◌, ◌++◌, length, drop, get_or, Some, refl, sym, ap, ap₂, inl, inr, ◌∙◌, arith}
use Rattle.std.specs.Option.{option_or}
use Rattle.std.proofs.lemmas.Bool.{and_parts, not-true, or_parts}
use Rattle.std.proofs.lemmas.Grind.{flat_map-append}
use Rattle.std.proofs.lemmas.List.{length-append}
use Rattle.ucd.specs.Classes.{is_separator}
use Rattle.ucd.specs.Tables.{class_of}
use Rattle.lines.specs.Layouts.{Rules, cut_by}
use Rattle.sequences.specs.Characters.{is_dropped, is_inline}
use Rattle.sequences.specs.Laws.{characters_of}
use Rattle.sequences.specs.Styled.{Pen, START, Style, next_paragraph, pen_at_end, shown_text, styled}
use Rattle.terminal.specs.Newlines.{EndsIn, ended_page, is_ended, last_of, text_output}
use Rattle.terminal.specs.Run.{blocks_page}
use Rattle.terminal.specs.RunState.{pen_after_blocks}
use Rattle.terminal.specs.Texts.{blocks, ends_block, is_apart, next_character, shown_blocks, text_page}
use Rattle.terminal.specs.Whole.{joined}
use Rattle.terminal.specs.declared.form.Form.{Form}
use Rattle.terminal.proofs.NewlineLemmas.{ended-append, ended_keeps, last-append, or_ended, text_end, text_none}
use Rattle.terminal.proofs.PushLemmas.{last_shown, shown-append}
use Rattle.terminal.proofs.WholeLemmas.{characters_of-append, ends_shown, shown_whole, split}

-- ---- blocks that have ended

-- a block ends at a character after which a paragraph ends
record HasEnd (is_cut : ℕ → ℕ → Bool) (block : List ℕ) : Type 0 where
  pub piece : List ℕ
  pub end : ℕ
  pub rest : List ℕ
  pub whole : block ≡ piece ++ end ∷ []
  pub ends : ends_block is_cut end rest ≡ true

HaveEnds : (ℕ → ℕ → Bool) → List (List ℕ) → Type 0
HaveEnds is_cut [] = Unit {0}
HaveEnds is_cut (b ∷ bs) = HasEnd is_cut b × HaveEnds is_cut bs

module _ (is_cut : ℕ → ℕ → Bool) where
  -- all blocks of a text except the last one satisfy `HasEnd`
  have_ends : (parts : List (List ℕ)) (text q : List ℕ) (qs : List (List ℕ)) → blocks is_cut text ≡ parts ++ q ∷ qs → HaveEnds is_cut parts
  unfolding HaveEnds
  have_ends [] text q qs e = tt
  have_ends (b ∷ parts) [] q qs e = absurd (omega (arith, ap length e))
  have_ends (b ∷ parts) (c ∷ text) q qs e =
      elim (split is_cut c text) [
        | inl one ↦ absurd (omega (arith, ap length (sym one ∙ e), length-append parts (q ∷ qs)))
        | inr s ↦
            let both = sym s.cut ∙ e in (
              record {
                piece = s.piece;
                end = s.end;
                rest = s.rest;
                whole = sym (ap (λ (ps : List (List ℕ)). get_or ps 0 []) both);
                ends = s.ends;
              },
              have_ends parts s.rest q qs (ap (λ (ps : List (List ℕ)). drop 1 ps) both),
            )
      ]

module _ (rules : Rules) where
  -- the last character that a block with `HasEnd` shows ends a line
  end_shown : (pen : Pen) (block : List ℕ) → HasEnd (cut_by rules) block → is_ended rules.tables (last_of (characters_of (styled pen block))) ≡ true
  unfolding styled
  end_shown pen block h =
      let tests = and_parts (is_apart h.end) (cut_by rules h.end (next_character h.rest)) h.ends in
      let parts = or_parts (is_inline h.end) (is_dropped h.end) (not-true _ tests.0) in
      let shown : EndsIn h.end (characters_of (styled pen (h.piece ++ h.end ∷ []))) = ends_shown h.end parts.1 parts.0 0 pen h.piece (omega arith) in
      let separator = and_parts (is_separator (class_of rules.tables h.end)) _ tests.1 in
      let last : last_of (characters_of (styled pen block)) ≡ Some h.end =
      ap (λ (xs : List ℕ). last_of (characters_of (styled pen xs))) h.whole ∙ ap last_of shown.is ∙ last-append shown.front (h.end ∷ []) in
      ap (is_ended rules.tables) last ∙ or_left (is_separator (class_of rules.tables h.end)) _ separator.0
    where
      or_left : (a b : Bool) → a ≡ true → (a || b) ≡ true
      or_left a b e = ap (λ (x : Bool). x || b) e

  shown_more : (pen : Pen) (parts others : List (List ℕ))
      → characters_of (joined (shown_blocks pen (parts ++ others)))
      ≡ characters_of (joined (shown_blocks pen parts)) ++ characters_of (joined (shown_blocks (pen_after_blocks pen parts) others))
  shown_more pen parts others =
      let front = shown_blocks pen parts in
      let back = shown_blocks (pen_after_blocks pen parts) others in
      ap (λ (xs : List (List (ℕ × Style))). characters_of (joined xs)) (shown-append pen parts others)
      ∙ ap characters_of (flat_map-append (λ (group : List (ℕ × Style)). group) front back) ∙ characters_of-append (joined front) (joined back)

  ends_shown_by : (pen : Pen) (parts : List (List ℕ)) → HaveEnds (cut_by rules) parts → is_ended rules.tables (last_shown pen parts) ≡ true
  unfolding HaveEnds
  ends_shown_by pen [] have = refl
  ends_shown_by pen (b ∷ parts) have =
      let own = styled pen b in
      let next = next_paragraph (pen_at_end pen b) in
      let rest = joined (shown_blocks next parts) in
      ap (is_ended rules.tables) (ap last_of (characters_of-append own rest) ∙ last-append (characters_of own) (characters_of rest))
      ∙ or_ended rules.tables (last_shown next parts) (last_of (characters_of own)) (ends_shown_by next parts have.1) (end_shown pen b have.0)

  -- the blocks that a text begins with, whatever follows the text, satisfy `HasEnd`
  first_have_ends : (parts : List (List ℕ)) (text rest : List ℕ) → ((more : List ℕ) → blocks (cut_by rules) (text ++ more) ≡ parts ++ blocks (cut_by rules) (rest ++ more))
      → HaveEnds (cut_by rules) parts
  first_have_ends parts text rest cuts = some (blocks (cut_by rules) (rest ++ 0 ∷ [])) refl (nonempty rest)
    where
      nonempty : (rest : List ℕ) → 0 < length (blocks (cut_by rules) (rest ++ 0 ∷ []))
      nonempty [] = elim (split (cut_by rules) 0 []) [
        | inl one ↦ omega (arith, ap length one)
        | inr s ↦ omega (arith, ap length s.cut)
      ]
      nonempty (c ∷ rest) = elim (split (cut_by rules) c (rest ++ 0 ∷ [])) [
        | inl one ↦ omega (arith, ap length one)
        | inr s ↦ omega (arith, ap length s.cut)
      ]

      some : (found : List (List ℕ)) → found ≡ blocks (cut_by rules) (rest ++ 0 ∷ []) → 0 < length (blocks (cut_by rules) (rest ++ 0 ∷ [])) → HaveEnds (cut_by rules) parts
      some [] e least = absurd (omega (arith, least, ap length e))
      some (q ∷ qs) e least = have_ends (cut_by rules) parts (text ++ 0 ∷ []) q qs (cuts (0 ∷ []) ∙ ap (λ (ps : List (List ℕ)). parts ++ ps) (sym e))

-- The page of an input is the page of the blocks that were sent, followed by that of the rest of the text.
pub output_after : (rules : Rules) (form : Form) (is_last : Bool) (sent : List (List ℕ)) (front text whole rest : List ℕ) (pen : Pen)
    → ((more : List ℕ) → blocks (cut_by rules) (front ++ more) ≡ sent ++ blocks (cut_by rules) (text ++ more))
    → blocks (cut_by rules) whole ≡ sent ++ blocks (cut_by rules) rest → pen ≡ pen_after_blocks START sent
    → text_page rules form START whole ≡ blocks_page rules form sent ++ text_page rules form pen rest
    → text_output rules form is_last START whole ≡ blocks_page rules form sent ++ text_output rules form is_last pen rest
output_after rules form is_last sent front text whole rest pen cuts split_is pen_is page = by_shown (shown_text rest) refl
  where
    shown : shown_text whole ≡ characters_of (joined (shown_blocks START sent)) ++ shown_text rest
    shown =
        sym (shown_whole (cut_by rules) (length whole) START whole (omega arith))
        ∙ ap (λ (ps : List (List ℕ)). characters_of (joined (shown_blocks START ps))) split_is ∙ shown_more rules START sent (blocks (cut_by rules) rest)
        ∙ ap (λ (t : List ℕ). characters_of (joined (shown_blocks START sent)) ++ t)
        (shown_whole (cut_by rules) (length rest) (pen_after_blocks START sent) rest (omega arith))

    last : last_of (shown_text whole) ≡ option_or (last_of (shown_text rest)) (last_shown START sent)
    last = ap last_of shown ∙ last-append (characters_of (joined (shown_blocks START sent))) (shown_text rest)

    by_shown : (r : List ℕ) → r ≡ shown_text rest
        → ended_page rules.tables is_last (last_of (shown_text whole)) (text_page rules form START whole)
        ≡ blocks_page rules form sent ++ ended_page rules.tables is_last (last_of (shown_text rest)) (text_page rules form pen rest)
    by_shown [] e =
        let nothing : text_page rules form pen rest ≡ [] = text_none rules form pen rest (ap length (sym e)) in
        let ended : is_ended rules.tables (last_of (shown_text whole)) ≡ true =
        ap (is_ended rules.tables) (last ∙ ap (λ (r : List ℕ). option_or (last_of r) (last_shown START sent)) (sym e))
        ∙ ends_shown_by rules START sent (first_have_ends rules sent front text cuts) in
        ended_keeps rules.tables is_last (last_of (shown_text whole)) (text_page rules form START whole) ended ∙ page
        ∙ ap (λ (t : List ℕ). blocks_page rules form sent ++ t)
        (sym (ended_keeps rules.tables is_last (last_of (shown_text rest)) (text_page rules form pen rest) (ap (λ (r : List ℕ). is_ended rules.tables (last_of r)) (sym e))))
    by_shown (c ∷ r) e =
        let same : last_of (shown_text whole) ≡ last_of (shown_text rest) =
        last ∙ ap (λ (r : List ℕ). option_or (last_of r) (last_shown START sent)) (sym e) ∙ kept c r ∙ ap last_of e in
        ap₂ (ended_page rules.tables is_last) same page
        ∙ ended-append rules.tables is_last (blocks_page rules form sent) (text_page rules form pen rest) (shown_text rest) (text_end rules form pen rest)
      where
        kept : (c : ℕ) (r : List ℕ) → option_or (last_of (c ∷ r)) (last_shown START sent) ≡ last_of (c ∷ r)
        kept c [] = refl
        kept c (d ∷ r) = kept d r
