-- The blocks of a text, one after the other, show what the whole text shows.
use Rattle.std.specs.Prelude.{◌≡◌, ℕ, Bool, List}
use Rattle.std.specs.List.{concat, flat_map}
use Rattle.bidi.specs.Cuts.{paragraphs}
use Rattle.lines.specs.Layouts.{Rules, cut_by}
use Rattle.sequences.specs.Laws.{characters_of}
use Rattle.sequences.specs.Styled.{Pen, Style, shown_text}
use Rattle.terminal.specs.Texts.{blocks, shown_blocks, styled_paragraphs}

-- the characters of groups, one after the other
abbrev pub joined : List (List (ℕ × Style)) → List (ℕ × Style)
joined groups = flat_map (λ group. group) groups

pub record ShowsWhole : Type 0 where
  -- The blocks of a text make up the text.
  pub whole : (is_cut : ℕ → ℕ → Bool) (text : List ℕ) → concat (blocks is_cut text) ≡ text
  -- The blocks show the characters that the whole text shows, whatever style the text begins in.
  pub characters : (is_cut : ℕ → ℕ → Bool) (pen : Pen) (text : List ℕ) → characters_of (joined (shown_blocks pen (blocks is_cut text))) ≡ shown_text text
  -- The paragraphs of the blocks are those of the characters that the whole text shows.
  pub cuts : (rules : Rules) (pen : Pen) (text : List ℕ)
      → flat_map (λ shown. paragraphs (cut_by rules) (characters_of shown)) (shown_blocks pen (blocks (cut_by rules) text)) ≡ paragraphs (cut_by rules) (shown_text text)
  -- The paragraphs of a block make up what the block shows.
  pub groups : (is_cut : ℕ → ℕ → Bool) (shown : List (ℕ × Style)) → joined (styled_paragraphs is_cut shown) ≡ shown
