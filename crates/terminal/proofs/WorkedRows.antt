-- Examples of the definitions. In these texts ^ is ESC, and | is CR.
use Rattle.std.proofs.Common.{◌≡◌, ℕ, ◌&&◌, Bool, List, [], ◌∷◌, map, refl}
use Rattle.std.specs.Prelude.{codes, not, ◌==◌, ◌||◌, if◌then◌else◌}
use Rattle.sequences.specs.Output.{between, written}
use Rattle.sequences.specs.Styled.{START, pen_at_end, styled}
use Rattle.terminal.specs.Texts.{blocks, picture, shown_blocks}

abbrev typed : ℕ → ℕ
typed c = if c == 94 then 27 else (if c == 124 then 13 else c)

abbrev text_of : List ℕ → List ℕ
text_of text = map typed text

-- paragraph boundaries after LF and CR, as with the Unicode tables
abbrev is_cut : ℕ → ℕ → Bool
is_cut before after = (before == 10 || before == 13) && not (before == 13 && after == 10)

lines : blocks is_cut (codes "a\nb") ≡ codes "a\n" ∷ codes "b" ∷ []
lines = refl

-- the search for LF skips a sequence
cr_sequence_lf : blocks is_cut (text_of (codes "a|^[31m\nb")) ≡ text_of (codes "a|^[31m\n") ∷ codes "b" ∷ []
cr_sequence_lf = refl

cr_sequence_other : blocks is_cut (text_of (codes "a|^[31mb")) ≡ text_of (codes "a|") ∷ text_of (codes "^[31mb") ∷ []
cr_sequence_other = refl

-- the next block inherits the style
inherits : map written (shown_blocks START (blocks is_cut (text_of (codes "^[31ma\nb")))) ≡ text_of (codes "^[31ma\n^[m") ∷ text_of (codes "^[31mb^[m") ∷ []
unfolding styled written pen_at_end between
inherits = refl

picture_of_escape : picture 0x1B ≡ 0x241B
picture_of_escape = refl

picture_of_delete : picture 0x7F ≡ 0x2421
picture_of_delete = refl

picture_of_c1 : picture 0x9B ≡ 0xFFFD
picture_of_c1 = refl

no_picture_of_next_line : picture 0x85 ≡ 0x85
no_picture_of_next_line = refl
