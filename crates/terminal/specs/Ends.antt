-- The ends of blocks that are known before the whole text is read.
use Rattle.std.specs.Prelude.{◌≡◌, ◌⊎◌, ℕ, zero, suc, ◌+◌, ◌-◌, ◌<◌, ◌≤◌, Bool, true, false, ◌&&◌, List, [], ◌∷◌, ◌++◌, length, take, drop, slice_index, if◌then◌else◌}
use Rattle.sequences.specs.Characters.{is_dropped}
use Rattle.sequences.specs.Known.{knows_sequence}
use Rattle.sequences.specs.Styled.{more_len}
use Rattle.terminal.specs.Texts.{blocks, ends_block}

-- Whether the next character of a text is the same whatever follows the text. The first `skip` characters belong to the part
-- before them.
abbrev pub knows_after : ℕ → List ℕ → Bool
knows_after skip [] = false
knows_after (suc skip) (c ∷ text) = knows_after skip text
knows_after zero (c ∷ text) = if is_dropped c then knows_sequence (c ∷ text) && knows_after (more_len c text) text else true

abbrev pub knows_next : List ℕ → Bool
knows_next text = knows_after 0 text

module _ (is_cut : ℕ → ℕ → Bool) where
  -- no block ends after one of the first n characters, whatever follows the text
  abbrev pub AreNoEnds : ℕ → List ℕ → Type 0
  AreNoEnds n text = (k : ℕ) → k < n → (more : List ℕ) → ends_block is_cut (slice_index text k) (drop (k + 1) text ++ more) ≡ false

  -- No end of a block is known. n is the length of the text, or the index of a CR whose next character is not known.
  pub record IsOpen (n : ℕ) (text : List ℕ) : Type 0 where
    pub within : n ≤ length text
    pub none : AreNoEnds n text
    pub rest : (n ≡ length text) ⊎ ((slice_index text n ≡ 0x0D) × (knows_next (drop (n + 1) text) ≡ false))

  -- The only known end of a block is the end of the text, and it is not known whether anything follows.
  pub record IsHeld (n : ℕ) (text : List ℕ) : Type 0 where
    pub last : n + 1 ≡ length text
    pub none : AreNoEnds n text

  -- No end of a block is known before the end of the text. A block is known to end there only if `holds`.
  abbrev pub IsLeft : Bool → ℕ → List ℕ → Type 0
  IsLeft holds n text = IsOpen n text ⊎ ((holds ≡ true) × IsHeld n text)

  -- the first n characters of a text are its first block, whatever follows the text
  pub record IsFirst (n : ℕ) (text : List ℕ) : Type 0 where
    pub some : 0 < n
    pub within : n ≤ length text
    pub none : AreNoEnds (n - 1) text
    pub block : (more : List ℕ) → blocks is_cut (text ++ more) ≡ take n text ∷ blocks is_cut (drop n text ++ more)
