-- The lines of a paragraph after a change of a part of it: old lines, those of the changed part, and old lines that have moved.
use Rattle.std.specs.Prelude.{◌≡◌, ⊤, ℕ, suc, ◌+◌, ◌-◌, ◌≤◌, List, [], ◌∷◌, ◌++◌, length, map, take, drop, slice_get, Option, Some}
use Rattle.ucd.specs.declared.tables.Tables.{Tables}
use Rattle.lines.specs.Reordering.{ends_by}
use Rattle.lines.specs.Visual.{Line, line_between, lines_from}
use Rattle.lines.specs.declared.char_info.CharInfo.{CharInfo}
use Rattle.lines.specs.declared.options.Options.{Options}

-- a paragraph's text, its levels before L1, and what filling needs to know about its characters
pub record Analysed : Type 0 where
  pub text : List ℕ
  pub levels : List ℕ
  pub infos : List CharInfo

-- the first n characters of two paragraphs agree
pub record AgreeBefore (options : Options) (old new : Analysed) (n : ℕ) : Type 0 where
  pub text : take n old.text ≡ take n new.text
  pub levels : take n old.levels ≡ take n new.levels
  pub infos : take n old.infos ≡ take n new.infos
  pub ends : take n (ends_by options old.text) ≡ take n (ends_by options new.text)

-- the characters of one paragraph from u on agree with those of another one from v on
pub record AgreeAfter (options : Options) (old new : Analysed) (u v : ℕ) : Type 0 where
  pub within : (u ≤ length old.text) × (v ≤ length new.text)
  pub text : drop u old.text ≡ drop v new.text
  pub levels : drop u old.levels ≡ drop v new.levels
  pub infos : drop u old.infos ≡ drop v new.infos
  pub ends : drop u (ends_by options old.text) ≡ drop v (ends_by options new.text)

-- the numbers rise, and none is below `low`
abbrev pub Rise : ℕ → List ℕ → Type 0
Rise low [] = ⊤
Rise low (s ∷ rest) = (low ≤ s) × Rise (suc s) rest

-- a line that starts v − u characters later, or u − v characters earlier
abbrev pub moved : ℕ → ℕ → Line → Line
moved u v line = record line { start = v + (line.start - u) }

-- a line start that has moved in the same way
abbrev pub moved_start : ℕ → ℕ → ℕ → ℕ
moved_start u v start = v + (start - u)

module _ (tables : Tables) (options : Options) (margin : Option ℕ) (base : ℕ) where
  -- the lines that start at the given positions, of which the last one ends at `end`
  abbrev pub lines_to : Analysed → ℕ → List ℕ → List Line
  lines_to of end [] = []
  lines_to of end (s ∷ []) = line_between tables options margin base of.text of.levels of.infos s end ∷ []
  lines_to of end (s ∷ t ∷ starts) = line_between tables options margin base of.text of.levels of.infos s t ∷ lines_to of end (t ∷ starts)

  -- all lines of a paragraph
  abbrev pub lines_at : Analysed → List ℕ → List Line
  lines_at of starts = lines_from tables options margin base of.text of.levels of.infos starts

  -- Two paragraphs agree before n and, from u and v on, after it. The old paragraph has a line start s with index i, which is
  -- at most n, and a line start u with index b. The new one has the same line starts up to s, and those from v on that have
  -- moved with their characters. Then its lines are the old ones before s, those between s and v, and the old ones
  -- from u on, which have moved.
  abbrev pub LinesSplice : Type 0
  LinesSplice =
      (old new : Analysed) (n u v i s b : ℕ) (starts between : List ℕ) → AgreeBefore options old new n → AgreeAfter options old new u v
      → Rise 0 starts → slice_get starts i ≡ Some s → s ≤ n → slice_get starts b ≡ Some u
      → lines_at new (take i starts ++ ((s ∷ between) ++ map (moved_start u v) (drop b starts)))
      ≡ take i (lines_at old starts) ++ (lines_to new v (s ∷ between) ++ map (moved u v) (drop b (lines_at old starts)))
