-- Runs of characters without overstrikes. Only contracts use these definitions.
use Rattle.std.specs.Prelude.{ℕ, List, [], ◌∷◌}
use Rattle.sequences.specs.Overstrikes.{is_underlined_only}
use Rattle.sequences.specs.Styled.{Pen}

-- the pen after one character without overstrikes, and after a run of them
abbrev pub plain_step : Pen → Pen
plain_step pen = record pen { after_underline = is_underlined_only pen.style.look }

abbrev pub plain_pen : Pen → List ℕ → Pen
plain_pen pen [] = pen
plain_pen pen (c ∷ run) = plain_pen (plain_step pen) run
