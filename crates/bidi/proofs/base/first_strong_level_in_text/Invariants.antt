use Rattle.std.proofs.Common.{length, map}
use Rattle.std.specs.Str.{chars}
use Rattle.ucd.specs.Tables.{class_of}
use Rattle.bidi.proofs.IsolateLemmas.{Reached}
use Rattle.bidi.proofs.base.first_strong_level_in_text.Given as goal

abbrev pub invariant-loop-c : goal.invariant-loop-c
invariant-loop-c l = Reached (map (class_of l.tables) (chars l.text)) (length l.yielded) l.depth
