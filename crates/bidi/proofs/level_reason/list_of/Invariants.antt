use Rattle.std.proofs.Common.{◌≡◌, ℕ, List, map, not}
use Rattle.std.specs.List.{range_with_len}
use Rattle.ucd.specs.Classes.{class_at, is_removed}
use Rattle.ucd.specs.Tables.{class_of}
use Rattle.bidi.specs.Brackets.{greatest}
use Rattle.bidi.specs.LevelReasons.{level_reason}
use Rattle.bidi.specs.ReasonParts.{AreParts}
use Rattle.bidi.specs.Reasons.{Sequence}
use Rattle.bidi.proofs.level_reason.list_of.Given as goal

abbrev pub invariant-loop-p : goal.invariant-loop-p
invariant-loop-p l = record {
  last : l.before ≡ greatest (λ k. not (is_removed (class_at l.parts.classes.now k))) l.p;
  list : (base : ℕ) (sequences : List Sequence) → AreParts l.parts.classes.now base sequences l.parts
      → l.list.items ≡ map (level_reason (map (class_of l.tables) l.text) l.parts.classes.now base sequences l.parts.levels.now) (range_with_len 0 l.p);
}
