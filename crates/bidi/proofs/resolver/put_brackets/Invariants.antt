use Rattle.std.proofs.Common.{◌≡◌, ℕ, ◌-◌, ◌<◌, ◌≤◌, length, get_or}
use Rattle.ucd.specs.Tables.{bracket_of}
use Rattle.bidi.specs.BracketTypes.{bracket_at, bracket_types}
use Rattle.bidi.specs.declared.bracket_type.BracketType.TheVariants.{Other}
use Rattle.bidi.specs.KnownBrackets.{AreKnown}
use Rattle.bidi.proofs.resolver.put_brackets.Given as goal

abbrev pub invariant-loop-at : goal.invariant-loop-at
invariant-loop-at l = record {
  within : l.at ≤ length l.text;
  known : AreKnown l.tables l.known;
  done : (m : ℕ) → m < l.at → get_or l.brackets m Other ≡ bracket_at (bracket_types (bracket_of l.tables) l.text) m;
  others : (m : ℕ) → l.at ≤ m → get_or l.brackets m Other ≡ Other;
}

abbrev pub decreases-loop-at : goal.decreases-loop-at
decreases-loop-at l = length l.text - l.at
