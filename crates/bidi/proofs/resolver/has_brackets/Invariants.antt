use Rattle.std.proofs.Common.{◌≡◌, take}
use Rattle.std.specs.List.{list_any}
use Rattle.bidi.specs.BracketTypes.{is_bracket}
use Rattle.bidi.proofs.resolver.has_brackets.Given as goal

abbrev pub invariant-loop-bracket : goal.invariant-loop-bracket
invariant-loop-bracket l = l.any ≡ list_any is_bracket (take l.bracket-index l.brackets)
