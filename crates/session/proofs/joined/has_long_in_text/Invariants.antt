use Rattle.std.proofs.Common.{◌≡◌, length}
use denote.Text.{Utf8}
use denote.Shadow.{shadow}
use Rattle.std.specs.Str.{chars}
use Rattle.lines.specs.Engine.{rules_of}
use Rattle.lines.specs.Layouts.{cut_by}
use Rattle.session.specs.Edits.{is_within_limit}
use Rattle.session.proofs.joined.has_long_in_text.Given as goal

-- the whole text is within the limit if and only if the rest is
abbrev pub invariant-loop-rest : goal.invariant-loop-rest
invariant-loop-rest l =
    let is_cut = cut_by (rules_of l.engine) in
    record {
      utf8 : shadow (Utf8 l.rest);
      same : is_within_limit is_cut (chars l.text) ≡ is_within_limit is_cut (chars l.rest);
    }

abbrev pub decreases-loop-rest : goal.decreases-loop-rest
decreases-loop-rest l = length l.rest
