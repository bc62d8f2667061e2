use Rattle.std.proofs.Common.{◌≡◌, ◌+◌, ◌++◌, ◌≤◌, false, None, length, vec_len, vec_capacity}
use denote.Text.{Utf8}
use denote.Shadow.{shadow}
use Rattle.std.specs.Str.{chars}
use Rattle.bidi.specs.Cuts.{SplitsAt}
use Rattle.lines.specs.Engine.{rules_of}
use Rattle.lines.specs.Layouts.{cut_by}
use Rattle.text_run.specs.Pages.{prints_some}
use Rattle.text_run.proofs.PushLemmas.{PushedSoFar}
use Rattle.text_run.proofs.paragraphs.push_ended.Given as goal

-- the lines of the paragraphs so far are on the page, and no paragraph of the rest is too long
abbrev pub invariant-loop-end : goal.invariant-loop-end
invariant-loop-end l =
    let rules = rules_of l.fn.engine in
    record {
      utf8 : shadow (Utf8 l.rest);
      kept : rules_of l.engine ≡ rules;
      uncut : SplitsAt (cut_by rules) l.held.items None;
      room : prints_some l.print ≡ false → vec_len l.held + length l.rest ≤ vec_capacity l.held;
      few : length l.rest ≤ length l.text;
      so_far : PushedSoFar rules l.width l.print (l.fn.held.items ++ chars l.text) l.fn.page.bytes.items l.fn.engine (l.held.items ++ chars l.rest) 0 l.page.bytes.items l.engine;
    }

abbrev pub decreases-loop-end : goal.decreases-loop-end
decreases-loop-end l = length (l.held.items ++ chars l.rest)
