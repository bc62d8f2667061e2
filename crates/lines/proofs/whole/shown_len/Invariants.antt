use Rattle.std.proofs.Common.{◌≡◌, ℕ, ◌<◌, ◌≤◌, true, get_or, length}
use Rattle.lines.specs.CharInfos.{may_trail, trailing_in}
use Rattle.lines.proofs.whole.shown_len.Given as goal

abbrev pub invariant-loop-len : goal.invariant-loop-len
invariant-loop-len l =
    let t = l.text.rules.tables.now in
    let chars = l.text.characters.now in
    record {
      within : l.len ≤ length chars;
      tail : (k : ℕ) → l.len ≤ k → k < length chars → may_trail (trailing_in t (get_or chars k 0)) ≡ true;
    }

abbrev pub decreases-loop-len : goal.decreases-loop-len
decreases-loop-len l = l.len
