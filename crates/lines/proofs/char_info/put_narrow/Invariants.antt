use Rattle.std.proofs.Common.{◌-◌, length}
use Rattle.lines.proofs.BareLemmas.{PlacesPut}
use Rattle.lines.proofs.char_info.put_narrow.Given as goal

abbrev pub invariant-loop-k : goal.invariant-loop-k
invariant-loop-k l = PlacesPut l._tables 0 l._text l.marks l.infos l.k

abbrev pub decreases-loop-k : goal.decreases-loop-k
decreases-loop-k l = length l._text - l.k
