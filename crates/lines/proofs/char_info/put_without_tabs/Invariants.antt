use Rattle.std.proofs.Common.{◌-◌, length}
use Rattle.lines.proofs.BareLemmas.{PlacesPut}
use Rattle.lines.proofs.char_info.put_without_tabs.Given as goal

abbrev pub invariant-loop-k : goal.invariant-loop-k
invariant-loop-k l = PlacesPut l.tables 0 l.text l.marks l.infos l.k

abbrev pub decreases-loop-k : goal.decreases-loop-k
decreases-loop-k l = length l.text - l.k
