use Rattle.std.proofs.Common.{◌≡◌, ◌-◌, ◌++◌, take, drop, replicate}
use Rattle.bidi.proofs.fill.fill_more.Given as goal

abbrev pub invariant-loop-at : goal.invariant-loop-at
invariant-loop-at g l = record {
  front : take l.at l.items ≡ take l.start l.fn.items ++ replicate (l.at - l.start) l.value;
  rest : drop l.at l.items ≡ drop l.at l.fn.items;
}
