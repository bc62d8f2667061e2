use Rattle.std.proofs.Common.{◌≡◌, ◌++◌, drop, map, take}
use Rattle.terminal.specs.Texts.{picture}
use Rattle.terminal.proofs.decoder.put_pictures.Given as goal

abbrev pub invariant-loop-k : goal.invariant-loop-k
invariant-loop-k l = l.text ≡ map picture (take l.k l.fn.text) ++ drop l.k l.fn.text
