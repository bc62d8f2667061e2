use Rattle.std.proofs.Common.{◌≡◌, drop, find, map}
use Rattle.terminal_options.specs.Given.{is_set}
use Rattle.terminal_options.specs.Sources.{rows_in}
use Rattle.terminal_options.proofs.reading.first_set.Given as goal

-- none of the options so far is set
abbrev pub invariant-loop-name : goal.invariant-loop-name
invariant-loop-name l =
    find (λ name. is_set name (rows_in l.fn.given)) (map (λ name. name.now) l.fn.names)
    ≡ find (λ name. is_set name (rows_in l.fn.given)) (map (λ name. name.now) (drop l.name-index l.fn.names))
