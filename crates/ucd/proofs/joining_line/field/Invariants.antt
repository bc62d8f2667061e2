use Rattle.std.proofs.Common.{◌≡◌, drop, option_map}
use Rattle.std.specs.List.{slice_split}
use Rattle.ucd.specs.Grammar.{is_delimiter}
use Rattle.ucd.proofs.FieldLemmas.{fields_left}
use Rattle.ucd.proofs.joining_line.field.Given as goal

-- `rest` has the fields after the first `counter`
abbrev pub invariant-loop : goal.invariant-loop
invariant-loop l = drop l.counter (slice_split (is_delimiter 59) l.content) ≡ fields_left (option_map (λ rest. rest.now) l.rest)
