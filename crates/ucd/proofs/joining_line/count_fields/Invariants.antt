use Rattle.std.proofs.Common.{◌≡◌, ◌+◌, ◌≤◌, length, option_map}
use Rattle.std.specs.List.{slice_split}
use Rattle.ucd.specs.Grammar.{is_delimiter}
use Rattle.ucd.proofs.FieldLemmas.{fields_left}
use Rattle.ucd.proofs.FileLines.{size_left}
use Rattle.ucd.proofs.joining_line.count_fields.Given as goal

-- `rest` has the fields after the first `count`
abbrev pub invariant-loop-rest : goal.invariant-loop-rest
invariant-loop-rest l = record {
  counted : l.count + length (fields_left (option_map (λ rest. rest.now) l.rest)) ≡ length (slice_split (is_delimiter 59) l.content);
  bound : l.count + size_left (option_map (λ rest. rest.now) l.rest) ≤ length l.content + 1;
}

abbrev pub decreases-loop-rest : goal.decreases-loop-rest
decreases-loop-rest l = size_left (option_map (λ rest. rest.now) l.rest)
