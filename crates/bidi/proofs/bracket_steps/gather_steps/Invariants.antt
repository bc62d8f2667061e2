use Rattle.std.proofs.Common.{◌≡◌, ℕ, Option, length, map}
use Rattle.std.specs.List.{range_with_len}
use Rattle.ucd.specs.Classes.{is_nonspacing_mark}
use Rattle.bidi.specs.BracketPasses.{case_by, holder, step_by}
use Rattle.bidi.specs.BracketSteps.{has_direction}
use Rattle.bidi.specs.declared.bracket_steps.BracketCase.{BracketCase}
use Rattle.bidi.specs.declared.bracket_steps.Decision.{Decision}
use Rattle.bidi.proofs.bracket_steps.gather_steps.Given as goal

abbrev pub invariant-loop-k : goal.invariant-loop-k
invariant-loop-k l = (decision : ℕ → Decision) (case : ℕ → Option BracketCase) → l.decisions ≡ map decision (range_with_len 0 (length l.partners))
    → l.unpaired ≡ map case (range_with_len 0 (length l.partners))
    → (l.list.items ≡ map (step_by l.partners decision case (map is_nonspacing_mark l.explicit)) (range_with_len 0 l.k))
    × (l.held ≡ holder (λ p. has_direction (case_by l.partners decision case (map is_nonspacing_mark l.explicit) p)) (map is_nonspacing_mark l.explicit) l.k)
