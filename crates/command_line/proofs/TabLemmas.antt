-- The tab width that the arguments specify.
use Rattle.std.proofs.Common.{◌≡◌, ◌∙◌, ◌≤◌, ℕ, Result, true, List, Option, Some, None, ap, codes, is_some, option_map, sym, inl, inr, unwrap_or, arith}
use Rattle.std.specs.Str.Parse.{ParsesUnsigned}
use Rattle.clap.specs.Words.{ReadsOne, Row, Text, first_of, one_text, rows_of}
use Rattle.clap.specs.declared.parser.matches.Found.{Found}
use Rattle.clap.proofs.WalkLemmas.{one_text-rows}
use Rattle.command_line.specs.CommandLine.{HasTabs, number_of, tab_width_of}
use Rattle.command_line.proofs.DefaultLemmas.{number_read}

-- the parsed tab width is the number that the option's text denotes, or 0 if the option is not given
pub tabs_read : (E : Type 0) (Gives : Text → Result ℕ E → Type 0) → ((t : Text) (x : Result ℕ E) → Gives t x → ParsesUnsigned 8 10 t x)
    → (f : Found) (r : Option ℕ) → HasTabs (rows_of f) → (one_text f (codes "tabs") ≡ None → r ≡ None)
    → ((t : Text) → one_text f (codes "tabs") ≡ Some t → ReadsOne Gives t r) → unwrap_or r 0 ≡ tab_width_of (rows_of f)
tabs_read E Gives parses f r tabs none read =
    elim tabs [
      | inl absent ↦
          ap (λ (o : Option ℕ). unwrap_or o 0) (none (one_text-rows f (codes "tabs") ∙ absent.1))
          ∙ sym (ap (λ (o : Option Text). unwrap_or (option_map number_of o) 0) absent.0)
      | inr has ↦
          ap (λ (o : Option ℕ). unwrap_or o 0)
          (number_read E Gives 8 255 has.text r (read has.text (one_text-rows f (codes "tabs") ∙ has.one)) parses (omega arith) has.allowed.0 has.allowed.2)
          ∙ sym (ap (λ (o : Option Text). unwrap_or (option_map number_of o) 0) has.first)
    ]

-- if a tab width is given, it is from 1 to 255
pub stops_in : (rows : List Row) → HasTabs rows → is_some (first_of (codes "tabs") rows) ≡ true → (1 ≤ tab_width_of rows) × (tab_width_of rows ≤ 255)
stops_in rows tabs some =
    elim tabs [
      | inl absent ↦ let bad = sym (ap is_some absent.0) ∙ some in cc
      | inr has ↦
          let is : tab_width_of rows ≡ number_of has.text = ap (λ (o : Option Text). unwrap_or (option_map number_of o) 0) has.first in
          (omega (arith, is, has.allowed.1), omega (arith, is, has.allowed.2))
    ]
