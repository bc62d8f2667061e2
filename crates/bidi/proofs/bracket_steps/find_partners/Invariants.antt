use Rattle.std.proofs.Common.{◌≡◌, ℕ, List, Option}
use Rattle.ucd.specs.declared.bracket.Bracket.{Bracket}
use Rattle.bidi.specs.BracketTypes.{bracket_types}
use Rattle.bidi.proofs.PartnerLemmas.{Pairing}
use Rattle.bidi.proofs.bracket_steps.find_partners.Given as goal

abbrev pub invariant-loop-place : goal.invariant-loop-place
invariant-loop-place l = (look : ℕ → Option Bracket) (text : List ℕ) → l.kinds ≡ bracket_types look text → Pairing look text l.types l.place l.openers.items l.partners.items
