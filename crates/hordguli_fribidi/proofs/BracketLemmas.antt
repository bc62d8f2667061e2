-- The bracket types that FriBidi's bracket numbers denote.
use Rattle.std.proofs.Common.{◌≡◌, ℕ, zero, suc, ◌∷◌, ap, refl, replicate}
use Rattle.bidi.specs.BracketTypes.{bracket_types}
use Rattle.bidi.specs.declared.bracket_type.BracketType.TheVariants.{Other}
use Rattle.hordguli_fribidi.specs.Types.{bracket_by}

-- if all bracket numbers are 0, no character is a bracket
pub none_are : (n : ℕ) → bracket_types bracket_by (replicate n 0) ≡ replicate n Other
none_are zero = refl
none_are (suc n) = ap (λ brackets. Other ∷ brackets) (none_are n)
