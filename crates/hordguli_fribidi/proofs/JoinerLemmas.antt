-- The characters that joining sees, one at a time and from a position on.
use Rattle.std.proofs.Common.{◌≡◌, ℕ, zero, suc, ◌<◌, List, [], ◌∷◌, length, drop, get_or, min, ◌+◌, Bool, true, false, not, cond, Option, Some, None, refl, sym, ap, ◌∙◌, add-one, arith}
use Rattle.std.proofs.lemmas.List.{get_or-drop}
use Rattle.bidi.specs.Brackets.{greatest}
use Rattle.ucd_bidi.specs.declared.JoiningType.TheVariants.{NonJoining}
use Rattle.joining.specs.Joiners.{is_transparent, joiner_at}
use Rattle.joining.specs.declared.joiner.Joiner.{Joiner}
use Rattle.hordguli_fribidi.specs.Joining.{joined, joined_at, joiners, level_of, sides_from, sides_of, sides_over, sides_past, type_of}

pub joiners_len : (types levels properties : List ℕ) → length (joiners types levels properties) ≡ min (min (length types) (length levels)) (length properties)
joiners_len [] levels properties = omega arith
joiners_len (t ∷ types) [] properties = omega arith
joiners_len (t ∷ types) (l ∷ levels) [] = omega arith
joiners_len (t ∷ types) (l ∷ levels) (p ∷ properties) = omega (arith, joiners_len types levels properties)

pub joiner_is : (types levels properties : List ℕ) (k : ℕ) → k < length (joiners types levels properties)
    → joiner_at (joiners types levels properties) k
    ≡ record { joining = type_of (get_or properties k 0); level = level_of (get_or types k 0) (get_or levels k 0) (get_or properties k 0) }
joiner_is [] levels properties k within = absurd (omega arith)
joiner_is (t ∷ types) [] properties k within = absurd (omega arith)
joiner_is (t ∷ types) (l ∷ levels) [] k within = absurd (omega arith)
joiner_is (t ∷ types) (l ∷ levels) (p ∷ properties) zero within = refl
joiner_is (t ∷ types) (l ∷ levels) (p ∷ properties) (suc k) within = joiner_is types levels properties k (omega arith)

no_levels : (types properties : List ℕ) → joiners types [] properties ≡ []
no_levels [] properties = refl
no_levels (t ∷ types) properties = refl

no_properties : (types levels : List ℕ) → joiners types levels [] ≡ []
no_properties [] levels = refl
no_properties (t ∷ types) [] = refl
no_properties (t ∷ types) (l ∷ levels) = refl

pub drop_joiners : (k : ℕ) (types levels properties : List ℕ) → joiners (drop k types) (drop k levels) (drop k properties) ≡ drop k (joiners types levels properties)
drop_joiners zero types levels properties = refl
drop_joiners (suc k) [] levels properties = refl
drop_joiners (suc k) (t ∷ types) [] properties = no_levels (drop k types) (drop (suc k) properties)
drop_joiners (suc k) (t ∷ types) (l ∷ levels) [] = no_properties (drop k types) (drop k levels)
drop_joiners (suc k) (t ∷ types) (l ∷ levels) (p ∷ properties) = drop_joiners k types levels properties

-- ---- joins, from a position on

module _ (text rest : List Joiner) (k before : ℕ) (back : rest ≡ drop k text) (front : before ≡ sides_over text k) where
  same : joiner_at rest 0 ≡ joiner_at text k
  same =
      ap (λ (xs : List Joiner). joiner_at xs 0) back ∙ get_or-drop k text 0 (record { joining = NonJoining; level = None })
      ∙ ap (joiner_at text) (omega arith)

  -- the last character that is not transparent is the first one of the rest, or one before it
  pub sides_more : sides_past rest before ≡ sides_over text (k + 1)
  unfolding sides_over
  sides_more =
      ap (λ (c : Joiner). cond (is_transparent c) before (sides_from rest)) same
      ∙ ap (λ n. cond (is_transparent (joiner_at text k)) n (sides_from rest)) front
      ∙ ap (λ (xs : List Joiner). cond (is_transparent (joiner_at text k)) (sides_of text (last k)) (sides_from xs)) back
      ∙ either (is_transparent (joiner_at text k)) (last k)
      ∙ ap (λ i. sides_of text (last i)) (sym (add-one k))
    where
      last : ℕ → Option ℕ
      last i = greatest (λ a. not (is_transparent (joiner_at text a))) i

      either : (b : Bool) (a : Option ℕ) → cond b (sides_of text a) (sides_from (drop k text)) ≡ sides_of text (cond (not b) (Some k) a)
      either true a = refl
      either false a = refl

  pub first_joined : (properties : List ℕ) (property : ℕ) → property ≡ get_or properties k 0
      → joined (joiner_at rest 0) before (sides_past rest before) property ≡ joined_at text properties k
  unfolding joined_at
  first_joined properties property is =
      ap (λ (c : Joiner). joined c before (sides_past rest before) property) same
      ∙ ap (λ n. joined (joiner_at text k) before n property) sides_more
      ∙ ap (λ n. joined (joiner_at text k) n (sides_over text (k + 1)) property) front
      ∙ ap (joined (joiner_at text k) (sides_over text k) (sides_over text (k + 1))) is
