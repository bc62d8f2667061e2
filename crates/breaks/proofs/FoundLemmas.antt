-- The bases that the code finds.
use Rattle.std.proofs.Common.{◌≡◌, ℕ, ◌+◌, ◌-◌, ◌<◌, ◌≤◌, ◌&&◌, ◌||◌, not, Some, suc, length, get_or, arith, Bool, true, false, List, [], ◌∷◌, ◌++◌, drop, map, take, refl, sym, ap, ap₂, ◌∙◌}
use Rattle.std.specs.Prelude.{if◌then◌else◌}
use Rattle.std.proofs.lemmas.List.{append_assoc, drop-map, length-map, map-append, take-map}
use Rattle.breaks.specs.Bases.{BaseCharacter, Character, alone, bases_of, class_of, joined, last_of, stays_with}
use Rattle.breaks.specs.Classes.{is_one_of, is_same}
use Rattle.breaks.specs.Numbers.{middle}
use Rattle.breaks.specs.Reasons.{chars_in, start_of}
use Rattle.breaks.specs.Rules.{ends_in_number, ends_in_odd_run, without_spaces}
use Rattle.breaks.specs.Seen.{attached_len, base_in, character_in, rest}
use Rattle.breaks.specs.Walk.{ends_in_digits}
use Rattle.ucd.specs.declared.line_class.LineClass.TheVariants.{IS, NU, RI, SP, SY}
use Rattle.breaks.proofs.StepLemmas.{odd_after}
use Rattle.breaks.specs.declared.bases.BaseCharacter.{BaseCharacter as Found}
use Rattle.breaks.specs.declared.bases.Character.{Character as Looked}

-- the base of c and the first n characters of a text, followed by the bases of the remaining text
abbrev parted : Character → List Character → ℕ → List BaseCharacter
parted c text n = record { first = c; attached = take n text } ∷ bases_of (drop n text)

bases_from : (c : Character) (text : List Character) → bases_of (c ∷ text) ≡ parted c text (attached_len c text)
bases_from c [] = refl
bases_from c (d ∷ text) =
    let by : (stays : Bool) → (if stays then joined c (bases_of (d ∷ text)) else alone c ∷ bases_of (d ∷ text))
    ≡ parted c (d ∷ text) (if stays then suc (attached_len d text) else 0) = elim [
      | true ↦ ap (joined c) (bases_from d text)
      | false ↦ refl
    ] in
    by (stays_with c d)

-- finding one more base does not change the list of the bases found so far and the bases of the remaining
-- characters
pub found_more : (done : List Found) (b : Found) (rest : List Looked) (n : ℕ)
    → n ≡ attached_len (character_in b.first) (map character_in rest) → b.attached.now ≡ take n rest
    → map base_in (done ++ b ∷ []) ++ bases_of (map character_in (drop n rest)) ≡ map base_in done ++ bases_of (map character_in (b.first ∷ rest))
found_more done b rest n is attached =
    let c : Character = character_in b.first in
    let text : List Character = map character_in rest in
    ap (λ l. l ++ bases_of (map character_in (drop n rest))) (map-append base_in done (b ∷ []))
    ∙ append_assoc (map base_in done) (base_in b ∷ []) (bases_of (map character_in (drop n rest)))
    ∙ ap (λ l. map base_in done ++ l)
    (ap₂ (λ (a more : List Character). let found : BaseCharacter = record { first = c; attached = a } in found ∷ bases_of more)
    (ap (map character_in) attached ∙ sym (take-map character_in n rest)) (sym (drop-map character_in n rest))
    ∙ ap (parted c text) is
    ∙ sym (bases_from c text))

-- the last character of a base with attached characters is the last attached one
pub last_found : (c : Character) (attached : List Looked) (d : Looked) → 0 < length attached
    → last_of c (map character_in attached) ≡ character_in (get_or attached (length attached - 1) d)
last_found c [] d some = absurd (omega (arith, some))
last_found c (a ∷ []) d some = refl
last_found c (a ∷ b ∷ attached) d some =
    let next : suc (length (b ∷ attached) - 1) ≡ length (a ∷ b ∷ attached) - 1 = omega arith in
    last_found (character_in a) (b ∷ attached) d (omega arith) ∙ ap (λ k. character_in (get_or (a ∷ b ∷ attached) k d)) next

-- ---- the bases before the next position: the base b, and the bases in `found`

module _ (all : List Found) (b : BaseCharacter) (found : List Found) (more : map base_in all ≡ b ∷ map base_in found) where
  abbrev bases : List BaseCharacter
  bases = map base_in found

  without : (space : Bool) → is_same (class_of b) SP ≡ space → without_spaces (map base_in all) ≡ (if space then without_spaces bases else b ∷ bases)
  without space is = ap without_spaces more ∙ ap (λ s. if s then without_spaces bases else b ∷ bases) is

  pub after_space : (n : ℕ) → n ≤ length found → map base_in (drop n found) ≡ without_spaces bases → is_same (class_of b) SP ≡ true
      → (n + 1 ≤ length all) × (map base_in (drop (n + 1) all) ≡ without_spaces (map base_in all)) × (start_of (without_spaces bases) ≡ start_of (without_spaces (map base_in all)))
  after_space n within are space =
      let size : length all ≡ suc (length found) = sym (length-map all base_in) ∙ ap length more ∙ ap suc (length-map found base_in) in
      let next : n + 1 ≡ suc n = omega arith in (
        omega (arith, within, size),
        sym (drop-map base_in (n + 1) all) ∙ ap (drop (n + 1)) more ∙ ap (λ m. drop m (b ∷ bases)) next ∙ drop-map base_in n found ∙ are ∙ sym (without true space),
        ap start_of (sym (without true space)),
      )

  pub after_other : is_same (class_of b) SP ≡ false
      → (0 ≤ length all) × (map base_in (drop 0 all) ≡ without_spaces (map base_in all)) × (Some (chars_in bases) ≡ start_of (without_spaces (map base_in all)))
  after_other other = (omega arith, more ∙ sym (without false other), ap start_of (sym (without false other)))

  pub odd_next : (odd : Bool) → odd ≡ ends_in_odd_run bases → (is_same (class_of b) RI && not odd) ≡ ends_in_odd_run (map base_in all)
  odd_next odd is = ap (λ o. is_same (class_of b) RI && not o) is ∙ sym (odd_after b bases) ∙ sym (ap ends_in_odd_run more)

  pub number_next : (number : Bool) → number ≡ ends_in_number bases
      → (is_same (class_of b) NU || (is_one_of (IS ∷ SY ∷ []) (class_of b) && number)) ≡ ends_in_number (map base_in all)
  number_next number is = ap (λ n. is_same (class_of b) NU || (is_one_of (IS ∷ SY ∷ []) (class_of b) && n)) is ∙ sym (ap ends_in_number more)

  pub digits_next : (digits : Bool) → digits ≡ ends_in_digits bases
      → (is_same (class_of b) NU || (is_one_of middle (class_of b) && digits)) ≡ ends_in_digits (map base_in all)
  digits_next digits is = ap (λ n. is_same (class_of b) NU || (is_one_of middle (class_of b) && n)) is ∙ sym (ap ends_in_digits more)

  pub rest_next : bases ≡ rest (map base_in all)
  rest_next = sym (ap rest more)
