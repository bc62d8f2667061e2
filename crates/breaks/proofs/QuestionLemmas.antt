-- The answers to questions about the bases after the next one, with the rules of Unicode 15.0.
use Rattle.std.proofs.Common.{◌≡◌, ℕ, ◌<◌, ◌≤◌, ◌==◌, Bool, true, false, not, ◌&&◌, List, [], ◌∷◌, refl, sym, ap, ◌∙◌, if◌then◌else◌, inl, inr}
use Rattle.std.proofs.lemmas.Bool.{cases_Bool}
use Rattle.ucd.specs.declared.line_class.LineClass.{LineClass}
use Rattle.ucd.specs.declared.line_class.LineClass.TheVariants.{CM, NU, ZWJ}
use Rattle.breaks.specs.Bases.{Character, base_class, bases_of}
use Rattle.breaks.specs.Classes.{is_one_of, is_same}
use Rattle.breaks.specs.Passes.{bases_after}
use Rattle.breaks.specs.Rules.{is}
use Rattle.breaks.specs.Symbols.{shown, as_read}
use Rattle.breaks.specs.Walk.{mark_given}
use Rattle.breaks.specs.declared.symbol.TheConstants.{ATTACHED, DIGIT, SYMBOL_COUNT}
use Rattle.breaks.specs.declared.table.TheConstants.{MAY, NEVER, WAITS}
use Rattle.breaks.proofs.BoolLemmas.{both, is_equal, is_less, is_no_less}
use Rattle.breaks.proofs.PassLemmas.{first_base, not_true}
use Rattle.breaks.proofs.SymbolLemmas.{is_digit, is_not_attached}

pub not_false : (b : Bool) → not b ≡ false → b ≡ true
not_false true h = refl
not_false false h = cc

pub skipped : (c : Character) (text : List Character) → is_one_of (CM ∷ ZWJ ∷ []) c.class ≡ true → bases_after (c ∷ text) ≡ bases_after text
skipped c text joins = rw joins refl

digit_class : (class : LineClass) → is_one_of (CM ∷ ZWJ ∷ []) class ≡ false → is_one_of (NU ∷ []) (base_class class) ≡ is_same class NU
digit_class NU h = refl
digit_class CM h = cc
digit_class ZWJ h = cc
digit_class class h = refl

-- the next base is NU if and only if the symbol of its first character is `DIGIT`
next_digit : (symbol : ℕ) (c : Character) (text : List Character) → symbol < SYMBOL_COUNT → symbol < ATTACHED → shown symbol ≡ as_read c
    → (symbol == DIGIT) ≡ is (NU ∷ []) (bases_after (c ∷ text))
next_digit symbol c text within before shows =
    let other : is_one_of (CM ∷ ZWJ ∷ []) c.class ≡ false =
    ap (λ d. is_one_of (CM ∷ ZWJ ∷ []) d.class) (sym shows) ∙ not_true _ (sym (is_not_attached symbol within) ∙ is_less symbol ATTACHED before) in
    let bases = first_base c text in
    let begun : bases_after (c ∷ text) ≡ bases_of (c ∷ text) = rw other refl in
    is_digit symbol within ∙ ap (λ d. is_same d.class NU) shows ∙ sym (digit_class c.class other) ∙ ap (is (NU ∷ [])) (sym (begun ∙ bases.2))

waits : (whole_numbers : Bool) (question : ℕ) → ((question == WAITS) && whole_numbers) ≡ true → (question ≡ WAITS) × (whole_numbers ≡ true)
waits whole_numbers question h = let parts : ((question == WAITS) ≡ true) × (whole_numbers ≡ true) = both _ _ h in (is_equal _ _ parts.0, parts.1)

-- the answer before the next character: `NEVER` before NU, and otherwise `MAY`
pub answered : (whole_numbers : Bool) (question symbol answer : ℕ) (c : Character) → ((question == WAITS) && whole_numbers) ≡ true
    → symbol < SYMBOL_COUNT → symbol < ATTACHED → shown symbol ≡ as_read c → answer ≡ (if symbol == DIGIT then NEVER else MAY)
    → (text : List Character) → mark_given whole_numbers question (bases_after (c ∷ text)) ≡ mark_given whole_numbers answer (bases_after text)
answered whole_numbers question symbol answer c asks within before shows is text =
    let is_waits = waits whole_numbers question asks in
    let digit = next_digit symbol c text within before shows in
    elim (cases_Bool (symbol == DIGIT)) [
      | inl is_digit ↦ rw (is, is_waits.0, is_waits.1, is_digit, sym digit ∙ is_digit) refl
      | inr is_other ↦ rw (is, is_waits.0, is_waits.1, is_other, sym digit ∙ is_other) refl
    ]

pub passed_over : (whole_numbers : Bool) (question symbol : ℕ) (c : Character) (text : List Character) → symbol < SYMBOL_COUNT → ATTACHED ≤ symbol → shown symbol ≡ as_read c
    → mark_given whole_numbers question (bases_after (c ∷ text)) ≡ mark_given whole_numbers question (bases_after text)
passed_over whole_numbers question symbol c text within ge shows =
    let joins : is_one_of (CM ∷ ZWJ ∷ []) c.class ≡ true =
    ap (λ d. is_one_of (CM ∷ ZWJ ∷ []) d.class) (sym shows) ∙ not_false _ (sym (is_not_attached symbol within) ∙ is_no_less symbol ATTACHED ge) in
    ap (mark_given whole_numbers question) (skipped c text joins)
