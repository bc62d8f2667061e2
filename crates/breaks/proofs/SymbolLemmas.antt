-- The symbol of a character, from its properties.
use Rattle.std.proofs.Common.{◌≡◌, ℕ, ◌<◌, nat_lt, Bool, true, false, not, ◌&&◌, ◌==◌, [], ◌∷◌, get_or, refl, sym, ap, ◌∙◌}
use Rattle.ucd.specs.declared.version.Version.TheVariants.{V15_0}
use Rattle.ucd.specs.declared.line_class.LineClass.{LineClass}
use Rattle.ucd.specs.declared.line_class.LineClass.TheVariants.{CM, CP, NU, OP, ZWJ}
use Rattle.ucd.specs.contracts.line_class.LineClass as class_type
use Rattle.ucd.specs.contracts.line_detail.LineDetail as detail_type
use Rattle.ucd.specs.declared.line_detail.LineDetail.{LineDetail}
use denote.Enum.Bare.{same_true}
use Rattle.breaks.specs.Bases.{Character, base_class}
use Rattle.breaks.specs.Classes.{is_detail, is_same, is_one_of}
use Rattle.breaks.specs.Rules.{rows_before_numbers, rows_of_numbers, rows_after_numbers}
use Rattle.breaks.specs.Walk.{rows}
use Rattle.ucd.specs.declared.properties.Properties.{Properties}
use Rattle.ucd.specs.Answers.{line_answers, line_answers_at}
use Rattle.breaks.specs.Symbols.{character_by, character_in, shown, as_read}
use Rattle.breaks.specs.declared.symbol.TheConstants.{ATTACHED, DIGIT, JOINER, SYMBOLS, SYMBOL_COUNT}
use Rattle.breaks.proofs.BoolLemmas.{both, same, same_is, below, entries_below}
use Rattle.breaks.proofs.Computed.{attached_are_last, answers_after, character_with, digit_is_one, is_character, joiner_is_one, symbols_are_right, symbols_are_within}

-- two characters are the same if all their fields are
pub alike : (class class′ : LineClass) (detail detail′ : LineDetail) (wide wide′ pictograph pictograph′ : Bool) → class ≡ class′ → detail ≡ detail′ → wide ≡ wide′
    → pictograph ≡ pictograph′ → character_with class detail wide pictograph ≡ character_with class′ detail′ wide′ pictograph′
alike class class′ detail detail′ wide wide′ pictograph pictograph′ a b e f = rw (a, b, e, f) refl

pub character_is : (c d : Character) → is_character c d ≡ true → c ≡ d
character_is c d h =
    let class : (is_same c.class d.class ≡ true) × _ = both _ _ h in
    let detail : (is_detail c.detail d.detail ≡ true) × _ = both _ _ class.1 in
    let flags : (same c.is_wide d.is_wide ≡ true) × (same c.is_future_pictograph d.is_future_pictograph ≡ true) = both _ _ detail.1 in
    alike _ _ _ _ _ _ _ _ (same_true class_type.the_type tt _ _ class.0) (same_true detail_type.the_type tt _ _ detail.0) (same_is _ _ flags.0) (same_is _ _ flags.1)

-- a symbol is `JOINER` if and only if its class is ZWJ
pub is_joiner : (symbol : ℕ) → symbol < SYMBOL_COUNT → (symbol == JOINER) ≡ is_same (shown symbol).class ZWJ
is_joiner symbol lt = same_is _ _ (below SYMBOL_COUNT (λ x. same (x == JOINER) (is_same (shown x).class ZWJ)) joiner_is_one symbol lt)

-- a symbol is `DIGIT` if and only if its class is NU, and at least `ATTACHED` if and only if it is CM or ZWJ
pub is_digit : (symbol : ℕ) → symbol < SYMBOL_COUNT → (symbol == DIGIT) ≡ is_same (shown symbol).class NU
is_digit symbol lt = same_is _ _ (below SYMBOL_COUNT (λ x. same (x == DIGIT) (is_same (shown x).class NU)) digit_is_one symbol lt)

pub is_not_attached : (symbol : ℕ) → symbol < SYMBOL_COUNT → nat_lt symbol ATTACHED ≡ not (is_one_of (CM ∷ ZWJ ∷ []) (shown symbol).class)
is_not_attached symbol lt = same_is _ _ (below SYMBOL_COUNT (λ x. same (nat_lt x ATTACHED) (not (is_one_of (CM ∷ ZWJ ∷ []) (shown x).class))) attached_are_last symbol lt)

-- the conditions depend on a character only through its symbol
pub narrow_before : (class : LineClass) (is_wide : Bool) → (is_one_of (CP ∷ []) (base_class class) && not is_wide)
    ≡ (is_one_of (CP ∷ []) (base_class class) && not (is_one_of (CP ∷ OP ∷ []) class && is_wide))
narrow_before CP is_wide = refl
narrow_before class is_wide = refl

narrow_after : (class : LineClass) (is_wide : Bool) → (is_one_of (OP ∷ []) (base_class class) && not is_wide)
    ≡ (is_one_of (OP ∷ []) (base_class class) && not (is_one_of (CP ∷ OP ∷ []) class && is_wide))
narrow_after OP is_wide = refl
narrow_after class is_wide = refl

pub answers_after_as_read : (whole_numbers : Bool) (c : Character) (before_digit : Bool) → answers_after whole_numbers c before_digit ≡ answers_after whole_numbers (as_read c) before_digit
unfolding rows rows_before_numbers rows_of_numbers rows_after_numbers
answers_after_as_read true c true = rw (narrow_after c.class c.is_wide) refl
answers_after_as_read true c false = rw (narrow_after c.class c.is_wide) refl
answers_after_as_read false c true = rw (narrow_after c.class c.is_wide) refl
answers_after_as_read false c false = rw (narrow_after c.class c.is_wide) refl

-- the symbol in the table represents everything that the rules read of the character
pub symbol_shown : (p : Properties) (index symbol : ℕ) → index < 448 → line_answers p ≡ line_answers_at index → symbol ≡ get_or SYMBOLS index 0
    → shown symbol ≡ as_read (character_by V15_0 p)
symbol_shown p index symbol lt is reads =
    ap shown reads ∙ character_is _ _ (below 448 (λ i. is_character (shown (get_or SYMBOLS i 0)) (as_read (character_in V15_0 (line_answers_at i)))) symbols_are_right index lt)
    ∙ ap (λ a. as_read (character_in V15_0 a)) (sym is)

pub symbol_below : (index symbol : ℕ) → index < 448 → symbol ≡ get_or SYMBOLS index 0 → symbol < SYMBOL_COUNT
symbol_below index symbol lt = entries_below SYMBOLS SYMBOL_COUNT refl symbols_are_within index symbol
