-- The symbol of a character for the rules of Unicode 17.0, from its properties.
use Rattle.std.proofs.Common.{◌≡◌, ℕ, ◌<◌, ◌==◌, nat_lt, Bool, true, false, not, ◌&&◌, ◌||◌, [], ◌∷◌, get_or, refl, sym, ap, ◌∙◌}
use Rattle.ucd.specs.Answers.{line_answers, line_answers_at}
use Rattle.ucd.specs.declared.line_class.LineClass.{LineClass}
use Rattle.ucd.specs.declared.line_class.LineClass.TheVariants.{CM, CP, OP, ZWJ}
use Rattle.ucd.specs.declared.properties.Properties.{Properties}
use Rattle.ucd.specs.declared.version.Version.TheVariants.{V17_0}
use Rattle.breaks.specs.Bases.{Character, alone, is_east_asian}
use Rattle.breaks.specs.Classes.{is_same, is_one_of}
use Rattle.breaks.specs.Symbols.{character_by, character_in, shown_17, as_read_17}
use Rattle.breaks.specs.declared.symbol_17.TheConstants.{ATTACHED, JOINER, SYMBOLS, SYMBOL_COUNT}
use Rattle.breaks.proofs.BoolLemmas.{same, same_is, below, entries_below}
use Rattle.breaks.proofs.Computed.{is_character}
use Rattle.breaks.proofs.Computed17.{attached_are_last_17, joiner_is_one_17, may_have, symbols_are_right_17, symbols_are_within_17}
use Rattle.breaks.proofs.SymbolLemmas.{character_is}

-- a symbol is `JOINER` if and only if its class is ZWJ
pub is_joiner_17 : (symbol : ℕ) → symbol < SYMBOL_COUNT → (symbol == JOINER) ≡ is_same (shown_17 symbol).class ZWJ
is_joiner_17 symbol lt = same_is _ _ (below SYMBOL_COUNT (λ x. same (x == JOINER) (is_same (shown_17 x).class ZWJ)) joiner_is_one_17 symbol lt)

-- a symbol is at least `ATTACHED` if and only if its class is CM or ZWJ
pub is_not_attached_17 : (symbol : ℕ) → symbol < SYMBOL_COUNT → nat_lt symbol ATTACHED ≡ not (is_one_of (CM ∷ ZWJ ∷ []) (shown_17 symbol).class)
is_not_attached_17 symbol lt =
    same_is _ _ (below SYMBOL_COUNT (λ x. same (nat_lt x ATTACHED) (not (is_one_of (CM ∷ ZWJ ∷ []) (shown_17 x).class))) attached_are_last_17 symbol lt)

-- a base that begins with a character is wide if and only if the character is wide and is neither CM nor ZWJ
pub wide_by_symbol : (c : Character) (symbol : ℕ) (is_wide : Bool) → symbol < SYMBOL_COUNT → shown_17 symbol ≡ as_read_17 c → is_wide ≡ c.is_wide
    → (is_wide && nat_lt symbol ATTACHED) ≡ is_east_asian (alone c)
wide_by_symbol c symbol is_wide lt shows wide =
    rw wide (ap (λ b. c.is_wide && b) (is_not_attached_17 symbol lt ∙ ap (λ d. not (is_one_of (CM ∷ ZWJ ∷ []) d.class)) shows))

-- the symbol in the table represents everything that the rules read of the character
pub symbol_shown_17 : (p : Properties) (index symbol : ℕ) → index < 448 → line_answers p ≡ line_answers_at index → symbol ≡ get_or SYMBOLS index 0
    → shown_17 symbol ≡ as_read_17 (character_by V17_0 p)
symbol_shown_17 p index symbol lt is reads =
    ap shown_17 reads
    ∙ character_is _ _ (below 448 (λ i. is_character (shown_17 (get_or SYMBOLS i 0)) (as_read_17 (character_in V17_0 (line_answers_at i)))) symbols_are_right_17 index lt)
    ∙ ap (λ a. as_read_17 (character_in V17_0 a)) (sym is)

pub symbol_below_17 : (index symbol : ℕ) → index < 448 → symbol ≡ get_or SYMBOLS index 0 → symbol < SYMBOL_COUNT
symbol_below_17 index symbol lt = entries_below SYMBOLS SYMBOL_COUNT refl symbols_are_within_17 index symbol

-- the width of a base is one that the symbol of its first character allows
width_possible : (class : LineClass) (wide : Bool)
    → (not (is_one_of (CP ∷ OP ∷ []) class) || same (is_one_of (CP ∷ OP ∷ []) class && wide) (wide && not (is_one_of (CM ∷ ZWJ ∷ []) class))) ≡ true
width_possible CP true = refl
width_possible CP false = refl
width_possible OP true = refl
width_possible OP false = refl
width_possible class wide = refl

pub may_have_as_read : (c shown : Character) → shown ≡ as_read_17 c → may_have shown (is_east_asian (alone c)) ≡ true
may_have_as_read c shown shows = ap (λ d. may_have d (is_east_asian (alone c))) shows ∙ width_possible c.class c.is_wide
