-- Ordinary characters, with the rules of Unicode 17.0: the walk that looks widths up only when they matter.
use Rattle.std.proofs.Common.{◌≡◌, ◌∙◌, ℕ, ◌+◌, ◌<◌, ◌==◌, Bool, true, false, not, ◌&&◌, List, [], None, Some, get_or, refl, ap, subst, sym}
use Rattle.ucd.specs.declared.line_class.LineClass.TheVariants.{ZWJ}
use Rattle.ucd.specs.declared.properties.Properties.{Properties}
use Rattle.ucd.specs.declared.version.Version.TheVariants.{V17_0}
use Rattle.breaks.specs.Bases.{BaseCharacter, Character, alone}
use Rattle.breaks.specs.Classes.{is_same}
use Rattle.breaks.specs.Symbols.{character_by, shown_17, as_read_17}
use Rattle.breaks.specs.Walk17.{Stands17, begins_wide, begins_wide_if_any, bits_in, decided_17, full_walk, is_ordinary_17}
use Rattle.breaks.specs.declared.entries_17.TheConstants.{NEXT_ROWS, OUTCOMES}
use Rattle.breaks.specs.declared.ordinary_17.OrdinaryWalk17.{OrdinaryWalk17}
use Rattle.breaks.specs.declared.symbol_17.TheConstants.{JOINER, SYMBOL_COUNT}
use Rattle.breaks.specs.declared.table_17.TheConstants.{NEVER, STAYS}
use Rattle.breaks.specs.declared.walk_17.Walk17.{Walk17}
use Rattle.breaks.proofs.BoolLemmas.{both}
use Rattle.breaks.proofs.PassLemmas.{not_true}
use Rattle.breaks.proofs.PassLemmas17.{Passes17, passes_begin_17, passes_stay_17, starts_17}
use Rattle.breaks.proofs.SymbolLemmas17.{is_joiner_17}

-- what is known about an ordinary character
record IsOrdinary (p : Properties) : Type 0 where
  no_joiner : is_same (character_by V17_0 p).class ZWJ ≡ false
  no_pictograph : p.is_future_pictograph ≡ false

ordinary_parts : (p : Properties) → is_ordinary_17 p ≡ true → IsOrdinary p
ordinary_parts p h =
    let parts : (not (is_same (character_by V17_0 p).class ZWJ) ≡ true) × (not p.is_future_pictograph ≡ true) = both _ _ h in
    record { no_joiner = not_true _ parts.0; no_pictograph = not_true _ parts.1 }

unjoined : (symbol : ℕ) (p : Properties) → symbol < SYMBOL_COUNT → shown_17 symbol ≡ as_read_17 (character_by V17_0 p) → IsOrdinary p → (symbol == JOINER) ≡ false
unjoined symbol p lt shows is = is_joiner_17 symbol lt ∙ ap (λ d. is_same d.class ZWJ) shows ∙ is.no_joiner

pub ordinary_by_17 : (symbol : ℕ) (p : Properties) (joiner pictograph : Bool) → symbol < SYMBOL_COUNT → shown_17 symbol ≡ as_read_17 (character_by V17_0 p)
    → joiner ≡ (symbol == JOINER) → pictograph ≡ p.is_future_pictograph → (not joiner && not pictograph) ≡ is_ordinary_17 p
ordinary_by_17 symbol p joiner pictograph lt shows joined is = rw (joined ∙ is_joiner_17 symbol lt ∙ ap (λ d. is_same d.class ZWJ) shows, is) refl

-- a state of the walk in which the last base is not a future pictograph
walk_with : ℕ → Bool → Bool → Bool → Walk17
walk_with row joined wide was_wide = record { row = row; is_joined = joined; is_pictograph = false; is_wide = wide; was_wide = was_wide }

pub starts_ordinary_17 : (symbol row : ℕ) (p : Properties) → symbol < SYMBOL_COUNT → shown_17 symbol ≡ as_read_17 (character_by V17_0 p)
    → row ≡ get_or NEXT_ROWS (0 + symbol) 0 → is_ordinary_17 p ≡ true
    → Stands17 (full_walk (record { row = row; last = p; before = None })) (alone (character_by V17_0 p)) []
unfolding walk_with
starts_ordinary_17 symbol row p lt shows reads_row h =
    let c : Character = character_by V17_0 p in
    let is = ordinary_parts p h in
    subst (λ joined. Stands17 (walk_with row joined (begins_wide p) false) (alone c) []) (unjoined symbol p lt shows is)
    (starts_17 symbol row false (begins_wide p) c lt shows reads_row (sym is.no_pictograph) refl)

pub stays_ordinary_17 : (walk : OrdinaryWalk17) (symbol next_row outcome : ℕ) (p : Properties) → symbol < SYMBOL_COUNT → shown_17 symbol ≡ as_read_17 (character_by V17_0 p)
    → next_row ≡ get_or NEXT_ROWS (walk.row + symbol) 0 → outcome ≡ get_or OUTCOMES (walk.row + symbol) 0 → (outcome == STAYS) ≡ true → is_ordinary_17 p ≡ true
    → (last : BaseCharacter) (others : List BaseCharacter) → Stands17 (full_walk walk) last others
    → Passes17 (full_walk (record walk { row = next_row })) last others (character_by V17_0 p) NEVER
unfolding walk_with
stays_ordinary_17 walk symbol next_row outcome p lt shows reads_row reads_outcome stay h last others stands =
    let c : Character = character_by V17_0 p in
    subst (λ joined. Passes17 (walk_with next_row joined (begins_wide walk.last) (begins_wide_if_any walk.before)) last others c NEVER)
    (unjoined symbol p lt shows (ordinary_parts p h))
    (passes_stay_17 (full_walk walk) symbol next_row outcome c lt shows reads_row reads_outcome stay last others stands)

begins_ordinary_17 : (walk : OrdinaryWalk17) (symbol next_row outcome decided : ℕ) (p : Properties) → symbol < SYMBOL_COUNT
    → shown_17 symbol ≡ as_read_17 (character_by V17_0 p) → next_row ≡ get_or NEXT_ROWS (walk.row + symbol) 0 → outcome ≡ get_or OUTCOMES (walk.row + symbol) 0
    → (outcome == STAYS) ≡ false → is_ordinary_17 p ≡ true → decided ≡ decided_17 outcome (bits_in (full_walk walk)) (begins_wide p)
    → (last : BaseCharacter) (others : List BaseCharacter) → Stands17 (full_walk walk) last others
    → Passes17 (full_walk (record { row = next_row; last = p; before = Some walk.last })) last others (character_by V17_0 p) decided
unfolding walk_with
begins_ordinary_17 walk symbol next_row outcome decided p lt shows reads_row reads_outcome begin h decides last others stands =
    let c : Character = character_by V17_0 p in
    let is = ordinary_parts p h in
    subst (λ joined. Passes17 (walk_with next_row joined (begins_wide p) (begins_wide walk.last)) last others c decided) (unjoined symbol p lt shows is)
    (passes_begin_17 (full_walk walk) symbol next_row outcome decided false (begins_wide p) c lt shows reads_row reads_outcome begin
    (sym is.no_pictograph) refl decides last others stands)

-- `begins_ordinary_17`, stated for any state `new` that has these values
pub begun_ordinary_17 : (walk new : OrdinaryWalk17) (symbol next_row outcome decided : ℕ) (p : Properties) → symbol < SYMBOL_COUNT
    → shown_17 symbol ≡ as_read_17 (character_by V17_0 p) → next_row ≡ get_or NEXT_ROWS (walk.row + symbol) 0 → outcome ≡ get_or OUTCOMES (walk.row + symbol) 0
    → (outcome == STAYS) ≡ false → is_ordinary_17 p ≡ true → decided ≡ decided_17 outcome (bits_in (full_walk walk)) (begins_wide p)
    → new.row ≡ next_row → new.last ≡ p → new.before ≡ Some walk.last
    → (last : BaseCharacter) (others : List BaseCharacter) → Stands17 (full_walk walk) last others
    → Passes17 (full_walk new) last others (character_by V17_0 p) decided
begun_ordinary_17 walk new symbol next_row outcome decided p lt shows reads_row reads_outcome begin h decides row is_last is_before last others stands =
    rw (row, is_last, is_before) (begins_ordinary_17 walk symbol next_row outcome decided p lt shows reads_row reads_outcome begin h decides last others stands)
