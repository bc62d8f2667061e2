-- Narrow characters: with the rules of Unicode 17.0, the table alone decides the marks between them.
use Rattle.std.proofs.Common.{◌≡◌, ◌∙◌, ℕ, ◌+◌, ◌<◌, ◌==◌, Bool, true, false, not, ◌&&◌, List, [], ◌∷◌, get_or, refl, ap, subst, sym, inl, inr}
use Rattle.std.proofs.lemmas.Bool.{cases_Bool}
use Rattle.ucd.specs.declared.line_class.LineClass.TheVariants.{CM, ZWJ}
use Rattle.ucd.specs.declared.properties.Properties.{Properties}
use Rattle.ucd.specs.declared.version.Version.TheVariants.{V17_0}
use Rattle.breaks.specs.Bases.{BaseCharacter, Character, alone, is_east_asian}
use Rattle.breaks.specs.Classes.{is_same, is_one_of}
use Rattle.breaks.specs.Symbols.{character_by, shown_17, as_read_17}
use Rattle.breaks.specs.Walk17.{Stands17, narrow_walk, decided_17, decided_narrow, is_narrow_17, narrow_bits}
use Rattle.breaks.specs.declared.entries_17.TheConstants.{NEXT_ROWS, OUTCOMES}
use Rattle.breaks.specs.declared.symbol_17.TheConstants.{JOINER, SYMBOL_COUNT}
use Rattle.breaks.specs.declared.table_17.TheConstants.{NEVER, STAYS}
use Rattle.breaks.specs.declared.walk_17.TheConstants.{NARROW}
use Rattle.breaks.proofs.BoolLemmas.{all_below, below, both, is_equal}
use Rattle.breaks.proofs.PassLemmas.{not_true}
use Rattle.breaks.proofs.PassLemmas17.{Passes17, passes_begin_17, passes_stay_17, starts_17}
use Rattle.breaks.proofs.SymbolLemmas17.{is_joiner_17}

narrow_table : all_below 15 (λ outcome. get_or NARROW outcome 0 == decided_narrow outcome) ≡ true
narrow_table = refl

pub narrow_is : (outcome : ℕ) → outcome < 15 → get_or NARROW outcome 0 ≡ decided_narrow outcome
narrow_is outcome lt = is_equal _ _ (below 15 (λ outcome. get_or NARROW outcome 0 == decided_narrow outcome) narrow_table outcome lt)

-- what is known about a narrow character
record IsNarrow (p : Properties) : Type 0 where
  no_joiner : is_same (character_by V17_0 p).class ZWJ ≡ false
  no_pictograph : p.is_future_pictograph ≡ false
  no_width : p.is_wide ≡ false

narrow_parts : (p : Properties) → is_narrow_17 p ≡ true → IsNarrow p
narrow_parts p h =
    let parts : (not (is_same (character_by V17_0 p).class ZWJ) ≡ true) × ((not p.is_future_pictograph && not p.is_wide) ≡ true) = both _ _ h in
    let flags : (not p.is_future_pictograph ≡ true) × (not p.is_wide ≡ true) = both _ _ parts.1 in
    record { no_joiner = not_true _ parts.0; no_pictograph = not_true _ flags.0; no_width = not_true _ flags.1 }

unjoined : (symbol : ℕ) (p : Properties) → symbol < SYMBOL_COUNT → shown_17 symbol ≡ as_read_17 (character_by V17_0 p) → IsNarrow p → (symbol == JOINER) ≡ false
unjoined symbol p lt shows is = is_joiner_17 symbol lt ∙ ap (λ d. is_same d.class ZWJ) shows ∙ is.no_joiner

narrow_base : (p : Properties) → IsNarrow p → is_east_asian (alone (character_by V17_0 p)) ≡ false
narrow_base p is = ap (λ w. w && not (is_one_of (CM ∷ ZWJ ∷ []) (character_by V17_0 p).class)) is.no_width

pub starts_narrow : (symbol next_row : ℕ) (p : Properties) → symbol < SYMBOL_COUNT → shown_17 symbol ≡ as_read_17 (character_by V17_0 p)
    → next_row ≡ get_or NEXT_ROWS (0 + symbol) 0 → is_narrow_17 p ≡ true → Stands17 (narrow_walk next_row) (alone (character_by V17_0 p)) []
starts_narrow symbol next_row p lt shows reads h =
    let c : Character = character_by V17_0 p in
    let is = narrow_parts p h in
    subst (λ a. Stands17 (record (narrow_walk next_row) { is_joined = a }) (alone c) []) (unjoined symbol p lt shows is)
    (starts_17 symbol next_row false false c lt shows reads (sym is.no_pictograph) (sym (narrow_base p is)))

pub narrow_by : (symbol : ℕ) (p : Properties) (joiner pictograph wide : Bool) → symbol < SYMBOL_COUNT → shown_17 symbol ≡ as_read_17 (character_by V17_0 p)
    → joiner ≡ (symbol == JOINER) → pictograph ≡ p.is_future_pictograph → wide ≡ p.is_wide
    → (not joiner && (not pictograph && not wide)) ≡ is_narrow_17 p
narrow_by symbol p joiner pictograph wide lt shows joined is width =
    rw (joined ∙ is_joiner_17 symbol lt ∙ ap (λ d. is_same d.class ZWJ) shows, is, width) refl

pub passes_narrow : (row symbol next_row outcome : ℕ) (p : Properties) → symbol < SYMBOL_COUNT → shown_17 symbol ≡ as_read_17 (character_by V17_0 p)
    → next_row ≡ get_or NEXT_ROWS (row + symbol) 0 → outcome ≡ get_or OUTCOMES (row + symbol) 0 → is_narrow_17 p ≡ true
    → (last : BaseCharacter) (others : List BaseCharacter) → Stands17 (narrow_walk row) last others
    → Passes17 (narrow_walk next_row) last others (character_by V17_0 p) (decided_narrow outcome)
passes_narrow row symbol next_row outcome p lt shows reads_row reads_outcome h last others stands =
    let c : Character = character_by V17_0 p in
    let is = narrow_parts p h in
    let joined : (symbol == JOINER) ≡ false = unjoined symbol p lt shows is in
    elim (cases_Bool (outcome == STAYS)) [
      | inl stay ↦
          rw stay (subst (λ a. Passes17 (record (narrow_walk next_row) { is_joined = a }) last others c NEVER) joined
          (passes_stay_17 (narrow_walk row) symbol next_row outcome c lt shows reads_row reads_outcome stay last others stands))
      | inr begin ↦
          rw begin (subst (λ a. Passes17 (record (narrow_walk next_row) { is_joined = a }) last others c (decided_17 outcome narrow_bits false)) joined
          (passes_begin_17 (narrow_walk row) symbol next_row outcome (decided_17 outcome narrow_bits false) false false c lt shows reads_row reads_outcome begin
          (sym is.no_pictograph) (sym (narrow_base p is)) refl last others stands))
    ]
