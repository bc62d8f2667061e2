-- Ordinary characters: the table alone decides the marks between them.
use Rattle.std.proofs.Common.{◌≡◌, ◌∙◌, ℕ, ◌+◌, ◌<◌, ◌==◌, Bool, true, false, not, ◌&&◌, List, [], ◌∷◌, length, get_or, refl, ap, subst, sym, inl, inr}
use Rattle.ucd.specs.declared.version.Version.TheVariants.{V15_0}
use Rattle.std.specs.List.{list_all}
use Rattle.std.proofs.lemmas.Bool.{both_ways, cases_Bool}
use Rattle.std.proofs.lemmas.List.Folds.{list_all_at}
use Rattle.ucd.specs.declared.line_class.LineClass.TheVariants.{ZWJ}
use Rattle.ucd.specs.declared.properties.Properties.{Properties}
use Rattle.breaks.specs.Bases.{BaseCharacter, Character, alone}
use Rattle.breaks.specs.Classes.{is_same}
use Rattle.breaks.specs.Symbols.{character_by, shown, as_read}
use Rattle.breaks.specs.Walk.{Stands, decided_at, full_walk, is_ordinary}
use Rattle.breaks.specs.declared.entries.TheConstants.{NEXT_ROWS, OUTCOMES}
use Rattle.breaks.specs.declared.symbol.TheConstants.{JOINER, SYMBOL_COUNT}
use Rattle.breaks.specs.declared.table.TheConstants.{STAYS, UNLESS}
use Rattle.breaks.proofs.PassLemmas.{Passes15, kept, passes_as, starts}
use Rattle.breaks.proofs.SymbolLemmas.{is_joiner}

-- if `not a && not b` is true, both a and b are false
parts : (a b : Bool) → (not a && not b) ≡ true → (a ≡ false) × (b ≡ false)
parts false false h = (refl, refl)
parts false true h = cc
parts true b h = cc

parts_both : (a b : Bool) → (a && b) ≡ true → (a ≡ true) × (b ≡ true)
parts_both true true h = (refl, refl)
parts_both true false h = cc
parts_both false b h = cc

-- a symbol is `JOINER` if and only if it is that of a ZWJ
joins : (symbol : ℕ) (p : Properties) → symbol < SYMBOL_COUNT → shown symbol ≡ as_read (character_by V15_0 p) → (symbol == JOINER) ≡ is_same (character_by V15_0 p).class ZWJ
joins symbol p below shows = is_joiner symbol below ∙ ap (λ d. is_same d.class ZWJ) shows

pub ordinary_by : (symbol : ℕ) (p : Properties) (joiner pictograph : Bool) → symbol < SYMBOL_COUNT → shown symbol ≡ as_read (character_by V15_0 p)
    → joiner ≡ (symbol == JOINER) → pictograph ≡ p.is_future_pictograph → (not joiner && not pictograph) ≡ is_ordinary p
ordinary_by symbol p joiner pictograph below shows joined is = rw (joined ∙ joins symbol p below shows, is) refl

pub starts_ordinary : (symbol next_row : ℕ) (p : Properties) → symbol < SYMBOL_COUNT → shown symbol ≡ as_read (character_by V15_0 p)
    → next_row ≡ get_or NEXT_ROWS (0 + symbol) 0 → is_ordinary p ≡ true
    → (whole_numbers : Bool) → Stands whole_numbers (full_walk next_row) (alone (character_by V15_0 p)) []
starts_ordinary symbol next_row p below shows reads ordinary whole_numbers =
    let c : Character = character_by V15_0 p in
    let both = parts (is_same (character_by V15_0 p).class ZWJ) p.is_future_pictograph ordinary in
    subst (λ joined. Stands whole_numbers (record (full_walk next_row) { is_joined = joined }) (alone c) []) (joins symbol p below shows ∙ both.0)
    (subst (λ pictograph. Stands whole_numbers (record { row = next_row; is_joined = symbol == JOINER; is_pictograph = pictograph }) (alone c) []) both.1
    (starts symbol next_row c below shows reads whole_numbers))

none_kept : (row outcome : ℕ) (p : Properties) → p.is_future_pictograph ≡ false → kept (full_walk row) outcome (character_by V15_0 p) ≡ false
none_kept row outcome p next =
    elim (cases_Bool (outcome == STAYS)) [
      | inl stays ↦ rw stays refl
      | inr begins ↦ rw begins next
    ]

decides_alone : (outcome : ℕ) → outcome ≡ decided_at outcome false false
decides_alone outcome =
    elim (cases_Bool (outcome == UNLESS)) [
      | inl unless ↦ rw unless refl
      | inr not_unless ↦ rw not_unless refl
    ]

pub passes_ordinary : (row symbol next_row outcome : ℕ) (p : Properties) → symbol < SYMBOL_COUNT → shown symbol ≡ as_read (character_by V15_0 p)
    → next_row ≡ get_or NEXT_ROWS (row + symbol) 0 → outcome ≡ get_or OUTCOMES (row + symbol) 0 → is_ordinary p ≡ true
    → (whole_numbers : Bool) (last : BaseCharacter) (others : List BaseCharacter) → Stands whole_numbers (full_walk row) last others
    → Passes15 whole_numbers (full_walk next_row) last others (character_by V15_0 p) outcome
passes_ordinary row symbol next_row outcome p below shows reads_row reads_outcome next whole_numbers last others stands =
    let c : Character = character_by V15_0 p in
    let both = parts (is_same (character_by V15_0 p).class ZWJ) p.is_future_pictograph next in
    subst (λ joined. Passes15 whole_numbers (record (full_walk next_row) { is_joined = joined }) last others c outcome) (joins symbol p below shows ∙ both.0)
    (passes_as (full_walk row) symbol next_row outcome c false outcome below shows reads_row reads_outcome
    (none_kept row outcome p both.1) (decides_alone outcome) whole_numbers last others stands)

-- if all items of a list pass a test, so does the item at an index
pub one_of_all : (p : Properties → Bool) (all : List Properties) (i : ℕ) (d : Properties) → i < length all → list_all p all ≡ true → d ≡ get_or all i d → p d ≡ true
one_of_all p all i d within passes is =
    elim (cases_Bool (p d)) [
      | inl passed ↦ passed
      | inr failed ↦ absurd (both_ways (list_all p all) (list_all_at p all i d within (ap p (sym is) ∙ failed)) passes)
    ]

pub head_passes : (p : Properties → Bool) (all rest : List Properties) (first : Properties) → list_all p all ≡ true → all ≡ first ∷ rest → p first ≡ true
head_passes p all rest first passes is = (parts_both (p first) (list_all p rest) (ap (list_all p) (sym is) ∙ passes)).0

pub tail_passes : (p : Properties → Bool) (all rest : List Properties) (first : Properties) → list_all p all ≡ true → all ≡ first ∷ rest → list_all p rest ≡ true
tail_passes p all rest first passes is = (parts_both (p first) (list_all p rest) (ap (list_all p) (sym is) ∙ passes)).1

pub all_pass : (p : Properties → Bool) → ((one : Properties) → p one ≡ true) → (all : List Properties) → list_all p all ≡ true
all_pass p passes [] = refl
all_pass p passes (one ∷ all) = rw (passes one) (all_pass p passes all)
