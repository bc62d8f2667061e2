-- Isolates and the base level of a paragraph, given the classes of its characters (UAX #9, BD9, P2, P3 and HL1).
use Rattle.std.specs.Prelude.{ℕ, ◌+◌, ◌-◌, nat_lt, ◌==◌, ◌&&◌, not, Bool, true, List, length, Option, Some, None, option_map, unwrap_or, count_by}
use Rattle.std.specs.List.{list_all, range_with_len, slice_range}
use Rattle.ucd.specs.declared.bidi_class.BidiClass.{BidiClass}
use Rattle.ucd.specs.declared.bidi_class.BidiClass.TheVariants.{L}
use Rattle.bidi.specs.declared.base.Base.{Base}
use Rattle.bidi.specs.declared.base.Base.TheVariants.{Rtl, Ltr, WeakRtl, WeakLtr}
use Rattle.ucd.specs.Classes.{class_at, is_initiator, is_pdi, is_strong}
use Rattle.ucd.specs.Least.{least}

-- whether the range from i to j, inclusive, contains equal numbers of isolate initiators and PDIs
abbrev pub is_balanced : List BidiClass → ℕ → ℕ → Bool
is_balanced classes i j =
    let part = slice_range classes i (j + 1) in count_by is_initiator part == count_by is_pdi part

-- the match of the initiator at i: the least index j after i for which the range from i to j is balanced, if
-- there is one
abbrev pub match_of : List BidiClass → ℕ → Option ℕ
match_of classes i = least (is_balanced classes i) (i + 1) (length classes - (i + 1))

-- whether k is before an initiator's match, or the initiator has no match
abbrev pub is_before : ℕ → Option ℕ → Bool
is_before k (Some j) = nat_lt k j
is_before k None = true

-- whether there is an initiator at i and k is inside its isolate: after the initiator and before its match,
-- if any
abbrev pub is_in_span : List BidiClass → ℕ → ℕ → Bool
is_in_span classes k i = is_initiator (class_at classes i) && (nat_lt i k && is_before k (match_of classes i))

-- whether k is outside all isolates
abbrev pub is_outside : List BidiClass → ℕ → Bool
is_outside classes k = list_all (λ i. not (is_in_span classes k i)) (range_with_len 0 k)

-- P2: the index of the first strong character outside all isolates, if there is one
abbrev pub first_strong : List BidiClass → Option ℕ
first_strong classes = least (λ k. is_strong (class_at classes k) && is_outside classes k) 0 (length classes)

-- P3: the level of a strong class
abbrev pub strong_level : BidiClass → ℕ
strong_level L = 0
strong_level _ = 1

abbrev pub first_strong_level : List BidiClass → Option ℕ
first_strong_level classes = option_map (λ k. strong_level (class_at classes k)) (first_strong classes)

abbrev pub base_level_of : List BidiClass → Base → ℕ
base_level_of classes Rtl = 1
base_level_of classes Ltr = 0
base_level_of classes WeakRtl = unwrap_or (first_strong_level classes) 1
base_level_of classes WeakLtr = unwrap_or (first_strong_level classes) 0
