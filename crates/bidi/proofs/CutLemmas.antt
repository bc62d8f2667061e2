-- There is no paragraph boundary after a character whose class is not B.
use Rattle.std.proofs.Common.{◌≡◌, ◌≢◌, ℕ, ◌==◌, ◌&&◌, ◌+◌, ◌-◌, ◌<◌, ◌≤◌, Bool, List, false, not, take, drop, get_or, slice_index, refl, subst, ap, ◌∙◌, inl, inr, arith}
use Rattle.std.proofs.lemmas.Bool.{cases_lt}
use Rattle.std.proofs.lemmas.List.{get_or-drop, get_or-take}
use Rattle.ucd.specs.declared.bidi_class.BidiClass.{BidiClass}
use Rattle.ucd.specs.declared.bidi_class.BidiClass.TheVariants.{L, R, AL, EN, ES, ET, AN, CS, NSM, BN, B, S, WS, ON, LRE, LRO, RLE, RLO, PDF, LRI, RLI, FSI, PDI}
use Rattle.ucd.specs.Classes.{is_separator}
use Rattle.bidi.specs.Cuts.{cut, AreNoSeparators, MayNotSeparate}

not_separator : (class : BidiClass) → class ≢ B → is_separator class ≡ false
not_separator L other = refl
not_separator R other = refl
not_separator AL other = refl
not_separator EN other = refl
not_separator ES other = refl
not_separator ET other = refl
not_separator AN other = refl
not_separator CS other = refl
not_separator NSM other = refl
not_separator BN other = refl
not_separator B other = absurd (other refl)
not_separator S other = refl
not_separator WS other = refl
not_separator ON other = refl
not_separator LRE other = refl
not_separator LRO other = refl
not_separator RLE other = refl
not_separator RLO other = refl
not_separator PDF other = refl
not_separator LRI other = refl
not_separator RLI other = refl
not_separator FSI other = refl
not_separator PDI other = refl

pub no_cut_after : (class_of : ℕ → BidiClass) (a b : ℕ) → class_of a ≢ B → cut class_of a b ≡ false
no_cut_after class_of a b other =
    ap (λ (t : Bool). t && not (a == 13 && (b == 10 && is_separator (class_of b)))) (not_separator (class_of a) other)

-- if none of the first `at` characters is a separator, and none of the next m characters is, none of the first `at + m`
-- characters is
pub no_separators_to : (text : List ℕ) (at n m : ℕ) → m ≤ n → AreNoSeparators text at → AreNoSeparators (take n (drop at text)) m
    → AreNoSeparators text (at + m)
no_separators_to text at n m within before block k lt = elim (cases_lt k at) [
  | inl below ↦ before k below
  | inr from ↦
      let there : at + (k - at) ≡ k = omega arith in
      let same = get_or-take n (drop at text) (k - at) 0 (omega arith) ∙ get_or-drop at text (k - at) 0 ∙ ap (λ i. get_or text i 0) there in
      subst MayNotSeparate same (block (k - at) (omega arith))
]

-- there is no boundary after any of the first `to` characters before index `last`
abbrev pub UncutTo : (ℕ → ℕ → Bool) → List ℕ → ℕ → ℕ → Type 0
UncutTo is_cut text last to = (k : ℕ) → k < to → k < last → is_cut (slice_index text k) (slice_index text (k + 1)) ≡ false

-- if there is no boundary after the first m characters of a block that begins at `at`, `UncutTo` holds up to
-- `at + m`
pub uncut_past : (is_cut : ℕ → ℕ → Bool) (text : List ℕ) (last at n m : ℕ) → m ≤ n → UncutTo is_cut text last at
    → ((k next : ℕ) → k < m → is_cut (slice_index (take n (drop at text)) k) next ≡ false) → UncutTo is_cut text last (at + m)
uncut_past is_cut text last at n m within before uncut k to inside = elim (cases_lt k at) [
  | inl below ↦ before k below inside
  | inr above ↦
      let there : at + (k - at) ≡ k = omega arith in
      let same = get_or-take n (drop at text) (k - at) 0 (omega arith) ∙ get_or-drop at text (k - at) 0 ∙ ap (λ i. get_or text i 0) there in
      subst (λ a. is_cut a (slice_index text (k + 1)) ≡ false) same (uncut (k - at) (slice_index text (k + 1)) (omega arith))
]

-- if there is no boundary after the character at `at`, `UncutTo` holds up to `at + 1`
pub uncut_next : (is_cut : ℕ → ℕ → Bool) (text : List ℕ) (last at : ℕ) → UncutTo is_cut text last at
    → (at < last → is_cut (slice_index text at) (slice_index text (at + 1)) ≡ false) → UncutTo is_cut text last (at + 1)
uncut_next is_cut text last at before here k to inside = elim (cases_lt k at) [
  | inl below ↦ before k below inside
  | inr above ↦
      let there : at ≡ k = omega arith in
      subst (λ i. is_cut (slice_index text i) (slice_index text (i + 1)) ≡ false) there (here (omega arith))
]

-- there is no boundary directly before the character at m, for m from 1 up to `to` and `last`
pub uncut_before : (is_cut : ℕ → ℕ → Bool) (text : List ℕ) (last to : ℕ) → UncutTo is_cut text last to
    → (m : ℕ) → 1 ≤ m → m ≤ to → m ≤ last → is_cut (slice_index text (m - 1)) (slice_index text m) ≡ false
uncut_before is_cut text last to uncut m from below inside =
    let there : m - 1 + 1 ≡ m = omega arith in
    subst (λ i. is_cut (slice_index text (m - 1)) (slice_index text i) ≡ false) there (uncut (m - 1) (omega arith) (omega arith))
