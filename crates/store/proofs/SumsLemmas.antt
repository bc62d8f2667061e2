-- The sums of lists in each unit.
use Rattle.std.proofs.Common.{◌≡◌, ℕ, ◌+◌, ◌<◌, ◌^◌, List, ◌∷◌, ◌++◌, ◌-◌, ◌≤◌, slice_range, sum_by, arith}
use Rattle.std.proofs.lemmas.List.Sums.{sum_by-append, sum_by-cons}
use Rattle.std.specs.List.{splice, AllZip}
use Rattle.store.specs.Exchanging.{pairwise}
use Rattle.store.specs.Sums.{measure, part, AreSums, SumsFit}
use Rattle.store.specs.declared.measured.Measured.{Ghosts}
use Rattle.store.specs.declared.sums.Sums.{Sums}
use Rattle.store.specs.declared.sums.Unit.{Unit as Counted}
use Rattle.store.specs.declared.sums.Unit.TheVariants.{Char, Line, Byte, Utf16}
use Rattle.store.proofs.ExchangeLemmas.{same_sum}
use Rattle.store.proofs.ListLemmas.{range_within, sum_around_splice}

-- whether all sums fit in a `usize`
abbrev pub AreBounded : Sums → Type 0
AreBounded sums = (unit : Counted) → part sums unit < 2 ^ 64

-- whether these are the sizes of one item
abbrev pub AreSizes : {P : Type 0} → Ghosts P → P → Sums → Type 0
AreSizes G x sums = (unit : Counted) → part sums unit ≡ measure G unit x

-- whether `sums` is `a` plus `b` in each unit
abbrev pub AreAdded : Sums → Sums → Sums → Type 0
AreAdded a b sums = (unit : Counted) → part sums unit ≡ part a unit + part b unit

module _ {P : Type 0} (G : Ghosts P) where
  -- if the stored sums of a list fit in a `usize`, `SumsFit` holds for the list
  pub fit_by : (items : List P) (sums : Sums) → AreSums G items sums → AreBounded sums → SumsFit G items
  fit_by items sums are fit = record { each = λ (u : Counted). omega (arith, are.each u, fit u) }

  -- ---- the sums of a list that is split at item x
  module _ (xs : List P) (x : P) (ys : List P) (a b c d e : Sums) (front : AreSums G xs a) (one : AreSizes G x b) where
    pub first_fit : SumsFit G (xs ++ x ∷ ys) → (u : Counted) → part a u + part b u < 2 ^ 64
    first_fit all u = omega (arith, all.each u, front.each u, one u, sum_by-append (measure G u) xs (x ∷ ys), sum_by-cons (measure G u) x ys)

    pub all_fit : AreAdded a b c → AreSums G ys d → SumsFit G (xs ++ x ∷ ys) → (u : Counted) → part c u + part d u < 2 ^ 64
    all_fit first back all u =
        omega (arith, all.each u, front.each u, one u, first u, back.each u, sum_by-append (measure G u) xs (x ∷ ys), sum_by-cons (measure G u) x ys)

    pub all_are : AreAdded a b c → AreSums G ys d → AreAdded c d e → AreSums G (xs ++ x ∷ ys) e
    all_are first back both = record {
      each = λ (u : Counted). omega (arith, front.each u, one u, first u, back.each u, both u, sum_by-append (measure G u) xs (x ∷ ys), sum_by-cons (measure G u) x ys);
    }

  -- the sums fit after an exchange that changes only the number of lines
  module _ {Part : Type 0} (fits : P → Part → Type 0) (exchanged : P → Part → P) where
    abbrev pub Keeps : (P → ℕ) → Type 0
    Keeps size = (item : P) (p : Part) → fits item p → size (exchanged item p) ≡ size item

    pub fit_again : Keeps G.chars → Keeps G.bytes → Keeps G.utf16 → (items : List P) (parts : List Part) → AllZip fits items parts
        → sum_by G.lines (pairwise exchanged items parts) < 2 ^ 64 → SumsFit G items → SumsFit G (pairwise exchanged items parts)
    fit_again chars bytes utf16 items parts all lines fit = record {
      each = λ v. elim v as (λ u. sum_by (measure G u) (pairwise exchanged items parts) < 2 ^ 64) [
        | Char ↦ omega (arith, fit.each Char, same_sum fits G.chars exchanged chars items parts all)
        | Line ↦ lines
        | Byte ↦ omega (arith, fit.each Byte, same_sum fits G.bytes exchanged bytes items parts all)
        | Utf16 ↦ omega (arith, fit.each Utf16, same_sum fits G.utf16 exchanged utf16 items parts all)
      ];
    }

  -- ---- the sums after a replacement: the old ones, minus those of the replaced items, plus those of the new
  -- ones
  module _ (xs ys : List P) (i j : ℕ) (ordered : i ≤ j) (a b c d e : Sums) (kept : AreSums G xs a) (old : AreSums G (slice_range xs i j) b) where
    pub old_within : (u : Counted) → part b u ≤ part a u
    old_within u = omega (arith, kept.each u, old.each u, range_within (measure G u) xs i j ordered)

    pub new_fit : AreSums G ys c → ((u : Counted) → part d u ≡ part a u - part b u) → SumsFit G (splice xs i j ys) → (u : Counted) → part d u + part c u < 2 ^ 64
    new_fit new less fit u =
        omega (arith, fit.each u, kept.each u, old.each u, new.each u, less u, old_within u, sum_around_splice (measure G u) xs i j ys ordered)

    pub new_are : AreSums G ys c → ((u : Counted) → part d u ≡ part a u - part b u) → AreAdded d c e → AreSums G (splice xs i j ys) e
    new_are new less more = record {
      each = λ (u : Counted). omega (arith, kept.each u, old.each u, new.each u, less u, more u, old_within u, sum_around_splice (measure G u) xs i j ys ordered);
    }

  -- `SumsFit` follows from the bounds of the four units
  pub fit_each : (items : List P) → sum_by G.chars items < 2 ^ 64 → sum_by G.lines items < 2 ^ 64 → sum_by G.bytes items < 2 ^ 64 → sum_by G.utf16 items < 2 ^ 64
      → SumsFit G items
  fit_each items chars lines bytes utf16 = record {
    each = λ v. elim v as (λ u. sum_by (measure G u) items < 2 ^ 64) [ Char ↦ chars | Line ↦ lines | Byte ↦ bytes | Utf16 ↦ utf16 ];
  }
