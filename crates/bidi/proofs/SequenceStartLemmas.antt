-- The starts of the sequences, found run by run.
use Rattle.std.proofs.Common.{◌≡◌, ℕ, ◌+◌, ◌-◌, ◌<◌, Bool, List, [], ◌∷◌, ◌++◌, map, fold, refl, sym, subst, ◌∙◌, arith, append_assoc}
use Rattle.std.specs.List.{range_with_len}
use Rattle.std.proofs.lemmas.List.{append-nil}
use Rattle.ucd.specs.declared.bidi_class.BidiClass.{BidiClass}
use Rattle.ucd.specs.Within.{AreWithin}
use Rattle.bidi.specs.Runs.{sequence_at}
use Rattle.bidi.specs.Sequences.{sequences}
use Rattle.bidi.proofs.LevelLemmas.{Adds}
use Rattle.bidi.proofs.RunLemmas.{AreWithin-range}

abbrev pub append_one : List (List ℕ) → List ℕ → List (List ℕ)
append_one done sequence = done ++ sequence ∷ []

abbrev pub no_size : List (List ℕ) → ℕ
no_size done = 0

pub keeps_no_size : (done : List (List ℕ)) (sequence : List ℕ) → no_size (append_one done sequence) ≡ no_size done
keeps_no_size done sequence = refl

pub appended : (done more : List (List ℕ)) → fold append_one done more ≡ done ++ more
appended done [] = sym (append-nil done)
appended done (sequence ∷ more) = appended (append_one done sequence) more ∙ append_assoc done (sequence ∷ []) more

-- the sequences that begin before a run are those at `starts`
abbrev pub Begins : List BidiClass → List ℕ → ℕ → List Bool → List ℕ → Type 0
Begins classes levels start flags starts =
    Adds append_one no_size keeps_no_size [] (sequences classes levels) classes levels start flags (map (sequence_at classes levels) starts)

pub one_within : (len start : ℕ) (starts : List ℕ) → start < len → AreWithin len starts → AreWithin len (starts ++ start ∷ [])
one_within len start starts inside within =
    let one : start + 1 - start ≡ 1 = omega arith in
    subst (λ n. AreWithin len (starts ++ range_with_len start n)) one (AreWithin-range len start (start + 1) starts (omega arith) (omega arith) within)
