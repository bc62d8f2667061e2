-- Without brackets, N0 changes nothing.
use Rattle.std.proofs.Common.{◌≡◌, ℕ, zero, suc, ◌<◌, ◌≤◌, nat_le, Bool, false, ◌&&◌, if◌then◌else◌, List, [], ◌∷◌, ◌++◌, length, map, fold, slice_index, count_by, Option, None, unwrap_or, refl, ap, ◌∙◌, arith}
use Rattle.std.specs.List.{range_with_len, All}
use Rattle.std.proofs.lemmas.Bool.{and_left, and_right, cond-false}
use Rattle.ucd.specs.declared.bidi_class.BidiClass.{BidiClass}
use Rattle.ucd.specs.declared.bracket.Bracket.{Bracket}
use Rattle.bidi.specs.Brackets.{brackets, closer_of, fits, greatest, is_live, is_closer, is_closing, is_full, is_opener, is_opening, is_other, pair_step, paired_with, pairs_before, pairs_of, resolve_pairs}
use Rattle.ucd.specs.Classes.{class_at}
use Rattle.ucd.specs.Least.{least}
use Rattle.ucd.specs.Classes.{is_nonspacing_mark}
use Rattle.bidi.proofs.LeastLemmas.{least_none}

no_steps : (embedding sos : BidiClass) (marks : List Bool) (places : List ℕ) (types : List BidiClass)
    → fold (λ current a. pair_step embedding sos marks current a (closer_of [] a)) types places ≡ types
no_steps embedding sos marks [] types = refl
no_steps embedding sos marks (a ∷ places) types = no_steps embedding sos marks places types

module _ (bracket : ℕ → Option Bracket) (characters : List ℕ) (types : List BidiClass) (none : All (λ c. bracket c ≡ None) characters) where
  no_opener : (i : ℕ) → i < length characters → is_opener bracket characters types i ≡ false
  no_opener i within = and_right (is_other (class_at types i)) (is_opening (bracket (slice_index characters i))) (ap is_opening (none i 0 within))

  no_closer : (i : ℕ) → i < length characters → is_closer bracket characters types i ≡ false
  no_closer i within = and_right (is_other (class_at types i)) (is_closing (bracket (slice_index characters i))) (ap is_closing (none i 0 within))

  no_pairs : (j : ℕ) → j ≤ length characters → pairs_before bracket characters types j ≡ []
  no_pairs zero within = refl
  no_pairs (suc j) within =
      ap (λ pairs. pairs ++ (if is_closer bracket characters types j then paired_with bracket characters types
      (greatest (λ i. is_live bracket characters types pairs i && fits bracket characters types i j) j) j else []))
      (no_pairs j (omega arith))
      ∙ cond-false (is_closer bracket characters types j)
      (paired_with bracket characters types
      (greatest (λ i. is_live bracket characters types [] i && fits bracket characters types i j) j) j) []
      (no_closer j (omega arith))

  pub brackets-none : (embedding sos : BidiClass) (explicit : List BidiClass) → length characters ≡ length types → brackets bracket embedding sos characters explicit types ≡ types
  brackets-none embedding sos explicit sizes =
      let full : least (is_full bracket characters types) 0 (length types) ≡ None =
      least_none (is_full bracket characters types) 0 (length types) (λ m above below.
      and_left (is_opener bracket characters types m)
      (nat_le 63 (count_by (is_live bracket characters types (pairs_before bracket characters types m))
      (range_with_len 0 m))) (no_opener m (omega arith))) in
      let pairs : pairs_of bracket characters types ≡ [] =
      ap (λ o. pairs_before bracket characters types (unwrap_or o (length types))) full ∙ no_pairs (length types) (omega arith) in
      ap (λ ps. resolve_pairs embedding sos (map is_nonspacing_mark explicit) (closer_of ps) types) pairs
      ∙ no_steps embedding sos (map is_nonspacing_mark explicit) (range_with_len 0 (length types)) types
