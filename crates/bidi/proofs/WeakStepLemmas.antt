-- The lists of types after each of W1 to W7, computed by passes that carry along what each rule looks back
-- at.
use Rattle.std.proofs.Common.{◌≡◌, ℕ, ◌≤◌, not, List, [], ◌++◌, drop, length, sym, ap, ◌∙◌}
use Rattle.std.proofs.lemmas.List.{append-nil, at_drop_all}
use Rattle.ucd.specs.declared.bidi_class.BidiClass.{BidiClass}
use Rattle.ucd.specs.declared.bidi_class.BidiClass.TheVariants.{ON}
use Rattle.ucd.specs.Classes.{is_nonspacing_mark, is_strong}
use Rattle.bidi.specs.Weak.{w1, w1_at, w2, w2_at, w4, w4_at, w5, w5_at, w7, w7_at}
use Rattle.bidi.specs.Waiting.{carry, digit_type, mark_type}
use Rattle.bidi.proofs.WeakLemmas.{any, carry-is, ends_row, left_type, separator_type, terminator_type, w1-by, w2-by, w4-by, w5-by, w7-by}

-- if no items remain, the results so far are the whole result
pub finished : {T U : Type 0} (rest : List T → List U) → rest [] ≡ [] → (done whole : List U) (items : List T) (k : ℕ)
    → length items ≤ k → done ++ rest (drop k items) ≡ whole → done ≡ whole
finished rest nil done whole items k past e =
    sym (append-nil done) ∙ ap (λ xs. done ++ xs) (sym nil) ∙ sym (at_drop_all (λ xs. done ++ rest xs) items k past) ∙ e

abbrev pub marked : BidiClass → List BidiClass → List BidiClass
marked = carry (λ before type after. mark_type before type) (λ type. not (is_nonspacing_mark type))

abbrev pub turned : BidiClass → List BidiClass → List BidiClass
turned = carry (λ strong type after. digit_type strong type) is_strong

abbrev pub joined : BidiClass → List BidiClass → List BidiClass
joined = carry separator_type any

abbrev pub ended : BidiClass → List BidiClass → List BidiClass
ended = carry terminator_type ends_row

abbrev pub lefts : BidiClass → List BidiClass → List BidiClass
lefts = carry left_type is_strong

pub w1_carried : (sos : BidiClass) (types : List BidiClass) → w1 sos types ≡ marked sos types
w1_carried sos types = carry-is (w1_at sos) (λ before type after. mark_type before type) (λ type. not (is_nonspacing_mark type)) sos (w1-by sos) [] types

pub w2_carried : (sos : BidiClass) (types : List BidiClass) → w2 sos types ≡ turned sos types
w2_carried sos types = carry-is (w2_at sos) (λ strong type after. digit_type strong type) is_strong sos (w2-by sos) [] types

pub w4_carried : (types : List BidiClass) → w4 types ≡ joined ON types
w4_carried types = carry-is w4_at separator_type any ON w4-by [] types

pub w5_carried : (types : List BidiClass) → w5 types ≡ ended ON types
w5_carried types = carry-is w5_at terminator_type ends_row ON w5-by [] types

pub w7_carried : (sos : BidiClass) (types : List BidiClass) → w7 sos types ≡ lefts sos types
w7_carried sos types = carry-is (w7_at sos) left_type is_strong sos (w7-by sos) [] types
