-- Examples of what N0 does with each character.
use Rattle.std.proofs.Common.{◌≡◌, ℕ, ◌++◌, ◌==◌, true, false, List, [], ◌∷◌, Option, Some, None, map, if◌then◌else◌, refl}
use Rattle.std.specs.List.{repeat}
use Rattle.ucd.specs.declared.bidi_class.BidiClass.{BidiClass}
use Rattle.ucd.specs.declared.bidi_class.BidiClass.TheVariants.{L, R, WS, ON, NSM}
use Rattle.ucd.specs.declared.bracket.Bracket.{Bracket}
use Rattle.bidi.specs.BracketSteps.{bracket_steps}
use Rattle.bidi.specs.declared.bracket_steps.BracketCase.{BracketCase}
use Rattle.bidi.specs.declared.bracket_steps.BracketCase.TheVariants.{B, C1, C2, D, NotOther, NoMatch, PastLimit}
use Rattle.bidi.specs.declared.bracket_steps.BracketStep.{BracketStep}
use Rattle.bidi.specs.Weak.{weak}

-- the brackets of the examples: parentheses and angle brackets
abbrev bracket : ℕ → Option Bracket
bracket c =
    if c == 40 then Some (record { pair = 41; opens = true })
    else (if c == 41 then Some (record { pair = 40; opens = false })
    else (if c == 0x2329 then Some (record { pair = 0x232A; opens = true })
    else (if c == 0x3009 then Some (record { pair = 0x3008; opens = false }) else None)))

abbrev class : ℕ → BidiClass
class c = if c == 97 then L else (if c == 1488 then R else (if c == 32 then WS else (if c == 768 then NSM else ON)))

abbrev steps : BidiClass → BidiClass → List ℕ → List BracketStep
steps embedding sos text = bracket_steps bracket embedding sos text (map class text) (weak sos (map class text))

abbrev plain : BracketStep
plain = record { case = None; partner = None; inside = None }

abbrev paired : BracketCase → ℕ → Option ℕ → BracketStep
paired case partner inside = record { case = Some case; partner = Some partner; inside = inside }

abbrev unpaired : BracketCase → BracketStep
unpaired case = record { case = Some case; partner = None; inside = None }

abbrev mark_of : ℕ → BracketStep
mark_of partner = record { case = None; partner = Some partner; inside = None }

row_embedding : steps L L (1488 ∷ 40 ∷ 1488 ∷ 97 ∷ 41 ∷ []) ≡ plain ∷ paired B 4 (Some 3) ∷ plain ∷ plain ∷ paired B 1 (Some 3) ∷ []
row_embedding = refl

row_opposite : steps L L (1488 ∷ 40 ∷ 32 ∷ 1488 ∷ 41 ∷ []) ≡ plain ∷ paired C1 4 (Some 3) ∷ plain ∷ plain ∷ paired C1 1 (Some 3) ∷ []
row_opposite = refl

row_context : steps L L (97 ∷ 40 ∷ 1488 ∷ 41 ∷ []) ≡ plain ∷ paired C2 3 (Some 2) ∷ plain ∷ paired C2 1 (Some 2) ∷ []
row_context = refl

row_start : steps R L (40 ∷ 97 ∷ 41 ∷ []) ≡ paired C1 2 (Some 1) ∷ plain ∷ paired C1 0 (Some 1) ∷ []
row_start = refl

row_empty : steps L L (97 ∷ 40 ∷ 32 ∷ 41 ∷ 768 ∷ []) ≡ plain ∷ paired D 3 None ∷ plain ∷ paired D 1 None ∷ plain ∷ []
row_empty = refl

-- the inner pair is resolved after the outer one, which is then its context
row_nested : steps R R (97 ∷ 40 ∷ 40 ∷ 97 ∷ 41 ∷ 1488 ∷ 41 ∷ [])
    ≡ plain ∷ paired B 6 (Some 5) ∷ paired C2 4 (Some 3) ∷ plain ∷ paired C2 2 (Some 3) ∷ plain ∷ paired B 1 (Some 5) ∷ []
row_nested = refl

row_unmatched : steps L L (41 ∷ 40 ∷ 97 ∷ []) ≡ unpaired NoMatch ∷ unpaired NoMatch ∷ plain ∷ []
row_unmatched = refl

-- an opening bracket that a pair closes over has no match
row_covered : steps L L (40 ∷ 0x2329 ∷ 97 ∷ 41 ∷ 0x3009 ∷ []) ≡ paired B 3 (Some 2) ∷ unpaired NoMatch ∷ plain ∷ paired B 0 (Some 2) ∷ unpaired NoMatch ∷ []
row_covered = refl

row_angles : steps L L (0x2329 ∷ 97 ∷ 0x3009 ∷ []) ≡ paired B 2 (Some 1) ∷ plain ∷ paired B 0 (Some 1) ∷ []
row_angles = refl

-- in an override, the types of brackets are not ON
row_other : bracket_steps bracket L L (40 ∷ 97 ∷ 41 ∷ []) (L ∷ L ∷ L ∷ []) (L ∷ L ∷ L ∷ []) ≡ unpaired NotOther ∷ plain ∷ unpaired NotOther ∷ []
row_other = refl

row_marks : steps L L (40 ∷ 768 ∷ 768 ∷ 97 ∷ 768 ∷ 41 ∷ 768 ∷ 97 ∷ [])
    ≡ paired B 5 (Some 3) ∷ mark_of 0 ∷ mark_of 0 ∷ plain ∷ plain ∷ paired B 0 (Some 3) ∷ mark_of 5 ∷ plain ∷ []
row_marks = refl

-- the 64th bracket is past the limit, and so are the 63 before it and the bracket after it
row_limit : steps L L (40 ∷ 41 ∷ 41 ∷ repeat 64 (40 ∷ []) ++ 41 ∷ [])
    ≡ paired D 1 None ∷ paired D 0 None ∷ unpaired NoMatch ∷ repeat 65 (unpaired PastLimit ∷ [])
row_limit = refl
