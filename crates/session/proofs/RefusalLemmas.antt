-- Why a text or an edit is refused.
use Rattle.std.proofs.Common.{◌≡◌, ℕ, ◌+◌, ◌-◌, ◌<◌, ◌≤◌, Bool, true, false, List, length, Option, Some, None, nat_lt, if◌then◌else◌, refl, ◌∙◌}
use Rattle.bidi.specs.Cuts.{paragraphs}
use Rattle.std.proofs.lemmas.Bool.{cond-true, cond-false, lt-ltb, le-ltb, ltb-false}
use Rattle.session.specs.Edits.{Replacement, advances_after, content_refusal, paragraphs_refusal, replaced, replacing, refusal, room_refusal, is_within_limit}
use Rattle.session.specs.declared.edits.EditFault.{EditFault}
use Rattle.session.specs.declared.edits.EditFault.TheVariants.{OutOfRange, TextTooLong, ParagraphTooLong}
use Rattle.session.proofs.ReplacementLemmas.{length-replaced_text}
use Rattle.session.specs.declared.edits.TheConstants.{TEXT_LIMIT}

record AreAllowed (long within : Bool) (room : Option EditFault) : Type 0 where
  short : long ≡ false
  are_within : within ≡ true
  roomy : room ≡ None

content_refusal_parts : (long within : Bool) (room : Option EditFault) → (if long then Some TextTooLong else (if within then room else Some ParagraphTooLong)) ≡ None → AreAllowed long within room
content_refusal_parts true within room h = absurd (cc h)
content_refusal_parts false true room h = record { short = refl; are_within = refl; roomy = h }
content_refusal_parts false false room h = absurd (cc h)

-- the paragraphs of a text are not refused if their lengths and their advances are within the limits
pub refusal-none : (is_cut : ℕ → ℕ → Bool) (advances : Option (List ℕ)) (text : List ℕ) → is_within_limit is_cut text ≡ true → room_refusal advances (paragraphs is_cut text) ≡ None
    → paragraphs_refusal is_cut advances text ≡ None
refusal-none is_cut advances text within room =
    cond-true (is_within_limit is_cut text) (room_refusal advances (paragraphs is_cut text)) (Some ParagraphTooLong) within ∙ room

paragraphs_parts : (within : Bool) (room : Option EditFault) → (if within then room else Some ParagraphTooLong) ≡ None → AreAllowed false within room
paragraphs_parts true room h = record { short = refl; are_within = refl; roomy = h }
paragraphs_parts false room h = absurd (cc h)

pub refusal-within : (is_cut : ℕ → ℕ → Bool) (advances : Option (List ℕ)) (text : List ℕ) → paragraphs_refusal is_cut advances text ≡ None → is_within_limit is_cut text ≡ true
refusal-within is_cut advances text h = (paragraphs_parts (is_within_limit is_cut text) (room_refusal advances (paragraphs is_cut text)) h).are_within

pub refusal-room : (is_cut : ℕ → ℕ → Bool) (advances : Option (List ℕ)) (text : List ℕ) → paragraphs_refusal is_cut advances text ≡ None
    → room_refusal advances (paragraphs is_cut text) ≡ None
refusal-room is_cut advances text h = (paragraphs_parts (is_within_limit is_cut text) (room_refusal advances (paragraphs is_cut text)) h).roomy

module _ (is_cut : ℕ → ℕ → Bool) (advances : Option (List ℕ)) where
  allowed-parts : (text : List ℕ) → content_refusal is_cut advances text ≡ None
      → AreAllowed (nat_lt TEXT_LIMIT (length text)) (is_within_limit is_cut text) (room_refusal advances (paragraphs is_cut text))
  allowed-parts text h = content_refusal_parts (nat_lt TEXT_LIMIT (length text)) (is_within_limit is_cut text) (room_refusal advances (paragraphs is_cut text)) h

  pub allowed-length : (text : List ℕ) → content_refusal is_cut advances text ≡ None → length text ≤ TEXT_LIMIT
  allowed-length text h = ltb-false TEXT_LIMIT (length text) (allowed-parts text h).short

  pub allowed-within_limit : (text : List ℕ) → content_refusal is_cut advances text ≡ None → is_within_limit is_cut text ≡ true
  allowed-within_limit text h = (allowed-parts text h).are_within

  pub allowed-room : (text : List ℕ) → content_refusal is_cut advances text ≡ None → room_refusal advances (paragraphs is_cut text) ≡ None
  allowed-room text h = (allowed-parts text h).roomy

  pub text_refusal-long : (text : List ℕ) → TEXT_LIMIT < length text → content_refusal is_cut advances text ≡ Some TextTooLong
  text_refusal-long text long =
      cond-true (nat_lt TEXT_LIMIT (length text)) (Some TextTooLong) (paragraphs_refusal is_cut advances text) (lt-ltb TEXT_LIMIT (length text) long)

  pub text_refusal-short : (text : List ℕ) → length text ≤ TEXT_LIMIT → content_refusal is_cut advances text ≡ paragraphs_refusal is_cut advances text
  text_refusal-short text short =
      cond-false (nat_lt TEXT_LIMIT (length text)) (Some TextTooLong) (paragraphs_refusal is_cut advances text) (le-ltb TEXT_LIMIT (length text) short)

  pub refusal-inside : (text : List ℕ) (edit : Replacement) → edit.pos + edit.count ≤ length text
      → refusal is_cut advances text edit ≡ content_refusal is_cut (advances_after advances edit) (replaced text edit)
  refusal-inside text edit within =
      cond-false (nat_lt (length text) (edit.pos + edit.count)) (Some OutOfRange) (content_refusal is_cut (advances_after advances edit) (replaced text edit))
      (le-ltb (length text) (edit.pos + edit.count) within)

-- an edit inside the text is refused if the new text is too long
pub refusal-too_long : (is_cut : ℕ → ℕ → Bool) (advances : Option (List ℕ)) (text piece : List ℕ) (pos count : ℕ) → pos + count ≤ length text → TEXT_LIMIT < length text - count + length piece
    → refusal is_cut advances text (replacing pos count piece) ≡ Some TextTooLong
refusal-too_long is_cut advances text piece pos count within long =
    let edit = replacing pos count piece in
    refusal-inside is_cut advances text edit within
    ∙ text_refusal-long is_cut (advances_after advances edit) (replaced text edit) (rw (length-replaced_text text piece pos count within) long)
