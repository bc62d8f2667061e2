-- Why opening a session on the bytes of a text fails.
use Rattle.std.proofs.Common.{◌≡◌, ℕ, ◌<◌, ◌==◌, Bool, true, false, List, length, Option, Some, None, nat_lt, refl, sym, ap, ◌∙◌, arith, if◌then◌else◌}
use Rattle.std.specs.Str.{chars}
use Rattle.std.specs.Str.Lossy.{utf8_valid_len}
use Rattle.std.proofs.lemmas.Bool.Decides.{nat_tests}
use Rattle.lines.specs.Layouts.{Rules, cut_by}
use Rattle.session.specs.Edits.{is_within_limit, text_refusal}
use Rattle.session.specs.Sessions.{IsAnswerFor, opening_refusal}
use Rattle.session.specs.declared.edits.EditFault.{EditFault}
use Rattle.session.specs.declared.edits.EditFault.TheVariants as e
use Rattle.tool.specs.Starts.{IsStartFault, start_fault}
use Rattle.session.specs.declared.edits.TheConstants.{TEXT_LIMIT}

-- whether a refusal concerns the width or a position, and not the text
abbrev is_width : Option EditFault → Bool
is_width (Some e.WidthOutOfRange) = true
is_width (Some e.OutOfRange) = true
is_width reason = false

module _ (rules : Rules) (bytes : List ℕ) (width : ℕ) (wide : 0 < width) (valid : utf8_valid_len bytes ≡ length bytes) where
  reason_is : opening_refusal (cut_by rules) (chars bytes) width ≡ text_refusal (cut_by rules) (chars bytes)
  reason_is =
      let isnt : (width == 0) ≡ false = grind (arith, nat_tests, wide) in
      ap (λ (b : Bool). if b then Some e.WidthOutOfRange else text_refusal (cut_by rules) (chars bytes)) isnt

  no_width : is_width (text_refusal (cut_by rules) (chars bytes)) ≡ false
  no_width = go (nat_lt TEXT_LIMIT (length (chars bytes))) (is_within_limit (cut_by rules) (chars bytes))
    where
      go : (long within : Bool) → is_width (if long then Some e.TextTooLong else (if within then None else Some e.ParagraphTooLong)) ≡ false
      go true within = refl
      go false true = refl
      go false false = refl

  pub start_fault_is : (fault : EditFault) → IsAnswerFor (opening_refusal (cut_by rules) (chars bytes) width) fault
      → (fault ≡ e.NoMemory → 0 < length (chars bytes)) → IsStartFault rules bytes (start_fault fault)
  start_fault_is e.TextTooLong reason some = (valid, sym reason_is ∙ reason)
  start_fault_is e.ParagraphTooLong reason some = (valid, sym reason_is ∙ reason)
  start_fault_is e.NoMemory reason some = (valid, sym reason_is ∙ reason, some refl)
  start_fault_is e.WidthOutOfRange reason some = let wrong : true ≡ false = ap is_width (sym (sym reason_is ∙ reason)) ∙ no_width in cc
  start_fault_is e.OutOfRange reason some = let wrong : true ≡ false = ap is_width (sym (sym reason_is ∙ reason)) ∙ no_width in cc
