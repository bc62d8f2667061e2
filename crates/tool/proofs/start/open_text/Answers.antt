use Rattle.std.proofs.Common.{◌≡◌, ℕ, ◌<◌, List, length, subst, ap, ◌∙◌, arith}
use Rattle.std.specs.Str.{chars}
use Rattle.std.specs.Str.Lossy.{utf8_valid_len}
use Rattle.std.proofs.lemmas.List.{length-take-le, take_all}
use Rattle.std.proofs.lemmas.Str.{utf8_valid_len_le}
use Rattle.lines.specs.Engine.{rules_of}
use Rattle.lines.specs.Layouts.{cut_by}
use Rattle.session.specs.Sessions.{IsAnswerFor, Opens, opening_refusal}
use Rattle.tool.proofs.StartLemmas.{start_fault_is}
use Rattle.tool.proofs.start.open_text.Goals as goal

pub returns-in-Ok-clause-ok : goal.returns-in-Ok-clause-ok
returns-in-Ok-clause-ok g c =
    let bytes = c.args.bytes.now in
    let valid : utf8_valid_len bytes
    ≡ length bytes = omega (
      arith,
      utf8_valid_len_le bytes,
      ap length c.front.ensures.text,
      length-take-le
          (utf8_valid_len bytes) bytes (utf8_valid_len_le bytes),
      c.if-text-bytes.false,
    ) in
    let text = c.front.ensures.text ∙ take_all (utf8_valid_len bytes) bytes (omega (arith, valid)) in
    record { valid = valid; opens = subst (λ (t : List ℕ). Opens c.args.engine (chars t) c.args.width c.in-Ok.session) text c.in-Ok.ensures.ok }

pub returns-clause-err : goal.returns-clause-err
returns-clause-err g c =
    let bytes = c.args.bytes.now in
    let valid : utf8_valid_len bytes
    ≡ length bytes = omega (
      arith,
      utf8_valid_len_le bytes,
      ap length c.front.ensures.text,
      length-take-le
          (utf8_valid_len bytes) bytes (utf8_valid_len_le bytes),
      c.if-text-bytes.false,
    ) in
    let text = c.front.ensures.text ∙ take_all (utf8_valid_len bytes) bytes (omega (arith, valid)) in
    let rules = rules_of c.args.engine in
    let reason = subst (λ (t : List ℕ). IsAnswerFor (opening_refusal (cut_by rules) (chars t) c.args.width) c.in-Err.fault) text c.in-Err.ensures.err.reason_is in
    rw c.start_fault.ensures (start_fault_is rules bytes c.args.width c.requires valid c.in-Err.fault reason
    (λ wants. subst (λ (t : List ℕ). 0 < length (chars t)) text (c.in-Err.ensures.memory wants)))
