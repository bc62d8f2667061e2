use Rattle.std.proofs.Common.{◌∙◌, ap, sym, arith}
use Rattle.std.specs.Str.Lossy.{utf8_error_len}
use Rattle.std.proofs.lemmas.List.{drop_all}
use Rattle.std.proofs.lemmas.Str.{utf8_valid_len-IsUtf8}
use Rattle.stream.proofs.Utf8Lemmas.{utf8_error_len-nil, whole_text}
use Rattle.terminal.proofs.decoding.valid_prefix.Goals as goal

pub returns-in-Ok : goal.returns-in-Ok
returns-in-Ok c =
    let bytes = c.args.bytes.now in
    let utf8 = c.in-Ok.ensures.cases.1 in
    record {
      text_is = c.in-Ok.ensures.cases.0 ∙ sym (whole_text bytes utf8);
      error_is = sym (ap utf8_error_len (drop_all _ bytes (omega (arith, utf8_valid_len-IsUtf8 bytes utf8))) ∙ utf8_error_len-nil);
      few = λ _. omega (arith, utf8_valid_len-IsUtf8 bytes utf8);
    }
