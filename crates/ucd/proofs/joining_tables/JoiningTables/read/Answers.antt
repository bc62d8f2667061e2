use Rattle.std.proofs.Common.{◌≡◌, ◌∙◌, ap, inl, inr, nat_lt, None, true, false, refl, sym, arith}
use Rattle.std.proofs.lemmas.Bool.{cases_lt}
use Rattle.std.proofs.lemmas.Bool.Decides.{nat_tests}
use Rattle.std.proofs.lemmas.List.{get_or_past}
use Rattle.ucd.specs.Brackets.{scalar_only}
use Rattle.ucd.specs.Forms.{form_key}
use Rattle.ucd.specs.JoiningFiles.{type_from, value_in}
use Rattle.ucd.specs.JoiningTables.{data_of, joining_type_of, presentation_form_of, shaping_of}
use Rattle.ucd.proofs.joining_tables.JoiningTables.read.Goals as goal

pub returns-in-Ok-clause-ok : goal.returns-in-Ok-clause-ok
unfolding joining_type_of presentation_form_of
returns-in-Ok-clause-ok c =
    let one = c.in_ok-arabic_shaping.ensures.ok in
    let other = c.in_ok-unicode_data.ensures.ok in
    let shaping = c.in_ok-arabic_shaping.arabic_shaping in
    let unicode = c.in_ok-unicode_data.unicode_data in
    record {
      good_shaping = one.good;
      good_data = other.good;
      joining_type = λ x. elim (cases_lt x 1114112) [
        | inl below ↦
            let is : nat_lt x 1114112 ≡ true = grind (arith, nat_tests) in
            rw is (c.in-Ok.ensures x below ∙ rw (c.deref.ensures.value, c.deref-2.ensures.value, one.types x, other.types x) refl)
        | inr from ↦
            let is : nat_lt x 1114112 ≡ false = grind (arith, nat_tests) in
            let no_shaping : value_in type_from (shaping_of c.args.files.now) x ≡ None = sym (one.types x) ∙ get_or_past shaping.types.items x None (omega (arith, shaping.sized)) in
            let no_data : value_in type_from (data_of c.args.files.now) x ≡ None = sym (other.types x) ∙ get_or_past unicode.types.items x None (omega (arith, unicode.sized)) in
            rw (is, no_shaping, no_data) refl
      ];
      presentation_form = λ form x. ap scalar_only (other.forms (form_key form x));
    }
