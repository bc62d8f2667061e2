use Rattle.std.proofs.Common.{◌≡◌, ◌%◌, ◌/◌, ◌==◌, ◌∙◌, ap, sym, arith, false}
use Rattle.std.proofs.lemmas.Bool.Decides.{nat_tests}
use Rattle.ucd.specs.Bits.{separator_at}
use Rattle.ucd.proofs.properties.Properties.is_ordinary.Goals as goal

pub returns : goal.returns
returns c is =
    let bits = c.self.inside.bits in
    let bracket : (bits / 32 % 2 == 1) ≡ false = grind (arith, nat_tests) in
    let mirror : (bits / 64 % 2 == 1) ≡ false = grind (arith, nat_tests) in
    record {
      separator = λ class.
          let here = separator_at (bits % 32) c.self.invariant.bidi (ap (λ a. a.bidi_class) c.self.view_is ∙ class) in
          grind (arith, nat_tests);
      bracket = ap (λ a. a.has_bracket) (sym c.self.view_is) ∙ bracket;
      mirror = ap (λ a. a.has_mirror) (sym c.self.view_is) ∙ mirror;
    }
