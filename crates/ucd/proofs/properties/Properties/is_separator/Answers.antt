use Rattle.std.proofs.Common.{◌%◌, ◌∙◌, ap, arith}
use Rattle.std.proofs.lemmas.Bool.Decides.{nat_tests}
use Rattle.ucd.specs.Bits.{separator_at}
use Rattle.ucd.proofs.properties.Properties.is_separator.Goals as goal

pub returns-clause-no : goal.returns-clause-no
returns-clause-no c isnt is =
    let here = separator_at (c.self.inside.bits % 32) c.self.invariant.bidi (ap (λ a. a.bidi_class) c.self.view_is ∙ is) in
    grind (arith, nat_tests)
