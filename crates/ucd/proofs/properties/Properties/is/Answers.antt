use Rattle.std.proofs.Common.{◌∙◌, ap, sym}
use Rattle.std.proofs.lemmas.Bool.{eq-eqb}
use Rattle.ucd.specs.Answers.{bits_of}
use Rattle.ucd.specs.Bits.{bits_of-answers_in}
use Rattle.ucd.proofs.properties.Properties.is.Goals as goal

pub returns-clause-all : goal.returns-clause-all
returns-clause-all c are = eq-eqb c.self.inside.bits c.other.inside.bits (
    sym (bits_of-answers_in c.self.inside.bits c.self.invariant)
    ∙ ap bits_of (c.self.view_is ∙ are ∙ sym c.other.view_is)
    ∙ bits_of-answers_in c.other.inside.bits c.other.invariant)
