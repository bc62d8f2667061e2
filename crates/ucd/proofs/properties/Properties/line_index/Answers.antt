use Rattle.ucd.specs.Bits.{line_answers_in, line_index_in}
use Rattle.ucd.proofs.properties.Properties.line_index.Goals as goal

pub returns-clause-index : goal.returns-clause-index
returns-clause-index c = rw (← c.self.view_is) (line_index_in c.self.inside.bits c.self.invariant)

pub returns-clause-answers : goal.returns-clause-answers
returns-clause-answers c = rw (← c.self.view_is) (line_answers_in c.self.inside.bits)
