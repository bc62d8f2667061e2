use Rattle.std.proofs.Common.{sym, subst}
use Rattle.ucd.specs.DistinctPages.{IsEntryOf}
use Rattle.ucd.proofs.ImageTables.{bits_entry}
use Rattle.ucd.proofs.properties.Properties.bits.Goals as goal

pub returns-clause-valid : goal.returns-clause-valid
returns-clause-valid c = λ version is. bits_entry version c.self.inside.bits c.self.invariant (subst (IsEntryOf version) (sym c.self.view_is) is)
