use Rattle.ucd.proofs.RisingLemmas.{rising_apart}
use Rattle.ucd.proofs.rising.RisingEntries.as_slice.Goals as goal

pub returns-clause-apart : goal.returns-clause-apart
returns-clause-apart g c = rw c.deref.ensures.value (rising_apart 0 c.self.inside.entries.items c.self.invariant)
