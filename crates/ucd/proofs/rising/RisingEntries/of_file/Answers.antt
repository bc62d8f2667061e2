use Rattle.std.proofs.Common.{refl}
use Rattle.ucd.specs.Grammar.{lines_of}
use Rattle.ucd.proofs.RisingLemmas.{holds_sorted}
use Rattle.ucd.proofs.rising.RisingEntries.of_file.Goals as goal

pub returns : goal.returns
returns g c =
    holds_sorted (g.V.Property.form c.args.version) (lines_of c.args.file.now) c.in-Ok.entries.items c.sort_by_key.new.self.items
    c.in-Ok.ensures.entries (c.in-Ok.ensures.read refl) c.sort_by_key.ensures.permutation
    (rw c.deref.ensures.value at (c.are_rising.ensures.yes c.if-not-are_rising.false))
