use Rattle.std.proofs.Common.{subst}
use Rattle.ucd.specs.Versions.{IsOfVersion}
use Rattle.ucd.proofs.PagedLemmas.{properties_are}
use Rattle.ucd.proofs.paged.PagedTables.properties_fit_version.Goals as goal

pub returns : goal.returns
returns c = λ x lt.
    let pages = c.self.inside.pages in
    rw (← c.self.view_is) (subst (IsOfVersion c.self.inside.version) (properties_are c.self.inside.version pages.index.items pages.entries.items c.self.inside.brackets c.self.inside.mirrors x lt c.self.invariant)
    (c.self.invariant.entry x lt).number)
