use Rattle.std.proofs.Common.{false, sym, ◌∙◌}
use Rattle.ucd.specs.declared.version.Version.TheVariants.{V15_0, V17_0}
use Rattle.breaks.proofs.WalkLemmas.{marks_read, whole_anyway}
use Rattle.breaks.proofs.mark.fill_all.Goals as goal

pub returns-in-V15_0 : goal.returns-in-V15_0
returns-in-V15_0 g c =
    c.fill_by.ensures ∙ marks_read V15_0 c.args.tables.now c.args.whole_numbers c.args.text.now _ (sym c.version.ensures ∙ c.in-V15_0.is) c.requires.characters

-- in 17.0, whole numbers have no effect
pub returns-in-V17_0 : goal.returns-in-V17_0
returns-in-V17_0 g c =
    let version = sym c.version.ensures ∙ c.in-V17_0.is in
    c.fill_all_17.ensures ∙ marks_read V17_0 c.args.tables.now false c.args.text.now _ version c.requires.characters
    ∙ sym (whole_anyway c.args.tables.now c.args.whole_numbers c.args.text.now version)
