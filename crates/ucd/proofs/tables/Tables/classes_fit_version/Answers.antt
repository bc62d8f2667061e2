use Rattle.std.proofs.Common.{◌<◌, subst}
use Rattle.std.specs.Arc.{arc_value}
use Rattle.ucd.specs.Answers.{line_number}
use Rattle.ucd.specs.LineSeparators.{contents_if}
use Rattle.ucd.specs.Properties.{properties_of}
use Rattle.ucd.specs.Tables.{line_class_of, line_detail_of}
use Rattle.ucd.specs.Versions.{IsOfVersion, number_count}
use Rattle.ucd.specs.declared.tables.Tables.{Tables}
use Rattle.ucd.proofs.LineLemmas.{version_if, line_class_if, line_detail_if}
use Rattle.ucd.proofs.VersionLemmas.{number_plain}
use Rattle.ucd.proofs.tables.Tables.classes_fit_version.Goals as goal

pub returns : goal.returns
unfolding line_class_of line_detail_of
returns c = λ is x lt.
    let separates = c.self.inside.separates_lines in
    let t : Tables = arc_value c.self.inside.shared in
    let shared : line_number (line_class_of t x) (line_detail_of t x) < number_count t.version =
    subst (λ (u : Tables). IsOfVersion u.version (properties_of u x)) c.deref.ensures (c.properties_fit_version.ensures x lt) in
    let changed : IsOfVersion (contents_if separates t).version (properties_of (contents_if separates t) x) =
    rw (version_if separates t, line_class_if separates t x, line_detail_if separates t x) shared in
    let fits : IsOfVersion c.args.self.now.version (properties_of c.args.self.now x) =
    subst (λ (u : Tables). IsOfVersion u.version (properties_of u x)) c.self.view_is changed in
    number_plain (line_class_of c.args.self.now x) (line_detail_of c.args.self.now x)
    (subst (λ v. line_number (line_class_of c.args.self.now x) (line_detail_of c.args.self.now x) < number_count v) is fits)
