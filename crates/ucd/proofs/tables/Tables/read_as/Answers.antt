use Rattle.std.proofs.Common.{◌∙◌, refl, ap, Some, unwrap_or}
use Rattle.ucd.specs.Grammar.{lines_of}
use Rattle.ucd.specs.Said.{category_by, line_class_by}
use Rattle.ucd.specs.Versions.{detail_by}
use Rattle.ucd.specs.declared.line_detail.LineDetail.TheVariants.{Plain}
use Rattle.ucd.proofs.FileClasses.{file_fits}
use Rattle.ucd.proofs.PagedLemmas.{value_singles, below_limit}
use Rattle.ucd.specs.Tables.{class_of, bracket_of, mirror_of, line_class_of, line_detail_of, is_wide_in, is_mark_in, is_future_pictograph_in}
use Rattle.ucd.proofs.tables.Tables.read_as.Goals as goal

-- the entries hold the values of the files, and the pages hold the values of the entries
pub returns-in-Ok-clause-ok : goal.returns-in-Ok-clause-ok
unfolding class_of bracket_of mirror_of line_class_of line_detail_of is_wide_in is_mark_in is_future_pictograph_in
returns-in-Ok-clause-ok c =
    let bidi_classes = c.in_ok-entries.ensures.bidi_classes in
    let brackets = c.in_ok-entries.ensures.brackets in
    let mirrors = c.in_ok-entries.ensures.mirrors in
    let line_classes = c.in_ok-entries.ensures.line_classes in
    let categories = c.in_ok-entries.ensures.categories in
    let widths = c.in_ok-entries.ensures.widths in
    let pictographs = c.in_ok-entries.ensures.pictographs in
    record {
      of_version = c.in-Ok.ensures.version;
      good = record {
        bidi_class = bidi_classes.good;
        bidi_brackets = brackets.good;
        bidi_mirroring = mirrors.good;
        line_break = line_classes.good;
        general_category = categories.good;
        east_asian_width = widths.good;
        emoji_data = pictographs.good;
      };
      say = λ x is. let same = c.in-Ok.ensures.say x is in record {
        bidi_class = same.bidi_class ∙ rw (bidi_classes.values x is) refl;
        bracket = same.bracket ∙ brackets.values x is;
        mirror = same.mirror ∙ rw (mirrors.values x is) refl;
        line_class = same.line_class ∙ rw (line_classes.values x is) refl;
        line_detail = same.line_detail ∙ ap (λ o. unwrap_or o Plain) (value_singles (λ i. Some (detail_by c.args.version (category_by c.in_ok-entries.entries i) (line_class_by c.in_ok-entries.entries i) i)) 1114112 x (below_limit x is)) ∙ rw (line_classes.values x is, categories.values x is) refl;
        is_wide = same.is_wide ∙ rw (widths.values x is) refl;
        is_mark = same.is_mark ∙ rw (categories.values x is) refl;
        is_future_pictograph = same.is_future_pictograph ∙ rw (pictographs.values x is, categories.values x is) refl;
      };
    }

-- the files assign no class that is missing in the version
pub of-tables-requires : goal.of-tables-requires
of-tables-requires c = λ x is. rw (c.in_ok-entries.ensures.line_classes.values x is) (file_fits c.args.version (lines_of c.args.files.now.line_break.now) x)
