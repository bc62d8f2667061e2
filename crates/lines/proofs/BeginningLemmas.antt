-- Where the lines of a paragraph start.
use Rattle.std.proofs.Common.{◌≡◌, ℕ, ◌-◌, ◌<◌, Bool, Option, List, [], ◌∷◌, length, map, Some, refl, sym, ap, subst, ◌∙◌, arith}
use Rattle.std.specs.List.{slice_get}
use Rattle.std.proofs.lemmas.Option.{slice_get_within}
use Rattle.ucd.specs.declared.tables.Tables.{Tables}
use Rattle.bidi.specs.Levels.{levels_of}
use Rattle.breaks.specs.Marks.{marks_of}
use Rattle.breaks.specs.declared.mark.Mark.{Mark}
use Rattle.breaks.specs.declared.mark.Mark.TheVariants.{Must}
use Rattle.lines.specs.Beginnings.{BeginInOrder}
use Rattle.lines.specs.Clusters.{cluster_ends}
use Rattle.lines.specs.Filling.{line_starts_of}
use Rattle.lines.specs.Kept.{AreStarts}
use Rattle.lines.specs.Layouts.{Rules, base_of, lines_of, start_of}
use Rattle.lines.specs.CharInfos.{infos, infos_of}
use Rattle.lines.specs.ShownParts.{margin_of}
use Rattle.lines.specs.Tabs.{tab_width_in}
use Rattle.lines.specs.Visual.{lines_from}
use Rattle.lines.specs.declared.options.Options.{Options}
use Rattle.lines.specs.declared.char_info.CharInfo.{CharInfo}
use Rattle.lines.proofs.ClusterLemmas.{length-cluster_ends}
use Rattle.lines.proofs.SkippedLemmas.{length-infos}
use Rattle.lines.proofs.StayLemmas.{EndsAtMust}
use Rattle.lines.proofs.VisualLemmas.{starts_within}
use Rattle.lines.proofs.WidthLemmas.{length-sized}

pub starts_from : (tables : Tables) (options : Options) (margin : Option ℕ) (base : ℕ) (text levels : List ℕ) (ps : List CharInfo) (starts : List ℕ)
    → map start_of (lines_from tables options margin base text levels ps starts) ≡ starts
starts_from tables options margin base text levels ps [] = refl
starts_from tables options margin base text levels ps (s ∷ []) = refl
starts_from tables options margin base text levels ps (s ∷ t ∷ starts) = ap (λ ss. s ∷ ss) (starts_from tables options margin base text levels ps (t ∷ starts))

starts_at_0 : (nobreak : Bool) (width : ℕ) (ps : List CharInfo) → 0 < length ps → slice_get (line_starts_of nobreak width ps) 0 ≡ Some 0
unfolding line_starts_of
starts_at_0 nobreak width [] some = absurd (omega (arith, some))
starts_at_0 nobreak width (p ∷ ps) some = refl

some_infos : EndsAtMust → (rules : Rules) (text : List ℕ) → 0 < length text → 0 < length (infos_of rules.tables rules.options rules.advances text)
unfolding infos_of
some_infos law rules text some =
    let marks : List Mark = marks_of rules.tables rules.options.whole_numbers text in
    let few = slice_get_within marks (length text - 1) Must (law rules.tables rules.options.whole_numbers text some) in
    omega (
      arith,
      some,
      length-sized rules.advances (infos rules.tables (tab_width_in rules.tables rules.options) text marks (cluster_ends text)),
      length-infos rules.tables (tab_width_in rules.tables rules.options) text marks (cluster_ends text) (omega (arith, few)) (length-cluster_ends text),
    )

pub begin_in_order : EndsAtMust → (rules : Rules) (width : ℕ) (text : List ℕ) → BeginInOrder text (lines_of rules width text)
begin_in_order law rules width text =
    let ps : List CharInfo = infos_of rules.tables rules.options rules.advances text in
    let starts : List ℕ = line_starts_of rules.options.nobreak width ps in
    let are : map start_of (lines_of rules width text) ≡ starts = starts_from rules.tables rules.options (margin_of rules.options width) (base_of rules text) text (levels_of rules.tables text rules.options.base) ps starts in
    record {
      starts = subst (AreStarts (length text)) (sym are) (starts_within rules width text);
      first = λ some. ap (λ ss. slice_get ss 0) are ∙ starts_at_0 rules.options.nobreak width ps (some_infos law rules text some);
    }
