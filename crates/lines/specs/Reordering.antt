-- The visual order of a line's shown part, under the options of its layout.
use Rattle.std.specs.Prelude.{ℕ, Bool, ◌||◌, List, [], if◌then◌else◌}
use Rattle.reorder.specs.Clusters.{cluster_classes}
use Rattle.reorder.specs.Order.{ltov_of, vtol_of}
use Rattle.ucd.specs.declared.bidi_class.BidiClass.{BidiClass}
use Rattle.lines.specs.Clusters.{cluster_ends}
use Rattle.lines.specs.declared.options.Options.{Options}

-- whether a grapheme cluster ends after each character of a paragraph, or an empty list if lines are not
-- ordered by clusters
abbrev pub ends_by : Options → List ℕ → List Bool
ends_by options text = if options.reorder_clusters then cluster_ends text else []

module _ (options : Options) where
  -- whether L3 is applied, either to clusters or to nonspacing marks
  abbrev pub reorders : Bool
  reorders = options.reorder_clusters || options.reordernsm

  -- the classes that L3 uses: the bidi classes of the line or, with `reorder_clusters`, classes that encode the
  -- clusters, given where clusters end and the levels of the shown part
  abbrev pub classes_by : List BidiClass → List Bool → List ℕ → List BidiClass
  classes_by classes ends levels = if options.reorder_clusters then cluster_classes ends levels else classes

  -- the position maps of the shown part
  abbrev pub vtol_by : List BidiClass → List Bool → List ℕ → List ℕ
  vtol_by classes ends levels = vtol_of reorders (classes_by classes ends levels) levels

  abbrev pub ltov_by : List BidiClass → List Bool → List ℕ → List ℕ
  ltov_by classes ends levels = ltov_of reorders (classes_by classes ends levels) levels
