-- The visual order of a line, given the options of its layout.
use Rattle.std.proofs.Common.{◌≡◌, ℕ, ◌-◌, ◌≤◌, Bool, true, false, ◌||◌, List, [], length, map, take, drop, sym, ap, ap₂, ◌∙◌, inl, inr, arith}
use Rattle.std.specs.Prelude.{min, slice_range, if◌then◌else◌}
use Rattle.std.proofs.lemmas.Bool.{cases_Bool, cases_lt}
use Rattle.std.proofs.lemmas.List.{drop_all, length-drop, length-map, take_all}
use Rattle.reorder.specs.Clusters.{cluster_classes}
use Rattle.reorder.specs.Order.{ltov_of, order_of, vtol_of}
use Rattle.reorder.proofs.ClusterLemmas.{length-cluster_classes}
use Rattle.ucd.specs.Classes.{class_in}
use Rattle.ucd.specs.Properties.{properties_of}
use Rattle.ucd.specs.declared.bidi_class.BidiClass.{BidiClass}
use Rattle.ucd.specs.declared.properties.Properties.{Properties}
use Rattle.ucd.specs.declared.tables.Tables.{Tables}
use Rattle.lines.specs.Clusters.{cluster_ends}
use Rattle.lines.specs.Reordering.{classes_by, ends_by, ltov_by, vtol_by, reorders}
use Rattle.lines.specs.declared.options.Options.{Options}
use Rattle.lines.proofs.ClusterLemmas.{length-cluster_ends}

module _ (options : Options) (classes : List BidiClass) (ends : List Bool) (levels : List ℕ) where
  abbrev asked : Bool → Bool
  asked clusters = clusters || options.reordernsm

  abbrev given : Bool → List BidiClass
  given clusters = if clusters then cluster_classes ends levels else classes

  pub clusters_vtol : options.reorder_clusters ≡ true → vtol_of true (cluster_classes ends levels) levels ≡ vtol_by options classes ends levels
  clusters_vtol on = ap (λ b. vtol_of (asked b) (given b) levels) (sym on)

  pub clusters_ltov : options.reorder_clusters ≡ true → ltov_of true (cluster_classes ends levels) levels ≡ ltov_by options classes ends levels
  clusters_ltov on = ap (λ b. ltov_of (asked b) (given b) levels) (sym on)

  pub marks_vtol : options.reorder_clusters ≡ false → vtol_of options.reordernsm classes levels ≡ vtol_by options classes ends levels
  marks_vtol off = ap (λ b. vtol_of (asked b) (given b) levels) (sym off)

  pub marks_ltov : options.reorder_clusters ≡ false → ltov_of options.reordernsm classes levels ≡ ltov_by options classes ends levels
  marks_ltov off = ap (λ b. ltov_of (asked b) (given b) levels) (sym off)

  pub not_reordered : reorders options ≡ false → order_of levels ≡ vtol_by options classes ends levels
  unfolding vtol_of
  not_reordered off = ap (λ b. vtol_of b (classes_by options classes ends levels) levels) (sym off)

-- clipping a range to the length of a list does not change the items in the range
pub cut_range : {X : Type 0} (xs : List X) (s e : ℕ) → s ≤ e → slice_range xs (min s (length xs)) (min e (length xs)) ≡ slice_range xs s e
cut_range xs s e order =
    let n : ℕ = length xs in
    elim (cases_lt n s) [
      | inl past ↦
          let from : min s n ≡ n = omega (arith, past) in
          let to : min e n ≡ n = omega (arith, past, order) in
          let none : n - n ≡ 0 = omega arith in
          ap₂ (λ (a b : ℕ). slice_range xs a b) from to ∙ ap (λ (k : ℕ). take k (drop n xs)) none
          ∙ sym (ap (take (e - s)) (drop_all s xs (omega (arith, past))) ∙ take_all (e - s) [] (omega arith))
      | inr low ↦
          let from : min s n ≡ s = omega (arith, low) in
          elim (cases_lt n e) [
            | inl past ↦
                let to : min e n ≡ n = omega (arith, past) in
                ap₂ (λ (a b : ℕ). slice_range xs a b) from to
                ∙ take_all (n - s) (drop s xs) (omega (arith, length-drop s xs))
                ∙ sym (take_all (e - s) (drop s xs) (omega (arith, length-drop s xs, past)))
            | inr within ↦
                let to : min e n ≡ e = omega (arith, within) in
                ap₂ (λ (a b : ℕ). slice_range xs a b) from to
          ]
    ]

-- a paragraph has at most as many cluster ends as characters
pub length-ends_by : (options : Options) (text : List ℕ) → length (ends_by options text) ≤ length text
length-ends_by options text =
    let size : Bool → ℕ = λ b. length (if b then cluster_ends text else []) in
    elim (cases_Bool options.reorder_clusters) [
      | inl on ↦ let e : size options.reorder_clusters ≡ size true = ap size on in omega (arith, e, length-cluster_ends text)
      | inr off ↦ let e : size options.reorder_clusters ≡ size false = ap size off in omega (arith, e)
    ]

pub all_ends : (options : Options) (text : List ℕ) → slice_range (ends_by options text) 0 (length text) ≡ ends_by options text
all_ends options text = take_all (length text - 0) (ends_by options text) (omega (arith, length-ends_by options text))

-- L3 has a class for each character of the shown part
pub length-classes_by : (options : Options) (classes : List BidiClass) (ends : List Bool) (levels : List ℕ) → length levels ≤ length classes
    → length levels ≤ length (classes_by options classes ends levels)
length-classes_by options classes ends levels fit =
    let size : Bool → ℕ = λ b. length (if b then cluster_classes ends levels else classes) in
    elim (cases_Bool options.reorder_clusters) [
      | inl on ↦ let e : size options.reorder_clusters ≡ size true = ap size on in omega (arith, e, length-cluster_classes ends levels)
      | inr off ↦ let e : size options.reorder_clusters ≡ size false = ap size off in omega (arith, e, fit)
    ]

-- a line has properties for each character of its shown part
pub within_properties : (levels : List ℕ) (tables : Tables) (text : List ℕ) (properties : List Properties) → properties ≡ map (properties_of tables) text → length levels ≤ length text
    → length levels ≤ length (map class_in properties)
within_properties levels tables text properties are fit =
    omega (arith, fit, length-map properties class_in, length-map text (properties_of tables), ap length are)
