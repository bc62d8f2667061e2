-- The paragraphs, layouts and printed bytes of a text that is split at a paragraph boundary are those of its
-- two parts.
use Rattle.std.proofs.Common.{◌≡◌, ◌∙◌, ℕ, Bool, List, ◌++◌, length, None, sym, ap, ap₂, subst}
use Rattle.std.specs.List.{concat}
use Rattle.std.proofs.lemmas.List.Concat.{flat_map-append}
use Rattle.std.proofs.lemmas.List.Folds.{concat-append}
use Rattle.bidi.specs.Cuts.{paragraphs}
use Rattle.bidi.specs.Pieces.{ArePieces, ParagraphsArePieces}
use Rattle.lines.specs.Layouts.{Rules, cut_by, with_advances}
use Rattle.lines.specs.Pages.{page, paragraph_bytes}
use Rattle.lines.specs.declared.printing.print.Print.{Print}
use Rattle.session.specs.Kept.{back_advances, layouts_from, layouts_of, IsCutAt}
use Rattle.session.proofs.AdvanceLemmas.{layouts-append}
use Rattle.session.proofs.SpliceLemmas.{ArePieces-append}

module _ (law : ParagraphsArePieces) where
  paragraphs_in_parts : (is_cut : ℕ → ℕ → Bool) (front rest : List ℕ) → IsCutAt is_cut front rest
      → paragraphs is_cut (front ++ rest) ≡ paragraphs is_cut front ++ paragraphs is_cut rest
  paragraphs_in_parts is_cut front rest between =
      let ps = paragraphs is_cut front in
      let qs = paragraphs is_cut rest in
      let whole : concat (ps ++ qs) ≡ front ++ rest = concat-append ps qs ∙ ap₂ (λ (x y : List ℕ). x ++ y) (law.whole is_cut front) (law.whole is_cut rest) in
      let at_ends : IsCutAt is_cut (concat ps) (concat qs) =
      subst (λ x. IsCutAt is_cut x (concat qs)) (sym (law.whole is_cut front)) (subst (λ y. IsCutAt is_cut front y) (sym (law.whole is_cut rest)) between) in
      let pieces : ArePieces is_cut (ps ++ qs) = ArePieces-append is_cut ps qs (law.pieces is_cut front) (law.pieces is_cut rest) at_ends in
      ap (paragraphs is_cut) (sym whole) ∙ law.only is_cut (ps ++ qs) pieces

  pub layouts_in_parts : (rules : Rules) (width : ℕ) (front rest : List ℕ) → IsCutAt (cut_by rules) front rest
      → layouts_of rules width (front ++ rest) ≡ layouts_of rules width front ++ layouts_of (with_advances rules (back_advances (length front) rules.advances)) width rest
  layouts_in_parts rules width front rest between =
      let own = with_advances rules None in
      let ps = paragraphs (cut_by rules) front in
      let qs = paragraphs (cut_by rules) rest in
      ap (layouts_from own width rules.advances) (paragraphs_in_parts (cut_by rules) front rest between)
      ∙ layouts-append own width rules.advances ps qs
      ∙ ap (λ (t : List ℕ). layouts_from own width rules.advances ps ++ layouts_from own width (back_advances (length t) rules.advances) qs) (law.whole (cut_by rules) front)

  pub pages_in_parts : (rules : Rules) (width : ℕ) (print : Print) (front rest : List ℕ) → IsCutAt (cut_by rules) front rest
      → page rules width print (paragraphs (cut_by rules) (front ++ rest)) ≡ page rules width print (paragraphs (cut_by rules) front) ++ page rules width print (paragraphs (cut_by rules) rest)
  pages_in_parts rules width print front rest between =
      ap (page rules width print) (paragraphs_in_parts (cut_by rules) front rest between)
      ∙ flat_map-append (paragraph_bytes rules width print) (paragraphs (cut_by rules) front) (paragraphs (cut_by rules) rest)
