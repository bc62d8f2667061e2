-- The lengths of a paragraph's lines add up to its length.
use Rattle.std.proofs.Common.{◌≡◌, ◌∙◌, ℕ, ◌+◌, ◌-◌, ◌<◌, ◌≤◌, List, [], ◌∷◌, length, map, drop, get_or, None, Some, Option, refl, sym, ap, subst, inl, inr, arith}
use Rattle.std.specs.Prelude.{slice_get, sum_by}
use Rattle.std.specs.List.{enumerate_from}
use Rattle.std.proofs.lemmas.List.{drop_more, get_or-drop, length-drop}
use Rattle.std.proofs.lemmas.List.Sums.{sum_by-cons}
use Rattle.lines.specs.Beginnings.{BeginInOrder}
use Rattle.lines.specs.Kept.{AreStarts}
use Rattle.lines.specs.Layouts.{Rules, base_of, layout_of, lines_of, start_of, visuals}
use Rattle.lines.specs.Tabs.{tab_width_in}
use Rattle.lines.specs.Visual.{Line, Visual, visual_of}
use Rattle.std.proofs.lemmas.Bool.{cases_lt}
use Rattle.lines.proofs.BeginningLemmas.{begin_in_order}
use Rattle.lines.proofs.ShowLemmas.{end_last, end_next}
use Rattle.lines.proofs.StayLemmas.{EndsAtMust}

module _ (base tab_width : ℕ) (advances : Option (List ℕ)) (text : List ℕ) (all : List Line) where
  abbrev numbered : List (ℕ × Line) → List Visual
  numbered nths = map (λ nth. visual_of base tab_width advances text all nth.0 nth.1) nths

  abbrev total : List Visual → ℕ
  total lines = sum_by (λ (line : Visual). line.len) lines

  -- the lengths of the lines from the k-th on add up to the number of characters from the start of the k-th
  -- line to the end of the text
  from_there : AreStarts (length text) (map start_of all) → (k : ℕ) (line : Line) (rest : List Line) → drop k (map start_of all) ≡ map start_of (line ∷ rest)
      → total (numbered (enumerate_from k (line ∷ rest))) ≡ length text - line.start
  from_there are k line [] there =
      let starts = map start_of all in
      let last : length starts ≤ k + 1 = omega (arith, length-drop k starts, ap length there) in
      omega (arith, end_last (length text) starts k last)
  from_there are k line (next ∷ rest) there =
      let starts = map start_of all in
      let more : k + 1 < length starts = omega (arith, length-drop k starts, ap length there) in
      let same : k ≡ k + 0 = omega arith in
      let here : get_or starts k 0 ≡ line.start = ap (λ j. get_or starts j 0) same ∙ sym (get_or-drop k starts 0 0) ∙ ap (λ ss. get_or ss 0 0) there in
      let then : get_or starts (k + 1) 0 ≡ next.start = omega (arith, get_or-drop k starts 1 0, ap (λ ss. get_or ss 1 0) there) in
      let parted = drop_more starts k 0 (omega (arith, more)) in
      let after : drop (k + 1) starts ≡ map start_of (next ∷ rest) = cc in
      let others = from_there are (k + 1) next rest after in
      omega (
        arith,
        here,
        then,
        others,
        end_next (length text) starts k more,
        are.rising k more,
        are.below (k + 1) more,
        sum_by-cons (λ (line : Visual). line.len) (visual_of base tab_width advances text all k line) (numbered (enumerate_from (k + 1) (next ∷ rest))),
      )

  pub lengths-sum : BeginInOrder text all → total (numbered (enumerate_from 0 all)) ≡ length text
  lengths-sum begin = go all refl
    where
      go : (lines : List Line) → all ≡ lines → total (numbered (enumerate_from 0 lines)) ≡ length text
      go [] none =
          elim (cases_lt 0 (length text)) [
            | inl some ↦ let first = begin.first some in let bad : None ≡ Some 0 = subst (λ ls. slice_get (map start_of ls) 0 ≡ Some 0) none first in cc
            | inr empty ↦ omega (arith, empty)
          ]
      go (line ∷ rest) is =
          let some : 0 < length (map start_of all) = omega (arith, ap (λ ls. length (map start_of ls)) is) in
          let start : get_or (map start_of all) 0 0 ≡ line.start = ap (λ ls. get_or (map start_of ls) 0 0) is in
          let first : Some line.start ≡ Some 0 = subst (λ ls. slice_get (map start_of ls) 0 ≡ Some 0) is (begin.first (omega (arith, begin.starts.below 0 some))) in
          let zero_is : line.start ≡ 0 = cc in
          from_there begin.starts 0 line rest (ap (map start_of) is) ∙ omega (arith, zero_is)

pub lengths_sum : EndsAtMust → (rules : Rules) (width : ℕ) (text : List ℕ) → sum_by (λ (line : Visual). line.len) (visuals (layout_of rules width text)) ≡ length text
lengths_sum law rules width text = lengths-sum (base_of rules text) (tab_width_in rules.tables rules.options) rules.advances text (lines_of rules width text) (begin_in_order law rules width text)
