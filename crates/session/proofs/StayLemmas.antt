-- The lines of a paragraph at another width.
use Rattle.std.proofs.Common.{◌≡◌, ℕ, List, length, None, Some, refl, sym, ap, subst, ◌∙◌, arith}
use Rattle.std.proofs.lemmas.List.{length-map}
use Rattle.lines.specs.Extents.{extents_of, LineExtents}
use Rattle.lines.specs.Layouts.{layout_of, lines_of, start_of, visuals, IsLaidOut, Layout, Rules}
use Rattle.lines.specs.Matching.{MatchAtEnd, MatchAtStart}
use Rattle.lines.proofs.StayingLemmas.{extents-lines}
use Rattle.session.specs.Kept.{rules_for, BringsTo, IsFresh}
use Rattle.session.specs.Matching.{at_width}

-- all items of a list match those of the same list
pub start_all : {A : Type 0} (xs : List A) → MatchAtStart xs xs (length xs)
start_all xs = record { in_first = omega arith; in_second = omega arith; same = refl; most = λ first _ _. absurd (omega (arith, first)) }

pub end_all : {A : Type 0} (xs : List A) → MatchAtEnd xs xs (length xs)
end_all xs = record { in_first = omega arith; in_second = omega arith; same = refl; most = λ first _ _. absurd (omega (arith, first)) }

module _ (rules : Rules) (width : ℕ) (kept : Layout) where
  -- if a paragraph has no new extents, its layout at the new width is the old one
  pub stays_whole : BringsTo rules width kept None → at_width rules width kept ≡ kept
  stays_whole brings = ap (λ lines. let l : Layout = record kept { lines = lines } in l) (sym brings.1)

  pub at_width-layout : IsFresh rules kept → layout_of (rules_for rules kept) width kept.text ≡ at_width rules width kept
  at_width-layout laid = subst (λ (m : Layout). layout_of (rules_for rules m) width m.text ≡ at_width rules width m) (sym laid.from_scratch) refl

  pub starts_count : (extents : LineExtents) → BringsTo rules width kept (Some extents) → length (at_width rules width kept).lines ≡ length extents.starts
  starts_count extents brings =
      sym (length-map (lines_of (rules_for rules kept) width kept.text) start_of)
      ∙ ap (λ (e : LineExtents). length e.starts) (extents-lines (rules_for rules kept) kept.text width ∙ sym brings.1)

  pub start_stays : (seen : Layout) (extents : LineExtents) (count : ℕ) → seen ≡ kept
      → ((by : Rules) (at : ℕ) → IsLaidOut by seen → extents ≡ extents_of by at seen.text → MatchAtStart (visuals seen) (visuals (layout_of by at seen.text)) count)
      → IsFresh rules kept → BringsTo rules width kept (Some extents) → MatchAtStart (visuals kept) (visuals (at_width rules width kept)) count
  start_stays seen extents count same found laid brings =
      let here : MatchAtStart (visuals kept) (visuals (layout_of (rules_for rules kept) width kept.text)) count =
      subst (λ (s : Layout). (by : Rules) (at : ℕ) → IsLaidOut by s → extents ≡ extents_of by at s.text → MatchAtStart (visuals s) (visuals (layout_of by at s.text)) count) same found
      (rules_for rules kept) width laid brings.1 in
      subst (λ (l : Layout). MatchAtStart (visuals kept) (visuals l) count) (at_width-layout laid) here

  pub end_stays : (seen : Layout) (extents : LineExtents) (count : ℕ) → seen ≡ kept
      → ((by : Rules) (at : ℕ) → IsLaidOut by seen → extents ≡ extents_of by at seen.text → MatchAtEnd (visuals seen) (visuals (layout_of by at seen.text)) count)
      → IsFresh rules kept → BringsTo rules width kept (Some extents) → MatchAtEnd (visuals kept) (visuals (at_width rules width kept)) count
  end_stays seen extents count same found laid brings =
      let here : MatchAtEnd (visuals kept) (visuals (layout_of (rules_for rules kept) width kept.text)) count =
      subst (λ (s : Layout). (by : Rules) (at : ℕ) → IsLaidOut by s → extents ≡ extents_of by at s.text → MatchAtEnd (visuals s) (visuals (layout_of by at s.text)) count) same found
      (rules_for rules kept) width laid brings.1 in
      subst (λ (l : Layout). MatchAtEnd (visuals kept) (visuals l) count) (at_width-layout laid) here
