-- The lines that are replaced by an edit followed by a call that sets advances.
use Rattle.std.proofs.Common.{◌≡◌, ℕ, ◌+◌, List, ◌++◌, length, take, drop, sym, ap, ap₂, ◌∙◌, arith}
use Rattle.std.specs.List.{slice_range}
use Rattle.std.proofs.lemmas.List.{length-append, take-append-drop}
use Rattle.std.proofs.lemmas.List.Concat.{flat_map-append}
use Rattle.std.proofs.lemmas.List.Folds.{drop_split}
use Rattle.lines.specs.Layouts.{Layout, visuals}
use Rattle.session.specs.Damage.{IsDamage, Replaces}
use Rattle.session.specs.Edits.{Replacement}
use Rattle.session.specs.Kept.{lines_in}
use Rattle.session.specs.Measuring.{IsMeasuredDamage}
use Rattle.session.specs.declared.edits.Damage.{Damage}

-- the number of lines of a list of layouts is the number before a range, plus the numbers in it and after it
line_parts : (kept : List Layout) (first count : ℕ) → length (lines_in kept)
    ≡ length (lines_in (take first kept)) + (length (lines_in (slice_range kept first (first + count))) + length (lines_in (drop (first + count) kept)))
line_parts kept first count =
    let left = take first kept in
    let mid = slice_range kept first (first + count) in
    let right = drop (first + count) kept in
    ap (λ (ks : List Layout). length (lines_in ks)) (sym (take-append-drop first kept) ∙ ap (λ (ks : List Layout). left ++ ks) (drop_split kept first (first + count) (omega arith)))
    ∙ ap length (flat_map-append visuals left (mid ++ right)) ∙ length-append (lines_in left) (lines_in (mid ++ right))
    ∙ ap (λ n. length (lines_in left) + n) (ap length (flat_map-append visuals mid right) ∙ length-append (lines_in mid) (lines_in right))

pub replaces_both : (edit : Replacement) (pos count : ℕ) (old edited measured : List Layout) (damage second : Damage)
    → IsDamage edit old edited damage → IsMeasuredDamage pos count edited measured second → second.first_par ≡ damage.first_par → second.old_pars ≡ damage.new_pars
    → Replaces (lines_in old) (lines_in measured) damage.first_line damage.old_lines second.new_lines
replaces_both edit pos count old edited measured damage second d s first-is pars-is =
    let before : length (lines_in (take damage.first_par edited)) ≡ damage.first_line = ap (λ (ks : List Layout). length (lines_in ks)) d.pars.front ∙ sym d.first_line in
    let after : length (lines_in (drop (damage.first_par + damage.new_pars) edited)) ≡ length (lines_in (drop (damage.first_par + damage.old_pars) old)) =
    ap (λ (ks : List Layout). length (lines_in ks)) d.pars.back in
    let start : second.first_line ≡ damage.first_line = s.first_line ∙ ap (λ n. length (lines_in (take n edited))) first-is ∙ before in
    let mid : second.old_lines ≡ length (lines_in (slice_range edited damage.first_par (damage.first_par + damage.new_pars))) =
    s.old_lines ∙ ap₂ (λ (m n : ℕ). length (lines_in (slice_range edited m (m + n)))) first-is pars-is in
    let middle : second.old_lines ≡ damage.new_lines =
    omega (arith, mid, before, after, line_parts old damage.first_par damage.old_pars, line_parts edited damage.first_par damage.new_pars, d.first_line, d.old_lines, d.lines.size) in
    record {
      size = omega (arith, d.lines.size, s.lines.size, middle);
      front = ap (λ n. take n (lines_in measured)) (sym start) ∙ s.lines.front ∙ ap (λ n. take n (lines_in edited)) start ∙ d.lines.front;
      back = ap (λ n. drop (n + second.new_lines) (lines_in measured)) (sym start) ∙ s.lines.back ∙ ap₂ (λ (m n : ℕ). drop (m + n) (lines_in edited)) start middle ∙ d.lines.back;
    }
