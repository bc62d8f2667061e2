use Rattle.std.proofs.Common.{◌≡◌, ◌≤◌, ◌&&◌, ◌||◌, [], ◌∷◌, Some, ℕ, Option, drop, length, map, subst, sym, ap, ◌∙◌}
use Rattle.breaks.specs.Classes.{is_one_of, is_same}
use Rattle.breaks.specs.Bases.{class_of}
use Rattle.breaks.specs.Numbers.{middle}
use Rattle.breaks.specs.Reasons.{chars_in, start_of}
use Rattle.breaks.specs.Rules.{ends_in_number, without_spaces}
use Rattle.breaks.specs.Seen.{base_in}
use Rattle.breaks.specs.Walk.{ends_in_digits}
use Rattle.ucd.specs.declared.line_class.LineClass.TheVariants.{IS, NU, SP, SY}
use Rattle.breaks.proofs.FoundLemmas.{after_other, after_space, digits_next, number_next, odd_next, rest_next}
use Rattle.breaks.proofs.before.Before.next.Goals.{then-eq, else-eq}
use Rattle.breaks.proofs.before.Before.next.Goals as goal

pub invariant_of-result : goal.invariant_of-result
invariant_of-result c =
    let i = c.self.invariant in
    let all = c.args.bases.now in
    let b = base_in c.args.base.now in
    let found = c.self.inside.bases.now in
    let more = c.requires.bases ∙ ap (λ l. base_in c.args.base.now ∷ l) (sym c.self.view_is) in
    let class = ap (λ class. is_same class SP) (sym c.class-class.ensures) ∙ sym c.eq.ensures in
    let odd = odd_next all b found more c.self.inside.is_odd_run i.3 in
    let number = number_next all b found more c.self.inside.ends_in_number i.4 in
    let digits = digits_next all b found more c.self.inside.ends_in_digits i.5 in
    let digit = c.eq-is_digit.ensures ∙ ap (λ class. is_same class NU) c.class-class.ensures in
    let rest = rest_next all b found more in
    let spaces : (c.if-eq.spaces.0 ≤ length all) × (map base_in (drop c.if-eq.spaces.0 all) ≡ without_spaces (map base_in all))
    × (c.if-eq.spaces.1 ≡ start_of (without_spaces (map base_in all))) = elim c.if-eq.branch [
      | then-eq w ↦
          let n = after_space all b found more c.self.inside.spaces i.0 i.1 (class ∙ w.if-eq.true) in
          subst (λ (s : ℕ × Option ℕ). (s.0 ≤ length all) × (map base_in (drop s.0 all) ≡ without_spaces (map base_in all))
          × (s.1 ≡ start_of (without_spaces (map base_in all)))) (sym w.spaces-is) (n.0, n.1, i.2 ∙ n.2)
      | else-eq w ↦
          let n = after_other all b found more (class ∙ w.if-eq.false) in
          subst (λ (s : ℕ × Option ℕ). (s.0 ≤ length all) × (map base_in (drop s.0 all) ≡ without_spaces (map base_in all))
          × (s.1 ≡ start_of (without_spaces (map base_in all)))) (sym w.spaces-is) (n.0, n.1, ap Some (c.requires.start ∙ ap chars_in (sym c.self.view_is)) ∙ n.2)
    ] in (
      spaces.0,
      spaces.1,
      spaces.2,
      cc (odd, c.eq-2.ensures, c.class-class.ensures),
      ap (λ x. x || (c.is_one_of-is_middle.result && c.self.inside.ends_in_number)) digit
          ∙ ap (λ x. is_same (class_of b) NU || (x && c.self.inside.ends_in_number)) (c.is_one_of-is_middle.ensures ∙ ap (is_one_of (IS ∷ SY ∷ [])) c.class-class.ensures)
          ∙ number,
      ap (λ x. x || (c.is_one_of-is_part.result && c.self.inside.ends_in_digits)) digit
          ∙ ap (λ x. is_same (class_of b) NU || (x && c.self.inside.ends_in_digits)) (c.is_one_of-is_part.ensures ∙ ap (is_one_of middle) c.class-class.ensures)
          ∙ digits,
      i.4 ∙ ap ends_in_number rest,
      i.5 ∙ ap ends_in_digits rest,
    )
