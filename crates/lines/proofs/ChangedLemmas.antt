-- An edit that contains another one.
use Rattle.std.proofs.Common.{◌≡◌, ◌∙◌, ℕ, Bool, true, ◌+◌, ◌-◌, ◌<◌, ◌≤◌, List, length, take, drop, ap, refl, subst, sym, arith}
use Rattle.std.proofs.lemmas.List.{drop-drop, drop_all, length-drop, take-take, take_all}
use Rattle.std.proofs.lemmas.Bool.{both_ways}
use Rattle.breaks.specs.contracts.mark.MarkPartialEq.TheImpl.{eq-value}
use Rattle.breaks.specs.declared.mark.Mark.{Mark}
use Rattle.breaks.specs.declared.mark.Mark.TheVariants.{May, Must, Never}
use Rattle.lines.specs.Changed.{Contains, IsChange}
use Rattle.lines.specs.Layouts.{Layout}
use Rattle.lines.specs.SameKind.{IsEdited}
use Rattle.lines.specs.declared.same_kind.Replacement.{Replacement}

-- whether two marks are equal
abbrev is_mark : Mark → Mark → Bool
is_mark = eq-value.it

mark_same : (a b : Mark) → is_mark a b ≡ true → a ≡ b
mark_same Never Never is = refl
mark_same May May is = refl
mark_same Must Must is = refl
mark_same Never May is = absurd (both_ways (is_mark Never May) refl is)
mark_same Never Must is = absurd (both_ways (is_mark Never Must) refl is)
mark_same May Never is = absurd (both_ways (is_mark May Never) refl is)
mark_same May Must is = absurd (both_ways (is_mark May Must) refl is)
mark_same Must Never is = absurd (both_ways (is_mark Must Never) refl is)
mark_same Must May is = absurd (both_ways (is_mark Must May) refl is)

mark_itself : (a : Mark) → is_mark a a ≡ true
mark_itself Never = refl
mark_itself May = refl
mark_itself Must = refl

pub mark_eq : (a b : Mark) → (is_mark a b ≡ true → a ≡ b) × (a ≡ b → is_mark a b ≡ true)
mark_eq a b = (mark_same a b, λ e. subst (λ m. is_mark a m ≡ true) e (mark_itself a))

-- the items from index i on
pub whole_rest : {X : Type 0} (xs : List X) (i : ℕ) → take (length xs - i) (drop i xs) ≡ drop i xs
whole_rest xs i = take_all (length xs - i) (drop i xs) (omega (arith, length-drop i xs))

-- both texts have as many characters after the edited ones
pub same_rest : (old new : List ℕ) (edit : Replacement) → IsEdited old new edit → length old - (edit.at + edit.removed) ≡ length new - (edit.at + edit.inserted)
same_rest old new edit is =
    omega (
      arith,
      length-drop (edit.at + edit.removed) old,
      length-drop (edit.at + edit.inserted) new,
      ap (λ (xs : List ℕ). length xs) is.after,
    )

pub contained : (old new : List ℕ) (edit all : Replacement) → IsEdited old new edit → Contains (length old) (length new) edit all → IsEdited old new all
contained old new edit all is c =
    let i : ℕ = edit.at + edit.inserted in
    let j : ℕ = edit.at + edit.removed in
    let k : ℕ = all.at + all.inserted - i in
    let i_is : i + k ≡ all.at + all.inserted = omega (arith, c.new_end.0) in
    let j_is : j + k ≡ all.at + all.removed = omega (arith, c.new_end.0, c.new_end.1, c.old_end.0, c.old_end.1, c.rest, is.within.0, is.within.1, same_rest old new edit is) in
    record {
      within = (c.old_end.1, c.new_end.1);
      before = sym (take-take all.at edit.at new c.front) ∙ ap (take all.at) is.before ∙ take-take all.at edit.at old c.front;
      after = ap (λ n. drop n new) (sym i_is) ∙ sym (drop-drop k i new) ∙ ap (drop k) is.after ∙ drop-drop k j old ∙ ap (λ n. drop n old) j_is;
    }

-- an edit that replaces all characters leaves nothing outside
pub all_changed : (old : Layout) (text levels : List ℕ) (marks : List Mark) (old_len : ℕ) → old_len ≡ length old.text → length old.levels ≡ length old.text
    → length old.marks ≡ length old.text → length levels ≡ length text → length marks ≡ length text
    → IsChange old text levels marks (record { at = 0; removed = old_len; inserted = length text })
all_changed old text levels marks old_len size a b c d =
    record {
      edited = record {
        within = (omega (arith, size), omega arith);
        before = refl;
        after = drop_all (0 + length text) text (omega arith) ∙ sym (drop_all (0 + old_len) old.text (omega (arith, size)));
      };
      levels_stay = record {
        before = refl;
        after = drop_all (0 + length text) levels (omega (arith, c)) ∙ sym (drop_all (0 + old_len) old.levels (omega (arith, size, a)));
      };
      marks_stay = record {
        before = refl;
        after = drop_all (0 + length text) marks (omega (arith, d)) ∙ sym (drop_all (0 + old_len) old.marks (omega (arith, size, b)));
      };
    }
