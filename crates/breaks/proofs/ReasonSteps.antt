-- The reasons so far are still correct after those of one more base have been appended.
use Rattle.std.proofs.Common.{◌≡◌, ℕ, suc, ◌+◌, ◌-◌, ◌<◌, false, slice_index_or, Option, List, [], ◌∷◌, ◌++◌, drop, get_or, length, map, reverse, take, refl, sym, ap, ap₂, ◌∙◌, append_assoc, arith}
use Rattle.std.proofs.Math.Seq.{drop-append-add, drop-append_seam}
use Rattle.std.proofs.lemmas.List.{drop-drop, drop_more, get_or_default, get_or-drop, get_or-map, length-append, length-drop, length-map, length-reverse, reverse-append, take-append-drop, take_more}
use Rattle.ucd.specs.declared.line_class.LineClass.{LineClass}
use Rattle.ucd.specs.declared.line_class.LineClass.TheVariants.{BK}
use Rattle.ucd.specs.declared.line_detail.LineDetail.TheVariants.{Plain}
use Rattle.breaks.specs.Bases.{BaseCharacter, Character, class_of}
use Rattle.breaks.specs.Marks.{marks_after}
use Rattle.breaks.specs.Reasons.{base_reasons, chars_in, reason_at, reasons_after, reasons_inside, start_of}
use Rattle.breaks.specs.Rules.{Rule, mark_by, without_spaces}
use Rattle.breaks.specs.Seen.{base_in, character_in}
use Rattle.breaks.specs.declared.bases.BaseCharacter.{BaseCharacter as Found}
use Rattle.breaks.specs.declared.line_rule.LineRule.{LineRule}
use Rattle.breaks.specs.declared.mark.Mark.{Mark}
use Rattle.breaks.specs.declared.mark.Mark.TheVariants.{Never}
use Rattle.breaks.specs.declared.reason.Reason.{Reason}

-- the bases before the k-th one, the nearest first
abbrev pub before_at : List Found → ℕ → List BaseCharacter
before_at all k = map base_in (reverse (take k all))

length-inside : (start : ℕ) (class : LineClass) (behind : Option ℕ) (c : Character) (attached : List Character)
    → length (reasons_inside start class behind c attached) ≡ length attached
length-inside start class behind c [] = refl
length-inside start class behind c (d ∷ attached) = ap suc (length-inside start class behind d attached)

seam : {A : Type 0} → (xs : List A) (y : A) (ys : List A) (d : A) → get_or (xs ++ y ∷ ys) (length xs) d ≡ y
seam [] y ys d = refl
seam (x ∷ xs) y ys d = seam xs y ys d

module _ (all : List Found) (k : ℕ) (x : Found) (below : k < length all) (here : x ≡ get_or all k x) where
  abbrev bases : List BaseCharacter
  bases = map base_in all

  abbrev before : List BaseCharacter
  before = before_at all k

  abbrev after : List BaseCharacter
  after = drop (k + 1) bases

  more : reverse (take (k + 1) all) ≡ x ∷ reverse (take k all)
  more =
      ap reverse (take_more all k x below ∙ ap (λ y. take k all ++ y ∷ []) (sym here)) ∙ reverse-append (take k all) (x ∷ [])

  pub next_before : before_at all (k + 1) ≡ base_in x ∷ before
  next_before = ap (map base_in) more

  pub nearest : map base_in (drop (length all - k - 1) (reverse all)) ≡ base_in x ∷ before
  nearest =
      let front : List Found = take (k + 1) all in
      let back : List Found = drop (k + 1) all in
      let n : length all - k - 1 ≡ length (reverse back) = omega (arith, length-reverse back, length-drop (k + 1) all) in
      ap (map base_in) (ap₂ (λ m l. drop m l) n (ap reverse (sym (take-append-drop (k + 1) all)) ∙ reverse-append front back) ∙ drop-append_seam (reverse back) (reverse front)) ∙ next_before

  pub left : drop k bases ≡ base_in x ∷ after
  left =
      let size : k < length bases = omega (arith, below, length-map all base_in) in
      drop_more bases k (base_in x) size ∙ ap (λ b. b ∷ after) (get_or-map base_in all k x (base_in x) below ∙ ap base_in (sym here))

  module _ (names : List LineRule) (rules : List Rule) where
    abbrev new : List Reason
    new = base_reasons names rules (base_in x) before after

    pub reasons_step : (list total : List Reason) → list ++ reasons_after names rules before (drop k bases) ≡ total
        → (list ++ new) ++ reasons_after names rules (base_in x ∷ before) after ≡ total
    reasons_step list total so_far =
        append_assoc list new (reasons_after names rules (base_in x ∷ before) after) ∙ ap (λ l. list ++ reasons_after names rules before l) (sym left) ∙ so_far

    pub chars_step : (list : List Reason) → length list ≡ chars_in before → length (list ++ new) ≡ chars_in (base_in x ∷ before)
    chars_step list size =
        let b : BaseCharacter = base_in x in
        let inside : List Reason = reasons_inside (chars_in before) (class_of b) (start_of (without_spaces (b ∷ before))) b.first b.attached in
        omega (arith, size, length-append list new, length-append inside (reason_at names rules b before after ∷ []), length-inside (chars_in before) (class_of b) (start_of (without_spaces (b ∷ before))) b.first b.attached)

  module _ (rules : List Rule) (marks : List Mark) (m : ℕ) (so_far : drop m marks ≡ marks_after rules before (drop k bases)) where
    abbrev inside : List Mark
    inside = map (λ _. Never) (base_in x).attached

    abbrev mark : Mark
    mark = mark_by rules (base_in x ∷ before) after

    abbrev rest : List Mark
    rest = marks_after rules (base_in x ∷ before) after

    marks_are : drop m marks ≡ inside ++ mark ∷ rest
    marks_are = so_far ∙ ap (marks_after rules before) left

    inside_size : length inside ≡ length x.attached.now
    inside_size = length-map (base_in x).attached (λ _. Never) ∙ length-map x.attached.now character_in

    pub mark_below : m + length x.attached.now < length marks
    mark_below = omega (arith, length-drop m marks, ap length marks_are, length-append inside (mark ∷ rest), inside_size)

    pub mark_here : (d : Mark) → get_or marks (m + length x.attached.now) d ≡ mark
    mark_here d =
        sym (get_or-drop m marks (length x.attached.now) d)
        ∙ ap₂ (λ l n. get_or l n d) marks_are (sym inside_size)
        ∙ seam inside mark rest d

    pub marks_step : (n : ℕ) → n ≡ m + (length x.attached.now + 1) → drop n marks ≡ rest
    marks_step n is =
        let size : length x.attached.now + 1 ≡ length inside + 1 = omega (arith, inside_size) in
        ap (λ n. drop n marks) is
        ∙ sym (drop-drop (length x.attached.now + 1) m marks)
        ∙ ap₂ drop size marks_are
        ∙ drop-append-add inside (mark ∷ rest) 1

-- the base at an index, as the code reads it
abbrev pub found_at : List Found → ℕ → Found
found_at all k = slice_index_or all k (record {
  first = record { class = BK; detail = Plain; is_wide = false; is_future_pictograph = false };
  attached = record { ref_ptr = (0, 0); now = [] };
})

pub found_here : (all : List Found) (k : ℕ) → k < length all → found_at all k ≡ get_or all k (found_at all k)
found_here all k below = get_or_default all k _ (found_at all k) below
