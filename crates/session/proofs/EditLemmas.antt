-- A session's layouts before and after an edit, and why an edit is refused.
use Rattle.std.proofs.Common.{◌≡◌, ℕ, zero, suc, ◌+◌, ◌-◌, ◌^◌, ◌<◌, ◌≤◌, Bool, true, false, List, [], ◌∷◌, ◌++◌, length, take, drop, get_or, min, replicate, sum_by, inl, inr, Option, Some, None, Result, Ok, Err, nat_lt, unwrap_or, if◌then◌else◌, refl, sym, ap, ap₂, subst, ◌∙◌, arith}
use Rattle.std.specs.List.{concat, slice_range, splice}
use Rattle.std.specs.Result.{is_err, IfOk, IfErr, OnOk, OnErr}
use Rattle.std.proofs.lemmas.Bool.{cases_lt, cond-true, lt-ltb}
use Rattle.session.proofs.TouchedLemmas.{start_of-more}
use Rattle.std.proofs.lemmas.List.{append_assoc, get_or_past, length-append, length-drop, length-take, length-map, length-replicate, length-take-le, take_at, drop_at, take-append-drop}
use Rattle.std.proofs.lemmas.List.Concat.{flat_map-append}
use Rattle.std.proofs.lemmas.List.Folds.{concat-append, drop_split}
use Rattle.std.proofs.lemmas.List.Sums.{sum_by-cons, sum_by-append}
use Rattle.bidi.specs.Cuts.{paragraphs}
use Rattle.bidi.specs.Pieces.{ParagraphsArePieces}
use Rattle.lines.specs.Engine.{rules_of, SameRules, LaysOutAtMost}
use Rattle.lines.specs.Layouts.{Layout, Rules, cut_by, layout_of, lines_of, with_advances}
use Rattle.lines.specs.Measures.{given_if}
use Rattle.lines.specs.declared.engine.Engine.{Engine}
use Rattle.session.specs.Sessions.{SessionState, IsWholeLayout, IsCountedFor, Edits, EditsNot, text_at, cuts_at, state_of}
use Rattle.session.specs.Edits.{Replacement, advances_after, content_refusal, replaced, replacing, refusal, paragraphs_refusal, room_refusal, are_within, is_within_limit}
use Rattle.session.specs.Changes.{no_lines}
use Rattle.session.specs.Damage.{Replaces, IsDamage}
use Rattle.session.specs.Borders.{IsBorder, IsFrontBorder, IsBackBorder, damage_between}
use Rattle.lines.specs.Layouts.{visuals}
use Rattle.session.specs.Kept.{advance_lists, advances_in, back_advances, front_advances, pars_of, text_of, lines_in, layouts_from, layouts_of, AreForEach}
use Rattle.session.specs.Sessions.{IsAnswerFor}
use Rattle.session.specs.Touched.{fresh, start_of, AreTouched}
use Rattle.session.specs.declared.borders.Border.{Border}
use Rattle.session.specs.declared.edits.Damage.{Damage}
use Rattle.session.specs.declared.edits.EditFault.{EditFault}
use Rattle.session.specs.declared.edits.EditFault.TheVariants.{OutOfRange, ParagraphTooLong, NoMemory}
use Rattle.session.proofs.AdvanceLemmas.{advances-layouts, layouts-append, layouts-middle, layouts-whole, length-layouts, pars-layouts, room-middle, roomy}
use Rattle.session.proofs.UnitLemmas.{few_in_all, AreFew}
use Rattle.session.proofs.ReplacementLemmas.{IsSpliced, IsSpliced-from_touched, region_of, length-replaced_text, spliced_text}
use Rattle.session.proofs.BorderLemmas.{chars_of, lines_of as line_number, length-text, length-lines}
use Rattle.session.proofs.RegionParts.{touched_by, front_of, back_of, are_around, region_around, rise_around, same_around, take-both, touched_around, AreAround}
use Rattle.session.proofs.RefusalLemmas.{allowed-room, allowed-within_limit, text_refusal-short, refusal-inside}
use Rattle.session.specs.declared.edits.TheConstants.{TEXT_LIMIT}

-- replacing the middle of a list satisfies `Replaces`
pub drop_two : {A : Type 0} (left mid right : List A) (n m : ℕ) → n ≡ length left → m ≡ length mid → drop (n + m) (left ++ (mid ++ right)) ≡ right
drop_two left mid right n m n-is m-is =
    ap (drop (n + m)) (sym (append_assoc left mid right)) ∙ drop_at (left ++ mid) right (n + m) (length-append left mid ∙ omega (arith, n-is, m-is))

pub Replaces-middle : {A : Type 0} (left mid right new old after : List A) (first count many : ℕ) → old ≡ left ++ (mid ++ right) → after ≡ left ++ (new ++ right)
    → first ≡ length left → count ≡ length mid → many ≡ length new → Replaces old after first count many
Replaces-middle left mid right new old after first count many old-is after-is first-is count-is many-is = record {
  size = omega (arith, ap length old-is, ap length after-is, length-append left (mid ++ right), length-append mid right, length-append left (new ++ right), length-append new right);
  front = ap (take first) after-is ∙ take_at left (new ++ right) first (sym first-is) ∙ sym (ap (take first) old-is ∙ take_at left (mid ++ right) first (sym first-is));
  back = ap (drop (first + many)) after-is ∙ drop_two left new right first many first-is many-is
      ∙ sym (ap (drop (first + count)) old-is ∙ drop_two left mid right first count first-is count-is);
}

pub take_both : {A : Type 0} (xs : List A) (from to : ℕ) → from ≤ to → take to xs ≡ take from xs ++ slice_range xs from to
take_both xs from to order = let n : to ≡ from + (to - from) = omega arith in ap (λ m. take m xs) n ∙ take-both from (to - from) xs

-- fresh layouts have the text from which they were made
pub text-layouts : ParagraphsArePieces → (rules : Rules) (width : ℕ) (text : List ℕ) → text_of (layouts_of rules width text) ≡ text
text-layouts law rules width text =
    ap concat (pars-layouts (with_advances rules None) width rules.advances (paragraphs (cut_by rules) text)) ∙ law.whole (cut_by rules) text

-- a text has at most as many lines as characters
abbrev pub LinesAreFew : Type 0
LinesAreFew = (rules : Rules) (width : ℕ) (text : List ℕ) → length (lines_of rules width text) ≤ length text

few_of : LinesAreFew → (rules : Rules) (width : ℕ) (advances : Option (List ℕ)) (pars : List (List ℕ))
    → sum_by line_number (layouts_from rules width advances pars) ≤ sum_by chars_of (layouts_from rules width advances pars)
few_of few rules width advances [] = omega arith
few_of few rules width advances (p ∷ pars) =
    let rest = layouts_from rules width (back_advances (length p) advances) pars in
    let own = with_advances rules (front_advances (length p) advances) in
    omega (arith, few own width p, few_of few rules width (back_advances (length p) advances) pars, sum_by-cons line_number (layout_of own width p) rest, sum_by-cons chars_of (layout_of own width p) rest)

module _ (law : ParagraphsArePieces) (few : LinesAreFew) (rules : Rules) (width : ℕ) (text : List ℕ) (kept : List Layout) (laid : kept ≡ layouts_of rules width text) where
  pub chars-laid : sum_by chars_of kept ≡ length text
  chars-laid = sym (length-text kept) ∙ ap (λ ks. length (text_of ks)) laid ∙ ap length (text-layouts law rules width text)

  pub few-laid : sum_by line_number kept ≤ length text
  few-laid =
      let most : sum_by line_number kept ≤ sum_by chars_of kept =
      subst (λ ks. sum_by line_number ks ≤ sum_by chars_of ks) (sym laid) (few_of few (with_advances rules None) width rules.advances (paragraphs (cut_by rules) text)) in
      omega (arith, chars-laid)

-- `IsWholeLayout` still holds if the engine is replaced by one with the same rules
pub IsWholeLayout-same : (old new : Engine) (width : ℕ) (advances : Option (List ℕ)) (kept : List Layout) → SameRules old new
    → IsWholeLayout (record { engine = old; width = width; advances = advances; kept = kept; changed = no_lines })
    → IsWholeLayout (record { engine = new; width = width; advances = advances; kept = kept; changed = no_lines })
IsWholeLayout-same old new width advances kept same whole = record {
  kept = whole.kept ∙ ap (λ r. layouts_of (with_advances r advances) width (text_of kept)) (sym same);
  allowed = ap (λ r. content_refusal (cut_by r) advances (text_of kept)) same ∙ whole.allowed;
  filled = whole.filled;
  advances = whole.advances;
}

-- if an edit fails and leaves the session unchanged, `LaysOutAtMost` and `EditsNot` hold
pub LaysOutAtMost-none : (n : ℕ) (engine : Engine) → LaysOutAtMost n engine engine
LaysOutAtMost-none n engine = record {
  analysed = record { least = omega arith; most = omega arith };
  filled =
      record { least = omega arith; most = omega arith };
  written = record { least = omega arith; most = omega arith };
}

pub EditsNot-unchanged : (edit : Replacement) (state : SessionState) (fault : EditFault) → IsWholeLayout state → IsAnswerFor (refusal (cuts_at state) state.advances (text_at state) edit) fault
    → IsCountedFor fault (LaysOutAtMost (fresh (pars_of state.kept) edit)) state.engine state.engine → EditsNot edit state state fault
EditsNot-unchanged edit state fault whole answer counts = record {
  answer = answer;
  kept = refl;
  at_width = refl;
  advances = refl;
  laid_out = whole;
  rules = refl;
  counts = counts;
}

pub refusal-past : (is_cut : ℕ → ℕ → Bool) (advances : Option (List ℕ)) (text : List ℕ) (edit : Replacement) → length text < edit.pos + edit.count
    → refusal is_cut advances text edit ≡ Some OutOfRange
refusal-past is_cut advances text edit past =
    cond-true (nat_lt (length text) (edit.pos + edit.count)) (Some OutOfRange) (content_refusal is_cut (advances_after advances edit) (replaced text edit))
    (lt-ltb (length text) (edit.pos + edit.count) past)

-- if a result is not an error, the fact in `OnOk` holds
pub at_ok : {X E Q : Type 0} (r : Result X E) → is_err r ≡ false → OnOk r Q → Q
at_ok (Ok x) e h = h
at_ok (Err e') e h = absurd (cc e)

-- facts about the line sums of a store before and after new paragraphs replace those between two borders
pub record AreSums (front back : Border) (new : List Layout) (total total_2 : ℕ) : Type 0 where
  pub order : front.lines ≤ back.lines
  pub within : back.lines - front.lines ≤ total
  pub others : total - (back.lines - front.lines) ≤ total_2
  pub made : total_2 - (total - (back.lines - front.lines)) ≡ length (lines_in new)

pub AreSums-splice : (kept new : List Layout) (front back : Border) (total total_2 : ℕ) → IsBorder kept front → IsBorder kept back → front.index ≤ back.index
    → total ≡ sum_by line_number kept → total_2 ≡ sum_by line_number (splice kept front.index back.index new) → AreSums front back new total total_2
AreSums-splice kept new front back total total_2 f b rise total-is total_2-is =
    let left = take front.index kept in
    let mid = slice_range kept front.index back.index in
    let right = drop back.index kept in
    let front_lines : front.lines ≡ sum_by line_number left = f.lines ∙ length-lines left in
    let back_lines : back.lines ≡ sum_by line_number left + sum_by line_number mid =
    b.lines ∙ length-lines (take back.index kept) ∙ ap (sum_by line_number) (take_both kept front.index back.index rise) ∙ sum_by-append line_number left mid in
    let old : sum_by line_number kept ≡ sum_by line_number (take back.index kept) + sum_by line_number right =
    ap (sum_by line_number) (sym (take-append-drop back.index kept)) ∙ sum_by-append line_number (take back.index kept) right in
    let upto : back.lines ≡ sum_by line_number (take back.index kept) = b.lines ∙ length-lines (take back.index kept) in
    let after : sum_by line_number (splice kept front.index back.index new) ≡ sum_by line_number left + (sum_by line_number new + sum_by line_number right) =
    sum_by-append line_number left (new ++ right) ∙ ap (λ n. sum_by line_number left + n) (sum_by-append line_number new right) in
    let made : length (lines_in new) ≡ sum_by line_number new = length-lines new in
    record { order = omega arith; within = omega arith; others = omega arith; made = omega arith }

-- ---- the advances of the paragraphs

-- in the list of all advances, each paragraph starts at the same index as in the text
pub listed_starts : (rules : Rules) (width : ℕ) (list : List ℕ) (pars : List (List ℕ)) (i : ℕ) → length list ≡ length (concat pars)
    → start_of (advance_lists (layouts_from rules width (Some list) pars)) i ≡ start_of pars i
listed_starts rules width list [] zero each = refl
listed_starts rules width list [] (suc i) each = refl
listed_starts rules width list (p ∷ pars) zero each = refl
listed_starts rules width list (p ∷ pars) (suc i) each =
    let first : List ℕ = take (length p) list in
    let rest : List ℕ = drop (length p) list in
    let parts : length list ≡ length p + length (concat pars) = each ∙ length-append p (concat pars) in
    let size : length first ≡ length p = length-take-le (length p) list (omega (arith, parts)) in
    let others : length rest ≡ length (concat pars) = omega (arith, parts, length-drop (length p) list) in
    let more = take i (advance_lists (layouts_from rules width (Some rest) pars)) in
    length-append first (concat more) ∙ ap₂ (λ (m n : ℕ). m + n) size (listed_starts rules width rest pars i others) ∙ sym (length-append p (concat (take i pars)))

pub listed_number : (rules : Rules) (width : ℕ) (advances : Option (List ℕ)) (pars : List (List ℕ)) → length (advance_lists (layouts_from rules width advances pars)) ≡ length pars
listed_number rules width advances pars =
    length-map (layouts_from rules width advances pars) (λ (l : Layout). unwrap_or l.advances []) ∙ length-layouts rules width advances pars

given_same : (is_measured : Bool) (xs ys : List ℕ) → (is_measured ≡ true → xs ≡ ys) → given_if is_measured xs ≡ given_if is_measured ys
given_same false xs ys same = refl
given_same true xs ys same = ap Some (same refl)

given_after : (is_measured : Bool) (list : List ℕ) (edit : Replacement)
    → advances_after (given_if is_measured list) edit ≡ given_if is_measured (replaced list (replacing edit.pos edit.count (replicate (length edit.piece) 0)))
given_after false list edit = refl
given_after true list edit = refl

pub each_given : (is_measured : Bool) (list text : List ℕ) → AreForEach (given_if is_measured list) text → is_measured ≡ true → length list ≡ length text
each_given false list text each is = absurd (cc is)
each_given true list text each is = each

given_each : (is_measured : Bool) (list text : List ℕ) → (is_measured ≡ true → length list ≡ length text) → AreForEach (given_if is_measured list) text
given_each false list text each = tt
given_each true list text each = each refl

-- `splice` replaces the layouts in the middle of a list with the new ones
spliced_layouts : (left mid right new : List Layout) (first last : ℕ) → first ≡ length left → last ≡ length left + length mid
    → splice (left ++ (mid ++ right)) first last new ≡ left ++ (new ++ right)
spliced_layouts left mid right new first last first-is last-is =
    ap₂ (λ (xs ys : List Layout). xs ++ (new ++ ys)) (take_at left (mid ++ right) first (sym first-is))
    (ap (drop last) (sym (append_assoc left mid right)) ∙ drop_at (left ++ mid) right last (length-append left mid ∙ sym last-is))

-- ---- the texts and the advances of the paragraphs before a range, in it and after it, and of those that
-- replace it
module _ (rules : Rules) (width : ℕ) (left mid right new : List (List ℕ)) (front inner back fresh : List ℕ) (first last : ℕ)
    (first-is : first ≡ length left) (last-is : last ≡ length left + length mid) where
  pub middle_laid : (is_measured : Bool) (kept : List Layout)
      → (is_measured ≡ true → length front ≡ length (concat left)) → (is_measured ≡ true → length inner ≡ length (concat mid)) → (is_measured ≡ true → length fresh ≡ length (concat new))
      → kept ≡ layouts_from rules width (given_if is_measured (front ++ (inner ++ back))) (left ++ (mid ++ right))
      → splice kept first last (layouts_from rules width (given_if is_measured fresh) new)
      ≡ layouts_from rules width (given_if is_measured (front ++ (fresh ++ back))) (left ++ (new ++ right))
  middle_laid false kept in_front in_mid in_new laid =
      let one = layouts_from rules width None in
      let parts : kept ≡ one left ++ (one mid ++ one right) =
      laid ∙ layouts-append rules width None left (mid ++ right) ∙ ap (λ ls. one left ++ ls) (layouts-append rules width None mid right) in
      ap (λ ls. splice ls first last (one new)) parts
      ∙ spliced_layouts (one left) (one mid) (one right) (one new) first last (first-is ∙ sym (length-layouts rules width None left))
      (last-is ∙ ap₂ (λ (m n : ℕ). m + n) (sym (length-layouts rules width None left)) (sym (length-layouts rules width None mid)))
      ∙ ap (λ ls. one left ++ ls) (sym (layouts-append rules width None new right))
      ∙ sym (layouts-append rules width None left (new ++ right))
  middle_laid true kept in_front in_mid in_new laid =
      let old : List ℕ = front ++ (inner ++ back) in
      let within : Option (List ℕ) = Some (drop (length (concat left)) old) in
      let parts = laid ∙ layouts-whole rules width left mid right new front inner back fresh (in_front refl) (in_mid refl) (in_new refl) in
      ap (λ ls. splice ls first last (layouts_from rules width (Some fresh) new)) parts
      ∙ spliced_layouts (layouts_from rules width (Some old) left) (layouts_from rules width within mid) (layouts_from rules width (Some back) right) (layouts_from rules width (Some fresh) new) first last
      (first-is ∙ sym (length-layouts rules width (Some old) left))
      (last-is ∙ ap₂ (λ (m n : ℕ). m + n) (sym (length-layouts rules width (Some old) left)) (sym (length-layouts rules width within mid)))
      ∙ sym (layouts-middle rules width left mid right new front inner back fresh (in_front refl) (in_mid refl) (in_new refl))

  pub middle_room : (is_measured : Bool)
      → (is_measured ≡ true → length front ≡ length (concat left)) → (is_measured ≡ true → length inner ≡ length (concat mid)) → (is_measured ≡ true → length fresh ≡ length (concat new))
      → room_refusal (given_if is_measured (front ++ (inner ++ back))) (left ++ (mid ++ right)) ≡ None
      → room_refusal (given_if is_measured (front ++ (fresh ++ back))) (left ++ (new ++ right)) ≡ room_refusal (given_if is_measured fresh) new
  middle_room false in_front in_mid in_new has = refl
  middle_room true in_front in_mid in_new has =
      ap (λ b. if b then None else Some ParagraphTooLong)
      (room-middle rules width left mid right new front inner back fresh (in_front refl) (in_mid refl) (in_new refl) (roomy (front ++ (inner ++ back)) (left ++ (mid ++ right)) has))

module _ (law : ParagraphsArePieces) (few : LinesAreFew) (engine : Engine) (width : ℕ) (is_measured : Bool) (kept : List Layout) (whole : IsWholeLayout (state_of engine width is_measured kept))
    (pos count : ℕ) (piece : List ℕ) (within : pos + count ≤ length (text_of kept)) (front back : Border) (f : IsFrontBorder kept pos front) (b : IsBackBorder kept (pos + count) back) where
  abbrev pub region : List ℕ
  region = front_of (pars_of kept) front pos ++ (piece ++ back_of (pars_of kept) back (pos + count))

  abbrev pub zeros : List ℕ
  zeros = replicate (length piece) 0

  -- the advances of the region
  abbrev pub region_list : List ℕ
  region_list = front_of (advance_lists kept) front pos ++ (zeros ++ back_of (advance_lists kept) back (pos + count))

  abbrev pub region_advances : Option (List ℕ)
  region_advances = given_if is_measured region_list

  abbrev pub edit : Replacement
  edit = replacing pos count piece

  abbrev list : List ℕ
  list = concat (advance_lists kept)

  abbrev pub advances : Option (List ℕ)
  advances = advances_in is_measured kept

  abbrev rules : Rules
  rules = with_advances (rules_of engine) None

  -- the rules for the region, and for the new text
  abbrev pub region_rules : Rules
  region_rules = with_advances (rules_of engine) region_advances

  abbrev pub new_rules : Rules
  new_rules = with_advances (rules_of engine) (advances_after advances edit)

  order : pos ≤ pos + count
  order = omega arith

  pars-kept : pars_of kept ≡ paragraphs (cut_by rules) (text_of kept)
  pars-kept = ap pars_of whole.kept ∙ pars-layouts rules width advances (paragraphs (cut_by rules) (text_of kept))

  around : AreAround (pars_of kept) pos (pos + count) front back
  around = are_around kept pos (pos + count) front back f b

  touched : AreTouched (pars_of kept) pos (pos + count) (touched_by front back)
  touched = touched_around (pars_of kept) pos (pos + count) front back order within around

  spliced : IsSpliced (cut_by rules) (pars_of kept) pos count piece (touched_by front back)
  spliced = IsSpliced-from_touched law (cut_by rules) (pars_of kept) pos count piece (touched_by front back) (sym pars-kept) within touched

  region_is : region_of (pars_of kept) (touched_by front back) pos (pos + count) piece ≡ region
  region_is = region_around (pars_of kept) pos (pos + count) front back order within around piece

  pub rise : front.index ≤ back.index
  rise = rise_around (pars_of kept) pos (pos + count) front back order within around

  pub length-region : length region ≡ fresh (pars_of kept) edit
  length-region = ap length (sym region_is) ∙ spliced.size

  -- ---- the advances before and after the edit

  module _ (is : is_measured ≡ true) where
    each : length list ≡ length (text_of kept)
    each = each_given is_measured list (text_of kept) whole.advances is

    laid_listed : kept ≡ layouts_from rules width (Some list) (pars_of kept)
    laid_listed =
        whole.kept ∙ ap (λ m. layouts_from rules width (given_if m list) (paragraphs (cut_by rules) (text_of kept))) is
        ∙ ap (layouts_from rules width (Some list)) (sym pars-kept)

    list_starts : (i : ℕ) → start_of (advance_lists kept) i ≡ start_of (pars_of kept) i
    list_starts i =
        ap (λ ks. start_of (advance_lists ks) i) laid_listed
        ∙ listed_starts rules width list (pars_of kept) i each

    list_number : length (advance_lists kept) ≡ length (pars_of kept)
    list_number = ap (λ ks. length (advance_lists ks)) laid_listed ∙ listed_number rules width (Some list) (pars_of kept)

    list_around : AreAround (advance_lists kept) pos (pos + count) front back
    list_around = same_around (pars_of kept) (advance_lists kept) pos (pos + count) front back list_number list_starts around

    list_within : pos + count ≤ length (concat (advance_lists kept))
    list_within = omega (arith, within, each)

    list_after : replaced list (replacing pos count zeros) ≡ concat (take front.index (advance_lists kept)) ++ (region_list ++ concat (drop back.index (advance_lists kept)))
    list_after =
        spliced_text (advance_lists kept) pos count zeros (touched_by front back) list_within
        (touched_around (advance_lists kept) pos (pos + count) front back order list_within list_around)
        ∙ ap (λ r. concat (take front.index (advance_lists kept)) ++ (r ++ concat (drop back.index (advance_lists kept))))
        (region_around (advance_lists kept) pos (pos + count) front back order list_within list_around zeros)

    left_sizes : length (concat (take front.index (advance_lists kept))) ≡ length (concat (take front.index (pars_of kept)))
    left_sizes = list_starts front.index

    upto_sizes : (parts : List (List ℕ)) → length (concat (take back.index parts)) ≡ length (concat (take front.index parts)) + length (concat (slice_range parts front.index back.index))
    upto_sizes parts =
        ap (λ ps. length (concat ps)) (take_both parts front.index back.index rise)
        ∙ ap length (concat-append (take front.index parts) (slice_range parts front.index back.index))
        ∙ length-append (concat (take front.index parts)) (concat (slice_range parts front.index back.index))

    mid_sizes : length (concat (slice_range (advance_lists kept) front.index back.index)) ≡ length (concat (slice_range (pars_of kept) front.index back.index))
    mid_sizes = omega (arith, upto_sizes (advance_lists kept), upto_sizes (pars_of kept), list_starts front.index, list_starts back.index)

    -- the region has one advance for each of its characters
    region_sizes : length region_list ≡ length region
    region_sizes =
        let after : length (replaced list (replacing pos count zeros)) ≡ length list - count + length zeros = length-replaced_text list zeros pos count (omega (arith, list_within)) in
        let text : length (replaced (text_of kept) edit) ≡ length (text_of kept) - count + length piece = length-replaced_text (text_of kept) piece pos count within in
        let left_list = concat (take front.index (advance_lists kept)) in
        let right_list = concat (drop back.index (advance_lists kept)) in
        let left = concat (take front.index (pars_of kept)) in
        let right = concat (drop back.index (pars_of kept)) in
        let list_parts : length (replaced list (replacing pos count zeros)) ≡ length left_list + (length region_list + length right_list) =
        ap length list_after ∙ length-append left_list (region_list ++ right_list) ∙ ap (λ n. length left_list + n) (length-append region_list right_list) in
        let text_parts : length (replaced (text_of kept) edit) ≡ length left + (length region + length right) =
        ap length (spliced.text ∙ ap (λ r. left ++ (r ++ right)) region_is) ∙ length-append left (region ++ right) ∙ ap (λ n. length left + n) (length-append region right) in
        let whole_list : length list ≡ length (concat (take back.index (advance_lists kept))) + length right_list =
        ap (λ ps. length (concat ps)) (sym (take-append-drop back.index (advance_lists kept)))
        ∙ ap length (concat-append (take back.index (advance_lists kept)) (drop back.index (advance_lists kept)))
        ∙ length-append (concat (take back.index (advance_lists kept))) right_list in
        let whole_text : length (text_of kept) ≡ length (concat (take back.index (pars_of kept))) + length right =
        ap (λ ps. length (concat ps)) (sym (take-append-drop back.index (pars_of kept)))
        ∙ ap length (concat-append (take back.index (pars_of kept)) (drop back.index (pars_of kept)))
        ∙ length-append (concat (take back.index (pars_of kept))) right in
        omega (arith, after, text, list_parts, text_parts, whole_list, whole_text, list_starts front.index, list_starts back.index, each, length-replicate {A = ℕ} (length piece) 0)

    new_sizes : length region_list ≡ length (concat (paragraphs (cut_by rules) region))
    new_sizes = region_sizes ∙ ap length (sym (law.whole (cut_by rules) region))

    after_sizes : length (replaced list (replacing pos count zeros)) ≡ length (replaced (text_of kept) edit)
    after_sizes =
        length-replaced_text list zeros pos count list_within ∙ omega (arith, each, length-replicate {A = ℕ} (length piece) 0)
        ∙ sym (length-replaced_text (text_of kept) piece pos count within)

    -- each paragraph has one advance for each of its characters
    each_size : (i : ℕ) → length (get_or (advance_lists kept) i []) ≡ length (get_or (pars_of kept) i [])
    each_size i = elim (cases_lt i (length (pars_of kept))) [
      | inl some ↦ omega (arith, start_of-more (pars_of kept) i [] some, start_of-more (advance_lists kept) i [] (omega (arith, some, list_number)), list_starts i, list_starts (i + 1))
      | inr past ↦ ap length (get_or_past (advance_lists kept) i [] (omega (arith, past, list_number))) ∙ sym (ap length (get_or_past (pars_of kept) i [] (omega (arith, past))))
    ]

  -- each of the two parts around the edited range has one advance for each of its characters
  pub front_each : AreForEach (given_if is_measured (front_of (advance_lists kept) front pos)) (front_of (pars_of kept) front pos)
  front_each = given_each is_measured (front_of (advance_lists kept) front pos) (front_of (pars_of kept) front pos) (λ is.
      length-take (pos - front.chars) (get_or (advance_lists kept) front.index []) ∙ ap (min (pos - front.chars)) (each_size is front.index)
      ∙ sym (length-take (pos - front.chars) (get_or (pars_of kept) front.index [])))

  pub back_each : AreForEach (given_if is_measured (back_of (advance_lists kept) back (pos + count))) (back_of (pars_of kept) back (pos + count))
  back_each = given_each is_measured (back_of (advance_lists kept) back (pos + count)) (back_of (pars_of kept) back (pos + count)) (λ is.
      let xs = get_or (advance_lists kept) (back.index - 1) [] in
      let ys = get_or (pars_of kept) (back.index - 1) [] in
      let n = back.chars - (pos + count) in
      omega (arith, length-drop (length xs - n) xs, length-drop (length ys - n) ys, each_size is (back.index - 1)))

  abbrev left : List (List ℕ)
  left = take front.index (pars_of kept)

  abbrev mid : List (List ℕ)
  mid = slice_range (pars_of kept) front.index back.index

  abbrev right : List (List ℕ)
  right = drop back.index (pars_of kept)

  abbrev left_list : List ℕ
  left_list = concat (take front.index (advance_lists kept))

  abbrev mid_list : List ℕ
  mid_list = concat (slice_range (advance_lists kept) front.index back.index)

  abbrev right_list : List ℕ
  right_list = concat (drop back.index (advance_lists kept))

  pars_parts : paragraphs (cut_by rules) (text_of kept) ≡ left ++ (mid ++ right)
  pars_parts = sym pars-kept ∙ sym (take-append-drop front.index (pars_of kept)) ∙ ap (λ ps. left ++ ps) (drop_split (pars_of kept) front.index back.index rise)

  list_parts : list ≡ left_list ++ (mid_list ++ right_list)
  list_parts =
      ap concat (sym (take-append-drop front.index (advance_lists kept)) ∙ ap (λ ps. take front.index (advance_lists kept) ++ ps) (drop_split (advance_lists kept) front.index back.index rise))
      ∙ concat-append (take front.index (advance_lists kept)) (slice_range (advance_lists kept) front.index back.index ++ drop back.index (advance_lists kept))
      ∙ ap (λ cs. left_list ++ cs) (concat-append (slice_range (advance_lists kept) front.index back.index) (drop back.index (advance_lists kept)))

  advances_parts : advances ≡ given_if is_measured (left_list ++ (mid_list ++ right_list))
  advances_parts = ap (given_if is_measured) list_parts

  new_parts : advances_after advances edit ≡ given_if is_measured (left_list ++ (region_list ++ right_list))
  new_parts =
      given_after is_measured list edit
      ∙ given_same is_measured (replaced list (replacing pos count zeros)) (left_list ++ (region_list ++ right_list)) list_after

  new_pars : paragraphs (cut_by rules) (replaced (text_of kept) edit) ≡ left ++ (paragraphs (cut_by rules) region ++ right)
  new_pars = spliced.pieces ∙ ap (λ t. left ++ (paragraphs (cut_by rules) t ++ right)) region_is

  pub left_number : front.index ≡ length left
  left_number = sym (length-take-le front.index (pars_of kept) around.front_within)

  upto_number : back.index ≡ length left + length mid
  upto_number =
      sym (length-take-le back.index (pars_of kept) around.back_within)
      ∙ ap length (take_both (pars_of kept) front.index back.index rise) ∙ length-append left mid

  -- after the edit, the store has the fresh layouts of the new text
  pub kept-after : splice kept front.index back.index (layouts_of region_rules width region) ≡ layouts_of new_rules width (replaced (text_of kept) edit)
  kept-after =
      let laid : kept ≡ layouts_from rules width (given_if is_measured (left_list ++ (mid_list ++ right_list))) (left ++ (mid ++ right)) =
      whole.kept ∙ ap₂ (λ (a : Option (List ℕ)) (ps : List (List ℕ)). layouts_from rules width a ps) advances_parts pars_parts in
      middle_laid rules width left mid right (paragraphs (cut_by rules) region) left_list mid_list right_list region_list front.index back.index left_number upto_number
      is_measured kept left_sizes mid_sizes new_sizes laid
      ∙ ap₂ (λ (a : Option (List ℕ)) (ps : List (List ℕ)). layouts_from rules width a ps) (sym new_parts) (sym new_pars)

  room_is : room_refusal (advances_after advances edit) (paragraphs (cut_by rules) (replaced (text_of kept) edit)) ≡ room_refusal region_advances (paragraphs (cut_by rules) region)
  room_is =
      let has : room_refusal (given_if is_measured (left_list ++ (mid_list ++ right_list))) (left ++ (mid ++ right)) ≡ None =
      ap₂ (λ (a : Option (List ℕ)) (ps : List (List ℕ)). room_refusal a ps) (sym advances_parts) (sym pars_parts) ∙ allowed-room (cut_by rules) advances (text_of kept) whole.allowed in
      ap₂ (λ (a : Option (List ℕ)) (ps : List (List ℕ)). room_refusal a ps) new_parts new_pars
      ∙ middle_room rules width left mid right (paragraphs (cut_by rules) region) left_list mid_list right_list region_list front.index back.index left_number upto_number
      is_measured left_sizes mid_sizes new_sizes has

  -- if the new text is not too long, an edit is refused for the same reason as the paragraphs of its region
  pub refusal-by_region : length (text_of kept) - count + length piece ≤ TEXT_LIMIT → refusal (cut_by rules) advances (text_of kept) edit ≡ paragraphs_refusal (cut_by rules) region_advances region
  refusal-by_region short =
      let text = replaced (text_of kept) edit in
      let allowed : are_within (pars_of kept) ≡ true = ap are_within pars-kept ∙ allowed-within_limit (cut_by rules) advances (text_of kept) whole.allowed in
      refusal-inside (cut_by rules) advances (text_of kept) edit within
      ∙ text_refusal-short (cut_by rules) (advances_after advances edit) text (rw (length-replaced_text (text_of kept) piece pos count within) short)
      ∙ ap₂ (λ (b : Bool) (o : Option EditFault). if b then o else Some ParagraphTooLong) (spliced.limit allowed ∙ ap (is_within_limit (cut_by rules)) region_is) room_is

  pub EditsNot-by_region : (new_engine : Engine) (fault : EditFault) → length (text_of kept) - count + length piece ≤ TEXT_LIMIT → IsAnswerFor (paragraphs_refusal (cut_by rules) region_advances region) fault
      → SameRules engine new_engine → IsCountedFor fault (LaysOutAtMost (length region)) engine new_engine
      → EditsNot edit (state_of engine width is_measured kept) (state_of new_engine width is_measured kept) fault
  EditsNot-by_region new_engine fault short answer same counts = record {
    answer = subst (λ o. IsAnswerFor o fault) (sym (refusal-by_region short)) answer;
    kept = refl;
    at_width = refl;
    advances = refl;
    laid_out = IsWholeLayout-same engine new_engine width advances kept same whole;
    rules = same;
    counts = subst (λ n. IsCountedFor fault (LaysOutAtMost n) engine new_engine) length-region counts;
  }

  -- if new layouts replace those of the touched paragraphs, the session has the fresh layouts of the new text
  module _ (new : List Layout) (laid : new ≡ layouts_of region_rules width region) (short : length (text_of kept) - count + length piece ≤ TEXT_LIMIT) where
    abbrev pub after : List Layout
    after = splice kept front.index back.index new

    after_is : after ≡ layouts_of new_rules width (replaced (text_of kept) edit)
    after_is = ap (splice kept front.index back.index) laid ∙ kept-after

    text-after : text_of after ≡ replaced (text_of kept) edit
    text-after = ap text_of after_is ∙ text-layouts law new_rules width (replaced (text_of kept) edit)

    each-after : AreForEach (given_if is_measured (replaced list (replacing pos count zeros))) (concat (paragraphs (cut_by rules) (replaced (text_of kept) edit)))
    each-after =
        given_each is_measured (replaced list (replacing pos count zeros)) (concat (paragraphs (cut_by rules) (replaced (text_of kept) edit)))
        (λ is. after_sizes is ∙ ap length (sym (law.whole (cut_by rules) (replaced (text_of kept) edit))))

    -- inserted characters have advance 0, and all others keep theirs
    advances-after : advances_in is_measured after ≡ advances_after advances edit
    advances-after =
        let given = given_after is_measured list edit in
        ap (advances_in is_measured) after_is
        ∙ ap (λ a. advances_in is_measured (layouts_from rules width a (paragraphs (cut_by rules) (replaced (text_of kept) edit)))) given
        ∙ advances-layouts rules width is_measured (replaced list (replacing pos count zeros)) (paragraphs (cut_by rules) (replaced (text_of kept) edit)) each-after
        ∙ sym given

    size-after : length (replaced (text_of kept) edit) ≤ TEXT_LIMIT
    size-after = rw (length-replaced_text (text_of kept) piece pos count within) short

    pub chars_fit : sum_by chars_of after < 2 ^ 64
    chars_fit = omega (arith, chars-laid law few new_rules width (replaced (text_of kept) edit) after after_is, size-after)

    pub units_fit : (size : ℕ → ℕ) → AreFew size → sum_by (λ l. sum_by size l.text) after < 2 ^ 64
    units_fit size few_units =
        omega (arith, few_in_all size few_units after, chars-laid law few new_rules width (replaced (text_of kept) edit) after after_is, size-after)

    pub lines_fit : sum_by line_number after < 2 ^ 64
    lines_fit = omega (arith, few-laid law few new_rules width (replaced (text_of kept) edit) after after_is, size-after)

    old-parts : kept ≡ take front.index kept ++ (slice_range kept front.index back.index ++ drop back.index kept)
    old-parts = sym (take-append-drop front.index kept) ∙ ap (λ ks. take front.index kept ++ ks) (drop_split kept front.index back.index rise)

    lines-parts : (left mid right : List Layout) → lines_in (left ++ (mid ++ right)) ≡ lines_in left ++ (lines_in mid ++ lines_in right)
    lines-parts left mid right = flat_map-append visuals left (mid ++ right) ∙ ap (λ ls. lines_in left ++ ls) (flat_map-append visuals mid right)

    IsDamage-after : IsDamage edit kept after (damage_between front back new)
    IsDamage-after =
        let left = take front.index kept in
        let mid = slice_range kept front.index back.index in
        let right = drop back.index kept in
        let place : front.index + (back.index - front.index) ≡ back.index = omega (arith, rise) in
        let upto : take back.index kept ≡ left ++ mid = take_both kept front.index back.index rise in
        let left-size : length left ≡ front.index = length-take-le front.index kept f.border_is.within in
        let mid-size : length mid ≡ back.index - front.index = omega (arith, ap length upto, length-append left mid, length-take-le back.index kept b.border_is.within) in
        let lines-upto : back.lines ≡ front.lines + length (lines_in mid) =
        b.border_is.lines ∙ ap (λ ks. length (lines_in ks)) upto ∙ ap length (flat_map-append visuals left mid) ∙ length-append (lines_in left) (lines_in mid)
        ∙ ap (λ n. n + length (lines_in mid)) (sym f.border_is.lines) in
        record {
          first_par = spliced.first;
          old_pars = omega (arith, spliced.number);
          first_line = f.border_is.lines;
          old_lines = omega (arith, lines-upto) ∙ ap (λ n. length (lines_in (slice_range kept front.index n))) (sym place);
          pars = Replaces-middle left mid right new kept after front.index (back.index - front.index) (length new) old-parts refl (sym left-size) (sym mid-size) refl;
          lines = Replaces-middle (lines_in left) (lines_in mid) (lines_in right) (lines_in new) (lines_in kept) (lines_in after) front.lines (back.lines - front.lines) (length (lines_in new))
              (ap lines_in old-parts ∙ lines-parts left mid right) (lines-parts left new right) f.border_is.lines (omega (arith, lines-upto)) refl;
        }

    pub Edits-after : (new_engine : Engine) → paragraphs_refusal (cut_by rules) region_advances region ≡ None → SameRules engine new_engine → LaysOutAtMost (length region) engine new_engine
        → Edits edit (state_of engine width is_measured kept) (state_of new_engine width is_measured after) (damage_between front back new)
    Edits-after new_engine in_limit same counts =
        let accepted : refusal (cut_by rules) advances (text_of kept) edit ≡ None = refusal-by_region short ∙ in_limit in
        let allowed : content_refusal (cut_by rules) (advances_after advances edit) (replaced (text_of kept) edit) ≡ None =
        sym (refusal-inside (cut_by rules) advances (text_of kept) edit within) ∙ accepted in
        record {
          accepted = accepted;
          text = text-after;
          at_width = refl;
          advances = advances-after;
          laid_out = IsWholeLayout-same engine new_engine width (advances_in is_measured after) after same (record {
            kept = after_is ∙ ap₂ (λ (a : Option (List ℕ)) (t : List ℕ). layouts_of (with_advances (rules_of engine) a) width t) (sym advances-after) (sym text-after);
            allowed = ap₂ (λ (a : Option (List ℕ)) (t : List ℕ). content_refusal (cut_by rules) a t) advances-after text-after ∙ allowed;
            filled = whole.filled;
            advances = subst (λ (a : Option (List ℕ)). AreForEach a (text_of after)) (sym (advances-after ∙ given_after is_measured list edit))
                (given_each is_measured (replaced list (replacing pos count zeros)) (text_of after) (λ is. after_sizes is ∙ ap length (sym text-after)));
          });
          rules = same;
          damage = IsDamage-after;
          counts = subst (λ n. LaysOutAtMost n engine new_engine) length-region counts;
        }

-- the postcondition of an edit follows from that of its last call
pub ends_ok : (P : List Layout → Damage → Type 0) (r : Result Damage EditFault) (now made : List Layout) (d : Damage) → OnOk r (now ≡ made) → IfOk r (λ damage. damage ≡ d) → P made d → IfOk r (P now)
ends_ok P (Ok x) now made d h e p = subst (λ ks. P ks x) (sym h) (subst (P made) (sym e) p)
ends_ok P (Err x) now made d h e p = tt

pub ends_err : (P : List Layout → EditFault → Type 0) (r : Result Damage EditFault) (now before : List Layout)
    → OnErr r (now ≡ before) → IfErr r (λ fault. fault ≡ NoMemory) → P before NoMemory → IfErr r (P now)
ends_err P (Ok x) now before h e p = tt
ends_err P (Err x) now before h e p = subst (λ ks. P ks x) (sym h) (subst (P before) (sym e) p)
