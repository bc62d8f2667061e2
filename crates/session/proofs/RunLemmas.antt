-- Edits in order, and the text and the width after each edit.
use Rattle.std.proofs.Common.{◌≡◌, ℕ, zero, suc, ◌+◌, ◌<◌, ◌≤◌, Bool, true, false, List, [], ◌∷◌, ◌++◌, length, take, drop, get_or, Option, None, Result, Ok, Err, is_none, if◌then◌else◌, refl, sym, ap, ap₂, subst, ◌∙◌, append_assoc, take-append-drop, arith}
use Rattle.std.specs.Result.{IfOk, IfErr, result_eq}
use Rattle.std.proofs.lemmas.Bool.{cond-true, cond-false, both_ways}
use Rattle.std.proofs.lemmas.List.{take_more}
use Rattle.bidi.specs.Cuts.{paragraphs}
use Rattle.lines.specs.Engine.{SameRules, LaysOutAtMost, FillsAtMost, FindsExtentsAtMost, RisesBy, analysed_of, counted, filled_of, written_of, rules_of}
use Rattle.lines.specs.Layouts.{Rules, cut_by, with_advances}
use Rattle.lines.specs.declared.engine.Engine.{Engine}
use Rattle.session.specs.Runs.{StopsAt, TakesMemory, WorksAtMost, analysed_by, edit_refusal, filled_by, work_of, work_of_all}
use Rattle.session.specs.Touched.{fresh}
use Rattle.session.proofs.AdvanceLemmas.{pars-layouts}
use Rattle.session.specs.Edits.{Replacement, Held, edited as held_after, refusal, width_refusal, after_edit, after_width, after_one, after_all}
use Rattle.session.specs.Kept.{changed, pars_of, text_of}
use Rattle.session.specs.Sessions.{SessionState, IsWholeLayout, IsAnswerFor, IsCountedFor, Edits, EditsNot, SetsWidth, SetsWidthNot, Stays, cuts_at, held_at, layouts_at, text_at}
use Rattle.session.specs.declared.edits.Damage.{Damage}
use Rattle.session.specs.declared.edits.Edit.{Edit}
use Rattle.session.specs.declared.edits.EditFault.{EditFault}
use Rattle.session.specs.declared.edits.EditFault.TheVariants.{OutOfRange, WidthOutOfRange, TextTooLong, ParagraphTooLong, NoMemory}

-- After an accepted edit, the state is the new one. After a refused edit, the state is the old one.
choice-accepted : {A : Type 0} (reason : Option EditFault) (new old : A) → reason ≡ None → (if is_none reason then new else old) ≡ new
choice-accepted reason new old e = cond-true (is_none reason) new old (ap is_none e)

choice-refused : {A : Type 0} (reason : Option EditFault) (new old : A) (fault : EditFault) → IsAnswerFor reason fault → (fault ≡ NoMemory → ⊥) → (if is_none reason then new else old) ≡ old
choice-refused reason new old OutOfRange e other = cond-false (is_none reason) new old (ap is_none e)
choice-refused reason new old WidthOutOfRange e other = cond-false (is_none reason) new old (ap is_none e)
choice-refused reason new old TextTooLong e other = cond-false (is_none reason) new old (ap is_none e)
choice-refused reason new old ParagraphTooLong e other = cond-false (is_none reason) new old (ap is_none e)
choice-refused reason new old NoMemory e other = absurd (other refl)

-- whether the session is in the state after an edit that was executed or refused
pub record HasMoved (after : Held) (old new : SessionState) : Type 0 where
  pub held : held_at new ≡ after
  pub laid_out : IsWholeLayout new
  pub rules : SameRules old.engine new.engine

held-by : (state : SessionState) (held : Held) → text_at state ≡ held.text → state.width ≡ held.width → state.advances ≡ held.advances → held_at state ≡ held
held-by state held t w a =
    ap₂ {C = Held} (λ (x : List ℕ) (y : ℕ). record { text = x; width = y; advances = state.advances }) t w
    ∙ ap (λ (z : Option (List ℕ)). record held { advances = z }) a

pub edited : (edit : Replacement) (old new : SessionState) (result : Result Damage EditFault) → IfOk result (Edits edit old new) → IfErr result (EditsNot edit old new) → (result ≡ Err NoMemory → ⊥)
    → HasMoved (after_edit (cuts_at old) (held_at old) edit) old new
edited edit old new (Ok damage) m r other = record {
  held = held-by new (held_after (held_at old) edit) m.text m.at_width m.advances
      ∙ sym (choice-accepted (refusal (cuts_at old) old.advances (text_at old) edit) (held_after (held_at old) edit) (held_at old) m.accepted);
  laid_out = m.laid_out;
  rules = m.rules;
}
edited edit old new (Err fault) m r other = record {
  held = held-by new (held_at old) (ap text_of r.kept) r.at_width r.advances
      ∙ sym (choice-refused (refusal (cuts_at old) old.advances (text_at old) edit) (held_after (held_at old) edit) (held_at old) fault r.answer (λ e. other (ap Err e)));
  laid_out = r.laid_out;
  rules = r.rules;
}

pub refilled_to : (width : ℕ) (old new : SessionState) (result : Result Damage EditFault)
    → IfOk result (SetsWidth width old new) → IfErr result (SetsWidthNot width old new) → (result ≡ Err NoMemory → ⊥)
    → HasMoved (record (held_at old) { width = after_width old.width width }) old new
refilled_to width old new (Ok damage) m r other = record {
  held = held-by new (record (held_at old) { width = after_width old.width width }) m.text (m.at_width ∙ sym (choice-accepted (width_refusal width) width old.width m.accepted)) m.advances;
  laid_out = m.laid_out;
  rules = m.rules;
}
refilled_to width old new (Err fault) m r other = record {
  held = held-by new (record (held_at old) { width = after_width old.width width }) (ap text_of r.kept)
      (r.at_width ∙ sym (choice-refused (width_refusal width) width old.width fault r.answer (λ e. other (ap Err e)))) r.advances;
  laid_out = r.laid_out;
  rules = r.rules;
}

-- whether an edit failed only because an allocation failed: it is not refused, and the text and the width are
-- unchanged
pub record IsUnchanged (reason : Option EditFault) (old new : SessionState) : Type 0 where
  pub moved : HasMoved (held_at old) old new
  pub accepted : reason ≡ None

is_unchanged : (reason : Option EditFault) (bound : Engine → Engine → Type 0) (old new : SessionState) (fault : EditFault) → Stays reason bound old new fault → HasMoved (held_at old) old new
is_unchanged reason bound old new fault r = record {
  held = held-by new (held_at old) (ap text_of r.kept) r.at_width r.advances;
  laid_out = r.laid_out;
  rules = r.rules;
}

pub stays : (reason : Option EditFault) (bound : Engine → Engine
    → Type 0) (old new : SessionState) (result : Result Damage EditFault) → IfErr result (Stays reason bound old new)
    → result ≡ Err NoMemory → IsUnchanged reason old new
stays reason bound old new (Ok damage) r e = absurd (cc e)
stays reason bound old new (Err OutOfRange) r e = absurd (cc e)
stays reason bound old new (Err WidthOutOfRange) r e = absurd (cc e)
stays reason bound old new (Err TextTooLong) r e = absurd (cc e)
stays reason bound old new (Err ParagraphTooLong) r e = absurd (cc e)
stays reason bound old new (Err NoMemory) r e = record { moved = is_unchanged reason bound old new NoMemory r; accepted = r.answer }

-- How much work an edit did. A refused edit did no work. Any other edit analysed at most n characters, and
-- filled and wrote lines with at most m characters.
pub record Works (reason : Option EditFault) (n m : ℕ) (old new : Engine) : Type 0 where
  pub analysed : RisesBy (if is_none reason then n else 0) (analysed_of old) (analysed_of new)
  pub filled : RisesBy (if is_none reason then m else 0) (filled_of old) (filled_of new)
  pub written : RisesBy (if is_none reason then m else 0) (written_of old) (written_of new)

RisesBy-same : (n old new : ℕ) → new ≡ old → RisesBy n old new
RisesBy-same n old new e = record { least = omega (arith, e); most = omega (arith, e) }

RisesBy-accepted : (reason : Option EditFault) (n old new : ℕ) → reason ≡ None → RisesBy n old new → RisesBy (if is_none reason then n else 0) old new
RisesBy-accepted reason n old new e r = subst (λ k. RisesBy k old new) (sym (cond-true (is_none reason) n 0 (ap is_none e))) r

works-none : (reason : Option EditFault) (n m : ℕ) (old new : Engine) → new ≡ old → Works reason n m old new
works-none reason n m old new e = record {
  analysed = RisesBy-same _ (analysed_of old) (analysed_of new) (ap analysed_of e);
  filled = RisesBy-same _ (filled_of old) (filled_of new) (ap filled_of e);
  written = RisesBy-same _ (written_of old) (written_of new) (ap written_of e);
}

works-laid_out : (reason : Option EditFault) (n : ℕ) (old new : Engine) → reason ≡ None → LaysOutAtMost n old new → Works reason n n old new
works-laid_out reason n old new e counts = record {
  analysed = RisesBy-accepted reason n (analysed_of old) (analysed_of new) e counts.analysed;
  filled = RisesBy-accepted reason n (filled_of old) (filled_of new) e counts.filled;
  written = RisesBy-accepted reason n (written_of old) (written_of new) e counts.written;
}

works-filled : (reason : Option EditFault) (n : ℕ) (old new : Engine) → reason ≡ None → FillsAtMost n old new → Works reason 0 n old new
works-filled reason n old new e counts = record {
  analysed = RisesBy-same _ (analysed_of old) (analysed_of new) counts.analysed;
  filled = RisesBy-accepted reason n (filled_of old) (filled_of new) e counts.filled;
  written = RisesBy-accepted reason n (written_of old) (written_of new) e counts.written;
}

works-counted : (reason : Option EditFault) (n m : ℕ) (bound : Engine → Engine → Type 0) (old new : Engine) (fault : EditFault)
    → IsAnswerFor reason fault → IsCountedFor fault bound old new → (reason ≡ None → bound old new → Works reason n m old new) → Works reason n m old new
works-counted reason n m bound old new OutOfRange a counts by = works-none reason n m old new counts
works-counted reason n m bound old new WidthOutOfRange a counts by = works-none reason n m old new counts
works-counted reason n m bound old new TextTooLong a counts by = works-none reason n m old new counts
works-counted reason n m bound old new ParagraphTooLong a counts by = works-none reason n m old new counts
works-counted reason n m bound old new NoMemory a counts by = by a counts

pars-kept : (state : SessionState) → IsWholeLayout state → pars_of state.kept ≡ paragraphs (cuts_at state) (text_at state)
pars-kept state whole =
    ap pars_of whole.kept ∙ pars-layouts (with_advances (rules_of state.engine) None) state.width state.advances (paragraphs (cuts_at state) (text_at state))

pub edit_works : (edit : Replacement) (old new : SessionState) (result : Result Damage EditFault) → IsWholeLayout old → IfOk result (Edits edit old new) → IfErr result (EditsNot edit old new)
    → Works (refusal (cuts_at old) old.advances (text_at old) edit) (fresh (paragraphs (cuts_at old) (text_at old)) edit) (fresh (paragraphs (cuts_at old) (text_at old)) edit) old.engine new.engine
edit_works edit old new (Ok damage) whole m r =
    let n = fresh (paragraphs (cuts_at old) (text_at old)) edit in
    works-laid_out (refusal (cuts_at old) old.advances (text_at old) edit) n old.engine new.engine m.accepted
    (subst (λ ps. LaysOutAtMost (fresh ps edit) old.engine new.engine) (pars-kept old whole) m.counts)
edit_works edit old new (Err fault) whole m r =
    let n = fresh (paragraphs (cuts_at old) (text_at old)) edit in
    let reason = refusal (cuts_at old) old.advances (text_at old) edit in
    works-counted reason n n (LaysOutAtMost n) old.engine new.engine fault r.answer
    (subst (λ ps. IsCountedFor fault (LaysOutAtMost (fresh ps edit)) old.engine new.engine) (pars-kept old whole) r.counts)
    (λ e counts. works-laid_out reason n old.engine new.engine e counts)

-- if a saturating count rises by exactly n, `RisesBy n` holds
RisesBy-exact : (n most old new : ℕ) → new ≡ counted old n → RisesBy most old new → RisesBy n old new
RisesBy-exact n most old new exact r = record { least = r.least; most = omega (arith, exact) }

width_counted : (width : ℕ) (old new : SessionState) (result : Result Damage EditFault) → IfOk result (SetsWidth width old new) → IfErr result (SetsWidthNot width old new)
    → Works (width_refusal width) 0 (changed (rules_of old.engine) width old.kept) old.engine new.engine
width_counted width old new (Ok damage) m r =
    let n = changed (rules_of old.engine) width old.kept in
    works-filled (width_refusal width) n old.engine new.engine m.accepted (record {
      analysed = m.exact.analysed;
      filled = RisesBy-exact n _ (filled_of old.engine) (filled_of new.engine) m.exact.filled m.counts.filled;
      written = RisesBy-exact n _ (written_of old.engine) (written_of new.engine) m.exact.written m.counts.written;
    })
width_counted width old new (Err fault) m r =
    let n = changed (rules_of old.engine) width old.kept in
    works-counted (width_refusal width) 0 n (FindsExtentsAtMost n) old.engine new.engine fault r.answer r.counts
    (λ e counts. works-filled (width_refusal width) n old.engine new.engine e (record {
      analysed = counts.analysed;
      filled = counts.filled;
      written = RisesBy-same n (written_of old.engine) (written_of new.engine) counts.written;
    }))

pub width_works : (width : ℕ) (old new : SessionState) (result : Result Damage EditFault) → IsWholeLayout old → IfOk result (SetsWidth width old new) → IfErr result (SetsWidthNot width old new)
    → Works (width_refusal width) 0 (changed (rules_of old.engine) width (layouts_at (rules_of old.engine) (held_at old))) old.engine new.engine
width_works width old new result whole m r =
    subst (λ kept. Works (width_refusal width) 0 (changed (rules_of old.engine) width kept) old.engine new.engine) whole.kept (width_counted width old new result m r)

-- whether a session is in the state after the first n edits
pub record HasRun (start : SessionState) (edits : List Edit) (n : ℕ) (now : SessionState) : Type 0 where
  pub held : held_at now ≡ after_all (cuts_at start) (held_at start) (take n edits)
  pub laid_out : IsWholeLayout now
  pub rules : SameRules start.engine now.engine
  pub works : WorksAtMost (rules_of start.engine) (held_at start) (take n edits) start.engine now.engine

after_all-push : (is_cut : ℕ → ℕ → Bool) (held : Held) (edits : List Edit) (edit : Edit) → after_all is_cut held (edits ++ edit ∷ []) ≡ after_one is_cut (after_all is_cut held edits) edit
after_all-push is_cut held [] edit = refl
after_all-push is_cut held (first ∷ edits) edit = after_all-push is_cut (after_one is_cut held first) edits edit

-- appending an edit to a list of edits adds the work of that edit to the work of the list
work_of-push : (rules : Rules) (work : Held → Edit → ℕ) (held : Held) (edits : List Edit) (edit : Edit)
    → work_of_all rules work held (edits ++ edit ∷ []) ≡ work_of_all rules work held edits + work_of rules work (after_all (cut_by rules) held edits) edit
work_of-push rules work held [] edit = omega arith
work_of-push rules work held (first ∷ edits) edit = omega (arith, work_of-push rules work (after_one (cut_by rules) held first) edits edit)

work_of-take : (rules : Rules) (work : Held → Edit → ℕ) (held : Held) (edits : List Edit) (n : ℕ) → work_of_all rules work held (take n edits) ≤ work_of_all rules work held edits
work_of-take rules work held [] zero = omega arith
work_of-take rules work held [] (suc n) = omega arith
work_of-take rules work held (first ∷ edits) zero = omega arith
work_of-take rules work held (first ∷ edits) (suc n) = omega (arith, work_of-take rules work (after_one (cut_by rules) held first) edits n)

RisesBy-more : (n m k a b c : ℕ) → RisesBy n a b → RisesBy m b c → k ≡ n + m → RisesBy k a c
RisesBy-more n m k a b c r s e = record { least = omega (arith, r.least, s.least); most = omega (arith, r.most, s.most, e) }

RisesBy-within : (n m a b : ℕ) → n ≤ m → RisesBy n a b → RisesBy m a b
RisesBy-within n m a b le r = record { least = r.least; most = omega (arith, r.most, le) }

pub whole_works : (start : SessionState) (edits : List Edit) (n : ℕ) (old new : Engine)
    → WorksAtMost (rules_of start.engine) (held_at start) (take n edits) old new
    → WorksAtMost (rules_of start.engine) (held_at start) edits old new
whole_works start edits n old new w = record {
  analysed = RisesBy-within _ _ _ _ (work_of-take (rules_of start.engine) (analysed_by (rules_of start.engine)) (held_at start) edits n) w.analysed;
  filled = RisesBy-within _ _ _ _ (work_of-take (rules_of start.engine) (filled_by (rules_of start.engine)) (held_at start) edits n) w.filled;
  written = RisesBy-within _ _ _ _ (work_of-take (rules_of start.engine) (filled_by (rules_of start.engine)) (held_at start) edits n) w.written;
}

pub next_works : (start old new : SessionState) (edits : List Edit) (n : ℕ) (d edit : Edit) → n < length edits → get_or edits n d ≡ edit → HasRun start edits n old
    → Works (edit_refusal (rules_of old.engine) (held_at old) edit) (analysed_by (rules_of old.engine) (held_at old) edit) (filled_by (rules_of old.engine) (held_at old) edit) old.engine new.engine
    → WorksAtMost (rules_of start.engine) (held_at start) (take (n + 1) edits) start.engine new.engine
next_works start old new edits n d edit within read run works =
    let front = take n edits in
    let more : take (n + 1) edits ≡ front ++ edit ∷ [] = take_more edits n d within ∙ ap (λ e. front ++ e ∷ []) read in
    let sum_is = λ (work : Rules → Held → Edit → ℕ).
    ap (work_of_all (rules_of start.engine) (work (rules_of start.engine)) (held_at start)) more
    ∙ work_of-push (rules_of start.engine) (work (rules_of start.engine)) (held_at start) front edit
    ∙ ap (λ held. work_of_all (rules_of start.engine) (work (rules_of start.engine)) (held_at start) front + work_of (rules_of start.engine) (work (rules_of start.engine)) held edit) (sym run.held)
    ∙ ap (λ r. work_of_all (rules_of start.engine) (work (rules_of start.engine)) (held_at start) front + work_of r (work r) (held_at old) edit) (sym run.rules) in
    record {
      analysed = RisesBy-more _ _ _ _ _ _ run.works.analysed works.analysed (sum_is analysed_by);
      filled = RisesBy-more _ _ _ _ _ _ run.works.filled works.filled (sum_is filled_by);
      written = RisesBy-more _ _ _ _ _ _ run.works.written works.written (sum_is filled_by);
    }

-- if edit n fails because memory ran out, the run stops at edit n
pub HasRun-stops : (start old new : SessionState) (edits : List Edit) (n : ℕ) (d edit : Edit) → n < length edits → get_or edits n d ≡ edit → HasRun start edits n old
    → TakesMemory (rules_of old.engine) (held_at old) edit
    → IsUnchanged (edit_refusal (rules_of old.engine) (held_at old) edit) old new
    → Works (edit_refusal (rules_of old.engine) (held_at old) edit) (analysed_by (rules_of old.engine) (held_at old) edit) (filled_by (rules_of old.engine) (held_at old) edit) old.engine new.engine
    → StopsAt (rules_of start.engine) (held_at start) edits (held_at new) start.engine new.engine
HasRun-stops start old new edits n d edit within read run takes unchanged works =
    let front = take n edits in
    let more : take (n + 1) edits ≡ front ++ edit ∷ [] = take_more edits n d within ∙ ap (λ e. front ++ e ∷ []) read in
    record {
      front = front;
      edit = edit;
      after = drop (n + 1) edits;
      place = sym (take-append-drop (n + 1) edits) ∙ ap (λ xs. xs ++ drop (n + 1) edits) more ∙ append_assoc front (edit ∷ []) (drop (n + 1) edits);
      held = unchanged.moved.held ∙ run.held;
      accepted = ap (λ held. edit_refusal (rules_of start.engine) held edit) unchanged.moved.held ∙ ap (λ r. edit_refusal r (held_at old) edit) (sym run.rules) ∙ unchanged.accepted;
      takes = subst (λ held. TakesMemory (rules_of start.engine) held edit) (sym unchanged.moved.held) takes;
      works = subst (λ before. WorksAtMost (rules_of start.engine) (held_at start) before start.engine new.engine) more (next_works start old new edits n d edit within read run works);
    }

pub HasRun-next : (start old new : SessionState) (edits : List Edit) (n : ℕ) (d edit : Edit) → n < length edits → get_or edits n d ≡ edit → HasRun start edits n old
    → HasMoved (after_one (cuts_at old) (held_at old) edit) old new
    → Works (edit_refusal (rules_of old.engine) (held_at old) edit) (analysed_by (rules_of old.engine) (held_at old) edit) (filled_by (rules_of old.engine) (held_at old) edit) old.engine new.engine
    → HasRun start edits (n + 1) new
HasRun-next start old new edits n d edit within read run step works =
    let front = take n edits in
    let more : take (n + 1) edits ≡ front ++ edit ∷ [] = take_more edits n d within ∙ ap (λ e. front ++ e ∷ []) read in
    record {
      held = step.held
          ∙ ap (λ r. after_one (cut_by r) (held_at old) edit) run.rules
          ∙ ap (λ held. after_one (cuts_at start) held edit) run.held
          ∙ sym (after_all-push (cuts_at start) (held_at start) front edit)
          ∙ ap (after_all (cuts_at start) (held_at start)) (sym more);
      laid_out = step.laid_out;
      rules = step.rules ∙ run.rules;
      works = next_works start old new edits n d edit within read run works;
    }

pub HasRun-rules : (start old new : SessionState) (edits : List Edit) (n : ℕ) (reason : Option EditFault) → HasRun start edits n old → IsUnchanged reason old new → SameRules start.engine new.engine
HasRun-rules start old new edits n reason run unchanged = unchanged.moved.rules ∙ run.rules

-- the test for `NoMemory` succeeds if and only if the result is `Err(NoMemory)`
module _ (same_damage : Damage → Damage → Bool) (same_fault : EditFault → EditFault → Bool) where
  pub lacks_memory : same_fault OutOfRange NoMemory ≡ false → same_fault WidthOutOfRange NoMemory ≡ false → same_fault TextTooLong NoMemory ≡ false → same_fault ParagraphTooLong NoMemory ≡ false
      → (result : Result Damage EditFault) → result_eq same_damage same_fault result (Err NoMemory) ≡ true → result ≡ Err NoMemory
  lacks_memory a w b d (Ok damage) e = absurd (both_ways false refl e)
  lacks_memory a w b d (Err OutOfRange) e = absurd (both_ways (same_fault OutOfRange NoMemory) a e)
  lacks_memory a w b d (Err WidthOutOfRange) e = absurd (both_ways (same_fault WidthOutOfRange NoMemory) w e)
  lacks_memory a w b d (Err TextTooLong) e = absurd (both_ways (same_fault TextTooLong NoMemory) b e)
  lacks_memory a w b d (Err ParagraphTooLong) e = absurd (both_ways (same_fault ParagraphTooLong NoMemory) d e)
  lacks_memory a w b d (Err NoMemory) e = refl

  pub has_memory : same_fault NoMemory NoMemory ≡ true → (result : Result Damage EditFault) → result_eq same_damage same_fault result (Err NoMemory) ≡ false → result ≡ Err NoMemory → ⊥
  has_memory alike result e is = both_ways (result_eq same_damage same_fault result (Err NoMemory)) e (ap (λ r. result_eq same_damage same_fault r (Err NoMemory)) is ∙ alike)
