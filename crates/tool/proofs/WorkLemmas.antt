-- How much work a session does for a command, and for several lines in order.
use Rattle.std.proofs.Common.{◌≡◌, ℕ, ◌+◌, ◌≤◌, Bool, List, [], ◌∷◌, ◌++◌, length, Option, Some, None, Result, Ok, Err, IfOk, IfErr, is_none, is_some, false, nat_lt, if◌then◌else◌, refl, sym, ap, subst, ◌∙◌, arith}
use Rattle.std.proofs.lemmas.Bool.{cond-true, true≢false}
use Rattle.std.proofs.lemmas.List.{append-nil}
use Rattle.bidi.specs.Cuts.{paragraphs}
use Rattle.lines.specs.Engine.{LaysOutAtMost, Fills, FillsAtMost, FindsExtentsAtMost, RisesBy, analysed_of, counted, filled_of, written_of, rules_of}
use Rattle.lines.specs.Layouts.{Rules, with_advances}
use Rattle.lines.specs.declared.engine.Engine.{Engine}
use Rattle.session.specs.Edits.{Replacement, Held, refusal, width_refusal}
use Rattle.session.specs.Kept.{back_advances, changed, layouts_from, pars_of}
use Rattle.session.specs.Sessions.{SessionState, IsWholeLayout, IsAnswerFor, IsCountedFor, Edits, EditsNot, SetsWidth, SetsWidthNot, cuts_at, held_at, text_at, layouts_at}
use Rattle.session.specs.Touched.{fresh}
use Rattle.session.specs.declared.edits.Damage.{Damage}
use Rattle.session.specs.declared.edits.EditFault.{EditFault}
use Rattle.session.specs.declared.edits.EditFault.TheVariants.{OutOfRange, WidthOutOfRange, TextTooLong, ParagraphTooLong, NoMemory}
use Rattle.tool.specs.Scripts.{command_of_line}
use Rattle.script_commands.specs.Commands.{Command, SetWidth}
use Rattle.tool.specs.ScriptRun.{after_line, after_lines, is_good, command_refusal}
use Rattle.tool.specs.Work.{CommandWorks, LineWorks, LinesWork, Works, analysed_by, filled_by, work_of_line, work_of_lines}

-- ---- counts
same_rise : (n old new : ℕ) → new ≡ old → RisesBy n old new
same_rise n old new e = record { least = omega (arith, e); most = omega (arith, e) }

pub more_rise : (n m k a b c : ℕ) → RisesBy n a b → RisesBy m b c → k ≡ n + m → RisesBy k a c
more_rise n m k a b c r s e = record { least = omega (arith, r.least, s.least); most = omega (arith, r.most, s.most, e) }

within_rise : (n m a b : ℕ) → n ≤ m → RisesBy n a b → RisesBy m a b
within_rise n m a b le r = record { least = r.least; most = omega (arith, r.most, le) }

-- if an engine is unchanged, its work is within any bound
pub works_none : (rules : Rules) (most : (Held → Command → ℕ) → ℕ) (old new : Engine) → new ≡ old → Works rules most old new
works_none rules most old new e = record {
  analysed = same_rise _ (analysed_of old) (analysed_of new) (ap analysed_of e);
  filled = same_rise _ (filled_of old) (filled_of new) (ap filled_of e);
  written = same_rise _ (written_of old) (written_of new) (ap written_of e);
}

-- ---- one command
pub record Worked (reason : Option EditFault) (n m : ℕ) (old new : Engine) : Type 0 where
  pub analysed : RisesBy (if is_none reason then n else 0) (analysed_of old) (analysed_of new)
  pub filled : RisesBy (if is_none reason then m else 0) (filled_of old) (filled_of new)
  pub written : RisesBy (if is_none reason then m else 0) (written_of old) (written_of new)

accepted_rise : (reason : Option EditFault) (n old new : ℕ) → reason ≡ None → RisesBy n old new → RisesBy (if is_none reason then n else 0) old new
accepted_rise reason n old new e r = subst (λ k. RisesBy k old new) (sym (cond-true (is_none reason) n 0 (ap is_none e))) r

worked_none : (reason : Option EditFault) (n m : ℕ) (old new : Engine) → new ≡ old → Worked reason n m old new
worked_none reason n m old new e = record {
  analysed = same_rise _ (analysed_of old) (analysed_of new) (ap analysed_of e);
  filled = same_rise _ (filled_of old) (filled_of new) (ap filled_of e);
  written = same_rise _ (written_of old) (written_of new) (ap written_of e);
}

laid_out : (reason : Option EditFault) (n : ℕ) (old new : Engine) → reason ≡ None → LaysOutAtMost n old new → Worked reason n n old new
laid_out reason n old new e counts = record {
  analysed = accepted_rise reason n (analysed_of old) (analysed_of new) e counts.analysed;
  filled = accepted_rise reason n (filled_of old) (filled_of new) e counts.filled;
  written = accepted_rise reason n (written_of old) (written_of new) e counts.written;
}

filled_anew : (reason : Option EditFault) (n : ℕ) (old new : Engine) → reason ≡ None → FillsAtMost n old new → Worked reason 0 n old new
filled_anew reason n old new e counts = record {
  analysed = same_rise _ (analysed_of old) (analysed_of new) counts.analysed;
  filled = accepted_rise reason n (filled_of old) (filled_of new) e counts.filled;
  written = accepted_rise reason n (written_of old) (written_of new) e counts.written;
}

counted_for : (reason : Option EditFault) (n m : ℕ) (bound : Engine → Engine → Type 0) (old new : Engine) (fault : EditFault)
    → IsAnswerFor reason fault → IsCountedFor fault bound old new → (reason ≡ None → bound old new → Worked reason n m old new) → Worked reason n m old new
counted_for reason n m bound old new OutOfRange a counts by = worked_none reason n m old new counts
counted_for reason n m bound old new WidthOutOfRange a counts by = worked_none reason n m old new counts
counted_for reason n m bound old new TextTooLong a counts by = worked_none reason n m old new counts
counted_for reason n m bound old new ParagraphTooLong a counts by = worked_none reason n m old new counts
counted_for reason n m bound old new NoMemory a counts by = by a counts

pars_of_layouts : (rules : Rules) (width : ℕ) (advances : Option (List ℕ)) (pars : List (List ℕ)) → pars_of (layouts_from rules width advances pars) ≡ pars
pars_of_layouts rules width advances [] = refl
pars_of_layouts rules width advances (p ∷ pars) = ap (λ ps. p ∷ ps) (pars_of_layouts rules width (back_advances (length p) advances) pars)

pars_kept : (state : SessionState) → IsWholeLayout state → pars_of state.kept ≡ paragraphs (cuts_at state) (text_at state)
pars_kept state whole =
    ap pars_of whole.kept ∙ pars_of_layouts (with_advances (rules_of state.engine) None) state.width state.advances (paragraphs (cuts_at state) (text_at state))

pub edit_works : (edit : Replacement) (old new : SessionState) (result : Result Damage EditFault) → IsWholeLayout old → IfOk result (Edits edit old new) → IfErr result (EditsNot edit old new)
    → Worked (refusal (cuts_at old) old.advances (text_at old) edit) (fresh (paragraphs (cuts_at old) (text_at old)) edit) (fresh (paragraphs (cuts_at old) (text_at old)) edit) old.engine new.engine
edit_works edit old new (Ok damage) whole m r =
    let n = fresh (paragraphs (cuts_at old) (text_at old)) edit in
    laid_out (refusal (cuts_at old) old.advances (text_at old) edit) n old.engine new.engine m.accepted
    (subst (λ ps. LaysOutAtMost (fresh ps edit) old.engine new.engine) (pars_kept old whole) m.counts)
edit_works edit old new (Err fault) whole m r =
    let n = fresh (paragraphs (cuts_at old) (text_at old)) edit in
    let reason = refusal (cuts_at old) old.advances (text_at old) edit in
    counted_for reason n n (LaysOutAtMost n) old.engine new.engine fault r.answer
    (subst (λ ps. IsCountedFor fault (LaysOutAtMost (fresh ps edit)) old.engine new.engine) (pars_kept old whole) r.counts)
    (λ e counts. laid_out reason n old.engine new.engine e counts)

-- a counter that is increased by n, saturating at 2^64−1, rises by at most n
exact_rise : (n most old new : ℕ) → new ≡ counted old n → RisesBy most old new → RisesBy n old new
exact_rise n most old new exact r = record { least = r.least; most = omega (arith, exact) }

filled_exactly : (n most : ℕ) (old new : Engine) → Fills n old new → FillsAtMost most old new → FillsAtMost n old new
filled_exactly n most old new exact counts = record {
  analysed = exact.analysed;
  filled = exact_rise n most (filled_of old) (filled_of new) exact.filled counts.filled;
  written = exact_rise n most (written_of old) (written_of new) exact.written counts.written;
}

found_only : (n : ℕ) (old new : Engine) → FindsExtentsAtMost n old new → FillsAtMost n old new
found_only n old new counts = record {
  analysed = counts.analysed;
  filled = counts.filled;
  written = same_rise n (written_of old) (written_of new) counts.written;
}

width_worked : (width : ℕ) (old new : SessionState) (result : Result Damage EditFault) → IfOk result (SetsWidth width old new) → IfErr result (SetsWidthNot width old new)
    → Worked (width_refusal width) 0 (changed (rules_of old.engine) width old.kept) old.engine new.engine
width_worked width old new (Ok damage) m r =
    let n = changed (rules_of old.engine) width old.kept in
    filled_anew (width_refusal width) n old.engine new.engine m.accepted (filled_exactly n (length (text_at old)) old.engine new.engine m.exact m.counts)
width_worked width old new (Err fault) m r =
    let n = changed (rules_of old.engine) width old.kept in
    counted_for (width_refusal width) 0 n (FindsExtentsAtMost n) old.engine new.engine fault r.answer r.counts
    (λ e counts. filled_anew (width_refusal width) n old.engine new.engine e (found_only n old.engine new.engine counts))

pub width_works : (width : ℕ) (old new : SessionState) (result : Result Damage EditFault) → nat_lt 65535 width ≡ false → IsWholeLayout old
    → IfOk result (SetsWidth width old new) → IfErr result (SetsWidthNot width old new)
    → CommandWorks (rules_of old.engine) (held_at old) (SetWidth width) old.engine new.engine
width_works width old new result small whole m r =
    let n = changed (rules_of old.engine) width (layouts_at (rules_of old.engine) (held_at old)) in
    let w = subst (λ kept. Worked (width_refusal width) 0 (changed (rules_of old.engine) width kept) old.engine new.engine) whole.kept (width_worked width old new result m r) in
    let reason : command_refusal (rules_of old.engine) (held_at old) (SetWidth width) ≡ width_refusal width = ap (λ b. if b then Some WidthOutOfRange else width_refusal width) small in
    record {
      analysed = subst (λ (o : Option EditFault). RisesBy (if is_none o then 0 else 0) (analysed_of old.engine) (analysed_of new.engine)) (sym reason) w.analysed;
      filled = subst (λ (o : Option EditFault). RisesBy (if is_none o then n else 0) (filled_of old.engine) (filled_of new.engine)) (sym reason) w.filled;
      written = subst (λ (o : Option EditFault). RisesBy (if is_none o then n else 0) (written_of old.engine) (written_of new.engine)) (sym reason) w.written;
    }

-- ---- lines, one after another
module _ (rules : Rules) (queries : Bool) where
  work_more : (work : Held → Command → ℕ) (held : Held) (lines : List (List ℕ)) (line : List ℕ)
      → work_of_lines rules queries work held (lines ++ line ∷ [])
      ≡ work_of_lines rules queries work held lines + work_of_line rules work
      (after_lines rules queries held lines) (command_of_line queries line)
  work_more work held [] line = omega arith
  work_more work held (first ∷ lines) line = omega (arith, work_more work (after_line rules held (command_of_line queries first)) lines line)

  work_front : (work : Held → Command → ℕ) (held : Held) (lines others : List (List ℕ)) → work_of_lines rules queries work held lines ≤ work_of_lines rules queries work held (lines ++ others)
  work_front work held [] others = omega arith
  work_front work held (first ∷ lines) others = omega (arith, work_front work (after_line rules held (command_of_line queries first)) lines others)

  pub lines_work_front : (start : Held) (lines others : List (List ℕ)) (old new : Engine) → LinesWork rules queries start lines old new → LinesWork rules queries start (lines ++ others) old new
  lines_work_front start lines others old new works = record {
    analysed = within_rise _ _ _ _ (work_front (analysed_by rules) start lines others) works.analysed;
    filled = within_rise _ _ _ _ (work_front (filled_by rules) start lines others) works.filled;
    written = within_rise _ _ _ _ (work_front (filled_by rules) start lines others) works.written;
  }

  pub lines_work_more : (start held : Held) (lines : List (List ℕ)) (line : List ℕ) (old now new : Engine) → held ≡ after_lines rules queries start lines
      → LinesWork rules queries start lines old now → LineWorks rules queries held line now new → LinesWork rules queries start (lines ++ line ∷ []) old new
  lines_work_more start held lines line old now new held_is before works =
      let sum = λ (work : Held → Command → ℕ). work_more work start lines line
      ∙ ap (λ (h : Held). work_of_lines rules queries work start lines + work_of_line rules work h
      (command_of_line queries line)) (sym held_is) in
      record {
        analysed = more_rise _ _ _ _ _ _ before.analysed works.analysed (sum (analysed_by rules));
        filled = more_rise _ _ _ _ _ _ before.filled works.filled (sum (filled_by rules));
        written = more_rise _ _ _ _ _ _ before.written works.written (sum (filled_by rules));
      }

  -- a line that is not valid causes no work
  no_work : (work : Held → Command → ℕ) (held : Held) (command : Option Command) → is_some command ≡ false → work_of_line rules work held command ≡ 0
  no_work work held None bad = refl
  no_work work held (Some command) bad = absurd (true≢false bad)

  pub lines_work_bad : (start held : Held) (lines : List (List ℕ)) (line : List ℕ) (old now new : Engine) → is_good queries line ≡ false
      → LinesWork rules queries start lines old now → LineWorks rules queries held line now new → LinesWork rules queries start (lines ++ []) old new
  lines_work_bad start held lines line old now new bad before works =
      let sum = λ (work : Held → Command → ℕ).
      ap (work_of_lines rules queries work start) (append-nil lines)
      ∙ sum_is (work_of_lines rules queries work start lines)
      (work_of_line rules work held (command_of_line queries line))
      (no_work work held (command_of_line queries line) bad) in
      record {
        analysed = more_rise _ _ _ _ _ _ before.analysed works.analysed (sum (analysed_by rules));
        filled = more_rise _ _ _ _ _ _ before.filled works.filled (sum (filled_by rules));
        written = more_rise _ _ _ _ _ _ before.written works.written (sum (filled_by rules));
      }
    where
      sum_is : (n m : ℕ) → m ≡ 0 → n ≡ n + m
      sum_is n m none = omega (arith, none)
