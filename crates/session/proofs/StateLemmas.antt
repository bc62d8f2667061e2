-- The effect of a call on a session does not depend on the session's changed lines.
use Rattle.std.proofs.Common.{ℕ, Bool, List, Option, Result, Ok, Err, map, get_or, arith}
use Rattle.std.specs.List.{All}
use Rattle.std.proofs.lemmas.List.{length-map}
use Rattle.std.proofs.lemmas.Option.{slice_get_within}
use Rattle.bidi.specs.Pieces.{ParagraphsArePieces}
use Rattle.lines.specs.Beginnings.{BeginInOrder}
use Rattle.lines.specs.Layouts.{lines_of, start_of, Layout, Rules}
use Rattle.std.specs.Prelude.{IfErr, IfOk}
use Rattle.lines.specs.declared.engine.Engine.{Engine}
use Rattle.session.specs.Changes.{AreChanged, AreFound, HasLines}
use Rattle.session.specs.Edits.{Replacement}
use Rattle.session.specs.Kept.{lines_in}
use Rattle.session.specs.Measuring.{Remains, SetsAdvances}
use Rattle.session.specs.Places.{IsLined}
use Rattle.session.specs.Sessions.{state_of, with_changed, Edits, IsWholeLayout, OpensAs, SessionState, SetsWidth, Stays}
use Rattle.session.specs.declared.edits.AdvanceFault.{AdvanceFault}
use Rattle.session.specs.declared.edits.ChangedLines.{ChangedLines}
use Rattle.session.specs.declared.edits.Damage.{Damage}
use Rattle.session.specs.declared.edits.EditFault.{EditFault}
use Rattle.session.proofs.PlaceLemmas.{lines_lined}

-- if P implies Q, `IfOk r P` implies `IfOk r Q`
pub if_ok : {X E : Type 0} (P Q : X → Type 0) (r : Result X E) → ((x : X) → P x → Q x) → IfOk r P → IfOk r Q
if_ok P Q (Ok x) follows fact = follows x fact
if_ok P Q (Err e) follows fact = tt

pub if_ok_both : {X E : Type 0} (P O Q : X → Type 0) (r : Result X E) → ((x : X) → P x → O x → Q x) → IfOk r P → IfOk r O → IfOk r Q
if_ok_both P O Q (Ok x) follows fact other = follows x fact other
if_ok_both P O Q (Err e) follows fact other = tt

pub if_err : {X E : Type 0} (P Q : E → Type 0) (r : Result X E) → ((e : E) → P e → Q e) → IfErr r P → IfErr r Q
if_err P Q (Ok x) follows fact = tt
if_err P Q (Err e) follows fact = follows e fact

module _ (old new : SessionState) (before after : ChangedLines) where
  pub whole_with : IsWholeLayout new → IsWholeLayout (with_changed new after)
  whole_with whole = record { kept = whole.kept; allowed = whole.allowed; filled = whole.filled; advances = whole.advances }

  pub edits_with : (edit : Replacement) (damage : Damage) → Edits edit old new damage → Edits edit (with_changed old before) (with_changed new after) damage
  edits_with edit damage e = record {
    accepted = e.accepted;
    text = e.text;
    at_width = e.at_width;
    advances = e.advances;
    laid_out = whole_with e.laid_out;
    rules = e.rules;
    damage = e.damage;
    counts = e.counts;
  }

  pub sets_with : (width : ℕ) (damage : Damage) → SetsWidth width old new damage → SetsWidth width (with_changed old before) (with_changed new after) damage
  sets_with width damage e = record {
    accepted = e.accepted;
    text = e.text;
    at_width = e.at_width;
    advances = e.advances;
    laid_out = whole_with e.laid_out;
    rules = e.rules;
    damage = e.damage;
    counts = e.counts;
    exact = e.exact;
  }

  pub advances_with : (pos : ℕ) (list : List ℕ) (damage : Damage) → SetsAdvances pos list old new damage → SetsAdvances pos list (with_changed old before) (with_changed new after) damage
  advances_with pos list damage e = record {
    allowed = e.allowed;
    text = e.text;
    at_width = e.at_width;
    advances = e.advances;
    laid_out = whole_with e.laid_out;
    rules = e.rules;
    damage = e.damage;
    counts = e.counts;
  }

  pub stays_with : (reason : Option EditFault) (bound : Engine → Engine → Type 0) (fault : EditFault) → Stays reason bound old new fault
      → Stays reason bound (with_changed old before) (with_changed new after) fault
  stays_with reason bound fault s = record {
    answer = s.answer;
    kept = s.kept;
    at_width = s.at_width;
    advances = s.advances;
    laid_out = whole_with s.laid_out;
    rules = s.rules;
    counts = s.counts;
  }

  pub remains_with : (reason : Option AdvanceFault) (bound : Engine → Engine → Type 0) (fault : AdvanceFault) → Remains reason bound old new fault
      → Remains reason bound (with_changed old before) (with_changed new after) fault
  remains_with reason bound fault s = record {
    answer = s.answer;
    kept = s.kept;
    at_width = s.at_width;
    advances = s.advances;
    laid_out = whole_with s.laid_out;
    rules = s.rules;
    counts = s.counts;
  }

  pub opens_with : (is_measured : Bool) (reason : Option EditFault) (engine : Engine) (text : List ℕ) (width : ℕ) → OpensAs is_measured reason engine text width new
      → OpensAs is_measured reason engine text width (with_changed new after)
  opens_with is_measured reason engine text width o = record {
    allowed = o.allowed;
    text = o.text;
    at_width = o.at_width;
    advances = o.advances;
    laid_out = whole_with o.laid_out;
    rules = o.rules;
    counts = o.counts;
  }

-- each paragraph that is laid out has a line
lined : ParagraphsArePieces → ((rules : Rules) (width : ℕ) (text : List ℕ) → BeginInOrder text (lines_of rules width text)) → (engine : Engine) (width : ℕ) (is_measured : Bool) (kept : List Layout)
    → IsWholeLayout (state_of engine width is_measured kept) → All HasLines kept
lined law begin engine width is_measured kept whole k d within =
    let l : Layout = get_or kept k d in
    let is : IsLined l = lines_lined law begin engine width is_measured kept whole k d within in
    omega (arith, slice_get_within (map start_of l.lines) 0 0 (is.lines.first is.some), length-map l.lines start_of)

-- the changed lines that a call found satisfy `AreChanged` for the old and the new layouts
pub changed_as : ParagraphsArePieces → ((rules : Rules) (width : ℕ) (text : List ℕ) → BeginInOrder text (lines_of rules width text)) → (old new : Engine) (width other : ℕ) (is_measured : Bool) (kept made : List Layout)
    → IsWholeLayout (state_of old width is_measured kept) → IsWholeLayout (state_of new other is_measured made) → (damage : Damage) (changed : ChangedLines)
    → AreFound kept made damage changed → AreChanged (lines_in kept) (lines_in made) damage changed
changed_as law begin old new width other is_measured kept made whole whole_2 damage changed found =
    found (lined law begin old width is_measured kept whole) (lined law begin new other is_measured made whole_2)
