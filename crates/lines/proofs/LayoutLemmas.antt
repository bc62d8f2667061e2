-- Conditions under which a layout is a fresh layout: after it is built from its parts, or after its lines are
-- exchanged.
use Rattle.std.proofs.Common.{◌≡◌, ℕ, Bool, List, Option, None, Some, Result, Ok, Err, IfOk, length, refl, ap, ap₂, subst, sym, ◌∙◌}
use Rattle.bidi.specs.Levels.{levels_of}
use Rattle.breaks.specs.declared.mark.Mark.{Mark}
use Rattle.lines.specs.Extents.{extents_of, reflowed, LineExtents}
use Rattle.lines.specs.CharInfos.{infos_of}
use Rattle.lines.specs.Filling.{line_starts_of}
use Rattle.lines.specs.Layouts.{base_of, fill_of, layout_of, lines_of, with_advances, AreLinesOf, Exchanges, Filled, IsLaidOut, IsParagraph, Layout, Rules}
use Rattle.lines.specs.ShownParts.{margin_of}
use Rattle.lines.specs.Visual.{Line}
use Rattle.lines.specs.declared.char_info.CharInfo.{CharInfo}
use Rattle.lines.proofs.WrittenLemmas.{shown_lines}

pub same_layout : (rules : Rules) (width : ℕ) (text seen : List ℕ) (advances : Option (List ℕ)) (base tab_width : ℕ) (levels : List ℕ) (marks : List Mark) (ends : List Bool) (lines : List Line)
    → seen ≡ text → advances ≡ rules.advances → base ≡ (layout_of rules width seen).base → tab_width ≡ (layout_of rules width seen).tab_width → levels ≡ (layout_of rules width seen).levels → marks ≡ (layout_of rules width seen).marks
    → ends ≡ (layout_of rules width seen).ends
    → lines ≡ (layout_of rules width seen).lines
    → record { text = text; advances = advances; base = base; tab_width = tab_width; levels = levels; marks = marks; ends = ends; lines = lines } ≡ layout_of rules width text
same_layout rules width text seen advances base tab_width levels marks ends lines e a b t l m n s = rw (a, b, t, l, m, n, s, e) refl

-- if `same` equals `rules`, a fresh layout under `rules` satisfies `IsLaidOut`, and its lines satisfy `AreLinesOf`
pub laid_out_by : (rules same : Rules) (width : ℕ) (text : List ℕ) (laid : Layout) → same ≡ rules → IsParagraph rules text → laid ≡ layout_of rules width text → IsLaidOut same laid
laid_out_by rules same width text laid e paragraph is =
    rw (e, is) (record { width = width; paragraph = paragraph; from_scratch = refl })

pub lines_by : (rules same : Rules) (width : ℕ) (text : List ℕ) (fill : Filled) → same ≡ rules → fill ≡ fill_of rules width text → AreLinesOf same text fill
lines_by rules same width text fill e is = rw (e, is) (record { width = width; from_scratch = refl })

pub all_lines_by : {E : Type 0} (rules same : Rules) (width : ℕ) (text : List ℕ) (result : Result Filled E)
    → same ≡ rules → IfOk result (λ fill. fill ≡ fill_of rules width text) → IfOk result (AreLinesOf same text)
all_lines_by rules same width text (Ok fill) e is = lines_by rules same width text fill e is
all_lines_by rules same width text (Err error) e is = tt

-- two `Filled` values are equal if their lines and lengths are equal
pub filled_as : (lines seen : List Line) (len size : ℕ) → lines ≡ seen → len ≡ size
    → let here : Filled = record { lines = lines; len = len } in here ≡ record { lines = seen; len = size }
filled_as lines seen len size e f = rw (e, f) refl

-- the lines that an exchange removes from a layout
abbrev left_of : Layout → Filled
left_of l = record { lines = l.lines; len = length l.text }

pub exchanged : (old : Layout) (fill : Filled) → Exchanges old (record old { lines = fill.lines }) fill (record { lines = old.lines; len = length old.text })
exchanged old fill = record {
  put = refl;
  taken = refl;
  widths = λ rules width other laid filled. (ap₂ (λ (l : Layout) (f : Filled). record l { lines = f.lines }) laid filled, ap (λ (l : Layout). left_of l) laid);
  stay = λ rules laid filled. (
    record {
      width = filled.width;
      paragraph = laid.paragraph;
      from_scratch = ap₂ (λ (l : Layout) (f : Filled). record l { lines = f.lines }) laid.from_scratch filled.from_scratch;
    },
    record { width = laid.width; from_scratch = ap (λ (l : Layout). left_of l) laid.from_scratch },
  );
}

pub exchanged_by : (old new : Layout) (fill_old fill_new : Filled) → new ≡ record old { lines = fill_old.lines }
    → fill_new ≡ record { lines = old.lines; len = length old.text } → Exchanges old new fill_old fill_new
exchanged_by old new fill_old fill_new put taken = rw (put, taken) (exchanged old fill_old)

-- reflowing a layout with its extents at a width yields its fresh layout at that width
pub reflowed_by : (rules : Rules) (width : ℕ) (old : Layout) (extents : LineExtents) → IsLaidOut rules old → extents ≡ extents_of rules width old.text
    → reflowed rules old extents ≡ layout_of rules width old.text
reflowed_by rules width old extents laid is =
    let text : List ℕ = old.text in
    let infos : List CharInfo = infos_of rules.tables rules.options rules.advances text in
    ap (reflowed rules old) is
    ∙ subst (λ (m : Layout). reflowed rules m (extents_of rules width m.text) ≡ layout_of rules width m.text) (sym laid.from_scratch)
    (ap (λ (lines : List Line). record (layout_of rules laid.width text) { lines = lines })
    (shown_lines rules.tables rules.options (base_of rules text) text (levels_of rules.tables text rules.options.base) (margin_of rules.options width) infos
    (line_starts_of rules.options.nobreak width infos)))

pub reflowed_laid_out : (rules : Rules) (width : ℕ) (old new : Layout) (extents : LineExtents) → IsLaidOut rules old → extents ≡ extents_of rules width old.text
    → new ≡ reflowed rules old extents → IsLaidOut rules new
reflowed_laid_out rules width old new extents laid is put =
    rw (put ∙ reflowed_by rules width old extents laid is) (record { width = width; paragraph = laid.paragraph; from_scratch = refl })

-- rules without advances do not change if their advances are set to `None`
pub own_rules : (rules : Rules) → rules.advances ≡ None → with_advances rules None ≡ rules
own_rules rules none = ap (with_advances rules) (sym none)

-- equal rules yield the same lines
pub lines_with : (advances : Option (List ℕ)) {rules same : Rules} (width : ℕ) (text : List ℕ) (lines : List Line) → rules ≡ same
    → lines ≡ lines_of (with_advances rules advances) width text → lines ≡ lines_of (with_advances same advances) width text
lines_with advances width text lines e is = is ∙ ap (λ (r : Rules). lines_of (with_advances r advances) width text) e

-- a paragraph with other advances, and with the lines found with those advances, is laid out
pub remeasured : (rules : Rules) (width : ℕ) (old : Layout) (list : List ℕ) (fill : Filled) → IsLaidOut (with_advances rules old.advances) old
    → fill ≡ fill_of (with_advances rules (Some list)) width old.text → record old { advances = Some list; lines = fill.lines } ≡ layout_of (with_advances rules (Some list)) width old.text
remeasured rules width old list fill laid is =
    let own : Rules = with_advances rules (Some list) in
    ap (λ (f : Filled). let l : Layout = record old { advances = Some list; lines = f.lines } in l) is
    ∙ subst (λ (m : Layout). let l : Layout = record m { advances = Some list; lines = lines_of own width m.text } in l ≡ layout_of own width m.text) (sym laid.from_scratch) refl
