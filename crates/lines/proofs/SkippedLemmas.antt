-- A paragraph whose lines are not printed: at most the base direction is printed.
use Rattle.std.proofs.Common.{◌≡◌, ◌∙◌, ℕ, suc, ◌+◌, ◌<◌, ◌≤◌, ◌==◌, Bool, true, false, ◌&&◌, not, Option, List, [], ◌∷◌, ◌++◌, length, if◌then◌else◌, refl, sym, ap, arith}
use Rattle.std.specs.List.{enumerate_from, flat_map}
use Rattle.std.proofs.lemmas.Bool.Decides.{nat_tests}
use Rattle.std.proofs.lemmas.List.{append-nil}
use Rattle.ucd.specs.declared.tables.Tables.{Tables}
use Rattle.breaks.proofs.WalkLemmas.{length-marks}
use Rattle.breaks.specs.Marks.{marks_of}
use Rattle.breaks.specs.declared.mark.Mark.{Mark}
use Rattle.bidi.specs.Levels.{levels_of}
use Rattle.lines.specs.Bytes.{direction_line, line_bytes, numbers_line, visual_line}
use Rattle.lines.specs.Clusters.{cluster_ends}
use Rattle.lines.specs.Filling.{line_starts_of}
use Rattle.lines.specs.Layouts.{IsParagraph, Rules, base_of, lines_of}
use Rattle.lines.specs.Pages.{paragraph_bytes}
use Rattle.lines.specs.CharInfos.{infos, infos_of}
use Rattle.lines.specs.Printing.{skips_lines}
use Rattle.lines.specs.ShownParts.{margin_of}
use Rattle.lines.specs.Tabs.{tab_width_in}
use Rattle.lines.specs.Visual.{Line, Visual, lines_from, visual_of}
use Rattle.lines.specs.declared.options.Options.{Options}
use Rattle.lines.specs.declared.char_info.CharInfo.{CharInfo}
use Rattle.lines.specs.declared.printing.print.Print.{Print}
use Rattle.lines.specs.declared.printing.print.PrintFault.{PrintFault}
use Rattle.lines.specs.declared.printing.print.PrintFault.TheVariants.{Memory}
use Rattle.std.specs.Prelude.{IsErrOf, OnOk, Result, Ok, Err}
use Rattle.lines.proofs.ClusterLemmas.{length-cluster_ends}
use Rattle.lines.proofs.WidthLemmas.{length-sized}

-- ---- the bytes of a line

direction_alone : (a b c d : Bool) (xs ys zs us vs : List ℕ) → (a && (not b && (not c && not d))) ≡ true
    → (if a then [] else xs) ++ ys ++ (if b then zs else []) ++ (if c then us else []) ++ (if d then vs else []) ≡ ys
direction_alone false b c d xs ys zs us vs skips = cc
direction_alone true true c d xs ys zs us vs skips = cc
direction_alone true false true d xs ys zs us vs skips = cc
direction_alone true false false true xs ys zs us vs skips = cc
direction_alone true false false false xs ys zs us vs skips = append-nil ((ys ++ []) ++ []) ∙ append-nil (ys ++ []) ∙ append-nil ys

on_first : (asked : Bool) (xs : List ℕ) → (if asked && true then xs else []) ≡ (if asked then xs else [])
on_first true xs = refl
on_first false xs = refl

on_others : (asked : Bool) (xs : List ℕ) → (if asked && false then xs else []) ≡ []
on_others true xs = refl
on_others false xs = refl

module _ (width : ℕ) (print : Print) (skips : skips_lines print ≡ true) where
  line_is : (visual : Visual) → line_bytes width print visual ≡ (if print.basedir && visual.is_first then direction_line visual.base else [])
  line_is visual =
      direction_alone print.novisual print.ltov print.vtol print.levels (visual_line width print visual)
      (if print.basedir && visual.is_first then direction_line visual.base else [])
      (numbers_line visual.ltov) (numbers_line visual.vtol) (numbers_line visual.levels) skips

  module _ (base tab_width : ℕ) (advances : Option (List ℕ)) (text : List ℕ) (all : List Line) where
    abbrev bytes_at : ℕ × Line → List ℕ
    bytes_at nth = line_bytes width print (visual_of base tab_width advances text all nth.0 nth.1)

    first_is : (line : Line) → bytes_at (0, line) ≡ (if print.basedir then direction_line base else [])
    first_is line = line_is (visual_of base tab_width advances text all 0 line) ∙ on_first print.basedir (direction_line base)

    other_is : (k : ℕ) (line : Line) → 0 < k → bytes_at (k, line) ≡ []
    other_is k line after =
        let second : (k == 0) ≡ false = grind (arith, nat_tests, after) in
        line_is (visual_of base tab_width advances text all k line)
        ∙ ap (λ first. if print.basedir && first then direction_line base else []) second ∙ on_others print.basedir (direction_line base)

    others_are : (k : ℕ) (lines : List Line) → 0 < k → flat_map bytes_at (enumerate_from k lines) ≡ []
    others_are k [] after = refl
    others_are k (line ∷ lines) after =
        ap (λ front. front ++ flat_map bytes_at (enumerate_from (k + 1) lines)) (other_is k line after) ∙ others_are (k + 1) lines (omega arith)

    all_are : (lines : List Line) → 0 < length lines → flat_map bytes_at (enumerate_from 0 lines) ≡ (if print.basedir then direction_line base else [])
    all_are [] some = absurd (omega (arith, some))
    all_are (line ∷ lines) some =
        ap (λ rest. bytes_at (0, line) ++ rest) (others_are 1 lines (omega arith)) ∙ append-nil (bytes_at (0, line)) ∙ first_is line

-- ---- a paragraph has at least one line

pub length-infos : (t : Tables) (n : ℕ) (text : List ℕ) (marks : List Mark) (clusters : List Bool) → length text ≤ length marks → length clusters ≡ length text
    → length (infos t n text marks clusters) ≡ length text
length-infos t n [] marks clusters m c = refl
length-infos t n (x ∷ text) [] clusters m c = absurd (omega (arith, m))
length-infos t n (x ∷ text) (mark ∷ marks) [] m c = absurd (omega (arith, c))
length-infos t n (x ∷ text) (mark ∷ marks) (ends ∷ clusters) m c = ap suc (length-infos t n text marks clusters (omega (arith, m)) (omega (arith, c)))

some_starts : (nobreak : Bool) (width : ℕ) (ps : List CharInfo) → 0 < length ps → 0 < length (line_starts_of nobreak width ps)
unfolding line_starts_of
some_starts nobreak width [] some = some
some_starts nobreak width (p ∷ ps) some = omega arith

some_from : (tables : Tables) (options : Options) (margin : Option ℕ) (base : ℕ) (text levels : List ℕ) (ps : List CharInfo) (starts : List ℕ)
    → 0 < length starts → 0 < length (lines_from tables options margin base text levels ps starts)
some_from tables options margin base text levels ps [] some = some
some_from tables options margin base text levels ps (s ∷ []) some = omega arith
some_from tables options margin base text levels ps (s ∷ t ∷ starts) some = omega arith

pub some_text : (rules : Rules) (text : List ℕ) → IsParagraph rules text → 0 < length text
some_text rules [] paragraph = let bad = paragraph.whole in cc
some_text rules (x ∷ text) paragraph = omega arith

some_lines : (rules : Rules) (width : ℕ) (text : List ℕ) → IsParagraph rules text
    → length (marks_of rules.tables rules.options.whole_numbers text) ≡ length text → 0 < length (lines_of rules width text)
unfolding infos_of
some_lines rules width text paragraph marks =
    let ps : List CharInfo = infos_of rules.tables rules.options rules.advances text in
    let plain : List CharInfo = infos rules.tables (tab_width_in rules.tables rules.options) text (marks_of rules.tables rules.options.whole_numbers text) (cluster_ends text) in
    let size = length-sized rules.advances plain
    ∙ length-infos rules.tables (tab_width_in rules.tables rules.options) text (marks_of rules.tables rules.options.whole_numbers text) (cluster_ends text) (omega (arith, marks)) (length-cluster_ends text) in
    let some : 0 < length ps = omega (arith, size, some_text rules text paragraph) in
    some_from rules.tables rules.options (margin_of rules.options width) (base_of rules text) text (levels_of rules.tables text rules.options.base) ps (line_starts_of rules.options.nobreak width ps)
    (some_starts rules.options.nobreak width ps some)

pub direction_only : (rules : Rules) (width : ℕ) (print : Print) (text : List ℕ) → skips_lines print ≡ true → IsParagraph rules text
    → length (marks_of rules.tables rules.options.whole_numbers text) ≡ length text
    → (if print.basedir then direction_line (base_of rules text) else []) ≡ paragraph_bytes rules width print text
direction_only rules width print text skips paragraph marks =
    sym (all_are width print skips (base_of rules text) (tab_width_in rules.tables rules.options) rules.advances text (lines_of rules width text) (lines_of rules width text) (some_lines rules width text paragraph marks))

-- the same holds for a number that equals the base level of the text
pub direction_found : (rules : Rules) (width : ℕ) (print : Print) (text : List ℕ) (base : ℕ) → skips_lines print ≡ true → IsParagraph rules text
    → base ≡ base_of rules text → (if print.basedir then direction_line base else []) ≡ paragraph_bytes rules width print text
direction_found rules width print text base skips paragraph found =
    ap (λ b. if print.basedir then direction_line b else []) found
    ∙ direction_only rules width print text skips paragraph (length-marks rules.tables rules.options.whole_numbers text)

-- if a property holds unless memory ran out, it holds after `Ok`
pub on_ok : (P : Type 0) (result : Result (Unit {0}) PrintFault) → (¬ (IsErrOf result Memory) → P) → OnOk result P
on_ok P (Ok done) holds = holds (λ bad. cc)
on_ok P (Err fault) holds = tt
