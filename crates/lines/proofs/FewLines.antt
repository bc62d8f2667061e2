-- A paragraph has at most as many lines as characters.
use Rattle.std.proofs.Common.{◌≡◌, ℕ, zero, suc, ◌-◌, ◌≤◌, Bool, Option, List, [], ◌∷◌, length, refl, ap, arith}
use Rattle.ucd.specs.declared.tables.Tables.{Tables}
use Rattle.lines.specs.Filling.{line_len, line_starts_of, starts}
use Rattle.lines.specs.Layouts.{Rules, base_of, lines_of}
use Rattle.lines.specs.CharInfos.{infos_of}
use Rattle.lines.specs.ShownParts.{margin_of}
use Rattle.lines.specs.Visual.{lines_from}
use Rattle.lines.specs.declared.options.Options.{Options}
use Rattle.lines.specs.declared.char_info.CharInfo.{CharInfo}
use Rattle.bidi.specs.Levels.{levels_of}
use Rattle.lines.proofs.VisualLemmas.{few_infos}

length-lines_from : (tables : Tables) (options : Options) (margin : Option ℕ) (base : ℕ) (text levels : List ℕ) (ps : List CharInfo) (ss : List ℕ) → length (lines_from tables options margin base text levels ps ss) ≡ length ss
length-lines_from tables options margin base text levels ps [] = refl
length-lines_from tables options margin base text levels ps (s ∷ []) = refl
length-lines_from tables options margin base text levels ps (s ∷ t ∷ ss) = ap suc (length-lines_from tables options margin base text levels ps (t ∷ ss))

few-starts : (nobreak : Bool) (width place left : ℕ) (rest : List CharInfo) → length (starts nobreak width place left rest) ≤ length rest
few-starts nobreak width place zero [] = omega arith
few-starts nobreak width place (suc left) [] = omega arith
few-starts nobreak width place zero (p ∷ rest) = omega (arith, few-starts nobreak width (suc place) (line_len nobreak width (p ∷ rest) - 1) rest)
few-starts nobreak width place (suc left) (p ∷ rest) = omega (arith, few-starts nobreak width (suc place) left rest)

few-line_starts : (nobreak : Bool) (width : ℕ) (ps : List CharInfo) → length (line_starts_of nobreak width ps) ≤ length ps
unfolding line_starts_of
few-line_starts nobreak width ps = few-starts nobreak width 0 0 ps

pub few_lines : (rules : Rules) (width : ℕ) (text : List ℕ) → length (lines_of rules width text) ≤ length text
few_lines rules width text =
    let ps = infos_of rules.tables rules.options rules.advances text in
    let ss = line_starts_of rules.options.nobreak width ps in
    omega (
      arith,
      length-lines_from rules.tables rules.options (margin_of rules.options width) (base_of rules text) text (levels_of rules.tables text rules.options.base) ps ss,
      few-line_starts rules.options.nobreak width ps,
      few_infos rules text,
    )
