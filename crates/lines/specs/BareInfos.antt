-- The `CharInfo`s of a paragraph, with each `ends_cluster` set to `false`.
use Rattle.std.specs.Prelude.{ℕ, false, List, [], ◌∷◌}
use Rattle.ucd.specs.declared.tables.Tables.{Tables}
use Rattle.breaks.specs.declared.mark.Mark.{Mark}
use Rattle.lines.specs.CharInfos.{info}
use Rattle.lines.specs.declared.char_info.CharInfo.{CharInfo}

abbrev pub bare_infos : Tables → ℕ → List ℕ → List Mark → List CharInfo
bare_infos t tab_width (c ∷ text) (mark ∷ marks) = info t tab_width c mark false ∷ bare_infos t tab_width text marks
bare_infos t tab_width text marks = []
