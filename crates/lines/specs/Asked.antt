-- Visual lines, for code that computes only the parts that are printed. No contract of an exported function
-- uses these definitions.
use Rattle.std.specs.Prelude.{ℕ, nat_lt, Bool, ◌&&◌, ◌||◌, not, List, length, map, take, None}
use Rattle.ucd.specs.Tables.{class_of}
use Rattle.ucd.specs.declared.tables.Tables.{Tables}
use Rattle.reorder.specs.Mirroring.{visual_chars}
use Rattle.lines.specs.Reordering.{ltov_by, vtol_by}
use Rattle.reorder.specs.Spaces.{line_levels}
use Rattle.lines.specs.Tabs.{tab_width_in}
use Rattle.lines.specs.Visual.{Visual}
use Rattle.lines.specs.declared.options.Options.{Options}
use Rattle.lines.specs.declared.fill.Shown.{Shown}
use Rattle.lines.specs.declared.printing.print.Print.{Print}

-- one line of a paragraph; `ends` says after which of its characters a grapheme cluster ends, and is empty if
-- lines are not ordered by clusters
module _ (tables : Tables) (options : Options) (base : ℕ) (is_first : Bool) (line : List ℕ) (ends : List Bool) where
  -- the visual line, given the columns of its shown part and its levels after L1
  abbrev pub visual_part : ℕ → List ℕ → Visual
  visual_part columns levels =
      let classes = map (class_of tables) line in
      let vtol = vtol_by options classes ends levels in
      record {
        is_first = is_first;
        base = base;
        tab_width = tab_width_in tables options;
        len = length line;
        text = take (length levels) line;
        advances = None;
        columns = columns;
        levels = levels;
        ltov = ltov_by options classes ends levels;
        vtol = vtol;
        chars = visual_chars tables levels (take (length levels) line) vtol;
      }

  -- the visual line, given the levels before L1 of the whole line, and how much of the line is shown
  abbrev pub visual_shown : List ℕ → Shown → Visual
  visual_shown old part = visual_part part.columns (take part.len (line_levels base (map (class_of tables) line) old))

-- whether position maps are computed: they are needed to print the maps, unmirrored characters, or tabs as spaces
abbrev pub asks_places : ℕ → Print → Bool
asks_places tab_width print = print.ltov || (print.vtol || (not print.novisual && (print.nomirror || nat_lt 0 tab_width)))
