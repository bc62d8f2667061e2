-- The width, rules and print options that a `Form` specifies.
use Rattle.std.specs.Prelude.{ℕ, ◌-◌, ◌^◌, ◌==◌, true, false, ◌||◌, if◌then◌else◌}
use Rattle.lines.specs.Layouts.{Rules}
use Rattle.lines.specs.declared.options.Options.{Options}
use Rattle.lines.specs.declared.printing.print.Print.{Print}
use Rattle.terminal.specs.declared.form.Form.{Form}

-- the maximum width, used if lines end at mandatory breaks only
abbrev pub UNLIMITED : ℕ
UNLIMITED = 2 ^ 32 - 1

abbrev pub width_of : Form → ℕ
width_of form = if form.width == 0 then UNLIMITED else form.width

abbrev pub with_options : Rules → Options → Rules
with_options rules options = record rules { options = options }

-- the rules for the paragraphs of a text; without a width, lines end at mandatory breaks only
abbrev pub rules_in : Form → Rules → Rules
rules_in form rules = if form.width == 0 then with_options rules (record rules.options { nobreak = true }) else rules

abbrev pub print_of : Form → Print
print_of form = record {
  novisual = false;
  basedir = form.basedir;
  ltov = false;
  vtol = false;
  levels = false;
  nopad = form.nopad || form.width == 0;
  nomirror = form.nomirror;
}
