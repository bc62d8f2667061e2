-- The options as they are described to `clap`.
use Rattle.std.specs.Prelude.{true, List, [], ◌∷◌, ◌++◌, map, fold, codes, Bool, Some, if◌then◌else◌}
use Rattle.clap.specs.Words.{App, Rule, Text, new_app, new_rule, with_rule}
use Rattle.clap.specs.Simple.{on_top}
use Rattle.clap.specs.declared.builder.action.ArgAction.TheVariants.{Append, Set, SetTrue}

-- an option without a value
abbrev pub flag_rule : Text → Rule
flag_rule name = record (new_rule name) { long = Some name; action = Some SetTrue }

-- an option with a value
abbrev pub value_rule : Text → Rule
value_rule name = record (new_rule name) { long = Some name; value_names = 1; action = Some Set }

-- `-w` and `-d`
abbrev pub width_rule : Rule
width_rule = record (value_rule (codes "width")) { short = Some 0x77 }

abbrev pub direction_rule : Rule
direction_rule = record (value_rule (codes "direction")) { short = Some 0x64 }

abbrev pub values : List Text
values =
    codes "tabs" ∷ codes "marks" ∷ codes "escapes" ∷ codes "prefix" ∷ codes "ucd" ∷ codes "unicode" ∷ []

abbrev pub flags : List Text
flags =
    codes "quotes" ∷ codes "whole-numbers" ∷ codes "show-spaces" ∷ codes "line-separators" ∷ codes "nomirror" ∷ codes "basedir" ∷ codes "nopad"
    ∷ codes "strict" ∷ []

-- the options that only the strict command has
abbrev pub profile_flags : List Text
profile_flags =
    codes "rtl" ∷ codes "ltr" ∷ codes "wrtl" ∷ codes "wltr" ∷ codes "nobreak" ∷ codes "reordernsm" ∷ codes "reorder-clusters"
    ∷ codes "novisual" ∷ codes "ltov" ∷ codes "vtol" ∷ codes "levels" ∷ codes "queries" ∷ []

-- any number of text files
abbrev pub files_rule : Rule
files_rule = record (new_rule (codes "files")) { value_names = 1; action = Some Append }

abbrev pub option_rules : List Rule
option_rules =
    width_rule ∷ direction_rule ∷ map value_rule values
    ++ (map flag_rule flags ++ (map flag_rule profile_flags ++ value_rule (codes "script") ∷ []))

-- If an option is repeated, its last value counts.
abbrev pub start : App
start = on_top (λ s. record s { no_binary_name = true; has_version = true; args_override_self = true }) (new_app (codes "hordguli"))

-- the options and, if `files` is true, the argument for files
unfoldable pub program : Bool → App
program files = fold with_rule start (option_rules ++ (if files then files_rule ∷ [] else []))
