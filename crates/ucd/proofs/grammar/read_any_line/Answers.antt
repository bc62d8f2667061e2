use Rattle.std.proofs.Common.{◌≡◌, ℕ, ◌<◌, ◌==◌, List, length, get_or, true, None, Ok, if◌then◌else◌, refl}
use Rattle.std.specs.List.{list_all}
use Rattle.std.specs.Char.{is_ascii}
use Rattle.std.proofs.lemmas.Bool.{lt-ltb}
use Rattle.std.proofs.lemmas.List.Elements.{All-from_get_or}
use Rattle.std.proofs.lemmas.List.Sums.{list_all-from_AllPass}
use Rattle.ucd.specs.Grammar.{Form, before_comment, trimmed, is_one_of, blanks, by_fields, fields_of, reading_of}
use Rattle.ucd.proofs.grammar.read_any_line.Goals as goal

all_ascii : (bytes : List ℕ) → ((i : ℕ) → get_or bytes i 0 < 128) → list_all is_ascii bytes ≡ true
all_ascii bytes low = list_all-from_AllPass is_ascii bytes (All-from_get_or (λ b. is_ascii b ≡ true) bytes 0 (λ i lt. lt-ltb _ _ (low i)))

-- If the part of a line before its comment is ASCII, the line is parsed from the fields of that part. The
-- line has no entry if that part is blank.
reads : {V : Type 0} (form : Form V) (line front content : List ℕ) → front ≡ before_comment line
    → ((i : ℕ) → get_or front i 0 < 128) → content ≡ trimmed (is_one_of blanks) front → reading_of form line
    ≡ (if length content == 0 then Ok None else by_fields form (fields_of content))
reads form line front content is low trim = rw (trim, is) (let all : list_all is_ascii (before_comment line) ≡ true = rw is at (all_ascii front low) in rw all refl)

pub returns-then-is_empty : goal.returns-then-is_empty
returns-then-is_empty g c =
    let is = reads (g.V.Property.form c.args.version) c.args.line.now _ _ c.cut.ensures.front c.if-not-is_ascii.ensures.cases c.trimmed-content.ensures in
    rw (is, ← c.if-is_empty.ensures) refl

pub returns : goal.returns
returns g c =
    let is = reads (g.V.Property.form c.args.version) c.args.line.now _ _ c.cut.ensures.front c.if-not-is_ascii.ensures.cases c.trimmed-content.ensures in
    rw (is, ← c.if-is_empty.ensures) c.read_fields.ensures
