use Rattle.std.proofs.Common.{◌≡◌, ℕ, ◌<◌, ◌==◌, List, length, get_or, true, Option, None, Ok, Err, if◌then◌else◌, refl, arith}
use Rattle.std.specs.Char.{is_ascii}
use Rattle.std.specs.List.{list_all, slice_split}
use Rattle.std.proofs.lemmas.Bool.{lt-ltb}
use Rattle.std.proofs.lemmas.Bool.Decides.{nat_tests}
use Rattle.std.proofs.lemmas.List.Elements.{All-from_get_or}
use Rattle.std.proofs.lemmas.List.Sums.{list_all-from_AllPass}
use Rattle.ucd.specs.Grammar.{before_comment, blanks, is_delimiter, is_one_of, trimmed}
use Rattle.ucd.specs.JoiningLines.{claim_by, claim_in, field_count}
use Rattle.ucd.specs.declared.fault.Cause.TheVariants as cause
use Rattle.ucd.specs.declared.joining_line.JoiningFile.{JoiningFile}
use Rattle.ucd.proofs.JoiningBounds.{claim_below}
use Rattle.ucd.proofs.joining_line.read_line.Goals as goal

all_ascii : (bytes : List ℕ) → ((i : ℕ) → get_or bytes i 0 < 128) → list_all is_ascii bytes ≡ true
all_ascii bytes low = list_all-from_AllPass is_ascii bytes (All-from_get_or (λ b. is_ascii b ≡ true) bytes 0 (λ i lt. lt-ltb _ _ (low i)))

-- what a line says if the part before its comment is ASCII
reads : (file : JoiningFile) (before : Option ℕ) (line front content : List ℕ) → front ≡ before_comment line
    → ((i : ℕ) → get_or front i 0 < 128) → content ≡ trimmed (is_one_of blanks) front → claim_in file before line
    ≡ (if length content == 0 then Ok None
    else (if length (slice_split (is_delimiter 59) content) == field_count file then claim_by file before content else Err cause.FieldCount))
reads file before line front content is low trim =
    rw (trim, is) (let all : list_all is_ascii (before_comment line) ≡ true = rw is at (all_ascii front low) in rw all refl)

pub returns-then-is_empty-clause-claim : goal.returns-then-is_empty-clause-claim
returns-then-is_empty-clause-claim c =
    let is = reads c.args.file c.args.before c.args.line.now _ _ c.cut.ensures.front c.if-not-is_ascii.ensures.cases c.trimmed-content.ensures in
    rw (is, ← c.if-is_empty.ensures) refl

pub returns-then-count_fields-field_count-clause-claim : goal.returns-then-count_fields-field_count-clause-claim
returns-then-count_fields-field_count-clause-claim c =
    let is = reads c.args.file c.args.before c.args.line.now _ _ c.cut.ensures.front c.if-not-is_ascii.ensures.cases c.trimmed-content.ensures in
    rw (is, ← c.if-is_empty.ensures, ← c.count_fields.ensures, ← c.field_count.ensures) (grind (arith, nat_tests, c.if-count_fields-field_count.true))

pub returns-clause-claim : goal.returns-clause-claim
returns-clause-claim c =
    let is = reads c.args.file c.args.before c.args.line.now _ _ c.cut.ensures.front c.if-not-is_ascii.ensures.cases c.trimmed-content.ensures in
    rw (is, ← c.if-is_empty.ensures, ← c.count_fields.ensures, ← c.field_count.ensures) (grind (arith, nat_tests, c.if-count_fields-field_count.false, c.read_fields.ensures))

pub returns-clause-within : goal.returns-clause-within
returns-clause-within c = rw c.read_fields.ensures (claim_below c.args.file c.args.before c.trimmed-content.result.now)
