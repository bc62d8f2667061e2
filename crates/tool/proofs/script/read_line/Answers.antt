use Rattle.std.proofs.Common.{◌≡◌, ℕ, ◌<◌, ◌≤◌, ◌==◌, ◌&&◌, ◌++◌, List, [], ◌∷◌, Bool, true, Option, None, IfOk, length, string_bytes, nat_le, option_map, OnErr, Result, Ok, Err, inl, sym, subst, ap, ◌∙◌, arith, if◌then◌else◌}
use Rattle.std.specs.Prelude.{IsUtf8}
use Rattle.std.specs.Str.{chars}
use Rattle.std.specs.Str.Lossy.{utf8_valid_len}
use Rattle.std.proofs.lemmas.Bool.Decides.{nat_tests}
use Rattle.std.proofs.lemmas.List.{length-take-le, take_all}
use Rattle.std.proofs.lemmas.Str.{chars-nil, utf8_valid_len_le}
use Rattle.bidi.proofs.TextCutLemmas.{some_chars}
use Rattle.stream.proofs.Utf8Lemmas.{utf8_front}
use Rattle.script_commands.specs.Parsed.{command_of}
use Rattle.tool.specs.Scripts.{command_of_line}
use Rattle.script_commands.specs.Commands.{LacksInserted, Command, command_in}
use Rattle.tool.proofs.script.read_line.Goals as goal
use Rattle.tool.specs.declared.script.TheConstants.{LINE_LIMIT}

-- if a fact holds, `OnErr` holds for that fact
on_err : {A E : Type 0} (P : Type 0) (r : Result A E) → P → OnErr r P
on_err P (Ok done) p = tt
on_err P (Err error) p = p

pub returns-in_err-push_characters-clause-err : goal.returns-in_err-push_characters-clause-err
returns-in_err-push_characters-clause-err c =
    let line = c.args.line.now in
    let within : utf8_valid_len line ≤ length line = utf8_valid_len_le line in
    on_err _ c.from_residual.result (omega (arith, within, ap length c.front.ensures.text, length-take-le (utf8_valid_len line) line within, c.if-characters-line.false))

-- if an allocation failed, the kept characters had been cleared, and the line is not empty
pub returns-in_err-push_characters-clause-part : goal.returns-in_err-push_characters-clause-part
returns-in_err-push_characters-clause-part c =
    let line = c.args.line.now in
    let within : utf8_valid_len line ≤ length line = utf8_valid_len_le line in
    let is_text : utf8_valid_len line ≡ length line = omega (arith, within, ap length c.front.ensures.text, length-take-le (utf8_valid_len line) line within, c.if-characters-line.false) in
    let whole = take_all (utf8_valid_len line) line (omega (arith, is_text)) in
    let some : 0 < length line = omega (arith, c.in_err-push_characters.ensures.memory, ap length (c.front.ensures.text ∙ whole)) in
    let none : length c.push_characters.new.characters.items ≡ 0 = ap length (c.in_err-push_characters.ensures.err ∙ c.clear.ensures.items) in
    let more = some_chars line (subst IsUtf8 whole (utf8_front line)) some in
    on_err _ c.from_residual.result (inl (omega (arith, none, more)))

pub returns-clause-err : goal.returns-clause-err
returns-clause-err c =
    let line = c.args.line.now in
    let within : utf8_valid_len line ≤ length line = utf8_valid_len_le line in
    on_err _ c.read_command.result (omega (arith, within, ap length c.front.ensures.text, length-take-le (utf8_valid_len line) line within, c.if-characters-line.false))

pub returns-clause-ok : goal.returns-clause-ok
returns-clause-ok c =
    let line = c.args.line.now in
    let queries = c.args.queries in
    let within : utf8_valid_len line ≤ length line = utf8_valid_len_le line in
    let is_text : utf8_valid_len line ≡ length line = omega (arith, within, ap length c.front.ensures.text, length-take-le (utf8_valid_len line) line within, c.if-characters-line.false) in
    let short : nat_le (length line) LINE_LIMIT ≡ true = grind (arith, nat_tests, c.requires) in
    let valid : (utf8_valid_len line == length line) ≡ true = grind (arith, nat_tests, is_text) in
    let text : c.deref.result.now ≡ chars line =
    c.deref.ensures.value ∙ c.in_ok-push_characters.ensures.ok ∙ ap (λ t. t ++ chars c.front.result.0.now) c.clear.ensures.items
    ∙ ap chars (c.front.ensures.text ∙ take_all (utf8_valid_len line) line (omega (arith, is_text))) in
    let is : command_in queries c.deref.result.now ≡ command_of_line queries line =
    ap (command_in queries) text ∙ sym
    (ap (λ (b : Bool). if b && (utf8_valid_len line == length line) then command_in queries (chars line) else None)
    short ∙ ap (λ (b : Bool). if b then command_in queries (chars line) else None) valid) in
    subst (λ (o : Option Command). IfOk c.read_command.result (λ command. option_map (command_of (string_bytes c.read_command.new.inserted)) command ≡ o)) is c.read_command.ensures.ok

-- a line is not empty if not all characters of its inserted text were kept
piece_some : (text kept : List ℕ) → LacksInserted text kept → 0 < length text
piece_some [] kept has = let none = has.word in cc none
piece_some (c ∷ text) kept has = omega arith

line_some : (line : List ℕ) → 0 < length (chars line) → 0 < length line
line_some [] some = omega (arith, some, ap length chars-nil)
line_some (b ∷ line) some = omega arith

err_weaker : {A E : Type 0} (P Q : Type 0) → (P → Q) → (r : Result A E) → OnErr r P → OnErr r Q
err_weaker P Q by (Ok done) p = tt
err_weaker P Q by (Err error) p = by p

pub returns-clause-memory : goal.returns-clause-memory
returns-clause-memory c =
    let line = c.args.line.now in
    let within : utf8_valid_len line ≤ length line = utf8_valid_len_le line in
    let is_text : utf8_valid_len line ≡ length line = omega (arith, within, ap length c.front.ensures.text, length-take-le (utf8_valid_len line) line within, c.if-characters-line.false) in
    let text : c.deref.result.now ≡ chars line =
    c.deref.ensures.value ∙ c.in_ok-push_characters.ensures.ok ∙ ap (λ t. t ++ chars c.front.result.0.now) c.clear.ensures.items
    ∙ ap chars (c.front.ensures.text ∙ take_all (utf8_valid_len line) line (omega (arith, is_text))) in
    let kept = chars (string_bytes c.read_command.new.inserted) in
    err_weaker _ _ (λ has. line_some line (piece_some (chars line) kept (subst (λ (t : List ℕ). LacksInserted t kept) text has))) c.read_command.result c.read_command.ensures.memory
