use Rattle.std.proofs.Common.{◌≡◌, ◌∙◌, ◌++◌, ℕ, List, length, OnOk, subst, sym, arith}
use Rattle.std.specs.Str.{chars}
use Rattle.std.proofs.lemmas.Bool.Decides.{nat_tests}
use Rattle.std.proofs.lemmas.List.{nil_from_length}
use Rattle.lines.specs.Engine.{rules_of}
use Rattle.lines.specs.Pages.{paragraph_bytes}
use Rattle.text_run.proofs.paragraphs.push_first.Goals as goal

pub returns-then-skips_lines-clause-ok : goal.returns-then-skips_lines-clause-ok
returns-then-skips_lines-clause-ok c =
    let none : length c.args.held.now.items ≡ 0 = grind (arith, nat_tests, c.is_empty.ensures, c.if-is_empty.true) in
    subst (λ (t : List ℕ). OnOk c.push_base_direction.result (c.push_base_direction.new.page.bytes.items ≡ c.args.page.now.bytes.items
    ++ paragraph_bytes (rules_of c.args.engine.now) c.args.width c.args.print.now (t ++ chars c.args.front.now))) (sym (nil_from_length c.args.held.now.items none)) (c.push_base_direction.ensures.ok c.args.width)

pub returns-clause-ok : goal.returns-clause-ok
returns-clause-ok c =
    let text : c.deref.result.now ≡ c.args.held.now.items ++ chars c.args.front.now = c.deref.ensures.value ∙ c.in_ok-push_characters.ensures.ok in
    subst (λ (t : List ℕ). OnOk c.push_paragraph.result (c.push_paragraph.new.page.bytes.items ≡ c.args.page.now.bytes.items
    ++ paragraph_bytes (rules_of c.args.engine.now) c.args.width c.args.print.now t)) text c.push_paragraph.ensures.ok
