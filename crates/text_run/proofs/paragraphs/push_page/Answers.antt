use Rattle.std.proofs.Common.{◌≡◌, ◌∙◌, ◌++◌, ◌<◌, ◌==◌, ℕ, false, List, length, Result, Ok, Err, OnErr, sym, ap, arith}
use Rattle.std.specs.List.{concat}
use Rattle.std.specs.Str.{chars}
use Rattle.std.proofs.lemmas.Bool.Decides.{nat_tests}
use Rattle.std.proofs.lemmas.List.{length-append}
use Rattle.bidi.specs.Cuts.{paragraphs}
use Rattle.lines.specs.Engine.{rules_of}
use Rattle.lines.specs.Layouts.{cut_by}
use Rattle.lines.specs.Pages.{page, paragraph_bytes}
use Rattle.text_run.proofs.LongLemmas.{text_few}
use Rattle.text_run.proofs.PushLemmas.{page_whole}
use Rattle.text_run.proofs.paragraphs.push_page.Goals as goal

some_left : (n : ℕ) → (n == 0) ≡ false → 0 < n
some_left n is = grind (arith, nat_tests)

on_any_err : {T E P : Type 0} (result : Result T E) → P → OnErr result P
on_any_err (Ok x) p = tt
on_any_err (Err e) p = p

pub returns-in_err-push_paragraph-clause-memory : goal.returns-in_err-push_paragraph-clause-memory
returns-in_err-push_paragraph-clause-memory c =
    let text = c.args.text.now in
    let pushed = c.in_ok-push_text.ensures.pushed in
    let rest = c.push_text.new.held.items in
    let filled : (length rest == 0) ≡ false = ap (λ n. n == 0) (sym (ap length c.deref.ensures.value) ∙ c.deref.ensures.len) ∙ sym c.if-is_empty.ensures in
    on_any_err c.from_residual-in_err-push_paragraph.result (omega (
      arith,
      some_left (length rest) filled,
      ap length pushed.front.whole,
      length-append (concat pushed.pars) rest,
      ap (λ (t : List ℕ). length (t ++ chars text)) c.clear.ensures.items,
      text_few text c.utf8.text,
    ))

pub returns-clause-ok : goal.returns-clause-ok
returns-clause-ok c =
    let rules = rules_of c.args.engine.now in
    let width = c.args.width in
    let print = c.args.print.now in
    let pushed = c.in_ok-push_text.ensures.pushed in
    let before = c.args.lines.now.bytes.items in
    let after = c.push_text.new.page.bytes.items in
    let rest = c.push_text.new.held.items in
    let filled : (length rest == 0) ≡ false = ap (λ n. n == 0) (sym (ap length c.deref.ensures.value) ∙ c.deref.ensures.len) ∙ sym c.if-is_empty.ensures in
    page_whole rules width print (c.clear.new.self.items ++ chars c.args.text.now) rest before after c.push_paragraph.new.page.bytes.items pushed.pars
    pushed.front pushed.left (some_left (length rest) filled) pushed.lines
    (c.in_ok-push_paragraph.ensures.ok
    ∙ ap (λ r. after ++ paragraph_bytes r width print c.deref.result.now) c.in_ok-push_text.ensures.rules
    ∙ ap (λ (t : List ℕ). after ++ paragraph_bytes rules width print t) c.deref.ensures.value)
    ∙ ap (λ (t : List ℕ). before ++ page rules width print (paragraphs (cut_by rules) (t ++ chars c.args.text.now))) c.clear.ensures.items
