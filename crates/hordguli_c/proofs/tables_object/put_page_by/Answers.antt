use Rattle.std.proofs.Common.{◌≡◌, ◌∙◌, ◌++◌, ℕ, List, None, sym, subst, ap, ap₂}
use Rattle.std.specs.Str.{chars}
use Rattle.bidi.proofs.TextCutLemmas.{some_chars}
use Rattle.lines.specs.Engine.{rules_of}
use Rattle.lines.specs.Layouts.{cut_by, unmeasured}
use Rattle.session.specs.Sessions.{opening_refusal}
use Rattle.hordguli_c.specs.Texts.{PutsPage, text_page}
use Rattle.hordguli_c.specs.declared.status.Status.{Status}
use Rattle.hordguli_c.proofs.PageLemmas.{lines_are_put, nothing_is_put}
use Rattle.hordguli_c.proofs.tables_object.put_page_by.Goals as goal
use Rattle.hordguli_c.proofs.tables_object.put_page_by.Goals.{in-Ok, in-Err}

pub returns-clause-page : goal.returns-clause-page
returns-clause-page c =
    let form = c.args.form.now in
    let text = chars c.args.text.now in
    let tables = (rules_of c.args.engine.now).tables in
    let rules = rules_of c.set_options.new.self in
    let rules_are : rules ≡ unmeasured tables form.options = c.set_options.ensures.rules in
    let allowed : opening_refusal (cut_by rules) text form.width ≡ None = cc (c.opening_refusal.ensures, c.in_default.is) in
    let old : List ℕ × ℕ = (c.args.array.now, c.args.len.now) in
    let merged : List ℕ × ℕ = (c.match-pushed.array, c.match-pushed.len) in
    elim c.match-pushed.branch [
      | in-Ok w ↦
          let new : List ℕ × ℕ = (w.put_bytes-status.new.array, w.put_bytes-status.new.len) in
          let new_is : merged ≡ new = ap₂ (λ (a : List ℕ) (n : ℕ). (a, n)) w.array-is w.len-is in
          let bytes_are : w.bytes.result.now ≡ text_page rules form.width form.print text =
          w.bytes.ensures ∙ w.in-Ok.ensures.ok ∙ ap (λ (t : List ℕ). t ++ text_page rules form.width form.print text) c.clear.ensures in
          subst (λ (s : Status). PutsPage form text s tables old merged) (sym w.status-is)
          (subst (λ (n : List ℕ × ℕ). PutsPage form text w.put_bytes-status.result tables old n) (sym new_is)
          (lines_are_put form text tables rules rules_are allowed w.put_bytes-status.result old new w.bytes.result.now bytes_are w.put_bytes-status.ensures))
      | in-Err w ↦
          let same : merged ≡ old = ap₂ (λ (a : List ℕ) (n : ℕ). (a, n)) w.array-is w.len-is in
          nothing_is_put form text tables rules rules_are allowed c.match-pushed.status old merged w.status-is
          (some_chars c.args.text.now c.utf8.text w.in-Err.ensures.memory) same
    ]
