use Rattle.std.proofs.Common.{ℕ, ◌≤◌, ◌++◌, List, length, refl, sym, ap, subst, ◌∙◌}
use Rattle.std.specs.Str.{chars}
use Rattle.std.proofs.lemmas.Bool.{ltb-false, ltb-true, not-false, not-true}
use Rattle.lines.specs.Engine.{rules_of}
use Rattle.lines.specs.Layouts.{with_advances}
use Rattle.session.specs.Kept.{first_advances, layouts_of, TotalsFit}
use Rattle.session.proofs.EditLemmas.{at_ok, LaysOutAtMost-none}
use Rattle.session.proofs.JoinedLemmas.{text_none, text_some}
use Rattle.session.proofs.OpenLemmas.{OpensNot-long_paragraph, OpensNot-too_long, OpensNot-no_memory, Opens-laid, TotalsFit-laid}
use Rattle.session.specs.declared.edits.TheConstants.{TEXT_LIMIT}
use Rattle.session.proofs.session.fill_store.Goals as goal

pub returns-then-is_too_long-clause-err : goal.returns-then-is_too_long-clause-err
returns-then-is_too_long-clause-err g c = λ reason by_text.
    let whole = chars c.args.text.now in
    OpensNot-too_long c.args.form.is_measured c.args.engine.now whole c.args.form.width reason by_text (ltb-true TEXT_LIMIT (length whole) (sym c.is_too_long.ensures ∙ c.if-is_too_long.true))

pub returns-then-has_long_in_text-clause-err : goal.returns-then-has_long_in_text-clause-err
returns-then-has_long_in_text-clause-err g c = λ reason by_text.
    let whole = chars c.args.text.now in
    let short : length whole ≤ TEXT_LIMIT = ltb-false TEXT_LIMIT (length whole) (sym c.is_too_long.ensures ∙ c.if-is_too_long.false) in
    let engine = c.args.engine.now in
    let long = not-true _ (sym c.has_long_in_text.ensures ∙ c.if-has_long_in_text.true) in
    OpensNot-long_paragraph c.args.form.is_measured engine whole c.args.form.width reason by_text engine short refl long refl

pub returns-then-is_empty-clause-ok : goal.returns-then-is_empty-clause-ok
returns-then-is_empty-clause-ok g c = λ reason by_text.
    let whole = chars c.args.text.now in
    let short : length whole ≤ TEXT_LIMIT = ltb-false TEXT_LIMIT (length whole) (sym c.is_too_long.ensures ∙ c.if-is_too_long.false) in
    let engine = c.args.engine.now in
    let within = not-false _ (sym c.has_long_in_text.ensures ∙ c.if-has_long_in_text.false) in
    let law = c.paragraphs_are_pieces.ensures in
    let none = text_none c.args.text.now _ c.is_empty.ensures c.if-is_empty.true in
    let kept = c.new-store.ensures ∙ sym (ap (λ (t : List ℕ). layouts_of (with_advances (rules_of engine) (first_advances c.args.form.is_measured (length t))) c.args.form.width t) none) in
    Opens-laid c.args.form.is_measured engine whole c.args.form.width reason by_text engine short refl within
    (LaysOutAtMost-none (length whole) engine) law _ kept c.requires

pub append_all-requires-clause-fit : goal.append_all-requires-clause-fit
append_all-requires-clause-fit g c =
    let whole = chars c.args.text.now in
    let short : length whole ≤ TEXT_LIMIT = ltb-false TEXT_LIMIT (length whole) (sym c.is_too_long.ensures ∙ c.if-is_too_long.false) in
    let engine = c.args.engine.now in
    let by = with_advances (rules_of engine) (first_advances c.args.form.is_measured (length whole)) in
    subst (λ ks. TotalsFit (ks ++ layouts_of by c.args.form.width whole)) (sym c.new-store.ensures)
    (TotalsFit-laid c.paragraphs_are_pieces.ensures c.lines_are_few.ensures by c.args.form.width whole short)

pub returns-then-is_err-clause-err : goal.returns-then-is_err-clause-err
returns-then-is_err-clause-err g c = λ reason by_text.
    let whole = chars c.args.text.now in
    let short : length whole ≤ TEXT_LIMIT = ltb-false TEXT_LIMIT (length whole) (sym c.is_too_long.ensures ∙ c.if-is_too_long.false) in
    let engine = c.args.engine.now in
    let within = not-false _ (sym c.has_long_in_text.ensures ∙ c.if-has_long_in_text.false) in
    OpensNot-no_memory c.args.form.is_measured engine whole c.args.form.width reason by_text c.append_all.new.engine short
    c.append_all.ensures.rules within c.append_all.ensures.counts

pub returns-then-is_err-clause-memory : goal.returns-then-is_err-clause-memory
returns-then-is_err-clause-memory g c wants =
    text_some c.args.text.now _ c.utf8.text c.is_empty.ensures c.if-is_empty.false

pub returns-clause-ok : goal.returns-clause-ok
returns-clause-ok g c = λ reason by_text.
    let whole = chars c.args.text.now in
    let short : length whole ≤ TEXT_LIMIT = ltb-false TEXT_LIMIT (length whole) (sym c.is_too_long.ensures ∙ c.if-is_too_long.false) in
    let engine = c.args.engine.now in
    let within = not-false _ (sym c.has_long_in_text.ensures ∙ c.if-has_long_in_text.false) in
    let law = c.paragraphs_are_pieces.ensures in
    let put = at_ok c.append_all.result (sym c.is_err.ensures.value ∙ c.if-is_err.false) c.append_all.ensures.ok in
    let by = with_advances (rules_of engine) (first_advances c.args.form.is_measured (length whole)) in
    let kept = put ∙ ap (λ ks. ks ++ layouts_of by c.args.form.width whole) c.new-store.ensures in
    Opens-laid c.args.form.is_measured engine whole c.args.form.width reason by_text c.append_all.new.engine short c.append_all.ensures.rules
    within c.append_all.ensures.counts law _ kept c.requires
