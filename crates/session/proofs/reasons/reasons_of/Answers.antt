use Rattle.std.proofs.Common.{◌≡◌, ◌<◌, ◌-◌, ℕ, List, length, sym, ap, ◌∙◌, arith}
use Rattle.std.proofs.lemmas.Bool.{le-leb, lt-leb}
use Rattle.lines.specs.Engine.{rules_of}
use Rattle.lines.specs.Layouts.{Layout}
use Rattle.session.specs.Kept.{text_of}
use Rattle.session.specs.Reasons.{reasons_in}
use Rattle.session.proofs.ClusterLemmas.{cluster-rest, no_reasons, reasons-read}
use Rattle.session.proofs.BorderLemmas.{chars_of, found_some, length-text}
use Rattle.session.proofs.PlaceLemmas.{char_read}
use Rattle.session.proofs.WantLemmas.{on_err}
use Rattle.session.proofs.reasons.reasons_of.Goals as goal

pub returns-then-pos-len-clause-ok : goal.returns-then-pos-len-clause-ok
returns-then-pos-len-clause-ok g c =
    no_reasons (rules_of c.args.engine.now) (g.S.ParagraphStore.items c.args.store.now) c.args.pos
    (omega (arith, c.if-pos-len.true, c.total_chars-len.ensures, length-text (g.S.ParagraphStore.items c.args.store.now)))

pub returns-then-pos-len-clause-none : goal.returns-then-pos-len-clause-none
returns-then-pos-len-clause-none g c =
    let kept = g.S.ParagraphStore.items c.args.store.now in
    sym (le-leb (length (text_of kept)) c.args.pos (omega (arith, c.if-pos-len.true, c.total_chars-len.ensures, length-text kept)))

pub reasons_in-requires : goal.reasons_in-requires
reasons_in-requires g c =
    let read = char_read (g.S.ParagraphStore.items c.args.store.now) c.args.pos c.find_char-found.result c.find_char-found.ensures.found c.in-Some.kept.now c.in-Some.ensures in
    omega (arith, read.0, ap length c.text-text.ensures, ap (λ (l : Layout). length l.text) c.laid.ensures)

pub returns-in_err-reasons-in-Some-clause-memory : goal.returns-in_err-reasons-in-Some-clause-memory
returns-in_err-reasons-in-Some-clause-memory g c =
    on_err c.from_residual.result (omega (arith, c.if-pos-len.false, c.total_chars-len.ensures, length-text (g.S.ParagraphStore.items c.args.store.now)))

pub unreachable-requires : goal.unreachable-requires
unreachable-requires g c = found_some chars_of (g.S.ParagraphStore.items c.args.store.now) c.args.pos c.find_char-found.result c.find_char-found.ensures.found c.in-None.ensures

pub returns-clause-ok : goal.returns-clause-ok
returns-clause-ok g c =
    let kept = g.S.ParagraphStore.items c.args.store.now in
    let rules = rules_of c.args.engine.now in
    let l = c.in-Some.kept.now in
    let rest = c.find_char-found.result.rest in
    let text : c.text-text.result.now ≡ l.text = c.text-text.ensures ∙ ap (λ (x : Layout). x.text) c.laid.ensures in
    let within : c.args.pos < length (text_of kept) = omega (arith, c.if-pos-len.false, c.total_chars-len.ensures, length-text kept) in
    c.in_ok-reasons-in-Some.ensures
    ∙ ap (λ (cs : List ℕ). reasons_in rules (c.args.pos - rest) cs rest) text
    ∙ ap (λ (r : ℕ). reasons_in rules (c.args.pos - rest) l.text r) (sym (cluster-rest kept c.args.pos c.find_char-found.result c.find_char-found.ensures.found l c.in-Some.ensures c.requires))
    ∙ reasons-read kept c.args.pos c.find_char-found.result c.find_char-found.ensures.found l c.in-Some.ensures c.requires rules within

pub returns-clause-none : goal.returns-clause-none
returns-clause-none g c =
    let kept = g.S.ParagraphStore.items c.args.store.now in
    sym (lt-leb (length (text_of kept)) c.args.pos (omega (arith, c.if-pos-len.false, c.total_chars-len.ensures, length-text kept)))
