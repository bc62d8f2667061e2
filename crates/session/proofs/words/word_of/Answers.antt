use Rattle.std.proofs.Common.{◌≡◌, ◌<◌, ◌-◌, ℕ, Bool, List, length, Some, sym, ap, ap₂, ◌∙◌, arith}
use Rattle.lines.specs.Layouts.{Layout}
use Rattle.lines.specs.Words.{word_ends}
use Rattle.session.specs.Kept.{text_of}
use Rattle.session.specs.Words.{word_by}
use Rattle.session.proofs.ClusterLemmas.{cluster-fits, cluster-rest, no_word, word-read}
use Rattle.session.proofs.BorderLemmas.{chars_of, found_some, length-text}
use Rattle.session.proofs.PlaceLemmas.{char_read}
use Rattle.session.proofs.WantLemmas.{on_err}
use Rattle.session.proofs.words.word_of.Goals as goal

pub returns-then-pos-len-clause-ok : goal.returns-then-pos-len-clause-ok
returns-then-pos-len-clause-ok g c =
    no_word (g.S.ParagraphStore.items c.args.store.now) c.args.pos (omega (arith, c.if-pos-len.true, c.total_chars-len.ensures, length-text (g.S.ParagraphStore.items c.args.store.now)))

pub returns-in_err-ends-in-Some-clause-memory : goal.returns-in_err-ends-in-Some-clause-memory
returns-in_err-ends-in-Some-clause-memory g c =
    on_err c.from_residual.result (omega (arith, c.if-pos-len.false, c.total_chars-len.ensures, length-text (g.S.ParagraphStore.items c.args.store.now)))

pub word_by-requires-clause-within : goal.word_by-requires-clause-within
word_by-requires-clause-within g c =
    let read = char_read (g.S.ParagraphStore.items c.args.store.now) c.args.pos c.find_char-found.result c.find_char-found.ensures.found c.in-Some.kept.now c.in-Some.ensures in
    omega (arith, read.0, ap length c.deref.ensures.value, c.in_ok-ends-in-Some.ensures.len, ap (λ (l : Layout). length l.text) c.laid-laid.ensures)

pub word_by-requires-clause-fits : goal.word_by-requires-clause-fits
word_by-requires-clause-fits g c =
    let same : length c.text.result.now ≡ length c.in-Some.kept.now.text = ap length c.text.ensures ∙ ap (λ (l : Layout). length l.text) c.laid-laid.ensures in
    let fits = cluster-fits (g.S.ParagraphStore.items c.args.store.now) c.args.pos c.find_char-found.result
    c.find_char-found.ensures.found c.in-Some.kept.now c.in-Some.ensures c.requires c.total_chars-len.result
    (length c.in-Some.kept.now.text) c.total_chars-len.ensures (omega arith) in
    omega (arith, fits, same, c.total_chars-len.type_inv)

pub unreachable-requires : goal.unreachable-requires
unreachable-requires g c = found_some chars_of (g.S.ParagraphStore.items c.args.store.now) c.args.pos c.find_char-found.result c.find_char-found.ensures.found c.in-None.ensures

pub returns-clause-ok : goal.returns-clause-ok
returns-clause-ok g c =
    let kept = g.S.ParagraphStore.items c.args.store.now in
    let l = c.in-Some.kept.now in
    let rest = c.find_char-found.result.rest in
    let text : c.text.result.now ≡ l.text = c.text.ensures ∙ ap (λ (x : Layout). x.text) c.laid-laid.ensures in
    let ends : c.deref.result.now ≡ word_ends l.text = c.deref.ensures.value ∙ c.in_ok-ends-in-Some.ensures.ends ∙ ap (λ (x : Layout). word_ends x.text) c.laid-laid.ensures in
    let within : c.args.pos < length (text_of kept) = omega (arith, c.if-pos-len.false, c.total_chars-len.ensures, length-text kept) in
    ap Some c.word_by.ensures
    ∙ ap₂ (λ (cs : List ℕ) (es : List Bool). Some (word_by (c.args.pos - rest) cs es rest)) text ends
    ∙ ap (λ (r : ℕ). Some (word_by (c.args.pos - rest) l.text (word_ends l.text) r)) (sym (cluster-rest kept c.args.pos c.find_char-found.result c.find_char-found.ensures.found l c.in-Some.ensures c.requires))
    ∙ word-read kept c.args.pos c.find_char-found.result c.find_char-found.ensures.found l c.in-Some.ensures c.requires within
