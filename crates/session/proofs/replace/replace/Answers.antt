use Rattle.std.proofs.Common.{◌≡◌, ℕ, ◌+◌, ◌-◌, ◌<◌, ◌≤◌, ◌++◌, List, Option, Err, length, replicate, refl, sym, ap, ap₂, subst, ◌∙◌, arith}
use Rattle.std.specs.Char.{len_utf8}
use Rattle.std.specs.Str.{chars}
use Rattle.std.proofs.lemmas.Iterator.{YieldsList-from_chars}
use Rattle.std.proofs.lemmas.Iterator.Consumers.{count_from_yields_List}
use Rattle.lines.specs.Engine.{rules_of, LaysOutAtMost}
use Rattle.lines.specs.Layouts.{cut_by, with_advances}
use Rattle.lines.specs.Measures.{given_if}
use Rattle.session.specs.Sessions.{SessionState, Edits, EditsNot, IsCountedFor, state_of}
use Rattle.session.specs.Edits.{replacing, paragraphs_refusal}
use Rattle.session.specs.Kept.{advances_in, pars_of, text_of, layouts_of, AreForEach}
use Rattle.session.specs.Offsets.{len_utf16}
use Rattle.session.specs.Sessions.{IsAnswerFor}
use Rattle.session.specs.declared.edits.EditFault.TheVariants.{OutOfRange, TextTooLong, NoMemory}
use Rattle.session.proofs.BorderLemmas.{length-text}
use Rattle.session.proofs.RegionParts.{front_of, back_of}
use Rattle.session.proofs.EditLemmas.{back_each, front_each, rise, chars_fit, lines_fit, units_fit, refusal-past, EditsNot-unchanged, EditsNot-by_region, Edits-after, ends_ok, ends_err}
use Rattle.session.proofs.UnitLemmas.{utf8_few, utf16_few}
use Rattle.session.proofs.RefusalLemmas.{allowed-length, refusal-too_long}
use Rattle.session.specs.declared.edits.TheConstants.{TEXT_LIMIT}
use Rattle.session.proofs.TouchedAloneLemmas.{becomes, known_lines}
use Rattle.session.proofs.WantLemmas.{fault_in, of_err, some_joined, some_put}
use Rattle.session.proofs.replace.replace.Goals as goal
use Rattle.session.proofs.replace.replace.Goals.{then-pos-len-via-then-pos-len, then-pos-len-via-else-pos-len+then-count-len}

pub returns-then-pos-len-clause-err : goal.returns-then-pos-len-clause-err
returns-then-pos-len-clause-err g c =
    let kept = g.S.ParagraphStore.items c.args.store.now in
    let piece = chars c.args.piece.now in
    let size : c.total_chars-len.result ≡ length (text_of kept) = c.total_chars-len.ensures ∙ sym (length-text kept) in
    let past : length (text_of kept) < c.args.range.pos + c.args.range.count = elim c.then-pos-len.branch [
      | then-pos-len-via-then-pos-len w ↦ omega (arith, size, w.if-pos-len.true)
      | then-pos-len-via-else-pos-len+then-count-len w ↦ omega (arith, size, w.if-pos-len.false, w.if-count-len.true)
    ] in
    let state : SessionState = state_of c.args.engine.now c.args.form.width c.args.form.is_measured kept in
    EditsNot-unchanged (replacing c.args.range.pos c.args.range.count piece) state OutOfRange c.requires
    (refusal-past (cut_by (rules_of c.args.engine.now)) (advances_in c.args.form.is_measured kept) (text_of kept) (replacing c.args.range.pos c.args.range.count piece) past) refl

pub overflow_add-len : goal.overflow_add-len
overflow_add-len g c =
    let kept = g.S.ParagraphStore.items c.args.store.now in
    let piece = chars c.args.piece.now in
    let size : c.total_chars-len.result ≡ length (text_of kept) = c.total_chars-len.ensures ∙ sym (length-text kept) in
    let most = allowed-length (cut_by (rules_of c.args.engine.now)) (advances_in c.args.form.is_measured kept) (text_of kept) c.requires.allowed in
    omega (arith, size, most, c.count-inserted.ensures.bound, c.chars.ensures.len)

pub returns-then-len-count-gt-TEXT_LIMIT-clause-err : goal.returns-then-len-count-gt-TEXT_LIMIT-clause-err
returns-then-len-count-gt-TEXT_LIMIT-clause-err g c =
    let kept = g.S.ParagraphStore.items c.args.store.now in
    let piece = chars c.args.piece.now in
    let size : c.total_chars-len.result ≡ length (text_of kept) = c.total_chars-len.ensures ∙ sym (length-text kept) in
    let within : c.args.range.pos + c.args.range.count ≤ length (text_of kept) = omega (arith, size) in
    let n : c.count-inserted.result ≡ length piece = count_from_yields_List c.chars.result c.count-inserted.result c.count-inserted.ensures.ran (YieldsList-from_chars c.args.piece.now c.utf8.piece cc) in
    let state : SessionState = state_of c.args.engine.now c.args.form.width c.args.form.is_measured kept in
    EditsNot-unchanged (replacing c.args.range.pos c.args.range.count piece) state TextTooLong c.requires
    (refusal-too_long (cut_by (rules_of c.args.engine.now)) (advances_in c.args.form.is_measured kept) (text_of kept) piece c.args.range.pos c.args.range.count within (omega (arith, size, n))) refl

pub front_border-front-requires : goal.front_border-front-requires
front_border-front-requires g c =
    let kept = g.S.ParagraphStore.items c.args.store.now in
    let piece = chars c.args.piece.now in
    let size : c.total_chars-len.result ≡ length (text_of kept) = c.total_chars-len.ensures ∙ sym (length-text kept) in
    omega (arith, size)

pub last_touched-last-requires-clause-to : goal.last_touched-last-requires-clause-to
last_touched-last-requires-clause-to g c =
    let kept = g.S.ParagraphStore.items c.args.store.now in
    let piece = chars c.args.piece.now in
    let size : c.total_chars-len.result ≡ length (text_of kept) = c.total_chars-len.ensures ∙ sym (length-text kept) in
    let within : c.args.range.pos + c.args.range.count ≤ length (text_of kept) = omega (arith, size) in
    within

pub lay_out_joined-requires-clause-front : goal.lay_out_joined-requires-clause-front
lay_out_joined-requires-clause-front g c =
    let kept = g.S.ParagraphStore.items c.args.store.now in
    let piece = chars c.args.piece.now in
    let size : c.total_chars-len.result ≡ length (text_of kept) = c.total_chars-len.ensures ∙ sym (length-text kept) in
    let within : c.args.range.pos + c.args.range.count ≤ length (text_of kept) = omega (arith, size) in
    let each = front_each c.paragraphs_are_pieces.ensures c.lines_are_few.ensures c.args.engine.now c.args.form.width c.args.form.is_measured kept c.requires
    c.args.range.pos c.args.range.count piece within c.front_border-front.result c.last_touched-last.result.end
    c.front_border-front.ensures c.last_touched-last.ensures.end in
    subst (λ (t : List ℕ). AreForEach (given_if c.args.form.is_measured c.front_part-before.result.advances.now) t) (sym (c.front_part-before.ensures.text kept c.get-first.ensures))
    (subst (λ (l : List ℕ). AreForEach (given_if c.args.form.is_measured l) (front_of (pars_of kept) c.front_border-front.result c.args.range.pos)) (sym (c.front_part-before.ensures.advances kept c.get-first.ensures)) each)

pub lay_out_joined-requires-clause-back : goal.lay_out_joined-requires-clause-back
lay_out_joined-requires-clause-back g c =
    let kept = g.S.ParagraphStore.items c.args.store.now in
    let piece = chars c.args.piece.now in
    let size : c.total_chars-len.result ≡ length (text_of kept) = c.total_chars-len.ensures ∙ sym (length-text kept) in
    let within : c.args.range.pos + c.args.range.count ≤ length (text_of kept) = omega (arith, size) in
    let each = back_each c.paragraphs_are_pieces.ensures c.lines_are_few.ensures c.args.engine.now c.args.form.width c.args.form.is_measured kept c.requires
    c.args.range.pos c.args.range.count piece within c.front_border-front.result c.last_touched-last.result.end
    c.front_border-front.ensures c.last_touched-last.ensures.end in
    subst (λ (t : List ℕ). AreForEach (given_if c.args.form.is_measured c.back_part-after.result.advances.now) t) (sym (c.back_part-after.ensures.text kept c.last_touched-last.ensures.kept _ refl))
    (subst (λ (l : List ℕ). AreForEach (given_if c.args.form.is_measured l) (back_of (pars_of kept) c.last_touched-last.result.end (c.args.range.pos + c.args.range.count))) (sym (c.back_part-after.ensures.advances kept c.last_touched-last.ensures.kept _ refl)) each)

pub lay_out_joined-requires-clause-edited : goal.lay_out_joined-requires-clause-edited
lay_out_joined-requires-clause-edited g c =
    let kept = g.S.ParagraphStore.items c.args.store.now in
    let piece = chars c.args.piece.now in
    let size : c.total_chars-len.result ≡ length (text_of kept) = c.total_chars-len.ensures ∙ sym (length-text kept) in
    let within : c.args.range.pos + c.args.range.count ≤ length (text_of kept) = omega (arith, size) in
    let n : c.count-inserted.result ≡ length piece = count_from_yields_List c.chars.result c.count-inserted.result c.count-inserted.ensures.ran (YieldsList-from_chars c.args.piece.now c.utf8.piece cc) in
    becomes c.paragraphs_are_pieces.ensures c.args.engine.now c.args.form.width c.args.form.is_measured kept c.requires c.args.range piece c.count-inserted.result n within
    c.front_border-front.result c.last_touched-last.result.end c.front_border-front.ensures c.last_touched-last.ensures.end _ c.get-first.ensures
    c.front_part-before.result.text.now c.back_part-after.result.text.now (c.front_part-before.ensures.text kept c.get-first.ensures) (c.back_part-after.ensures.text kept c.last_touched-last.ensures.kept _ refl)
    c.edited_paragraph-edited.result c.edited_paragraph-edited.ensures

pub returns-in-Err-clause-err : goal.returns-in-Err-clause-err
returns-in-Err-clause-err g c =
    let kept = g.S.ParagraphStore.items c.args.store.now in
    let piece = chars c.args.piece.now in
    let size : c.total_chars-len.result ≡ length (text_of kept) = c.total_chars-len.ensures ∙ sym (length-text kept) in
    let within : c.args.range.pos + c.args.range.count ≤ length (text_of kept) = omega (arith, size) in
    let n : c.count-inserted.result ≡ length piece = count_from_yields_List c.chars.result c.count-inserted.result c.count-inserted.ensures.ran (YieldsList-from_chars c.args.piece.now c.utf8.piece cc) in
    let short : length (text_of kept) - c.args.range.count + length piece ≤ TEXT_LIMIT = omega (arith, size, n) in
    let parts = ap₂ (λ xs ys. xs ++ (piece ++ ys)) (c.front_part-before.ensures.text kept c.get-first.ensures) (c.back_part-after.ensures.text kept c.last_touched-last.ensures.kept _ refl) in
    let given = ap₂ (λ xs ys. given_if c.args.form.is_measured (xs ++ (replicate (length piece) 0 ++ ys))) (c.front_part-before.ensures.advances kept c.get-first.ensures) (c.back_part-after.ensures.advances kept c.last_touched-last.ensures.kept _ refl) in
    let f = c.front_border-front.ensures in
    let b = c.last_touched-last.ensures.end in
    let law = c.paragraphs_are_pieces.ensures in
    let few = c.lines_are_few.ensures in
    let by = rules_of c.args.engine.now in
    let answer = subst (λ o. IsAnswerFor o c.in-Err.fault) (ap₂ (λ (a : Option (List ℕ)) (t : List ℕ). paragraphs_refusal (cut_by by) a t) given parts) c.in-Err.ensures.err in
    let counts = subst (λ t. IsCountedFor c.in-Err.fault (LaysOutAtMost (length t)) c.args.engine.now c.lay_out_joined.new.engine) parts c.in-Err.ensures.refused in
    EditsNot-by_region law few c.args.engine.now c.args.form.width c.args.form.is_measured kept c.requires c.args.range.pos c.args.range.count piece within
    c.front_border-front.result c.last_touched-last.result.end f b c.lay_out_joined.new.engine c.in-Err.fault short answer
    c.lay_out_joined.ensures.rules counts

pub returns-in-Err-clause-memory : goal.returns-in-Err-clause-memory
returns-in-Err-clause-memory g c wants =
    let kept = g.S.ParagraphStore.items c.args.store.now in
    let piece = chars c.args.piece.now in
    let is : c.in-Err.fault ≡ NoMemory = ap (fault_in c.in-Err.fault) wants in
    some_joined c.args.engine.now c.args.form.width c.args.form.is_measured kept c.requires c.front_part-before.result.text.now piece c.back_part-after.result.text.now _ _ _ _
    (c.front_part-before.ensures.text kept c.get-first.ensures) (c.back_part-after.ensures.text kept c.last_touched-last.ensures.kept _ refl) (c.in-Err.ensures.memory (ap Err is))

pub put-requires-clause-order : goal.put-requires-clause-order
put-requires-clause-order g c =
    let kept = g.S.ParagraphStore.items c.args.store.now in
    let piece = chars c.args.piece.now in
    let size : c.total_chars-len.result ≡ length (text_of kept) = c.total_chars-len.ensures ∙ sym (length-text kept) in
    let within : c.args.range.pos + c.args.range.count ≤ length (text_of kept) = omega (arith, size) in
    rise c.paragraphs_are_pieces.ensures c.lines_are_few.ensures c.args.engine.now c.args.form.width c.args.form.is_measured kept c.requires
    c.args.range.pos c.args.range.count piece within c.front_border-front.result c.last_touched-last.result.end
    c.front_border-front.ensures c.last_touched-last.ensures.end

pub put-requires-clause-chars_fit : goal.put-requires-clause-chars_fit
put-requires-clause-chars_fit g c =
    let kept = g.S.ParagraphStore.items c.args.store.now in
    let piece = chars c.args.piece.now in
    let size : c.total_chars-len.result ≡ length (text_of kept) = c.total_chars-len.ensures ∙ sym (length-text kept) in
    let within : c.args.range.pos + c.args.range.count ≤ length (text_of kept) = omega (arith, size) in
    let n : c.count-inserted.result ≡ length piece = count_from_yields_List c.chars.result c.count-inserted.result c.count-inserted.ensures.ran (YieldsList-from_chars c.args.piece.now c.utf8.piece cc) in
    let short : length (text_of kept) - c.args.range.count + length piece ≤ TEXT_LIMIT = omega (arith, size, n) in
    let parts = ap₂ (λ xs ys. xs ++ (piece ++ ys)) (c.front_part-before.ensures.text kept c.get-first.ensures) (c.back_part-after.ensures.text kept c.last_touched-last.ensures.kept _ refl) in
    let given = ap₂ (λ xs ys. given_if c.args.form.is_measured (xs ++ (replicate (length piece) 0 ++ ys))) (c.front_part-before.ensures.advances kept c.get-first.ensures) (c.back_part-after.ensures.advances kept c.last_touched-last.ensures.kept _ refl) in
    let f = c.front_border-front.ensures in
    let b = c.last_touched-last.ensures.end in
    let law = c.paragraphs_are_pieces.ensures in
    let few = c.lines_are_few.ensures in
    let laid = c.in-Ok.ensures.ok ∙ ap₂ (λ (a : Option (List ℕ)) (t : List ℕ). layouts_of (with_advances (rules_of c.args.engine.now) a) c.args.form.width t) given parts in
    chars_fit law few c.args.engine.now c.args.form.width c.args.form.is_measured kept c.requires c.args.range.pos c.args.range.count piece within c.front_border-front.result c.last_touched-last.result.end f b c.in-Ok.done.kept.items laid short

pub put-requires-clause-shared : goal.put-requires-clause-shared
put-requires-clause-shared g c =
    let kept = g.S.ParagraphStore.items c.args.store.now in
    known_lines kept _ c.front_border-front.result c.last_touched-last.result.end c.args.range c.count-inserted.result c.edited_paragraph-edited.result c.in-Ok.done.kept.items c.in-Ok.done.shared
    c.get-first.ensures c.edited_paragraph-edited.ensures c.in-Ok.ensures.shared

pub put-requires-clause-bytes_fit : goal.put-requires-clause-bytes_fit
put-requires-clause-bytes_fit g c =
    let kept = g.S.ParagraphStore.items c.args.store.now in
    let piece = chars c.args.piece.now in
    let size : c.total_chars-len.result ≡ length (text_of kept) = c.total_chars-len.ensures ∙ sym (length-text kept) in
    let within : c.args.range.pos + c.args.range.count ≤ length (text_of kept) = omega (arith, size) in
    let n : c.count-inserted.result ≡ length piece = count_from_yields_List c.chars.result c.count-inserted.result c.count-inserted.ensures.ran (YieldsList-from_chars c.args.piece.now c.utf8.piece cc) in
    let short : length (text_of kept) - c.args.range.count + length piece ≤ TEXT_LIMIT = omega (arith, size, n) in
    let parts = ap₂ (λ xs ys. xs ++ (piece ++ ys)) (c.front_part-before.ensures.text kept c.get-first.ensures) (c.back_part-after.ensures.text kept c.last_touched-last.ensures.kept _ refl) in
    let given = ap₂ (λ xs ys. given_if c.args.form.is_measured (xs ++ (replicate (length piece) 0 ++ ys))) (c.front_part-before.ensures.advances kept c.get-first.ensures) (c.back_part-after.ensures.advances kept c.last_touched-last.ensures.kept _ refl) in
    let f = c.front_border-front.ensures in
    let b = c.last_touched-last.ensures.end in
    let law = c.paragraphs_are_pieces.ensures in
    let few = c.lines_are_few.ensures in
    let laid = c.in-Ok.ensures.ok ∙ ap₂ (λ (a : Option (List ℕ)) (t : List ℕ). layouts_of (with_advances (rules_of c.args.engine.now) a) c.args.form.width t) given parts in
    units_fit law few c.args.engine.now c.args.form.width c.args.form.is_measured kept c.requires c.args.range.pos c.args.range.count piece within c.front_border-front.result c.last_touched-last.result.end f b c.in-Ok.done.kept.items laid short len_utf8 utf8_few

pub put-requires-clause-utf16_fit : goal.put-requires-clause-utf16_fit
put-requires-clause-utf16_fit g c =
    let kept = g.S.ParagraphStore.items c.args.store.now in
    let piece = chars c.args.piece.now in
    let size : c.total_chars-len.result ≡ length (text_of kept) = c.total_chars-len.ensures ∙ sym (length-text kept) in
    let within : c.args.range.pos + c.args.range.count ≤ length (text_of kept) = omega (arith, size) in
    let n : c.count-inserted.result ≡ length piece = count_from_yields_List c.chars.result c.count-inserted.result c.count-inserted.ensures.ran (YieldsList-from_chars c.args.piece.now c.utf8.piece cc) in
    let short : length (text_of kept) - c.args.range.count + length piece ≤ TEXT_LIMIT = omega (arith, size, n) in
    let parts = ap₂ (λ xs ys. xs ++ (piece ++ ys)) (c.front_part-before.ensures.text kept c.get-first.ensures) (c.back_part-after.ensures.text kept c.last_touched-last.ensures.kept _ refl) in
    let given = ap₂ (λ xs ys. given_if c.args.form.is_measured (xs ++ (replicate (length piece) 0 ++ ys))) (c.front_part-before.ensures.advances kept c.get-first.ensures) (c.back_part-after.ensures.advances kept c.last_touched-last.ensures.kept _ refl) in
    let f = c.front_border-front.ensures in
    let b = c.last_touched-last.ensures.end in
    let law = c.paragraphs_are_pieces.ensures in
    let few = c.lines_are_few.ensures in
    let laid = c.in-Ok.ensures.ok ∙ ap₂ (λ (a : Option (List ℕ)) (t : List ℕ). layouts_of (with_advances (rules_of c.args.engine.now) a) c.args.form.width t) given parts in
    units_fit law few c.args.engine.now c.args.form.width c.args.form.is_measured kept c.requires c.args.range.pos c.args.range.count piece within c.front_border-front.result c.last_touched-last.result.end f b c.in-Ok.done.kept.items laid short len_utf16 utf16_few

pub put-requires-clause-lines_fit : goal.put-requires-clause-lines_fit
put-requires-clause-lines_fit g c =
    let kept = g.S.ParagraphStore.items c.args.store.now in
    let piece = chars c.args.piece.now in
    let size : c.total_chars-len.result ≡ length (text_of kept) = c.total_chars-len.ensures ∙ sym (length-text kept) in
    let within : c.args.range.pos + c.args.range.count ≤ length (text_of kept) = omega (arith, size) in
    let n : c.count-inserted.result ≡ length piece = count_from_yields_List c.chars.result c.count-inserted.result c.count-inserted.ensures.ran (YieldsList-from_chars c.args.piece.now c.utf8.piece cc) in
    let short : length (text_of kept) - c.args.range.count + length piece ≤ TEXT_LIMIT = omega (arith, size, n) in
    let parts = ap₂ (λ xs ys. xs ++ (piece ++ ys)) (c.front_part-before.ensures.text kept c.get-first.ensures) (c.back_part-after.ensures.text kept c.last_touched-last.ensures.kept _ refl) in
    let given = ap₂ (λ xs ys. given_if c.args.form.is_measured (xs ++ (replicate (length piece) 0 ++ ys))) (c.front_part-before.ensures.advances kept c.get-first.ensures) (c.back_part-after.ensures.advances kept c.last_touched-last.ensures.kept _ refl) in
    let f = c.front_border-front.ensures in
    let b = c.last_touched-last.ensures.end in
    let law = c.paragraphs_are_pieces.ensures in
    let few = c.lines_are_few.ensures in
    let laid = c.in-Ok.ensures.ok ∙ ap₂ (λ (a : Option (List ℕ)) (t : List ℕ). layouts_of (with_advances (rules_of c.args.engine.now) a) c.args.form.width t) given parts in
    lines_fit law few c.args.engine.now c.args.form.width c.args.form.is_measured kept c.requires c.args.range.pos c.args.range.count piece within c.front_border-front.result c.last_touched-last.result.end f b c.in-Ok.done.kept.items laid short

pub returns-clause-ok : goal.returns-clause-ok
returns-clause-ok g c =
    let kept = g.S.ParagraphStore.items c.args.store.now in
    let piece = chars c.args.piece.now in
    let size : c.total_chars-len.result ≡ length (text_of kept) = c.total_chars-len.ensures ∙ sym (length-text kept) in
    let within : c.args.range.pos + c.args.range.count ≤ length (text_of kept) = omega (arith, size) in
    let n : c.count-inserted.result ≡ length piece = count_from_yields_List c.chars.result c.count-inserted.result c.count-inserted.ensures.ran (YieldsList-from_chars c.args.piece.now c.utf8.piece cc) in
    let short : length (text_of kept) - c.args.range.count + length piece ≤ TEXT_LIMIT = omega (arith, size, n) in
    let parts = ap₂ (λ xs ys. xs ++ (piece ++ ys)) (c.front_part-before.ensures.text kept c.get-first.ensures) (c.back_part-after.ensures.text kept c.last_touched-last.ensures.kept _ refl) in
    let given = ap₂ (λ xs ys. given_if c.args.form.is_measured (xs ++ (replicate (length piece) 0 ++ ys))) (c.front_part-before.ensures.advances kept c.get-first.ensures) (c.back_part-after.ensures.advances kept c.last_touched-last.ensures.kept _ refl) in
    let f = c.front_border-front.ensures in
    let b = c.last_touched-last.ensures.end in
    let law = c.paragraphs_are_pieces.ensures in
    let few = c.lines_are_few.ensures in
    let by = rules_of c.args.engine.now in
    let old : SessionState = state_of c.args.engine.now c.args.form.width c.args.form.is_measured kept in
    let laid = c.in-Ok.ensures.ok ∙ ap₂ (λ (a : Option (List ℕ)) (t : List ℕ). layouts_of (with_advances by a) c.args.form.width t) given parts in
    let allowed = sym (ap₂ (λ (a : Option (List ℕ)) (t : List ℕ). paragraphs_refusal (cut_by by) a t) given parts) ∙ c.in-Ok.ensures.allowed in
    let counts = subst (λ t. LaysOutAtMost (length t) c.args.engine.now c.lay_out_joined.new.engine) parts c.lay_out_joined.ensures.counts in
    rw c.put.ensures.engine (ends_ok (λ ks. Edits (replacing c.args.range.pos c.args.range.count piece) old
    (state_of c.lay_out_joined.new.engine c.args.form.width c.args.form.is_measured ks)) c.put.result _ _ _
    c.put.ensures.ok c.put.ensures.damage
    (Edits-after law few c.args.engine.now c.args.form.width c.args.form.is_measured kept c.requires c.args.range.pos c.args.range.count piece within
    c.front_border-front.result c.last_touched-last.result.end f b c.in-Ok.done.kept.items laid short c.lay_out_joined.new.engine
    allowed c.lay_out_joined.ensures.rules counts))

pub returns-clause-err : goal.returns-clause-err
returns-clause-err g c =
    let kept = g.S.ParagraphStore.items c.args.store.now in
    let piece = chars c.args.piece.now in
    let size : c.total_chars-len.result ≡ length (text_of kept) = c.total_chars-len.ensures ∙ sym (length-text kept) in
    let within : c.args.range.pos + c.args.range.count ≤ length (text_of kept) = omega (arith, size) in
    let n : c.count-inserted.result ≡ length piece = count_from_yields_List c.chars.result c.count-inserted.result c.count-inserted.ensures.ran (YieldsList-from_chars c.args.piece.now c.utf8.piece cc) in
    let short : length (text_of kept) - c.args.range.count + length piece ≤ TEXT_LIMIT = omega (arith, size, n) in
    let parts = ap₂ (λ xs ys. xs ++ (piece ++ ys)) (c.front_part-before.ensures.text kept c.get-first.ensures) (c.back_part-after.ensures.text kept c.last_touched-last.ensures.kept _ refl) in
    let given = ap₂ (λ xs ys. given_if c.args.form.is_measured (xs ++ (replicate (length piece) 0 ++ ys))) (c.front_part-before.ensures.advances kept c.get-first.ensures) (c.back_part-after.ensures.advances kept c.last_touched-last.ensures.kept _ refl) in
    let f = c.front_border-front.ensures in
    let b = c.last_touched-last.ensures.end in
    let law = c.paragraphs_are_pieces.ensures in
    let few = c.lines_are_few.ensures in
    let by = rules_of c.args.engine.now in
    let old : SessionState = state_of c.args.engine.now c.args.form.width c.args.form.is_measured kept in
    let allowed = sym (ap₂ (λ (a : Option (List ℕ)) (t : List ℕ). paragraphs_refusal (cut_by by) a t) given parts) ∙ c.in-Ok.ensures.allowed in
    let counts = subst (λ t. LaysOutAtMost (length t) c.args.engine.now c.lay_out_joined.new.engine) parts c.lay_out_joined.ensures.counts in
    rw c.put.ensures.engine (ends_err (λ ks. EditsNot (replacing c.args.range.pos c.args.range.count piece) old
    (state_of c.lay_out_joined.new.engine c.args.form.width c.args.form.is_measured ks)) c.put.result _ _
    c.put.ensures.err c.put.ensures.fault
    (EditsNot-by_region law few c.args.engine.now c.args.form.width c.args.form.is_measured kept c.requires c.args.range.pos c.args.range.count piece within
    c.front_border-front.result c.last_touched-last.result.end f b c.lay_out_joined.new.engine NoMemory short
    allowed c.lay_out_joined.ensures.rules counts))

pub returns-clause-memory : goal.returns-clause-memory
returns-clause-memory g c wants =
    let kept = g.S.ParagraphStore.items c.args.store.now in
    let piece = chars c.args.piece.now in
    let some = of_err c.put.result NoMemory c.put.ensures.memory wants in
    some_put c.args.engine.now c.args.form.width c.args.form.is_measured kept c.requires c.front_part-before.result.text.now piece c.back_part-after.result.text.now _ _ _ _ (c.front_part-before.ensures.text kept c.get-first.ensures) (c.back_part-after.ensures.text kept c.last_touched-last.ensures.kept _ refl)
    (with_advances (rules_of c.args.engine.now) _) c.front_border-front.result.index c.last_touched-last.result.end.index c.in-Ok.done.kept.items c.last_touched-last.ensures.end.border_is.within c.in-Ok.ensures.ok some
