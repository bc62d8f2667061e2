use Rattle.std.proofs.Common.{◌≡◌, ◌∷◌, ◌++◌, [], ℕ, None, ◌+◌, ◌≤◌, List, length, refl, sym, ap, ap₂, subst, ◌∙◌, arith}
use Rattle.std.specs.Result.{OnOk}
use Rattle.std.specs.Str.{chars}
use Rattle.std.proofs.lemmas.List.{append-nil}
use Rattle.bidi.specs.Cuts.{paragraphs}
use Rattle.lines.specs.Engine.{rules_of, RisesBy}
use Rattle.lines.specs.Layouts.{cut_by, layout_of, with_advances, IsParagraph}
use Rattle.session.specs.Kept.{first_advances, layouts_of, TotalsFit}
use Rattle.session.proofs.JoinedLemmas.{first_paragraph, layouts_none, others_within, split_length, text_none, text_parts}
use Rattle.session.proofs.OpenLemmas.{layouts_one, layouts_stored, TotalsFit-front}
use Rattle.session.proofs.opening.append_all.Goals as goal

-- if a text is one paragraph, no text follows it
pub append_one-requires-clause-paragraph : goal.append_one-requires-clause-paragraph
append_one-requires-clause-paragraph g c =
    let whole = chars c.args.text.now in
    first_paragraph c.paragraphs_are_pieces.ensures (rules_of c.args.engine.now) whole whole [] (c.is_one.ensures c.if-is_one.true) c.requires.within

pub append_one-requires-clause-fit : goal.append_one-requires-clause-fit
append_one-requires-clause-fit g c =
    let by = with_advances (rules_of c.args.engine.now) None in
    let stored = g.S.ParagraphStore.items c.args.store.now in
    let one = layouts_one c.args.form.is_measured by c.args.form.width (chars c.args.text.now) (c.is_one.ensures c.if-is_one.true) in
    subst (λ ks. TotalsFit (stored ++ ks)) one c.requires.fit

pub returns-then-is_one-clause-ok : goal.returns-then-is_one-clause-ok
returns-then-is_one-clause-ok g c =
    let by = with_advances (rules_of c.args.engine.now) None in
    let stored = g.S.ParagraphStore.items c.args.store.now in
    let one = layouts_one c.args.form.is_measured by c.args.form.width (chars c.args.text.now) (c.is_one.ensures c.if-is_one.true) in
    subst (λ ks. OnOk c.append_one.result (g.S.ParagraphStore.items c.append_one.new.store ≡ stored ++ ks)) (sym one) c.append_one.ensures.ok

pub loop-rest-init : goal.loop-rest-init
loop-rest-init g c =
    let stored = g.S.ParagraphStore.items c.args.store.now in
    let all = layouts_of (with_advances (rules_of c.args.engine.now) (first_advances c.args.form.is_measured (length (chars c.args.text.now)))) c.args.form.width (chars c.args.text.now) in
    record {
      utf8 = c.utf8.text;
      laid_out = ap (λ ks. stored ++ ks ++ all) c.new-new.ensures.items ∙ ap (λ ks. ks ++ all) (append-nil stored);
      within = c.requires.within;
      rules = refl;
      analysed = omega arith;
      analysed_most = omega arith;
      filled = omega arith;
      filled_most = omega arith;
      written = omega arith;
      written_most = omega arith;
    }

pub lay_out_new-requires-clause-paragraph : goal.lay_out_new-requires-clause-paragraph
lay_out_new-requires-clause-paragraph g c =
    let by = rules_of c.args.engine.now in
    let rest = chars c.loop-rest.rest.now in
    let first = chars c.split_first.result.0.now in
    let after = chars c.split_first.result.1.now in
    let same = c.loop-rest.invariant.rules in
    let split = subst (λ r. paragraphs (cut_by r) rest ≡ first ∷ paragraphs (cut_by r) after) same c.split_first.ensures.paragraphs in
    let one = first_paragraph c.paragraphs_are_pieces.ensures by rest first after split c.loop-rest.invariant.within in
    let here = subst (λ r. IsParagraph r first) (sym same) one in
    subst (IsParagraph (rules_of c.loop-rest.engine)) (sym (c.deref.ensures.value ∙ c.in_ok-list.ensures)) here

pub append_batch-requires : goal.append_batch-requires
append_batch-requires g c =
    let by = rules_of c.args.engine.now in
    let rest = chars c.loop-rest.rest.now in
    let first = chars c.split_first.result.0.now in
    let after = chars c.split_first.result.1.now in
    let same = c.loop-rest.invariant.rules in
    let split = subst (λ r. paragraphs (cut_by r) rest ≡ first ∷ paragraphs (cut_by r) after) same c.split_first.ensures.paragraphs in
    let text = c.deref.ensures.value ∙ c.in_ok-list.ensures in
    let one = c.in_ok-lay_out_new.ensures.ok
    ∙ ap₂ (λ r (t : List ℕ). layout_of (with_advances r (first_advances c.args.form.is_measured (length t))) c.args.form.width t) same text in
    let law = c.paragraphs_are_pieces.ensures in
    let stored = g.S.ParagraphStore.items c.loop-rest.store in
    let more = layouts_stored c.args.form.is_measured (with_advances by None) c.args.form.width _ rest first after stored c.loop-rest.new.items c.push.new.self.items _ (text_parts law by rest first after split) split one
    c.in_ok-push.ensures.items c.loop-rest.invariant.laid_out in
    TotalsFit-front (stored ++ c.push.new.self.items) _ _ more c.requires.fit

pub loop-rest-smaller : goal.loop-rest-smaller
loop-rest-smaller g c = c.split_first.ensures.shorter

pub loop-rest-preserved : goal.loop-rest-preserved
loop-rest-preserved g c =
    let by = rules_of c.args.engine.now in
    let rest = chars c.loop-rest.rest.now in
    let first = chars c.split_first.result.0.now in
    let after = chars c.split_first.result.1.now in
    let same = c.loop-rest.invariant.rules in
    let law = c.paragraphs_are_pieces.ensures in
    let split = subst (λ r. paragraphs (cut_by r) rest ≡ first ∷ paragraphs (cut_by r) after) same c.split_first.ensures.paragraphs in
    let text = c.deref.ensures.value ∙ c.in_ok-list.ensures in
    let one = c.in_ok-lay_out_new.ensures.ok
    ∙ ap₂ (λ r (t : List ℕ). layout_of (with_advances r (first_advances c.args.form.is_measured (length t))) c.args.form.width t) same text in
    let stored = g.S.ParagraphStore.items c.loop-rest.store in
    let more = layouts_stored c.args.form.is_measured (with_advances by None) c.args.form.width _ rest first after stored c.loop-rest.new.items c.push.new.self.items _ (text_parts law by rest first after split) split one
    c.in_ok-push.ensures.items c.loop-rest.invariant.laid_out in
    let lengths = split_length law by rest first after split in
    record {
      utf8 = c.split_first.ensures.text.1;
      laid_out = ap (λ ks. ks ++ layouts_of (with_advances by (first_advances c.args.form.is_measured (length after))) c.args.form.width after) c.in_ok-new.ensures ∙ more;
      within = others_within law by rest first after split c.loop-rest.invariant.within;
      rules = c.in_ok-lay_out_new.ensures.rules ∙ same;
      analysed = omega (arith, c.loop-rest.invariant.analysed, c.in_ok-lay_out_new.ensures.counts.analysed.least);
      analysed_most = omega (arith, c.loop-rest.invariant.analysed_most, c.in_ok-lay_out_new.ensures.counts.analysed.most, ap length text, lengths);
      filled = omega (arith, c.loop-rest.invariant.filled, c.in_ok-lay_out_new.ensures.counts.filled.least);
      filled_most = omega (arith, c.loop-rest.invariant.filled_most, c.in_ok-lay_out_new.ensures.counts.filled.most, ap length text, lengths);
      written = omega (arith, c.loop-rest.invariant.written, c.in_ok-lay_out_new.ensures.counts.written.least);
      written_most = omega (arith, c.loop-rest.invariant.written_most, c.in_ok-lay_out_new.ensures.counts.written.most, ap length text, lengths);
    }

pub append-requires : goal.append-requires
append-requires g c =
    TotalsFit-front (g.S.ParagraphStore.items c.loop-rest.store ++ c.loop-rest.new.items) _ _ c.loop-rest.invariant.laid_out c.requires.fit

pub returns-clause-ok : goal.returns-clause-ok
returns-clause-ok g c =
    let by = rules_of c.args.engine.now in
    let rest = c.loop-rest.rest.now in
    let none = text_none rest _ c.is_empty.ensures c.loop-rest-test.false in
    let all = layouts_none (with_advances by None) c.args.form.width _ (chars rest) (first_advances c.args.form.is_measured (length (chars rest)))
    (g.S.ParagraphStore.items c.loop-rest.store ++ c.loop-rest.new.items) c.loop-rest.invariant.laid_out none in
    subst (λ ks. OnOk c.append.result (g.S.ParagraphStore.items c.append.new.store ≡ ks)) all c.append.ensures

-- a count that rises by at most the remaining amount stays within the bound for the whole text
rises : (whole left done old mid new : ℕ) → old ≤ mid → mid + left ≤ old + whole → done ≤ left → RisesBy done mid new → RisesBy whole old new
rises whole left done old mid new least most within by = record { least = omega (arith, least, by.least); most = omega (arith, most, within, by.most) }

pub returns-in_err-push-clause-counts : goal.returns-in_err-push-clause-counts
returns-in_err-push-clause-counts g c =
    let by = rules_of c.args.engine.now in
    let rest = chars c.loop-rest.rest.now in
    let first = chars c.split_first.result.0.now in
    let after = chars c.split_first.result.1.now in
    let split = subst (λ r. paragraphs (cut_by r) rest ≡ first ∷ paragraphs (cut_by r) after) c.loop-rest.invariant.rules c.split_first.ensures.paragraphs in
    let within : length c.deref.result.now ≤ length rest = omega (arith, ap length (c.deref.ensures.value ∙ c.in_ok-list.ensures), split_length c.paragraphs_are_pieces.ensures by rest first after split) in
    let so_far = c.loop-rest.invariant in
    let counts = c.in_ok-lay_out_new.ensures.counts in
    record {
      analysed = rises _ _ _ _ _ _ so_far.analysed so_far.analysed_most within counts.analysed;
      filled = rises _ _ _ _ _ _ so_far.filled so_far.filled_most within counts.filled;
      written = rises _ _ _ _ _ _ so_far.written so_far.written_most within counts.written;
    }

pub returns-in_err-new-clause-counts : goal.returns-in_err-new-clause-counts
returns-in_err-new-clause-counts g c =
    let by = rules_of c.args.engine.now in
    let rest = chars c.loop-rest.rest.now in
    let first = chars c.split_first.result.0.now in
    let after = chars c.split_first.result.1.now in
    let split = subst (λ r. paragraphs (cut_by r) rest ≡ first ∷ paragraphs (cut_by r) after) c.loop-rest.invariant.rules c.split_first.ensures.paragraphs in
    let within : length c.deref.result.now ≤ length rest = omega (arith, ap length (c.deref.ensures.value ∙ c.in_ok-list.ensures), split_length c.paragraphs_are_pieces.ensures by rest first after split) in
    let so_far = c.loop-rest.invariant in
    let counts = c.in_ok-lay_out_new.ensures.counts in
    record {
      analysed = rises _ _ _ _ _ _ so_far.analysed so_far.analysed_most within counts.analysed;
      filled = rises _ _ _ _ _ _ so_far.filled so_far.filled_most within counts.filled;
      written = rises _ _ _ _ _ _ so_far.written so_far.written_most within counts.written;
    }
