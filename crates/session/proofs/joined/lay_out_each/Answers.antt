use Rattle.std.proofs.Common.{◌≡◌, ◌<◌, ℕ, [], ◌∷◌, List, length, drop, None, Option, Some, true, sym, ap, subst, ◌∙◌, arith}
use Rattle.bidi.specs.Cuts.{paragraphs, SplitsAt}
use Rattle.lines.specs.Engine.{rules_of}
use Rattle.lines.specs.Layouts.{cut_by, layout_of, with_advances, HaveRoom, IsParagraph, Rules}
use Rattle.lines.specs.Measures.{given_if}
use Rattle.session.specs.Edits.{is_within_limit, room_refusal}
use Rattle.session.specs.Kept.{back_advances, front_advances, layouts_of, AreForEach}
use Rattle.session.proofs.AdvanceLemmas.{first_room, for_back, for_front, other_room}
use Rattle.session.proofs.EditLemmas.{each_given}
use Rattle.session.proofs.JoinedLemmas.{front_all, paragraph_in_front, rest_within, layouts_more, layouts_last, layouts_none, some_left, none_left, text_parts}
use Rattle.session.proofs.joined.lay_out_each.Goals as goal
use Rattle.session.proofs.joined.lay_out_each.Goals.{then-not-is_empty+in_ok-lay_out_one-2+in_ok-push-2, else-not-is_empty}

pub split_advances-requires : goal.split_advances-requires
split_advances-requires c = λ is.
    let by = rules_of c.args.engine.now in
    let rest = c.loop-end.rest.now in
    let split : SplitsAt (cut_by by) rest (Some c.in-Some.end) = subst (λ r. SplitsAt (cut_by r) rest (Some c.in-Some.end)) c.loop-end.invariant.rules c.in-Some.ensures.paragraphs in
    omega (arith, each_given c.args.form.is_measured c.loop-end.advances.now rest c.loop-end.invariant.each is, split.1)

pub lay_out_one-requires-clause-paragraph : goal.lay_out_one-requires-clause-paragraph
lay_out_one-requires-clause-paragraph c =
    let by = rules_of c.args.engine.now in
    let rest = c.loop-end.rest.now in
    let split : SplitsAt (cut_by by) rest (Some c.in-Some.end) = subst (λ r. SplitsAt (cut_by r) rest (Some c.in-Some.end)) c.loop-end.invariant.rules c.in-Some.ensures.paragraphs in
    let one = paragraph_in_front c.paragraphs_are_pieces.ensures by rest c.loop-end.invariant.within c.in-Some.end split in
    subst (λ r. IsParagraph r c.split_at.result.0.now) (sym c.loop-end.invariant.rules) (subst (IsParagraph by) (sym c.split_at.ensures.front) one)

pub lay_out_one-requires-clause-each : goal.lay_out_one-requires-clause-each
lay_out_one-requires-clause-each c =
    let by = rules_of c.args.engine.now in
    let rest = c.loop-end.rest.now in
    let k = c.in-Some.end in
    let first = c.split_at.result.0.now in
    let after = c.split_at.result.1.now in
    let left = given_if c.args.form.is_measured c.loop-end.advances.now in
    let split : SplitsAt (cut_by by) rest (Some k) = subst (λ r. SplitsAt (cut_by r) rest (Some k)) c.loop-end.invariant.rules c.in-Some.ensures.paragraphs in
    let parts : paragraphs (cut_by by) rest ≡ first ∷ paragraphs (cut_by by) after =
    split.2 ∙ ap (λ f. f ∷ paragraphs (cut_by by) (drop k rest)) (sym c.split_at.ensures.front) ∙ ap (λ b. first ∷ paragraphs (cut_by by) b) (sym c.split_at.ensures.back) in
    let front = c.split_advances.ensures.front ∙ ap (λ n. front_advances n left) (sym c.split_at.ensures.front_len) in
    subst (λ (a : Option (List ℕ)). AreForEach a first) (sym front)
    (for_front first after left (subst (AreForEach left) (text_parts c.paragraphs_are_pieces.ensures by rest first after parts) c.loop-end.invariant.each))

pub lay_out_one-requires-clause-room : goal.lay_out_one-requires-clause-room
lay_out_one-requires-clause-room c =
    let by = rules_of c.args.engine.now in
    let rest = c.loop-end.rest.now in
    let k = c.in-Some.end in
    let first = c.split_at.result.0.now in
    let after = c.split_at.result.1.now in
    let left = given_if c.args.form.is_measured c.loop-end.advances.now in
    let split : SplitsAt (cut_by by) rest (Some k) = subst (λ r. SplitsAt (cut_by r) rest (Some k)) c.loop-end.invariant.rules c.in-Some.ensures.paragraphs in
    let parts : paragraphs (cut_by by) rest ≡ first ∷ paragraphs (cut_by by) after =
    split.2 ∙ ap (λ f. f ∷ paragraphs (cut_by by) (drop k rest)) (sym c.split_at.ensures.front) ∙ ap (λ b. first ∷ paragraphs (cut_by by) b) (sym c.split_at.ensures.back) in
    let front = c.split_advances.ensures.front ∙ ap (λ n. front_advances n left) (sym c.split_at.ensures.front_len) in
    subst HaveRoom (sym front) (first_room left first (paragraphs (cut_by by) after) (subst (λ ps. room_refusal left ps ≡ None) parts c.loop-end.invariant.room))

pub loop-end-preserved : goal.loop-end-preserved
loop-end-preserved c =
    let by = rules_of c.args.engine.now in
    let law = c.paragraphs_are_pieces.ensures in
    let rest = c.loop-end.rest.now in
    let k = c.in-Some.end in
    let first = c.split_at.result.0.now in
    let after = c.split_at.result.1.now in
    let width = c.args.form.width in
    let left = given_if c.args.form.is_measured c.loop-end.advances.now in
    let all = layouts_of (with_advances by (given_if c.args.form.is_measured c.args.whole.now.advances.now)) width c.args.whole.now.text.now in
    let split : SplitsAt (cut_by by) rest (Some k) = subst (λ r. SplitsAt (cut_by r) rest (Some k)) c.loop-end.invariant.rules c.in-Some.ensures.paragraphs in
    let parts : paragraphs (cut_by by) rest ≡ first ∷ paragraphs (cut_by by) after =
    split.2 ∙ ap (λ f. f ∷ paragraphs (cut_by by) (drop k rest)) (sym c.split_at.ensures.front) ∙ ap (λ b. first ∷ paragraphs (cut_by by) b) (sym c.split_at.ensures.back) in
    let front = c.split_advances.ensures.front ∙ ap (λ n. front_advances n left) (sym c.split_at.ensures.front_len) in
    let back = c.split_advances.ensures.back ∙ ap (λ n. back_advances n left) (sym c.split_at.ensures.front_len) in
    let one = c.in_ok-lay_out_one.ensures.ok ∙ ap (λ (r : Rules). layout_of (with_advances r (given_if c.args.form.is_measured c.split_advances.result.0.now)) width first) c.loop-end.invariant.rules
    ∙ ap (λ (a : Option (List ℕ)). layout_of (with_advances by a) width first) front in
    record {
      laid_out = layouts_more (with_advances by None) width all rest left _ c.loop-end.invariant.laid_out first after _ _ _ parts back one c.in_ok-push.ensures.items;
      each = subst (λ (a : Option (List ℕ)). AreForEach a after) (sym back) (for_back first after left (subst (AreForEach left) (text_parts law by rest first after parts) c.loop-end.invariant.each));
      room = subst (λ (a : Option (List ℕ)). room_refusal a (paragraphs (cut_by by) after) ≡ None) (sym back)
          (other_room left first (paragraphs (cut_by by) after) (subst (λ ps. room_refusal left ps ≡ None) parts c.loop-end.invariant.room));
      within = subst (λ b. is_within_limit (cut_by by) b ≡ true) (sym c.split_at.ensures.back) (rest_within law by rest c.loop-end.invariant.within k split);
      rules = c.in_ok-lay_out_one.ensures.rules ∙ c.loop-end.invariant.rules;
      analysed = omega (arith, c.loop-end.invariant.analysed, c.in_ok-lay_out_one.ensures.counts.analysed.least);
      analysed_most = omega (arith, c.loop-end.invariant.analysed_most, c.in_ok-lay_out_one.ensures.counts.analysed.most, c.split_at.ensures.front_len, c.split_at.ensures.back_len, split.1);
      filled = omega (arith, c.loop-end.invariant.filled, c.in_ok-lay_out_one.ensures.counts.filled.least);
      filled_most = omega (arith, c.loop-end.invariant.filled_most, c.in_ok-lay_out_one.ensures.counts.filled.most, c.split_at.ensures.front_len, c.split_at.ensures.back_len, split.1);
      written = omega (arith, c.loop-end.invariant.written, c.in_ok-lay_out_one.ensures.counts.written.least);
      written_most = omega (arith, c.loop-end.invariant.written_most, c.in_ok-lay_out_one.ensures.counts.written.most, c.split_at.ensures.front_len, c.split_at.ensures.back_len, split.1);
    }

pub returns-clause-ok : goal.returns-clause-ok
returns-clause-ok c =
    let by = rules_of c.args.engine.now in
    let rest = c.loop-end.rest.now in
    let width = c.args.form.width in
    let left = given_if c.args.form.is_measured c.loop-end.advances.now in
    let all = layouts_of (with_advances by (given_if c.args.form.is_measured c.args.whole.now.advances.now)) width c.args.whole.now.text.now in
    let none : SplitsAt (cut_by (rules_of c.loop-end.engine)) rest None = subst (λ o. SplitsAt (cut_by (rules_of c.loop-end.engine)) rest o) c.in_default.is c.first_cut.ensures.paragraphs in
    let split : SplitsAt (cut_by by) rest None = subst (λ r. SplitsAt (cut_by r) rest None) c.loop-end.invariant.rules none in
    elim c.if-not-is_empty.branch [
      | then-not-is_empty+in_ok-lay_out_one-2+in_ok-push-2 w ↦
          let some : 0 < length rest = some_left rest _ c.is_empty.ensures w.if-not-is_empty.true in
          let one = w.in_ok-lay_out_one-2.ensures.ok ∙ ap (λ (r : Rules). layout_of (with_advances r left) width rest) c.loop-end.invariant.rules
          ∙ ap (λ (a : Option (List ℕ)). layout_of (with_advances by a) width rest) (sym (front_all rest left c.loop-end.invariant.each)) in
          ap (λ v. v.items) w.kept-is ∙ layouts_last (with_advances by None) width all rest left _ c.loop-end.invariant.laid_out _ _ (split some) one w.in_ok-push-2.ensures.items
      | else-not-is_empty w ↦
          let nothing : rest ≡ [] = none_left rest _ c.is_empty.ensures w.if-not-is_empty.false in
          ap (λ v. v.items) w.kept-is ∙ layouts_none (with_advances by None) width all rest left _ c.loop-end.invariant.laid_out nothing
    ]
