use Rattle.std.proofs.Common.{◌≡◌, ◌+◌, ◌*◌, ◌/◌, ◌%◌, ◌<◌, length, get_or, set, refl, subst, sym, ap, ◌∙◌, arith}
use Rattle.std.proofs.lemmas.List.{get_or-set_other, length-set}
use Rattle.ucd.specs.declared.bidi_class.BidiClass.TheVariants.{L}
use Rattle.bidi.specs.WeakState.{AreRead}
use Rattle.bidi.specs.WeakTable.{is_simple, strong_after, strong_at}
use Rattle.bidi.proofs.WeakStateLemmas.{read-next, read-settle}
use Rattle.bidi.proofs.weak.read_simple.Goals as goal

pub loop-at-init : goal.loop-at-init
loop-at-init c =
    let begin = c.args.begin in
    let state = c.args.state in
    let same : state.row % 96 ≡ state.row / 32 % 3 * 32 = omega (arith, c.requires.state.starts) in
    record {
      within = omega (arith, c.requires.order);
      size = refl;
      bounded = omega arith;
      simple = c.requires.simple;
      read = λ sos old given. subst (λ row. AreRead sos old c.args.types.now state.before row begin begin) same
          (read-settle sos old c.args.types.now state.before state.row state.start begin L (omega (arith, c.requires.order, c.requires.within))
          (c.requires.simple begin L (omega arith) c.requires.order) given);
    }

pub loop-at-preserved : goal.loop-at-preserved
loop-at-preserved c =
    let at = c.loop-at.at in
    let current = c.loop-at.types in
    let inv = c.loop-at.invariant in
    let value = c.w3_type.result in
    let strong = c.loop-at.strong in
    let next = c.strong_after-strong.result in
    let bounded = c.strong_after-strong.ensures.bounded in
    let number : strong * 32 / 32 ≡ strong = omega arith in
    let next_number : next * 32 / 32 ≡ next = omega arith in
    let after : strong_at (next * 32 / 32) ≡ strong_after (strong_at (strong * 32 / 32)) (get_or current at L) =
    ap strong_at next_number ∙ c.strong_after-strong.ensures.strong ∙ ap (λ k. strong_after (strong_at k) (get_or current at L)) (sym number) in
    let inside : at < length current = omega (arith, inv.size, c.loop-at-test.true, c.requires.within) in
    record {
      within = omega (arith, c.loop-at-test.true);
      size = length-set current at value ∙ inv.size;
      bounded = bounded;
      simple = λ k d from below. ap is_simple (get_or-set_other current at k value d (omega (arith, from))) ∙ inv.simple k d (omega (arith, from)) below;
      read = λ sos old given. subst (λ v. AreRead sos old (set current at v) (get_or current at L) (next * 32) (at + 1) (at + 1)) (sym c.w3_type.ensures)
          (read-next sos old current c.loop-at.before (strong * 32) at at L inside (inv.simple at L (omega arith) c.loop-at-test.true)
          (next * 32) (omega (arith, inv.bounded)) (omega (arith, bounded)) after (inv.read sos old given));
    }
