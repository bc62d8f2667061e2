use Rattle.std.proofs.Common.{◌≡◌, ◌∙◌, ◌-◌, ◌^◌, ◌<◌, List, ap, refl, subst, sum_by, sym, arith}
use Rattle.std.specs.List.{All, slice_range, splice}
use Rattle.lines.specs.Layouts.{Layout}
use Rattle.lines.specs.Matching.{MatchAtEnd, MatchAtStart}
use Rattle.session.specs.Borders.{damage_between}
use Rattle.session.specs.Changes.{without_same, AreFound, AreKnown, HasLines}
use Rattle.session.specs.Kept.{lines_in}
use Rattle.session.specs.declared.edits.ChangedLines.{ChangedLines}
use Rattle.session.specs.declared.edits.Damage.{Damage}
use Rattle.session.proofs.BorderLemmas.{lines_of}
use Rattle.session.proofs.EditLemmas.{AreSums-splice}
use Rattle.session.proofs.TrimLemmas.{damage_fits, new_most, old_count, AreFound-put}
use Rattle.session.proofs.replace.put.Goals as goal

pub overflow_sub-old_lines : goal.overflow_sub-old_lines
overflow_sub-old_lines g c =
    omega (arith, damage_fits (g.S.ParagraphStore.items c.args.store.now) c.args.new.items c.args.front c.args.back c.requires.front c.requires.back c.requires.order)

pub same_ends-same-requires-clause-lines : goal.same_ends-same-requires-clause-lines
same_ends-same-requires-clause-lines g c =
    old_count (g.S.ParagraphStore.items c.args.store.now) c.args.new.items c.args.front c.args.back c.requires.front c.requires.back c.requires.order

pub same_ends-same-requires-clause-fit : goal.same_ends-same-requires-clause-fit
same_ends-same-requires-clause-fit g c =
    let most = new_most (g.S.ParagraphStore.items c.args.store.now) c.args.new.items c.args.front c.args.back c.requires.front c.requires.back c.requires.order in
    subst (λ (ns : List Layout). sum_by lines_of ns < 2 ^ 64) (sym c.deref.ensures.value) (omega (arith, most, c.requires.lines_fit))

pub same_ends-same-requires-clause-shared : goal.same_ends-same-requires-clause-shared
same_ends-same-requires-clause-shared g c =
    subst (λ (ns : List Layout). AreKnown (g.S.ParagraphStore.items c.args.store.now) c.args.front.index c.args.back.index ns c.args.shared) (sym c.deref.ensures.value) c.requires.shared

pub overflow_sub-damage : goal.overflow_sub-damage
overflow_sub-damage g c =
    (AreSums-splice (g.S.ParagraphStore.items c.args.store.now) c.args.new.items c.args.front c.args.back
    c.total_lines-total.result _ c.requires.front c.requires.back c.requires.order c.total_lines-total.ensures
    refl).within

pub overflow_sub-damage-2 : goal.overflow_sub-damage-2
overflow_sub-damage-2 g c =
    let put = c.in-Ok.ensures.ok in
    (AreSums-splice (g.S.ParagraphStore.items c.args.store.now) c.args.new.items c.args.front c.args.back
    c.total_lines-total.result c.total_lines.result c.requires.front c.requires.back c.requires.order
    c.total_lines-total.ensures (c.total_lines.ensures ∙ ap (sum_by lines_of) put)).others

pub returns-clause-damage : goal.returns-clause-damage
returns-clause-damage g c =
    let put = c.in-Ok.ensures.ok in
    let made = (AreSums-splice (g.S.ParagraphStore.items c.args.store.now) c.args.new.items c.args.front c.args.back
    c.total_lines-total.result c.total_lines.result c.requires.front c.requires.back c.requires.order
    c.total_lines-total.ensures (c.total_lines.ensures ∙ ap (sum_by lines_of) put)).made in
    rw (made, c.len-new_pars.ensures ∙ c.args.new.ok.0) refl

pub without_same-requires : goal.without_same-requires
without_same-requires g c =
    let ks = g.S.ParagraphStore.items c.args.store.now in
    omega (arith, damage_fits ks c.args.new.items c.args.front c.args.back c.requires.front c.requires.back c.requires.order)

pub returns-clause-changed : goal.returns-clause-changed
returns-clause-changed g c =
    let ks = g.S.ParagraphStore.items c.args.store.now in
    let mid = slice_range ks c.args.front.index c.args.back.index in
    let s = c.same_ends-same.result.start in
    let e = c.same_ends-same.result.end in
    let start = subst (λ (ns : List Layout). All HasLines ks → All HasLines ns → MatchAtStart (lines_in mid) (lines_in ns) s) c.deref.ensures.value c.same_ends-same.ensures.start in
    let end = subst (λ (ns : List Layout). All HasLines ks → All HasLines ns → MatchAtEnd (lines_in mid) (lines_in ns) e) c.deref.ensures.value c.same_ends-same.ensures.end in
    let found = AreFound-put ks c.args.new.items c.args.front c.args.back c.requires.front c.requires.back c.requires.order s e start end in
    let put = c.in-Ok.ensures.ok in
    let made = (AreSums-splice ks c.args.new.items c.args.front c.args.back
    c.total_lines-total.result c.total_lines.result c.requires.front c.requires.back c.requires.order
    c.total_lines-total.ensures (c.total_lines.ensures ∙ ap (sum_by lines_of) put)).made in
    let damage : Damage = record {
      first_line = c.args.front.lines;
      old_lines = c.args.back.lines - c.args.front.lines;
      new_lines = c.total_lines.result - (c.total_lines-total.result - (c.args.back.lines - c.args.front.lines));
      first_par = c.args.front.index;
      old_pars = c.args.back.index - c.args.front.index;
      new_pars = c.len-new_pars.result;
    } in
    let is : damage ≡ damage_between c.args.front c.args.back c.args.new.items = rw (made, c.len-new_pars.ensures ∙ c.args.new.ok.0) refl in
    subst (λ (x : ChangedLines). AreFound ks (g.S.ParagraphStore.items c.replace.new.self) damage x) (sym c.without_same.ensures)
    (subst (λ (ms : List Layout). AreFound ks ms damage (without_same damage s e)) (sym put)
    (subst (λ (d : Damage). AreFound ks (splice ks c.args.front.index c.args.back.index c.args.new.items) d (without_same d s e)) (sym is) found))
