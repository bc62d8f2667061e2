use Rattle.std.proofs.Common.{◌≡◌, ℕ, List, ◌-◌, ◌+◌, sym, ap, length, ◌∙◌, arith, get_or, subst}
use Rattle.std.specs.Prelude.{map}
use Rattle.lines.specs.Layouts.{Layout, start_of as begins}
use Rattle.session.specs.Places.{count_to, place_in}
use Rattle.session.specs.declared.places.Place.{Place}
use Rattle.session.proofs.BorderLemmas.{length-text, chars_of, found_some}
use Rattle.session.proofs.PlaceLemmas.{lined_read, starts_sorted, place-few, place-fits, place-is, place-some}
use Rattle.std.specs.List.Sorted.{IsNonDecreasing}
use Rattle.session.proofs.places.place_in.Goals as goal

pub find_char-found-requires : goal.find_char-found-requires
find_char-found-requires g c = omega (arith, c.requires.within, length-text (g.S.ParagraphStore.items c.args.store.now))

pub lines_to-line-requires : goal.lines_to-line-requires
lines_to-line-requires g c =
    let kept = g.S.ParagraphStore.items c.args.store.now in
    let starts = c.line_starts-starts.ensures ∙ ap (λ (l : Layout). map begins l.lines) c.laid.ensures in
    let one = lined_read kept c.find_char-found.result.index c.in-Some.kept.now c.requires.lined c.in-Some.ensures in
    subst IsNonDecreasing (sym starts) (starts_sorted _ _ one.lines.starts)

pub overflow_sub-line : goal.overflow_sub-line
overflow_sub-line g c =
    let kept = g.S.ParagraphStore.items c.args.store.now in
    let starts = c.line_starts-starts.ensures ∙ ap (λ (l : Layout). map begins l.lines) c.laid.ensures in
    place-some kept c.args.pos c.find_char-found.result c.find_char-found.ensures.found c.in-Some.kept.now c.in-Some.ensures
    c.requires.lined c.lines_to-line.result (c.lines_to-line.ensures.count
    ∙ ap (count_to c.find_char-found.result.rest) starts)

pub overflow_add-result : goal.overflow_add-result
overflow_add-result g c =
    let kept = g.S.ParagraphStore.items c.args.store.now in
    let starts = c.line_starts-starts.ensures ∙ ap (λ (l : Layout). map begins l.lines) c.laid.ensures in
    let fits = place-fits kept c.args.pos c.find_char-found.result c.find_char-found.ensures.found c.in-Some.kept.now
    c.in-Some.ensures c.requires.lined c.lines_to-line.result (c.lines_to-line.ensures.count
    ∙ ap (count_to c.find_char-found.result.rest) starts) c.total_lines-lines.result c.total_lines-lines.ensures in
    omega (arith, fits, c.total_lines-lines.type_inv)

pub bounds-starts-line : goal.bounds-starts-line
bounds-starts-line g c =
    let kept = g.S.ParagraphStore.items c.args.store.now in
    let starts = c.line_starts-starts.ensures ∙ ap (λ (l : Layout). map begins l.lines) c.laid.ensures in
    let is = c.lines_to-line.ensures.count ∙ ap (count_to c.find_char-found.result.rest) starts in
    let few = place-few kept c.args.pos c.find_char-found.result c.find_char-found.ensures.found c.in-Some.kept.now c.in-Some.ensures c.requires.lined c.lines_to-line.result is in
    let some = place-some kept c.args.pos c.find_char-found.result c.find_char-found.ensures.found c.in-Some.kept.now c.in-Some.ensures c.requires.lined c.lines_to-line.result is in
    omega (arith, few, some, ap length starts)

pub overflow_sub-result : goal.overflow_sub-result
overflow_sub-result g c =
    let kept = g.S.ParagraphStore.items c.args.store.now in
    let starts = c.line_starts-starts.ensures ∙ ap (λ (l : Layout). map begins l.lines) c.laid.ensures in
    let is = c.lines_to-line.ensures.count ∙ ap (count_to c.find_char-found.result.rest) starts in
    let some = place-some kept c.args.pos c.find_char-found.result c.find_char-found.ensures.found c.in-Some.kept.now c.in-Some.ensures c.requires.lined c.lines_to-line.result is in
    c.lines_to-line.ensures.before (c.lines_to-line.result - 1) (omega (arith, some))

pub unreachable-requires : goal.unreachable-requires
unreachable-requires g c = found_some chars_of (g.S.ParagraphStore.items c.args.store.now) c.args.pos c.find_char-found.result c.find_char-found.ensures.found c.in-None.ensures

pub returns : goal.returns
returns g c =
    let kept = g.S.ParagraphStore.items c.args.store.now in
    let starts : c.line_starts-starts.result.now ≡ map begins c.in-Some.kept.now.lines = c.line_starts-starts.ensures ∙ ap (λ (l : Layout). map begins l.lines) c.laid.ensures in
    let is = c.lines_to-line.ensures.count ∙ ap (count_to c.find_char-found.result.rest) starts in
    let place = place-is kept c.args.pos c.find_char-found.result c.find_char-found.ensures.found c.in-Some.kept.now c.in-Some.ensures c.requires.lined c.lines_to-line.result is in
    subst (λ (ss : List ℕ). let here : Place =
    record {
      paragraph = c.find_char-found.result.index;
      line =
          c.find_char-found.result.lines_before + (c.lines_to-line.result - 1);
      offset =
          c.find_char-found.result.rest - get_or ss (c.lines_to-line.result - 1) 0;
    } in here
    ≡ place_in kept c.args.pos) (sym starts) place
