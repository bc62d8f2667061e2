use Rattle.std.proofs.Common.{◌≡◌, Some, length, sym, ap, ◌∙◌, arith}
use Rattle.session.specs.Kept.{text_of}
use Rattle.session.specs.Offsets.{units_of}
use Rattle.session.proofs.BorderLemmas.{found_some, length-text}
use Rattle.session.proofs.OffsetLemmas.{length-units, position_end, position_fits, position_past, position_read, unit_within}
use Rattle.session.proofs.offsets.position_of.Goals as goal

pub returns-then-offset-total : goal.returns-then-offset-total
returns-then-offset-total g c =
    let kept = g.S.ParagraphStore.items c.args.store.now in
    sym (position_past c.args.encoding (text_of kept) c.args.offset (omega (arith, c.total-total.ensures, length-units c.args.encoding kept, c.if-offset-total.true)))

pub returns-then-offset-total-2 : goal.returns-then-offset-total-2
returns-then-offset-total-2 g c =
    let kept = g.S.ParagraphStore.items c.args.store.now in
    let size : c.total_chars-len.result ≡ length (text_of kept) = c.total_chars-len.ensures ∙ sym (length-text kept) in
    let end = c.if-offset-total-2.true ∙ c.total-total.ensures ∙ sym (length-units c.args.encoding kept) in
    ap (λ n. Some (n, 0)) size ∙ sym (position_end c.args.encoding (text_of kept) c.args.offset end)

pub unit_in-pos-requires : goal.unit_in-pos-requires
unit_in-pos-requires g c =
    unit_within c.args.encoding (g.S.ParagraphStore.items c.args.store.now) c.args.offset c.find-found.result c.find-found.ensures
    c.in-Some.kept.now c.in-Some.ensures

pub overflow_add-result : goal.overflow_add-result
overflow_add-result g c =
    let kept = g.S.ParagraphStore.items c.args.store.now in
    omega (
      arith,
      c.total_chars-len.ensures,
      position_fits c.args.encoding kept c.args.offset c.find-found.result c.find-found.ensures c.in-Some.kept.now c.in-Some.ensures
          c.unit_in-pos.result.0 c.unit_in-pos.result.1 c.unit_in-pos.ensures,
    )

pub unreachable-requires : goal.unreachable-requires
unreachable-requires g c =
    found_some (units_of c.args.encoding) (g.S.ParagraphStore.items c.args.store.now) c.args.offset c.find-found.result c.find-found.ensures c.in-None.ensures

pub returns : goal.returns
returns g c =
    sym (position_read c.args.encoding (g.S.ParagraphStore.items c.args.store.now) c.args.offset c.find-found.result c.find-found.ensures
    c.in-Some.kept.now c.in-Some.ensures c.unit_in-pos.result.0 c.unit_in-pos.result.1 c.unit_in-pos.ensures)
