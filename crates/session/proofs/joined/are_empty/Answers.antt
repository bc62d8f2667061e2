use Rattle.std.proofs.Common.{◌≡◌, ◌<◌, ◌++◌, length, sym, ◌∙◌, arith}
use Rattle.std.specs.Str.{chars}
use Rattle.std.proofs.lemmas.Bool.{eqb-true, eqb-false}
use Rattle.std.proofs.lemmas.List.{length-append}
use Rattle.session.proofs.JoinedLemmas.{no_chars, some_chars}
use Rattle.session.proofs.joined.are_empty.Goals as goal

pub returns-clause-none : goal.returns-clause-none
returns-clause-none c none =
    let piece = chars c.args.piece.now in
    let back = c.args.back.now in
    let no_front : length c.args.front.now ≡ 0 = eqb-true (length c.args.front.now) 0 (sym c.is_empty.ensures ∙ c.if-not-is_empty.false) in
    let no_back : length back ≡ 0 = eqb-true (length back) 0 (sym c.is_empty-2.ensures ∙ c.if-not-is_empty-2.false) in
    let no_piece : length c.args.piece.now ≡ 0 = eqb-true (length c.args.piece.now) 0 (sym c.is_empty-3.ensures ∙ none) in
    omega (arith, no_front, no_back, length-append c.args.front.now (piece ++ back), length-append piece back, no_chars c.args.piece.now no_piece)

pub returns-clause-some : goal.returns-clause-some
returns-clause-some c some =
    let piece = chars c.args.piece.now in
    let back = c.args.back.now in
    let bytes : length c.args.piece.now ≡ 0 → ⊥ = eqb-false (length c.args.piece.now) 0 (sym c.is_empty-3.ensures ∙ some) in
    let filled : 0 < length piece = some_chars c.args.piece.now c.utf8.piece (omega (arith, bytes)) in
    omega (arith, filled, length-append c.args.front.now (piece ++ back), length-append piece back)
