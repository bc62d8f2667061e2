use Rattle.std.proofs.Common.{[], ◌++◌, not, ◌∙◌, sym, ap, arith}
use Rattle.std.specs.Str.{chars}
use Rattle.std.proofs.lemmas.List.{length-append}
use Rattle.lines.specs.Engine.{rules_of}
use Rattle.lines.specs.Layouts.{cut_by}
use Rattle.session.proofs.JoinedLemmas.{long_of_parts}
use Rattle.session.proofs.RefusalSteps.{short_within, text_few}
use Rattle.session.proofs.joined.has_long.Goals as goal

-- the whole text is within the limit
pub returns-then-len_at_most-le-PARAGRAPH_LIMIT : goal.returns-then-len_at_most-le-PARAGRAPH_LIMIT
returns-then-len_at_most-le-PARAGRAPH_LIMIT c =
    let front = c.args.front.now in
    let piece = chars c.args.piece.now in
    let back = c.args.back.now in
    sym (ap not (short_within c.paragraphs_are_pieces.ensures (cut_by (rules_of c.args.engine.now)) (front ++ (piece ++ back))
    (omega (arith, length-append front (piece ++ back), length-append piece back, text_few c.args.piece.now c.utf8.piece, c.len_at_most.ensures, c.if-len_at_most-le-PARAGRAPH_LIMIT.true))))

-- the three parts are scanned one after another
pub returns : goal.returns
returns c =
    let is_cut = cut_by (rules_of c.args.engine.now) in
    let front = c.args.front.now in
    let piece = chars c.args.piece.now in
    let known = c.take_all-2.ensures ([] ++ front ++ piece) (c.take_text.ensures ([] ++ front) (c.take_all.ensures [] (c.new-scan.ensures is_cut))) in
    c.is_long.ensures ∙ long_of_parts is_cut front piece c.args.back.now c.take_all-2.new.self known
