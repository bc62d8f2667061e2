use Rattle.std.proofs.Common.{[], ◌++◌, ℕ, not, length, replicate, ap, sym, ◌∙◌, arith}
use Rattle.std.specs.Str.{chars}
use Rattle.bidi.specs.Cuts.{paragraphs}
use Rattle.lines.specs.Engine.{rules_of}
use Rattle.lines.specs.Layouts.{cut_by}
use Rattle.session.proofs.AdvanceLemmas.{sum_fits}
use Rattle.session.proofs.RoomLemmas.{joined_sum, room_of_parts}
use Rattle.session.proofs.room.has_room.Goals as goal

-- the sum of all advances is below the limit
pub returns-then-fit_together : goal.returns-then-fit_together
returns-then-fit_together c =
    let front = c.args.front.now.advances.now in
    let back = c.args.back.now.advances.now in
    let n = length (chars c.args.piece.now) in
    sym (sum_fits (front ++ (replicate {A = ℕ} n 0 ++ back)) (paragraphs (cut_by (rules_of c.args.engine.now)) (c.args.front.now.text.now ++ (chars c.args.piece.now ++ c.args.back.now.text.now))) (omega (arith, joined_sum front back n, c.fit_together.ensures c.if-fit_together.true)))

-- the three parts are scanned one after another
pub returns : goal.returns
returns c =
    let is_cut = cut_by (rules_of c.args.engine.now) in
    let front = c.args.front.now in
    let back = c.args.back.now in
    let piece = chars c.args.piece.now in
    let zeros = replicate {A = ℕ} (length piece) 0 in
    let known = c.take_all-2.ensures ([] ++ front.text.now ++ piece) ([] ++ front.advances.now ++ zeros)
    (c.take_text.ensures ([] ++ front.text.now) ([] ++ front.advances.now) (c.take_all.ensures [] [] (c.new-scan.ensures is_cut))) in
    ap not c.is_over.ensures ∙ room_of_parts is_cut front.text.now piece back.text.now front.advances.now zeros back.advances.now c.take_all-2.new.self known
