use Rattle.std.proofs.Common.{ℕ, ◌∙◌, map, sym, ap, get_or}
use Rattle.stream.specs.Short.{short_char}
use Rattle.stream.proofs.ShortLemmas.{joined, pairs_by_4, spell}
use Rattle.stream.proofs.short.write_marked.Goals as goal

pub returns-clause-items : goal.returns-clause-items
returns-clause-items c =
    let bytes = c.args.bytes in
    let marks = c.args.marks in
    let f = λ (k : ℕ). get_or bytes k 0 in
    let is = spell 16 bytes c.fits-bytes.0 in
    joined short_char _ _ _ _ _ _ _ _ c.write_four-second.ensures.items c.write_four-third.ensures.items c.write_four-fourth.ensures.items c.write_four.ensures.items
    ∙ ap (map short_char) (rw is (sym (pairs_by_4 marks f c.requires.marks)))
