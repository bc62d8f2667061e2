use Rattle.std.proofs.Common.{ap, replicate, ◌∙◌, length, arith}
use Rattle.std.proofs.lemmas.List.{length-append}
use Rattle.stream.proofs.ShortLemmas.{in_list}
use Rattle.stream.proofs.short.push_marked.Goals as goal

pub returns-clause-items : goal.returns-clause-items
returns-clause-items c =
    let is = c.deref_mut.ensures.value ∙ c.push_ascii.ensures.items in
    c.truncate.ensures.items
    ∙ in_list c.args.characters.now.items _ _ c.write_marked-count.new.out _ _ _ c.len-len.result c.write_marked-count.result _ is
    (omega arith) c.write_marked-count.ensures.within (omega (arith, c.write_marked-count.ensures.count, c.deref_mut.ensures.len, ap length is, length-append c.args.characters.now.items (replicate 16 0)))
    c.write_marked-count.ensures.items
