use Rattle.std.proofs.Common.{◌≡◌, true, false, rules, arith}
use Rattle.ucd.proofs.ImageFaults.{unknown_page, bad_entry}
use Rattle.ucd.proofs.image.decode_pages.Goals as goal

pub returns-then-not-are_pages_known-clause-err : goal.returns-then-not-are_pages_known-clause-err
returns-then-not-are_pages_known-clause-err c =
    let isnt : c.are_pages_known.result ≡ false = search rules in
    unknown_page c.args.bytes.now c.requires (λ all. c.are_pages_known.ensures.no isnt
    (λ k lt. omega (arith, all k lt, c.page_count-pages.ensures.value)))

pub returns-then-not-are_entries-clause-err : goal.returns-then-not-are_entries-clause-err
returns-then-not-are_entries-clause-err c =
    let known : c.are_pages_known.result ≡ true = search rules in
    let isnt : c.are_entries.result ≡ false = search rules in
    bad_entry c.args.bytes.now c.requires
    (λ k lt. omega (arith, c.are_pages_known.ensures.yes known k lt, c.page_count-pages.ensures.value))
    (λ all. c.are_entries.ensures.no isnt (λ k lt. all k (omega (arith, c.page_count-pages.ensures.value))))
