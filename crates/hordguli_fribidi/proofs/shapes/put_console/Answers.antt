use Rattle.std.proofs.Common.{◌≡◌, ℕ, ◌+◌, ◌%◌, ◌==◌, ◌&&◌, List, length, get_or, nat_lt, cond, sym, ap, ◌∙◌, add-one, arith}
use Rattle.hordguli_fribidi.specs.Shapes.{console_at, console_marked_at, first_at, listed, made_of, marked, next_of}
use Rattle.hordguli_fribidi.proofs.InPlaceLemmas.{more_written, unwritten}
use Rattle.hordguli_fribidi.proofs.shapes.put_console.Goals as goal

same_made : (pairs ligatures levels new old : List ℕ) (k first : ℕ) → length new ≡ length old → get_or new (k + 1) 0 ≡ get_or old (k + 1) 0
    → made_of pairs ligatures levels new k first ≡ made_of pairs ligatures levels old k first
unfolding made_of
same_made pairs ligatures levels new old k first len next =
    ap (λ n. cond (nat_lt (k + 1) n && (get_or levels k 0 % 2 == 1) && (get_or levels k 0 == get_or levels (k + 1) 0)) (listed pairs ligatures first (get_or new (k + 1) 0)) 0) len
    ∙ ap (λ c. cond (nat_lt (k + 1) (length old) && (get_or levels k 0 % 2 == 1) && (get_or levels k 0 == get_or levels (k + 1) 0)) (listed pairs ligatures first c) 0) next

pub loop-k-preserved : goal.loop-k-preserved
unfolding console_at console_marked_at
loop-k-preserved c =
    let k : ℕ = c.loop-k.k in
    let pairs : List ℕ = c.args.pairs.now in
    let ligatures : List ℕ = c.args.ligatures.now in
    let levels : List ℕ = c.args.levels.now in
    let old : List ℕ = c.args.string.now in
    let properties : List ℕ = c.args.properties.now in
    let is = c.loop-k.invariant in
    let first : ℕ = first_at pairs ligatures levels old k in
    let next : get_or c.loop-k.string (k + 1) 0 ≡ get_or old (k + 1) 0 =
    unwritten (console_at pairs ligatures levels old) old c.loop-k.string k (k + 1) is.string (omega arith) in
    let made : c.made_of-made.result ≡ made_of pairs ligatures levels old k first =
    c.made_of-made.ensures ∙ same_made pairs ligatures levels c.loop-k.string old k c.loop-k.first is.string.len next
    ∙ ap (made_of pairs ligatures levels old k) is.first in
    record {
      first = c.next_of-next.ensures ∙ ap (λ n. next_of n c.code_after.result) made
          ∙ ap (next_of (made_of pairs ligatures levels old k first)) (c.code_after.ensures ∙ next ∙ ap (λ i. get_or old i 0) (add-one k))
          ∙ ap (first_at pairs ligatures levels old) (sym (add-one k));
      string = more_written (console_at pairs ligatures levels old) old c.loop-k.string k _ is.string (omega (arith, c.loop-k-test.true, is.string.len))
          (c.shown.ensures ∙ ap (λ n. cond (n == 0) c.loop-k.first 0xFEFF) made ∙ ap (λ n. cond (made_of pairs ligatures levels old k first == 0) n 0xFEFF) is.first);
      properties = more_written (console_marked_at pairs ligatures levels old properties) properties c.loop-k.properties k _ is.properties
          (omega (arith, c.loop-k-test.true, is.properties.len, c.requires.properties))
          (c.marked.ensures ∙ ap (λ n. marked n (get_or c.loop-k.properties k 0)) made
          ∙ ap (marked (made_of pairs ligatures levels old k first))
          (unwritten (console_marked_at pairs ligatures levels old properties) properties c.loop-k.properties k k is.properties (omega arith)));
    }
