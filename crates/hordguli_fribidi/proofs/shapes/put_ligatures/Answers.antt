use Rattle.std.proofs.Common.{◌≡◌, ℕ, ◌+◌, List, length, get_or, nat_lt, cond, refl, sym, ap, ◌∙◌, add-one, arith}
use Rattle.hordguli_fribidi.specs.Shapes.{ligated, ligated_at, ligature_at, ligature_before, ligature_of, marked, marked_at}
use Rattle.hordguli_fribidi.proofs.InPlaceLemmas.{more_written, none_written, unwritten}
use Rattle.hordguli_fribidi.proofs.shapes.put_ligatures.Goals as goal

same_ligature : (levels new old : List ℕ) (k : ℕ) → length new ≡ length old → get_or new k 0 ≡ get_or old k 0 → get_or new (k + 1) 0 ≡ get_or old (k + 1) 0
    → ligature_at levels new k ≡ ligature_at levels old k
unfolding ligature_at
same_ligature levels new old k len lam alef =
    ap (λ n. cond (nat_lt (k + 1) n) (ligature_of (get_or levels k 0) (get_or levels (k + 1) 0) (get_or new k 0) (get_or new (k + 1) 0)) 0) len
    ∙ ap (λ c. cond (nat_lt (k + 1) (length old)) (ligature_of (get_or levels k 0) (get_or levels (k + 1) 0) c (get_or new (k + 1) 0)) 0) lam
    ∙ ap (λ c. cond (nat_lt (k + 1) (length old)) (ligature_of (get_or levels k 0) (get_or levels (k + 1) 0) (get_or old k 0) c) 0) alef

pub loop-k-init : goal.loop-k-init
loop-k-init c = record { before = refl; string = none_written _ _; properties = none_written _ _ }

pub loop-k-preserved : goal.loop-k-preserved
unfolding ligated_at marked_at
loop-k-preserved c =
    let k : ℕ = c.loop-k.k in
    let levels : List ℕ = c.args.levels.now in
    let old : List ℕ = c.args.string.now in
    let properties : List ℕ = c.args.properties.now in
    let is = c.loop-k.invariant in
    let here : get_or c.loop-k.string k 0 ≡ get_or old k 0 = unwritten (ligated_at levels old) old c.loop-k.string k k is.string (omega arith) in
    let next : get_or c.loop-k.string (k + 1) 0 ≡ get_or old (k + 1) 0 = unwritten (ligated_at levels old) old c.loop-k.string k (k + 1) is.string (omega arith) in
    let made : c.ligature_at-at.result ≡ ligature_at levels old k = c.ligature_at-at.ensures ∙ same_ligature levels c.loop-k.string old k is.string.len here next in
    record {
      before = made ∙ ap (ligature_before levels old) (sym (add-one k));
      string = more_written (ligated_at levels old) old c.loop-k.string k _ is.string (omega (arith, c.loop-k-test.true, is.string.len))
          (c.ligated.ensures ∙ ap (λ n. ligated n c.ligature_at-at.result (get_or c.loop-k.string k 0)) is.before
          ∙ ap (λ n. ligated (ligature_before levels old k) n (get_or c.loop-k.string k 0)) made
          ∙ ap (ligated (ligature_before levels old k) (ligature_at levels old k)) here);
      properties = more_written (marked_at levels old properties) properties c.loop-k.properties k _ is.properties
          (omega (arith, c.loop-k-test.true, is.properties.len, c.requires.properties))
          (c.marked.ensures ∙ ap (λ n. marked n (get_or c.loop-k.properties k 0)) made
          ∙ ap (marked (ligature_at levels old k)) (unwritten (marked_at levels old properties) properties c.loop-k.properties k k is.properties (omega arith)));
    }
