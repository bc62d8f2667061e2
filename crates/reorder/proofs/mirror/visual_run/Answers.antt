use Rattle.std.proofs.Common.{◌≡◌, ◌<◌, ◌∙◌, ◌++◌, ◌-◌, ◌∷◌, [], List, ℕ, get_or, length, map, reverse, ap, ap₂, sym, arith}
use Rattle.std.proofs.lemmas.List.{get_or-map, get_or-reverse, length-map, length-reverse, take_more, take_more_set}
use Rattle.reorder.specs.Mirroring.{mirrored}
use Rattle.reorder.proofs.mirror.visual_run.Goals as goal

pub loop-at-preserved : goal.loop-at-preserved
loop-at-preserved c =
    let run : List ℕ = c.args.run.now in
    let chars : List ℕ = c.loop-at.chars in
    let at : ℕ = c.loop-at.at in
    let k : ℕ = c.loop-at.k - 1 in
    let one : ℕ = c.index-run-k.result in
    let shown = mirrored c.args.tables.now 1 in
    let row : List ℕ = map shown run in
    let size : length row ≡ length run = length-map run shown in
    let below : at < length run = c.loop-at-test.true in
    let last : k < length run = omega (arith, below, c.loop-at.invariant.left) in
    let same : k ≡ length row - 1 - at = omega (arith, below, size, c.loop-at.invariant.left) in
    let room : at < length chars = omega (arith, below, c.loop-at.auto.chars, c.requires.chars) in
    let value : c.mirrored.result ≡ get_or (reverse row) at 0 =
    c.mirrored.ensures ∙ ap shown c.index-run-k.is ∙ sym (get_or-map shown run k one 0 last) ∙ ap (λ n. get_or row n 0) same
    ∙ sym (get_or-reverse row at 0 (omega (arith, below, size))) in
    record {
      written = take_more_set chars at c.mirrored.result room
          ∙ ap₂ (λ (front : List ℕ) (x : ℕ). front ++ x ∷ []) c.loop-at.invariant.written value
          ∙ sym (take_more (reverse row) at 0 (omega (arith, below, size, length-reverse row)));
      left = omega (arith, below, c.loop-at.invariant.left);
    }
