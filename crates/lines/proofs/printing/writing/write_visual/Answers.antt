use Rattle.std.proofs.Common.{◌≡◌, ◌∙◌, ℕ, List, length, take, drop, ap, subst, sym, arith}
use Rattle.std.proofs.lemmas.List.{length-take, length-take-le}
use Rattle.std.proofs.lemmas.Bool.{true≢false}
use Rattle.ucd.specs.Within.{AreWithin}
use Rattle.lines.proofs.printing.writing.write_visual.Goals as goal

pub invariant_of-view : goal.invariant_of-view
invariant_of-view g c =
    let n = c.args.line.now.shown.len in
    let chars = c.args.line.now.text.characters.now in
    let levels = take n c.deref.result.now in
    let size : length levels ≡ n = length-take-le n c.deref.result.now (omega (arith, c.requires.visual.levels, c.requires.shown, ap length c.deref.ensures.value)) in
    let text : length (take (length levels) chars) ≡ length levels = length-take-le (length levels) chars (omega (arith, size, c.requires.shown)) in
    let back : c.split_at.result.1.now ≡ drop n c.args.visual.now.maps.items = c.split_at.ensures.back ∙ ap (drop n) c.deref-2.ensures.value in
    let within = subst (λ (xs : List ℕ). AreWithin n (take n xs)) (sym back) c.requires.within in (
      λ k below. let here = within k below in omega (arith, here, size, text),
      omega (arith, text, size, c.requires.shown, c.requires.limit),
      omega (arith, length-take n c.split_at.result.1.now, c.requires.shown, c.requires.limit),
      λ measured. absurd (true≢false (sym measured)),
    )
