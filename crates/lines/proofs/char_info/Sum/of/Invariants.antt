use Rattle.std.proofs.Common.{◌≡◌, ◌+◌, ◌*◌, ◌≤◌, ℕ, false, take}
use Rattle.std.specs.Prelude.{fold}
use Rattle.std.specs.List.{list_any}
use Rattle.lines.specs.CharInfos.{advance, moves}
use Rattle.lines.specs.Filling.{is_must}
use Rattle.lines.proofs.char_info.Sum.of.Given as goal

abbrev pub invariant-loop-info : goal.invariant-loop-info
invariant-loop-info l = record {
  columns : l.has_tab ≡ false → (before : ℕ) → fold advance before (take l.info-index l.piece) ≡ before + l.columns;
  most : l.columns ≤ 255 * l.info-index;
  tab : l.has_tab ≡ list_any (λ p. moves p.trailing) (take l.info-index l.piece);
  must : l.has_must ≡ list_any (λ p. is_must p.mark) (take l.info-index l.piece);
}
