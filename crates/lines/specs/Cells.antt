-- Parts of a line that are printed in one step: a tab, or consecutive characters that contain no tab. No
-- contract of an exported function uses this definition.
use Rattle.std.specs.Prelude.{◌≡◌, ℕ, ◌+◌, ◌<◌, ◌≤◌, true, false, slice_index}
use Rattle.lines.specs.Tabs.{is_tab}
use Rattle.lines.specs.Visual.{Visual}

-- whether the characters from one visual position up to another consist of a single tab, or contain no tab
pub record AreCells (line : Visual) (start end : ℕ) : Type 0 where
  pub tab : is_tab line.tab_width (slice_index line.text (slice_index line.vtol start)) ≡ true → end ≡ start + 1
  pub others : is_tab line.tab_width (slice_index line.text (slice_index line.vtol start)) ≡ false
      → (k : ℕ) → start ≤ k → k < end → is_tab line.tab_width (slice_index line.text (slice_index line.vtol k)) ≡ false
