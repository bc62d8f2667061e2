-- The damage of an edit: which lines and paragraphs were replaced, and how many replace them.
use Rattle.std.specs.Prelude.{◌≡◌, ℕ, ◌+◌, List, length, take, drop, slice_range}
use Rattle.lines.specs.Layouts.{Layout}
use Rattle.session.specs.Edits.{Replacement}
use Rattle.session.specs.Kept.{pars_of, lines_in}
use Rattle.session.specs.Touched.{first_touched, touched_count}
use Rattle.session.specs.declared.edits.Damage.{Damage}

-- `fresh` items replace `count` items from `first` on, and all others are unchanged
pub record Replaces {A : Type 0} (old new : List A) (first count fresh : ℕ) : Type 0 where
  pub size : fresh + length old ≡ count + length new
  pub front : take first new ≡ take first old
  pub back : drop (first + fresh) new ≡ drop (first + count) old

-- the damage names the touched paragraphs of the old text, their lines, and how many paragraphs and lines
-- replace them
pub record IsDamage (edit : Replacement) (old new : List Layout) (damage : Damage) : Type 0 where
  pub first_par : damage.first_par ≡ first_touched (pars_of old) edit
  pub old_pars : damage.old_pars ≡ touched_count (pars_of old) edit
  pub first_line : damage.first_line ≡ length (lines_in (take damage.first_par old))
  pub old_lines : damage.old_lines ≡ length (lines_in (slice_range old damage.first_par (damage.first_par + damage.old_pars)))
  pub pars : Replaces old new damage.first_par damage.old_pars damage.new_pars
  pub lines : Replaces (lines_in old) (lines_in new) damage.first_line damage.old_lines damage.new_lines

-- the damage of a width change names all lines and paragraphs
pub record NamesAll (old new : List Layout) (damage : Damage) : Type 0 where
  pub first_line : damage.first_line ≡ 0
  pub old_lines : damage.old_lines ≡ length (lines_in old)
  pub new_lines : damage.new_lines ≡ length (lines_in new)
  pub first_par : damage.first_par ≡ 0
  pub old_pars : damage.old_pars ≡ length old
  pub new_pars : damage.new_pars ≡ length new
