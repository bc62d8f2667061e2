-- The ligatures of lam and alef, by the code points of their presentation forms. Alef is in its final form: with madda, with hamza
-- above, with hamza below, or alone. Lam is in its initial or medial form, of which the first makes an isolated ligature and the other a
-- final one.
use Rattle.std.specs.Prelude.{ℕ, ◌+◌, ◌==◌, Option, Some, None, if◌then◌else◌}

-- the ligature with the initial form of lam (`place` 0) or the medial form (`place` 1)
abbrev pub of_alef : ℕ → ℕ → Option ℕ
of_alef place alef =
    if alef == 0xFE82 then Some (0xFEF5 + place)
    else (if alef == 0xFE84 then Some (0xFEF7 + place)
    else (if alef == 0xFE88 then Some (0xFEF9 + place) else (if alef == 0xFE8E then Some (0xFEFB + place) else None)))

abbrev pub lam_alef : ℕ → ℕ → Option ℕ
lam_alef lam alef = if lam == 0xFEDF then of_alef 0 alef else (if lam == 0xFEE0 then of_alef 1 alef else None)
