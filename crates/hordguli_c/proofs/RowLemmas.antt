-- A line of a paragraph equals the row of its characters if all of them are shown, and the line's clusters
-- are the clusters of these characters alone.
use Rattle.std.proofs.Common.{◌≡◌, ℕ, suc, Bool, Option, List, take, [], ◌∷◌, length, map, refl, sym, ap, ap₂, ◌∙◌, arith}
use Rattle.std.specs.List.{slice_range}
use Rattle.std.proofs.lemmas.List.{length-map, take_all}
use Rattle.ucd.specs.Tables.{class_of}
use Rattle.ucd.specs.declared.bidi_class.BidiClass.{BidiClass}
use Rattle.ucd.specs.declared.tables.Tables.{Tables}
use Rattle.reorder.specs.Mirroring.{visual_chars}
use Rattle.lines.specs.Reordering.{ends_by, ltov_by, vtol_by}
use Rattle.reorder.specs.Spaces.{line_levels}
use Rattle.lines.specs.ShownParts.{shown}
use Rattle.lines.specs.Visual.{line_between}
use Rattle.lines.specs.declared.char_info.CharInfo.{CharInfo}
use Rattle.lines.specs.declared.options.Options.{Options}
use Rattle.hordguli_c.specs.Rows.{row_in_line, row_levels, row_of, Row}

length-line_levels : (base : ℕ) (classes : List BidiClass) (levels : List ℕ) → length levels ≡ length classes
    → length (line_levels base classes levels) ≡ length classes
length-line_levels base [] [] same = refl
length-line_levels base [] (level ∷ levels) same = refl
length-line_levels base (class ∷ classes) [] same = absurd (omega (arith, same))
length-line_levels base (class ∷ classes) (level ∷ levels) same = ap suc (length-line_levels base classes levels (omega (arith, same)))

pub is_line : (tables : Tables) (options : Options) (margin : Option ℕ) (base : ℕ) (text levels : List ℕ) (infos : List CharInfo) (s e : ℕ)
    → slice_range (ends_by options text) s e ≡ ends_by options (slice_range text s e)
    → length (shown margin (slice_range infos s e)) ≡ length (slice_range text s e) → length (slice_range levels s e) ≡ length (slice_range text s e)
    → row_in_line (line_between tables options margin base text levels infos s e)
    ≡ row_of tables options base (slice_range text s e) (slice_range levels s e)
unfolding row_levels
is_line tables options margin base text levels infos s e own_clusters all same =
    let row = slice_range text s e in
    let n = length (shown margin (slice_range infos s e)) in
    let classes = map (class_of tables) row in
    let own = line_levels base classes (slice_range levels s e) in
    let size = length-line_levels base classes (slice_range levels s e) (same ∙ sym (length-map row (class_of tables))) in
    let row_with : List Bool → List ℕ → List ℕ → Row =
    λ ends ls front. record {
      levels = ls;
      ltov = ltov_by options classes ends ls;
      vtol = vtol_by options classes ends ls;
      chars = visual_chars tables ls front (vtol_by options classes ends ls);
    } in
    ap (λ (ends : List Bool). row_with ends (take n own) (take n row)) own_clusters
    ∙ ap₂ (row_with (ends_by options row)) (take_all n own (omega (arith, all, size, length-map row (class_of tables)))) (take_all n row (omega (arith, all)))
