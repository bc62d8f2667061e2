-- The grapheme clusters of a line.
use Rattle.std.proofs.Common.{◌≡◌, ℕ, ◌+◌, ◌-◌, ◌<◌, ◌≤◌, Bool, List, [], ◌∷◌, ◌++◌, length, length-append, map, get_or, Option, Some, None, option_and_then, option_map, refl, sym, ap, ap₂, ◌∙◌, arith}
use Rattle.std.specs.List.{slice_get}
use Rattle.std.proofs.lemmas.List.Concat.{flat_map-append}
use Rattle.std.proofs.lemmas.List.{get_or-map, length-map}
use Rattle.std.proofs.lemmas.Option.{slice_get-get_or, slice_get_past}
use Rattle.lines.proofs.ClusterLemmas.{length-cluster_ends}
use Rattle.lines.proofs.EndLemmas.{ends_in_whole}
use Rattle.lines.proofs.PageLemmas.{visual_at}
use Rattle.lines.proofs.ShowLemmas.{end_within}
use Rattle.lines.specs.Clusters.{cluster_ends, ends_in}
use Rattle.lines.specs.Layouts.{Layout, start_of as begins, visuals}
use Rattle.lines.specs.Visual.{Line, Visual, end_of, visual_of}
use Rattle.store.specs.Finding.{Finds}
use Rattle.store.specs.declared.found.Found.{Found}
use Rattle.session.specs.Clusters.{ends_of_text, line_clusters}
use Rattle.session.specs.Kept.{lines_in, text_of}
use Rattle.session.specs.Places.{IsLined, line_starts}
use Rattle.session.proofs.BorderLemmas.{chars_of, lines_of, item_read, length-text}
use Rattle.session.proofs.LineLemmas.{line_read}
use Rattle.session.proofs.PlaceLemmas.{length-lines_from, start_read}

length-ends : (kept : List Layout) → length (ends_of_text kept) ≡ length (text_of kept)
length-ends [] = refl
length-ends (l ∷ kept) =
    length-append (cluster_ends l.text) (ends_of_text kept) ∙ ap₂ ◌+◌ (length-cluster_ends l.text) (length-ends kept)
    ∙ sym (length-append l.text (text_of kept))

-- there are no clusters past the last line
pub clusters_past : (kept : List Layout) (n : ℕ) → length (lines_in kept) ≤ n → None ≡ line_clusters kept n
clusters_past kept n past =
    let none : slice_get (line_starts kept) n ≡ None = slice_get_past (line_starts kept) n (omega (arith, past, length-lines_from 0 kept)) in
    sym (ap (option_and_then (λ start. option_map (λ (line : Visual). ends_in (ends_of_text kept) start line.len) (slice_get (lines_in kept) n))) none)

-- the length of a line is the distance from its start to its end, by the line starts of its paragraph
visual_len : (l : Layout) (k : ℕ) → k < length l.lines
    → option_map (λ (line : Visual). line.len) (slice_get (visuals l) k) ≡ Some (end_of (length l.text) (map begins l.lines) k - get_or (map begins l.lines) k 0)
visual_len l k within =
    let starts = map begins l.lines in
    let d : Line = record { start = 0; columns = 0; levels = []; ltov = []; vtol = []; chars = [] } in
    let start : get_or starts k 0 ≡ begins (get_or l.lines k d) = get_or-map begins l.lines k d 0 within in
    ap (option_map (λ (line : Visual). line.len)) (sym (visual_at l k) ∙ ap (option_map (visual_of l.base l.tab_width l.advances l.text l.lines k)) (slice_get-get_or l.lines k d within))
    ∙ ap (λ m. Some (end_of (length l.text) starts k - m)) (sym start)

map_len : (g : ℕ → List ℕ) (line : Option Visual) (m : ℕ) → option_map (λ (line : Visual). line.len) line ≡ Some m
    → option_map (λ (line : Visual). g line.len) line ≡ Some (g m)
map_len g (Some line) m is = ap (option_map g) is
map_len g None m is = ap (option_map g) is

-- the clusters that are computed in the paragraph found by a search for line n are the clusters of line n
module _ (kept : List Layout) (n : ℕ) (found : Found) (f : Finds lines_of chars_of lines_of kept n found) (l : Layout) (read : Some l ≡ slice_get kept found.index) (lined : IsLined l) where
  pub clusters_found : Some (ends_in (cluster_ends l.text) (get_or (map begins l.lines) found.rest 0)
      (end_of (length l.text) (map begins l.lines) found.rest - get_or (map begins l.lines) found.rest 0)) ≡ line_clusters kept n
  clusters_found =
      let starts = map begins l.lines in
      let begin = get_or starts found.rest 0 in
      let len = end_of (length l.text) starts found.rest - begin in
      let all = ends_of_text kept in
      let item : l ≡ f.item = item_read lines_of kept n found f l read in
      let within : found.rest < length l.lines = omega (arith, f.within, ap (λ (x : Layout). length x.lines) item) in
      let place = end_within (length l.text) starts found.rest lined.lines.starts (omega (arith, within, length-map l.lines begins)) in
      let split : all ≡ ends_of_text f.before ++ (cluster_ends l.text ++ ends_of_text f.after) =
      ap ends_of_text f.place ∙ flat_map-append (λ (x : Layout). cluster_ends x.text) f.before (f.item ∷ f.after)
      ∙ ap (λ (x : Layout). ends_of_text f.before ++ (cluster_ends x.text ++ ends_of_text f.after)) (sym item) in
      let front : found.chars_before ≡ length (ends_of_text f.before) = f.chars_before ∙ sym (length-ends f.before ∙ length-text f.before) in
      let whole : ends_in all (found.chars_before + begin) len ≡ ends_in (cluster_ends l.text) begin len =
      ap₂ (λ (es : List Bool) (m : ℕ). ends_in es (m + begin) len) split front
      ∙ ends_in_whole (ends_of_text f.before) (cluster_ends l.text) (ends_of_text f.after) begin len (omega (arith, place, length-cluster_ends l.text)) in
      sym (
      ap (option_and_then (λ start. option_map (λ (line : Visual). ends_in all start line.len) (slice_get (lines_in kept) n))) (start_read kept n found f l read)
      ∙ ap (option_map (λ (line : Visual). ends_in all (found.chars_before + begin) line.len)) (line_read kept n found f l read)
      ∙ map_len (ends_in all (found.chars_before + begin)) (slice_get (visuals l) found.rest) len (visual_len l found.rest within)
      ∙ ap Some whole)
