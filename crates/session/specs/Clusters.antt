-- The grapheme cluster of a character, and the clusters of a line.
use Rattle.std.specs.Prelude.{ℕ, ◌+◌, ◌-◌, nat_le, Bool, List, [], length, slice_get, slice_index_or, Option, Some, None, option_and_then, option_map, if◌then◌else◌}
use Rattle.std.specs.List.{flat_map}
use Rattle.lines.specs.Clusters.{cluster_begin, cluster_end, cluster_ends, ends_in}
use Rattle.lines.specs.Layouts.{Layout}
use Rattle.session.specs.Kept.{lines_in, pars_of, text_of}
use Rattle.session.specs.Places.{count_to, line_starts, paragraph_starts}
use Rattle.session.specs.Touched.{start_of}
use Rattle.session.specs.declared.clusters.Cluster.{Cluster}

-- the cluster of the character at `pos`, in a paragraph that starts at `start`
abbrev pub cluster_in : ℕ → List ℕ → ℕ → Cluster
cluster_in start text pos = record {
  start = start + cluster_begin (cluster_ends text) (pos - start);
  end = start + cluster_end (cluster_ends text) (pos - start);
}

-- the cluster of the character at a position of a text; `None` past the last character
abbrev pub cluster_at : List Layout → ℕ → Option Cluster
cluster_at kept pos =
    let i = count_to pos (paragraph_starts kept) - 1 in
    (if nat_le (length (text_of kept)) pos then None else Some (cluster_in (start_of (pars_of kept) i) (slice_index_or (pars_of kept) i []) pos))

-- for each character of a text, whether a cluster ends after it
abbrev pub ends_of_text : List Layout → List Bool
ends_of_text kept = flat_map (λ l. cluster_ends l.text) kept

-- where the clusters in a line end, counted from the line's start; `None` past the last line
abbrev pub line_clusters : List Layout → ℕ → Option (List ℕ)
line_clusters kept n =
    option_and_then (λ start. option_map (λ line. ends_in (ends_of_text kept) start line.len) (slice_get (lines_in kept) n)) (slice_get (line_starts kept) n)
