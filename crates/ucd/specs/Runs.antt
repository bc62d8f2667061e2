-- Runs of code points with the same properties, and the entries that remain after each run.
use Rattle.std.specs.Prelude.{⊤, ◌≡◌, ℕ, ◌<◌, ◌≤◌, List, [], ◌∷◌}
use Rattle.ucd.specs.Layers.{Layers}
use Rattle.ucd.specs.Said.{said}
use Rattle.ucd.specs.declared.grammar.Entry.{Entry}
use Rattle.ucd.specs.declared.runs.Cursors.{Cursors}
use Rattle.ucd.specs.declared.runs.Runs.{Runs}

-- the first entry, if there is one, does not end before the code point
abbrev pub EndsFrom : {V : Type 0} → ℕ → List (Entry V) → Type 0
EndsFrom point [] = ⊤
EndsFrom point (e ∷ es) = point ≤ e.last

-- the remaining entries of all lists
abbrev pub layers_left : Cursors → Layers
layers_left l = record {
  version = l.version;
  default_classes = l.default_classes;
  bidi_classes = l.bidi_classes;
  brackets = l.brackets;
  mirrors = l.mirrors;
  line_classes = l.line_classes;
  circles = l.circles;
  widths = l.widths;
  pictographs = l.pictographs;
  categories = l.categories;
}

-- in each list, the first remaining entry, if there is one, does not end before the code point
pub record AllEndFrom (point : ℕ) (k : Layers) : Type 0 where
  pub default_classes : EndsFrom point k.default_classes
  pub bidi_classes : EndsFrom point k.bidi_classes
  pub brackets : EndsFrom point k.brackets
  pub mirrors : EndsFrom point k.mirrors
  pub line_classes : EndsFrom point k.line_classes
  pub circles : EndsFrom point k.circles
  pub widths : EndsFrom point k.widths
  pub pictographs : EndsFrom point k.pictographs
  pub categories : EndsFrom point k.categories

-- The run contains `point` or ends there. The code points of the run have the run's properties. The remaining
-- entries determine the properties of all code points after the run.
pub record ReachesTo (k : Layers) (runs : Runs) (point : ℕ) : Type 0 where
  pub from : runs.run.start ≤ point
  pub to : point ≤ runs.run.end
  pub within : runs.run.end ≤ 1114112
  pub run : (c : ℕ) → runs.run.start ≤ c → c < runs.run.end → said k c ≡ runs.run.properties
  pub later : (c : ℕ) → runs.run.end ≤ c → said (layers_left runs.left) c ≡ said k c
