-- The levels and break marks after an edit inside a run of characters of the same kind.
use Rattle.std.proofs.Common.{◌≡◌, ◌∙◌, ℕ, zero, suc, ◌+◌, ◌-◌, ◌<◌, ◌≤◌, Bool, true, List, [], ◌∷◌, ◌++◌, None, Some, if◌then◌else◌, length, map, take, drop, replicate, get_or, refl, sym, ap, arith, inl, inr}
use Rattle.std.specs.Prelude.{All, slice_index, slice_range}
use Rattle.std.specs.List.{insert, splice}
use Rattle.std.proofs.Math.Seq.{take-append_seam, drop-append_seam, drop-append-add, drop-cons}
use Rattle.std.proofs.lemmas.Bool.{cases_Bool}
use Rattle.std.proofs.lemmas.Option.{none-some, same_Some}
use Rattle.std.proofs.lemmas.List.{drop-drop, get_or-append-add, length-append, length-drop, length-replicate, length-take, length-take-le, map-append, take-append-drop}
use Rattle.ucd.specs.Tables.{class_of}
use Rattle.ucd.specs.declared.tables.Tables.{Tables}
use Rattle.bidi.specs.Base.{base_level_of}
use Rattle.bidi.specs.Doubling as bidi
use Rattle.bidi.specs.Doubling.{DoublingKeepsLevels, double}
use Rattle.bidi.specs.Levels.{levels_of}
use Rattle.bidi.specs.declared.base.Base.{Base}
use Rattle.breaks.specs.Bases.{character}
use Rattle.breaks.specs.Doubling as breaks
use Rattle.breaks.specs.Doubling.{DoublingKeepsMarks, mark_between}
use Rattle.breaks.specs.Marks.{marks_of}
use Rattle.breaks.specs.declared.mark.Mark.{Mark}
use Rattle.lines.specs.Layouts.{base_of, layout_of, Layout, Rules}
use Rattle.lines.specs.SameKind.{AreOfOneKind, IsRunEdit, levels_with, mark_in_run, marks_with}
use Rattle.lines.specs.declared.same_kind.RunEdit.{RunEdit}

-- ---- lists

double_at : {X : Type 0} (front : List X) (x : X) (rest : List X) → double (length front) (front ++ x ∷ rest) ≡ front ++ x ∷ x ∷ rest
double_at [] x rest = refl
double_at (y ∷ front) x rest = ap (λ (ys : List _). y ∷ ys) (double_at front x rest)

insert_at : {X : Type 0} (front : List X) (x : X) (rest : List X) → insert (front ++ rest) (length front) x ≡ front ++ x ∷ rest
insert_at front x rest = rw (take-append_seam front rest, drop-append_seam front rest) refl

-- the item at index k, between those before and after it
around : {X : Type 0} (xs : List X) (k : ℕ) (d : X) → k < length xs → xs ≡ take k xs ++ get_or xs k d ∷ drop (suc k) xs
around xs k d within = sym (take-append-drop k xs) ∙ ap (λ (ys : List _). take k xs ++ ys) (drop-cons xs k d within)

-- a list in three parts: up to index i, from there up to i + n, and the rest
pub in_parts : {X : Type 0} (xs : List X) (i n : ℕ) → xs ≡ take i xs ++ (slice_range xs i (i + n) ++ drop (i + n) xs)
in_parts xs i n =
    let e : i + n - i ≡ n = omega arith in
    sym (take-append-drop i xs)
    ∙ ap (λ (ys : List _). take i xs ++ ys)
    (sym (take-append-drop n (drop i xs))
    ∙ ap (λ m. take m (drop i xs) ++ drop n (drop i xs)) (sym e)
    ∙ ap (λ (ys : List _). slice_range xs i (i + n) ++ ys) (drop-drop n i xs))

-- the number of items from index i up to i + n
part_length : {X : Type 0} (xs : List X) (i n : ℕ) → i + n ≤ length xs → length (slice_range xs i (i + n)) ≡ n
part_length xs i n within = omega (arith, within, length-take (i + n - i) (drop i xs), length-drop i xs)

-- two lists with the same rest have the same rest after one more item
pub one_more : {X : Type 0} (xs ys : List X) (i m n : ℕ) → drop (i + n) ys ≡ drop (i + m) xs → drop (i + (n + 1)) ys ≡ drop (i + (m + 1)) xs
one_more xs ys i m n same =
    let e : i + (n + 1) ≡ i + n + 1 = omega arith in
    let f : i + m + 1 ≡ i + (m + 1) = omega arith in
    ap (λ k. drop k ys) e ∙ sym (drop-drop 1 (i + n) ys) ∙ ap (drop 1) same ∙ drop-drop 1 (i + m) xs ∙ ap (λ k. drop k xs) f

length-double : {X : Type 0} (k : ℕ) (xs : List X) → length (double k xs) ≤ suc (length xs)
length-double k [] = omega arith
length-double zero (x ∷ xs) = omega arith
length-double (suc k) (x ∷ xs) = omega (arith, length-double k xs)

length-insert : {X : Type 0} (xs : List X) (k : ℕ) (x : X) → length (insert xs k x) ≤ suc (length xs)
length-insert xs k x =
    omega (arith, length-append (take k xs) (x ∷ drop k xs), ap (λ (ys : List _). length ys) (take-append-drop k xs), length-append (take k xs) (drop k xs))

-- ---- a function of a run

-- The function F of a run returns a list. If the run is longer by one character, the list is longer by one item, which
-- `grow` adds.
module _ {X : Type 0} (F : List ℕ → List X) (Kind : ℕ → Type 0) (c : ℕ)
    (first : (x : ℕ) → Kind x → F (x ∷ []) ≡ F (c ∷ [])) where
  -- a run is longer than its first character by at most one item for each of the others
  pub run_length : (grow : List X → List X) → ((xs : List X) → length (grow xs) ≤ suc (length xs))
      → ((x y : ℕ) (rest : List ℕ) → Kind x → Kind y → F (x ∷ y ∷ rest) ≡ grow (F (x ∷ rest)))
      → (x : ℕ) (rest : List ℕ) → Kind x → All Kind rest → length (F (x ∷ rest)) ≤ length (F (c ∷ [])) + length rest
  run_length grow most grows x [] kind kinds = omega (arith, ap (λ (xs : List X). length xs) (first x kind))
  run_length grow most grows x (y ∷ rest) kind kinds =
      omega (
        arith,
        ap (λ (xs : List X). length xs) (grows x y rest kind (kinds 0 y (omega arith))),
        most (F (x ∷ rest)),
        run_length grow most grows x rest kind (λ i d below. kinds (suc i) d (omega (arith, below))),
      )

  -- the item at index k is repeated for each character of the run
  module _ (k : ℕ) (d : X) (grow : (x y : ℕ) (rest : List ℕ) → Kind x → Kind y → F (x ∷ y ∷ rest) ≡ double k (F (x ∷ rest))) (within : k < length (F (c ∷ []))) where
    abbrev one : List X
    one = F (c ∷ [])

    pub doubled_run : (x : ℕ) (rest : List ℕ) → Kind x → All Kind rest → F (x ∷ rest) ≡ take k one ++ (replicate (suc (length rest)) (get_or one k d) ++ drop (suc k) one)
    doubled_run x [] kind kinds = first x kind ∙ around one k d within
    doubled_run x (y ∷ rest) kind kinds =
        grow x y rest kind (kinds 0 y (omega arith))
        ∙ ap (double k) (doubled_run x rest kind (λ i e below. kinds (suc i) e (omega (arith, below))))
        ∙ ap (λ n. double n (take k one ++ (replicate (suc (length rest)) (get_or one k d) ++ drop (suc k) one))) (sym (length-take-le k one (omega (arith, within))))
        ∙ double_at (take k one) (get_or one k d) (replicate (length rest) (get_or one k d) ++ drop (suc k) one)

  -- the item m is inserted at index k for each character of the run but the first
  module _ (k : ℕ) (m : X) (grow : (x y : ℕ) (rest : List ℕ) → Kind x → Kind y → F (x ∷ y ∷ rest) ≡ insert (F (x ∷ rest)) k m) (within : k < length (F (c ∷ []))) where
    abbrev single : List X
    single = F (c ∷ [])

    pub inserted_run : (x : ℕ) (rest : List ℕ) → Kind x → All Kind rest → F (x ∷ rest) ≡ take k single ++ (replicate (length rest) m ++ drop k single)
    inserted_run x [] kind kinds = first x kind ∙ sym (take-append-drop k single)
    inserted_run x (y ∷ rest) kind kinds =
        grow x y rest kind (kinds 0 y (omega arith))
        ∙ ap (λ (xs : List X). insert xs k m) (inserted_run x rest kind (λ i e below. kinds (suc i) e (omega (arith, below))))
        ∙ ap (λ n. insert (take k single ++ (replicate (length rest) m ++ drop k single)) n m) (sym (length-take-le k single (omega (arith, within))))
        ∙ insert_at (take k single) m (replicate (length rest) m ++ drop k single)

-- ---- a run in the middle of a list is replaced with a longer or shorter one

-- a list in three parts, of which the second one has n times the item x
module _ {X : Type 0} (front back : List X) (x : X) where
  abbrev with_run : ℕ → List X
  with_run n = front ++ (replicate n x ++ back)

  drop_run : (n : ℕ) → drop (length front + n) (with_run n) ≡ back
  drop_run n =
      drop-append-add front (replicate n x ++ back) n
      ∙ ap (λ m. drop m (replicate n x ++ back)) (sym (length-replicate n x))
      ∙ drop-append_seam (replicate n x) back

  pub splice_run : (n m : ℕ) → splice (with_run n) (length front) (length front + n) (replicate m x) ≡ with_run m
  splice_run n m = rw (take-append_seam front (replicate n x ++ back), drop_run n) refl

  pub item_of_run : (n : ℕ) (d : X) → get_or (with_run (suc n)) (length front) d ≡ x
  item_of_run n d =
      let e : length front ≡ length front + 0 = omega arith in
      ap (λ i. get_or (with_run (suc n)) i d) e ∙ get_or-append-add front (replicate (suc n) x ++ back) 0 d

-- ---- characters of the same kind

module _ (t : Tables) where
  -- two characters of the kind of c are of the same kind
  same_kind : (c x y : ℕ) → AreOfOneKind t c x → AreOfOneKind t c y → AreOfOneKind t x y
  same_kind c x y one other = record {
    levels = record { class = sym one.levels.class ∙ other.levels.class; first = one.levels.second; second = other.levels.second };
    marks = other.marks ∙ sym one.marks;
  }

  -- ---- levels

  module _ (theorem : DoublingKeepsLevels) (base : Base) (front back : List ℕ) (c : ℕ) (can : bidi.can_be_doubled (class_of t c) ≡ true) where
    abbrev levels_by : List ℕ → List ℕ
    levels_by run = levels_of t (front ++ (run ++ back)) base

    abbrev base_by : List ℕ → ℕ
    base_by run = base_level_of (map (class_of t) (front ++ (run ++ back))) base

    levels_first : (x : ℕ) → AreOfOneKind t c x → levels_by (x ∷ []) ≡ levels_by (c ∷ [])
    levels_first x kind = theorem.replaced t front back c x base kind.levels

    levels_grow : (x y : ℕ) (rest : List ℕ) → AreOfOneKind t c x → AreOfOneKind t c y → levels_by (x ∷ y ∷ rest) ≡ double (length front) (levels_by (x ∷ rest))
    levels_grow x y rest one other =
        theorem.inserted_after t front (rest ++ back) x y base (same_kind c x y one other).levels (ap bidi.can_be_doubled (sym one.levels.class) ∙ can)

    base_is : (x : ℕ) (rest : List ℕ) → AreOfOneKind t c x → All (AreOfOneKind t c) rest → base_by (x ∷ rest) ≡ base_by (c ∷ [])
    base_is x [] kind kinds =
        rw (map-append (class_of t) front (x ∷ back), map-append (class_of t) front (c ∷ back), kind.levels.class) refl
    base_is x (y ∷ rest) kind kinds =
        theorem.base_level t front (rest ++ back) x y base (same_kind c x y kind (kinds 0 y (omega arith))).levels (ap bidi.can_be_doubled (sym kind.levels.class) ∙ can)
        ∙ base_is x rest kind (λ i d below. kinds (suc i) d (omega (arith, below)))

    pub base_same : (r s : List ℕ) → 0 < length r → 0 < length s → All (AreOfOneKind t c) r → All (AreOfOneKind t c) s → base_by s ≡ base_by r
    base_same [] s some other kinds others = absurd (omega (arith, some))
    base_same (x ∷ rest) [] some other kinds others = absurd (omega (arith, other))
    base_same (x ∷ rest) (y ∷ more) some other kinds others =
        base_is y more (others 0 y (omega arith)) (λ i d below. others (suc i) d (omega (arith, below)))
        ∙ sym (base_is x rest (kinds 0 x (omega arith)) (λ i d below. kinds (suc i) d (omega (arith, below))))

    -- the levels with the run s, given those with the run r
    pub levels_spliced : (r s : List ℕ) → 0 < length r → 0 < length s → All (AreOfOneKind t c) r → All (AreOfOneKind t c) s → length front + length r ≤ length (levels_by r)
        → levels_by s ≡ splice (levels_by r) (length front) (length front + length r) (replicate (length s) (slice_index (levels_by r) (length front)))
    levels_spliced [] s some other kinds others long = absurd (omega (arith, some))
    levels_spliced (x ∷ rest) [] some other kinds others long = absurd (omega (arith, other))
    levels_spliced (x ∷ rest) (y ∷ more) some other kinds others long =
        let k : ℕ = length front in
        let one : List ℕ = levels_by (c ∷ []) in
        let later : All (AreOfOneKind t c) rest = λ i d below. kinds (suc i) d (omega (arith, below)) in
        let others_later : All (AreOfOneKind t c) more = λ i d below. others (suc i) d (omega (arith, below)) in
        let first : AreOfOneKind t c x = kinds 0 x (omega arith) in
        let size = run_length levels_by (AreOfOneKind t c) c levels_first (λ xs. double k xs) (length-double k) levels_grow x rest first later in
        let within : k < length one = omega (arith, size, long) in
        let front_len : length (take k one) ≡ k = length-take-le k one (omega (arith, within)) in
        let old = doubled_run levels_by (AreOfOneKind t c) c levels_first k 0 levels_grow within x rest first later in
        let new = doubled_run levels_by (AreOfOneKind t c) c levels_first k 0 levels_grow within y more (others 0 y (omega arith)) others_later in
        let z : ℕ = get_or one k 0 in
        let with : ℕ → List ℕ = with_run (take k one) (drop (suc k) one) z in
        let item : slice_index (levels_by (x ∷ rest)) k ≡ z =
        ap (λ (ls : List ℕ). slice_index ls k) old ∙ ap (λ i. slice_index (with (suc (length rest))) i) (sym front_len)
        ∙ item_of_run (take k one) (drop (suc k) one) z (length rest) 0 in
        new
        ∙ sym (splice_run (take k one) (drop (suc k) one) z (suc (length rest)) (suc (length more)))
        ∙ ap (λ i. splice (with (suc (length rest))) i (i + suc (length rest)) (replicate (suc (length more)) z)) front_len
        ∙ ap (λ (ls : List ℕ). splice ls k (k + suc (length rest)) (replicate (suc (length more)) z)) (sym old)
        ∙ ap (λ level. splice (levels_by (x ∷ rest)) k (k + suc (length rest)) (replicate (suc (length more)) level)) (sym item)

  -- ---- marks

  module _ (theorem : DoublingKeepsMarks) (whole_numbers : Bool) (front back : List ℕ) (c : ℕ) (can : breaks.can_be_doubled (character t c) ≡ true) where
    abbrev marks_by : List ℕ → List Mark
    marks_by run = marks_of t whole_numbers (front ++ (run ++ back))

    abbrev between : Mark
    between = mark_between (character t c).class

    marks_first : (x : ℕ) → AreOfOneKind t c x → marks_by (x ∷ []) ≡ marks_by (c ∷ [])
    unfolding marks_of
    marks_first x kind = rw (map-append (character t) front (x ∷ back), map-append (character t) front (c ∷ back), kind.marks) refl

    marks_grow : (x y : ℕ) (rest : List ℕ) → AreOfOneKind t c x → AreOfOneKind t c y → marks_by (x ∷ y ∷ rest) ≡ insert (marks_by (x ∷ rest)) (length front) between
    marks_grow x y rest one other =
        theorem t whole_numbers front (rest ++ back) x y (ap breaks.can_be_doubled one.marks ∙ can) (same_kind c x y one other).marks
        ∙ ap (λ a. insert (marks_by (x ∷ rest)) (length front) (mark_between a.class)) one.marks

    -- the marks with the run s, given those with the run r
    pub marks_spliced : (r s : List ℕ) → 0 < length r → 0 < length s → All (AreOfOneKind t c) r → All (AreOfOneKind t c) s → length front + length r ≤ length (marks_by r)
        → marks_by s ≡ splice (marks_by r) (length front) (length front + (length r - 1)) (replicate (length s - 1) between)
    marks_spliced [] s some other kinds others long = absurd (omega (arith, some))
    marks_spliced (x ∷ rest) [] some other kinds others long = absurd (omega (arith, other))
    marks_spliced (x ∷ rest) (y ∷ more) some other kinds others long =
        let k : ℕ = length front in
        let one : List Mark = marks_by (c ∷ []) in
        let later : All (AreOfOneKind t c) rest = λ i d below. kinds (suc i) d (omega (arith, below)) in
        let others_later : All (AreOfOneKind t c) more = λ i d below. others (suc i) d (omega (arith, below)) in
        let first : AreOfOneKind t c x = kinds 0 x (omega arith) in
        let size = run_length marks_by (AreOfOneKind t c) c marks_first (λ ms. insert ms k between) (λ ms. length-insert ms k between) marks_grow x rest first later in
        let within : k < length one = omega (arith, size, long) in
        let front_len : length (take k one) ≡ k = length-take-le k one (omega (arith, within)) in
        let old = inserted_run marks_by (AreOfOneKind t c) c marks_first k between marks_grow within x rest first later in
        let new = inserted_run marks_by (AreOfOneKind t c) c marks_first k between marks_grow within y more (others 0 y (omega arith)) others_later in
        let with : ℕ → List Mark = with_run (take k one) (drop k one) between in
        new
        ∙ sym (splice_run (take k one) (drop k one) between (length rest) (length more))
        ∙ ap (λ i. splice (with (length rest)) i (i + length rest) (replicate (length more) between)) front_len
        ∙ ap (λ (ms : List Mark). splice ms k (k + length rest) (replicate (length more) between)) (sym old)
        ∙ (let e : length rest ≡ suc (length rest) - 1 = omega arith in ap (λ n. splice (marks_by (x ∷ rest)) k (k + n) (replicate (length more) between)) e)
        ∙ (let e : length more ≡ suc (length more) - 1 = omega arith in ap (λ n. splice (marks_by (x ∷ rest)) k (k + (suc (length rest) - 1)) (replicate n between)) e)

  -- ---- an edit

  -- if there is a mark between two characters of the kind of c, then c can be doubled
  can_be_doubled : (c : ℕ) (m : Mark) → mark_in_run t c ≡ Some m
      → (bidi.can_be_doubled (class_of t c) ≡ true) × ((breaks.can_be_doubled (character t c) ≡ true) × (mark_between (character t c).class ≡ m))
  can_be_doubled c m e =
      elim (cases_Bool (bidi.can_be_doubled (class_of t c))) [
        | inr cannot ↦ absurd (none-some m (sym (ap (λ b. if b then breaks.mark_if_doubled (character t c) else None) cannot) ∙ e))
        | inl can ↦
            let inside : breaks.mark_if_doubled (character t c) ≡ Some m = sym (ap (λ b. if b then breaks.mark_if_doubled (character t c) else None) can) ∙ e in
            elim (cases_Bool (breaks.can_be_doubled (character t c))) [
              | inr cannot ↦ absurd (none-some m (sym (ap (λ b. if b then Some (mark_between (character t c).class) else None) cannot) ∙ inside))
              | inl also ↦
                  let some : Some (mark_between (character t c).class) ≡ Some m = sym (ap (λ b. if b then Some (mark_between (character t c).class) else None) also) ∙ inside in
                  (can, (also, same_Some _ _ some))
            ]
      ]

  module _ (old new : List ℕ) (run : RunEdit) (is : IsRunEdit t old new run) where
    abbrev c : ℕ
    c = slice_index old run.at

    abbrev front : List ℕ
    front = take run.at old

    abbrev back : List ℕ
    back = drop (run.at + run.old_len) old

    abbrev old_part : List ℕ
    old_part = slice_range old run.at (run.at + run.old_len)

    abbrev new_part : List ℕ
    new_part = slice_range new run.at (run.at + run.new_len)

    front_len : length front ≡ run.at
    front_len = length-take-le run.at old (omega (arith, is.within.0))

    old_len : length old_part ≡ run.old_len
    old_len = part_length old run.at run.old_len is.within.0

    new_len : length new_part ≡ run.new_len
    new_len = part_length new run.at run.new_len is.within.1

    old_is : old ≡ front ++ (old_part ++ back)
    old_is = in_parts old run.at run.old_len

    new_is : new ≡ front ++ (new_part ++ back)
    new_is = in_parts new run.at run.new_len ∙ ap (λ (xs : List ℕ). xs ++ (new_part ++ drop (run.at + run.new_len) new)) is.before ∙ ap (λ (xs : List ℕ). front ++ (new_part ++ xs)) is.after

    some_old : 0 < length old_part
    some_old = omega (arith, old_len, is.some.0)

    some_new : 0 < length new_part
    some_new = omega (arith, new_len, is.some.1)

    pub levels_after : DoublingKeepsLevels → (base : Base) → length (levels_of t old base) ≡ length old → levels_of t new base ≡ levels_with run (levels_of t old base)
    levels_after theorem base size =
        let can = (can_be_doubled c run.mark is.mark).0 in
        let long : length front + length old_part ≤ length (levels_by theorem base front back c can old_part) =
        omega (arith, front_len, old_len, is.within.0, size, ap (λ (xs : List ℕ). length (levels_of t xs base)) old_is) in
        ap (λ (xs : List ℕ). levels_of t xs base) new_is
        ∙ levels_spliced theorem base front back c can old_part new_part some_old some_new is.old_run is.new_run long
        ∙ ap (λ (xs : List ℕ). splice (levels_of t xs base) (length front) (length front + length old_part) (replicate (length new_part) (slice_index (levels_of t xs base) (length front)))) (sym old_is)
        ∙ ap (λ i. splice (levels_of t old base) i (i + length old_part) (replicate (length new_part) (slice_index (levels_of t old base) i))) front_len
        ∙ ap (λ n. splice (levels_of t old base) run.at (run.at + n) (replicate (length new_part) (slice_index (levels_of t old base) run.at))) old_len
        ∙ ap (λ n. splice (levels_of t old base) run.at (run.at + run.old_len) (replicate n (slice_index (levels_of t old base) run.at))) new_len

    pub base_after : DoublingKeepsLevels → (base : Base) → base_level_of (map (class_of t) new) base ≡ base_level_of (map (class_of t) old) base
    base_after theorem base =
        let can = (can_be_doubled c run.mark is.mark).0 in
        ap (λ (xs : List ℕ). base_level_of (map (class_of t) xs) base) new_is
        ∙ base_same theorem base front back c can old_part new_part some_old some_new is.old_run is.new_run
        ∙ ap (λ (xs : List ℕ). base_level_of (map (class_of t) xs) base) (sym old_is)

    pub marks_after : DoublingKeepsMarks → (whole_numbers : Bool) → length (marks_of t whole_numbers old) ≡ length old → marks_of t whole_numbers new ≡ marks_with run (marks_of t whole_numbers old)
    marks_after theorem whole_numbers size =
        let can = (can_be_doubled c run.mark is.mark).1 in
        let long : length front + length old_part ≤ length (marks_by theorem whole_numbers front back c can.0 old_part) =
        omega (arith, front_len, old_len, is.within.0, size, ap (λ (xs : List ℕ). length (marks_of t whole_numbers xs)) old_is) in
        ap (λ (xs : List ℕ). marks_of t whole_numbers xs) new_is
        ∙ marks_spliced theorem whole_numbers front back c can.0 old_part new_part some_old some_new is.old_run is.new_run long
        ∙ ap (λ (xs : List ℕ). splice (marks_of t whole_numbers xs) (length front) (length front + (length old_part - 1)) (replicate (length new_part - 1) (mark_between (character t c).class))) (sym old_is)
        ∙ ap (λ i. splice (marks_of t whole_numbers old) i (i + (length old_part - 1)) (replicate (length new_part - 1) (mark_between (character t c).class))) front_len
        ∙ ap (λ n. splice (marks_of t whole_numbers old) run.at (run.at + (n - 1)) (replicate (length new_part - 1) (mark_between (character t c).class))) old_len
        ∙ ap (λ n. splice (marks_of t whole_numbers old) run.at (run.at + (run.old_len - 1)) (replicate (n - 1) (mark_between (character t c).class))) new_len
        ∙ ap (λ m. splice (marks_of t whole_numbers old) run.at (run.at + (run.old_len - 1)) (replicate (run.new_len - 1) m)) can.1

    -- the paragraph has as many levels as characters
    pub length_after : (levels : List ℕ) → length levels ≡ length old → length (levels_with run levels) ≡ length new
    length_after levels size =
        let level : ℕ = slice_index levels run.at in
        let rest : List ℕ = drop (run.at + run.old_len) levels in
        omega (
          arith,
          size,
          is.within.0,
          is.within.1,
          length-append (take run.at levels) (replicate run.new_len level ++ rest),
          length-take-le run.at levels (omega (arith, size, is.within.0)),
          length-append (replicate run.new_len level) rest,
          length-replicate run.new_len level,
          length-drop (run.at + run.old_len) levels,
          length-drop (run.at + run.old_len) old,
          length-drop (run.at + run.new_len) new,
          ap (λ (xs : List ℕ). length xs) is.after,
        )

-- ---- a laid-out paragraph after an edit

-- The paragraph is laid out. After the edit, its text is `new`.
module _ (rules : Rules) (width : ℕ) (laid : Layout) (from_scratch : laid ≡ layout_of rules width laid.text) (new : List ℕ) (run : RunEdit) (is : IsRunEdit rules.tables laid.text new run) where
  module _ (levels put : List ℕ) (levels_are : levels ≡ laid.levels) (len : length levels ≡ length laid.text) (put_is : put ≡ levels_with run levels) where
    pub put_levels : DoublingKeepsLevels → put ≡ levels_of rules.tables new rules.options.base
    put_levels theorem =
        let found : levels ≡ levels_of rules.tables laid.text rules.options.base = levels_are ∙ ap (λ (l : Layout). l.levels) from_scratch in
        put_is ∙ ap (levels_with run) found
        ∙ sym (levels_after rules.tables laid.text new run is theorem rules.options.base (sym (ap (λ (xs : List ℕ). length xs) found) ∙ len))

    pub put_levels_len : length put ≡ length new
    put_levels_len = ap (λ (xs : List ℕ). length xs) put_is ∙ length_after rules.tables laid.text new run is levels len

  pub put_marks : (marks put : List Mark) → marks ≡ laid.marks → length (marks_of rules.tables rules.options.whole_numbers laid.text) ≡ length laid.text → put ≡ marks_with run marks
      → DoublingKeepsMarks → put ≡ marks_of rules.tables rules.options.whole_numbers new
  put_marks marks put marks_are len put_is theorem =
      put_is ∙ ap (marks_with run) (marks_are ∙ ap (λ (l : Layout). l.marks) from_scratch)
      ∙ sym (marks_after rules.tables laid.text new run is theorem rules.options.whole_numbers len)

  pub same_base : (base : ℕ) → base ≡ laid.base → DoublingKeepsLevels → base ≡ base_of rules new
  same_base base base_is theorem =
      base_is ∙ ap (λ (l : Layout). l.base) from_scratch ∙ sym (base_after rules.tables laid.text new run is theorem rules.options.base)
