-- The walk over the characters finds the marks of the bases.
use Rattle.std.proofs.Common.{◌≡◌, ℕ, Bool, true, false, suc, ◌+◌, ◌-◌, ◌<◌, ◌≤◌, Some, length, get_or, take, drop, arith, List, [], ◌∷◌, ◌++◌, map, if◌then◌else◌, refl, sym, ap, subst, ◌∙◌, append_assoc, append-nil, inl, inr}
use Rattle.ucd.specs.declared.version.Version.TheVariants.{V15_0, V17_0}
use Rattle.ucd.specs.declared.version.Version.{Version}
use Rattle.std.proofs.Math.ListN.{set}
use Rattle.std.specs.List.{slice_get}
use Rattle.std.proofs.lemmas.Bool.{cases_Bool}
use Rattle.std.proofs.lemmas.List.{at_drop_more, drop_all, length-map, length-set, take_all, take_more_set}
use Rattle.breaks.specs.Bases.{BaseCharacter, Character, alone, joined, stays_with, bases_of, end_of, character}
use Rattle.breaks.specs.Marks.{marks_after, marks_of}
use Rattle.breaks.specs.Passes.{Passes, bases_after, marks_by, with_attached}
use Rattle.breaks.specs.Rules.{Rule, rules, rows_before_numbers, mark_by}
use Rattle.breaks.specs.Symbols.{character_by}
use Rattle.breaks.specs.declared.mark.Mark.{Mark}
use Rattle.breaks.specs.declared.mark.Mark.TheVariants.{Never, Must}
use Rattle.ucd.specs.declared.properties.Properties.{Properties}
use Rattle.ucd.specs.declared.tables.Tables.{Tables}
use Rattle.ucd.specs.Properties.{properties_of}
use Rattle.breaks.proofs.PassLemmas.{first_base}
use Rattle.breaks.proofs.StepLemmas.{end_attached}

-- the marks from the position after the base `last` on, by recursion over the characters
abbrev pub walk : List Rule → List BaseCharacter → BaseCharacter → List Character → List Mark
walk rules others last [] = Must ∷ []
walk rules others last (c ∷ text) =
    if stays_with (end_of last) c then Never ∷ walk rules others (with_attached last c) text
    else mark_by rules (last ∷ others) (bases_of (c ∷ text)) ∷ walk rules (last ∷ others) (alone c) text

-- the bases that result if `last` replaces the first character of the first base
abbrev grown : BaseCharacter → List BaseCharacter → List BaseCharacter
grown last [] = last ∷ []
grown last (b ∷ bases) = record { first = last.first; attached = last.attached ++ b.attached } ∷ bases

-- a mark `Never` for each attached character
abbrev nevers : List Character → List Mark
nevers attached = map (λ _. Never) attached

-- LB3: the mark after the last base is `Must`
pub end_mark : (v : Version) (whole_numbers : Bool) (before : List BaseCharacter) → mark_by (rules v whole_numbers) before [] ≡ Must
unfolding rules rows_before_numbers
end_mark V15_0 true before = refl
end_mark V15_0 false before = refl
end_mark V17_0 true before = refl
end_mark V17_0 false before = refl

grown_end : (last : BaseCharacter) (end : Character) (bases : List BaseCharacter) → grown last (alone end ∷ bases) ≡ last ∷ bases
grown_end last end bases = rw append-nil refl

grown_alone : (c : Character) (text : List Character) → grown (alone c) (bases_of (c ∷ text)) ≡ bases_of (c ∷ text)
grown_alone c text = rw (first_base c text).2 refl

grown_attached : (last : BaseCharacter) (c : Character) (text : List Character) (end : Character) → grown (with_attached last c) (bases_of (c ∷ text)) ≡ grown last (joined end (bases_of (c ∷ text)))
grown_attached last c text end = rw ((first_base c text).2, append_assoc) refl

nevers_attached : (attached : List Character) (c : Character) (marks : List Mark) → nevers attached ++ Never ∷ marks ≡ nevers (attached ++ c ∷ []) ++ marks
nevers_attached [] c marks = refl
nevers_attached (a ∷ attached) c marks = ap (λ ms. Never ∷ ms) (nevers_attached attached c marks)

same_tail : (front : List Mark) (m n : Mark) (ms ns : List Mark) → m ≡ n → ms ≡ ns → front ++ m ∷ ms ≡ front ++ n ∷ ns
same_tail front m n ms ns mark marks = rw (mark, marks) refl

-- the recursion from the base `last` on finds the marks of the bases
walk_is : (v : Version) (whole_numbers : Bool) (others : List BaseCharacter) (last : BaseCharacter) (text : List Character) (end : Character)
    → end_of last ≡ end → nevers last.attached ++ walk (rules v whole_numbers) others last text
    ≡ marks_after (rules v whole_numbers) others (grown last (bases_of (end ∷ text)))
walk_is v whole_numbers others last [] end is =
    same_tail (nevers last.attached) _ _ [] [] (sym (end_mark v whole_numbers (last ∷ others))) refl
    ∙ ap (marks_after (rules v whole_numbers) others) (sym (grown_end last end []))
walk_is v whole_numbers others last (c ∷ text) end is =
    elim (cases_Bool (stays_with end c)) [
      | inl stays ↦ rw (is, stays)
          (nevers_attached last.attached c (walk (rules v whole_numbers) others (with_attached last c) text)
          ∙ walk_is v whole_numbers others (with_attached last c) text c (end_attached last.first last.attached c)
          ∙ ap (marks_after (rules v whole_numbers) others) (grown_attached last c text end))
      | inr begins ↦ rw (is, begins)
          (same_tail (nevers last.attached) _ _ _ _ refl
          (walk_is v whole_numbers (last ∷ others) (alone c) text c refl ∙ ap (marks_after (rules v whole_numbers) (last ∷ others)) (grown_alone c text))
          ∙ ap (marks_after (rules v whole_numbers) others) (sym (grown_end last end (bases_of (c ∷ text)))))
    ]

-- the recursion over a text finds the marks of its bases
pub walk_from : (v : Version) (whole_numbers : Bool) (others : List BaseCharacter) (c : Character) (text : List Character)
    → walk (rules v whole_numbers) others (alone c) text ≡ marks_after (rules v whole_numbers) others (bases_of (c ∷ text))
walk_from v whole_numbers others c text =
    walk_is v whole_numbers others (alone c) text c refl ∙ ap (marks_after (rules v whole_numbers) others) (grown_alone c text)

pub walk_from_start : (v : Version) (whole_numbers : Bool) (c : Character) (text : List Character) → walk (rules v whole_numbers) [] (alone c) text ≡ marks_after (rules v whole_numbers) [] (bases_of (c ∷ text))
walk_from_start v whole_numbers c text = walk_from v whole_numbers [] c text

-- a text without characters has no marks
pub none_at_all : (v : Version) (whole_numbers : Bool) (all : List Properties) (marks : List Mark) → length all ≡ 0 → length marks ≡ length all → marks ≡ marks_by v whole_numbers all
unfolding marks_by
none_at_all v whole_numbers [] [] none len = refl
none_at_all v whole_numbers [] (m ∷ marks) none len = absurd (omega arith)
none_at_all v whole_numbers (p ∷ all) marks none len = absurd (omega arith)

-- the recursion from the second character on finds the marks of all characters
pub begins_walk : (v : Version) (whole_numbers : Bool) (all rest : List Properties) (p : Properties) → all ≡ p ∷ rest
    → walk (rules v whole_numbers) [] (alone (character_by v p)) (map (character_by v) rest) ≡ marks_by v whole_numbers all
unfolding marks_by
begins_walk v whole_numbers all rest p is = rw is (walk_from_start v whole_numbers (character_by v p) (map (character_by v) rest))

pub one_longer : {X : Type 0} (text : List X) (x : X) (rest : List X) (marks : List Mark) → length marks ≡ length text → text ≡ x ∷ rest → length marks ≡ length rest + 1
one_longer text x rest marks len is = omega (arith, ap length is)

-- `stands` relates the state to the bases so far. The marks so far, followed by the marks of the recursion,
-- are the marks of the whole text.
abbrev pub Walks : List Rule → (BaseCharacter → List BaseCharacter → Type 0) → List Mark → List Character → List Mark → Type 0
Walks rules stands marks text whole =
    (last : BaseCharacter) × (others : List BaseCharacter) × stands last others × (marks ++ walk rules others last text ≡ whole)

module _ (rules : List Rule) (stands : BaseCharacter → List BaseCharacter → Type 0) (mark_of : List BaseCharacter → Mark) where
  passes_on : (marks : List Mark) (mark : Mark) (c : Character) (text : List Character) (whole : List Mark) (last : BaseCharacter) (others : List BaseCharacter)
      → marks ++ walk rules others last (c ∷ text) ≡ whole → Passes rules mark_of stands last others c
      → mark ≡ mark_of (bases_after text) → Walks rules stands (marks ++ mark ∷ []) text whole
  passes_on marks mark c text whole last others so_far passes seen =
      elim (cases_Bool (stays_with (end_of last) c)) [
        | inl stays ↦
            let on_stay : ((rest : List BaseCharacter) → mark_of rest ≡ Never) × stands (with_attached last c) others = rw stays at passes in
            (with_attached last c, others, on_stay.1, rw (append_assoc, seen ∙ on_stay.0 (bases_after text)) (rw stays at so_far))
        | inr begins ↦
            let begun : ((text : List Character) → mark_of (bases_after text) ≡ mark_by rules (last ∷ others) (bases_of (c ∷ text)))
            × stands (alone c) (last ∷ others) = rw begins at passes in
            (alone c, last ∷ others, begun.1, rw (append_assoc, seen ∙ begun.0 text) (rw begins at so_far))
      ]

module _ {X : Type 0} (read : X → Character) (rest : List X) (whole : List Mark) (rules : List Rule) where
  here : (i : ℕ) (x : X) → i < length rest → x ≡ get_or rest i x → drop i rest ≡ x ∷ drop (i + 1) rest
  here i x lt reads = at_drop_more (λ xs. xs) rest i x lt ∙ ap (λ y. y ∷ drop (i + 1) rest) (sym reads)

  -- `Walks` still holds after one step of the walk has written the mark at index i
  pub steps : (before after : BaseCharacter → List BaseCharacter → Type 0) (mark_of : List BaseCharacter → Mark) (i : ℕ) (x : X) (marks new : List Mark) (mark : Mark)
      → i < length rest → x ≡ get_or rest i x → Walks rules before (take i marks) (map read (drop i rest)) whole
      → ((last : BaseCharacter) (others : List BaseCharacter) → before last others → Passes rules mark_of after last others (read x))
      → mark ≡ mark_of (bases_after (map read (drop (i + 1) rest))) → take (i + 1) new ≡ take i marks ++ mark ∷ []
      → Walks rules after (take (i + 1) new) (map read (drop (i + 1) rest)) whole
  steps before after mark_of i x marks new mark lt reads (last, others, stands, so_far) passes seen written =
      rw written (passes_on rules after mark_of (take i marks) mark (read x) (map read (drop (i + 1) rest))
      whole last others (rw (here i x lt reads) at so_far) (passes last others stands) seen)

  -- after the last character, the mark `Must` completes the list
  pub ends : (stands : BaseCharacter → List BaseCharacter → Type 0) (i : ℕ) (marks : List Mark) → i ≡ length rest → length marks ≡ length rest + 1
      → Walks rules stands (take i marks) (map read (drop i rest)) whole → set marks (length rest) Must ≡ whole
  ends stands i marks last_place len (last, others, belongs, so_far) =
      let none : drop i rest ≡ [] = drop_all i rest (omega arith) in
      let written : take (length rest + 1) (set marks (length rest) Must) ≡ take (length rest) marks ++ Must ∷ [] = take_more_set marks (length rest) Must (omega arith) in
      let all_of_it : take (length rest + 1) (set marks (length rest) Must)
      ≡ set marks (length rest) Must =
      take_all (length rest + 1) (set marks (length rest) Must)
      (omega (arith, length-set marks (length rest) Must)) in
      sym all_of_it ∙ written ∙ ap (λ n. take n marks ++ Must ∷ []) (sym last_place) ∙ rw none at so_far

-- Reading ahead to answer a question: `asked` is the mark of the question, given the bases after the next
-- one.
module _ {X : Type 0} (read : X → Character) (rest : List X) where
  -- reading one more character turns the question `asked` into the question `answer`
  pub asks_on : (asked answer : List BaseCharacter → Mark) (i : ℕ) (x : X) (whole : Mark) → i < length rest → x ≡ get_or rest i x
      → ((text : List Character) → asked (bases_after (read x ∷ text)) ≡ answer (bases_after text))
      → whole ≡ asked (bases_after (map read (drop i rest))) → whole ≡ answer (bases_after (map read (drop (i + 1) rest)))
  asks_on asked answer i x whole lt reads said so_far =
      so_far ∙ ap (λ xs. asked (bases_after (map read xs))) (here read rest [] [] i x lt reads) ∙ said (map read (drop (i + 1) rest))

  pub ends_asking : (asked : List BaseCharacter → Mark) (i : ℕ) → length rest ≤ i → asked (bases_after (map read (drop i rest))) ≡ asked []
  ends_asking asked i ge = ap (λ xs. asked (bases_after (map read xs))) (drop_all i rest ge)

-- the recursion finds one mark after `last` and one after each character of the text
length-walk : (rs : List Rule) (others : List BaseCharacter) (last : BaseCharacter) (text : List Character) → length (walk rs others last text) ≡ suc (length text)
length-walk rs others last [] = refl
length-walk rs others last (c ∷ text) =
    elim (cases_Bool (stays_with (end_of last) c)) [
      | inl stays ↦ rw stays (ap suc (length-walk rs others (with_attached last c) text))
      | inr begins ↦ rw begins (ap suc (length-walk rs (last ∷ others) (alone c) text))
    ]

pub length-marks : (t : Tables) (whole_numbers : Bool) (text : List ℕ) → length (marks_of t whole_numbers text) ≡ length text
unfolding marks_of
length-marks t whole_numbers [] = refl
length-marks t whole_numbers (c ∷ text) =
    ap length (sym (walk_from_start t.version whole_numbers (character t c) (map (character t) text)))
    ∙ length-walk (rules t.version whole_numbers) [] (alone (character t c)) (map (character t) text) ∙ ap suc (length-map text (character t))

-- the last mark is `Must`
last-walk : (rs : List Rule) (others : List BaseCharacter) (last : BaseCharacter) (text : List Character) → slice_get (walk rs others last text) (length text) ≡ Some Must
last-walk rs others last [] = refl
last-walk rs others last (c ∷ text) =
    elim (cases_Bool (stays_with (end_of last) c)) [
      | inl stays ↦ rw stays (last-walk rs others (with_attached last c) text)
      | inr begins ↦ rw begins (last-walk rs (last ∷ others) (alone c) text)
    ]

pub last_mark : (t : Tables) (whole_numbers : Bool) (text : List ℕ) → 0 < length text → slice_get (marks_of t whole_numbers text) (length text - 1) ≡ Some Must
unfolding marks_of
last_mark t whole_numbers [] some = absurd (omega (arith, some))
last_mark t whole_numbers (c ∷ text) some =
    let place : length (c ∷ text) - 1 ≡ length (map (character t) text) = omega (arith, length-map text (character t)) in
    ap (λ k. slice_get (marks_of t whole_numbers (c ∷ text)) k) place
    ∙ ap (λ ms. slice_get ms (length (map (character t) text))) (sym (walk_from_start t.version whole_numbers (character t c) (map (character t) text)))
    ∙ last-walk (rules t.version whole_numbers) [] (alone (character t c)) (map (character t) text)

-- the characters read from the properties are those read from the tables
read_once : (t : Tables) (text : List ℕ) → map (character_by t.version) (map (properties_of t) text) ≡ map (character t) text
read_once t [] = refl
read_once t (c ∷ text) = ap (λ cs. character t c ∷ cs) (read_once t text)

pub marks_read : (v : Version) (t : Tables) (whole_numbers : Bool) (text : List ℕ) (all : List Properties) → t.version ≡ v → all ≡ map (properties_of t) text
    → marks_by v whole_numbers all ≡ marks_of t whole_numbers text
unfolding marks_by marks_of
marks_read v t whole_numbers text all version is =
    subst (λ v. marks_by v whole_numbers all ≡ marks_of t whole_numbers text) version
    (ap (λ all. marks_by t.version whole_numbers all) is ∙ ap (λ cs. marks_after (rules t.version whole_numbers) [] (bases_of cs)) (read_once t text))

-- In 17.0, whole numbers have no effect.
same_rules : (whole_numbers : Bool) → rules V17_0 whole_numbers ≡ rules V17_0 false
unfolding rules
same_rules whole_numbers = refl

pub whole_anyway : (t : Tables) (whole_numbers : Bool) (text : List ℕ) → t.version ≡ V17_0 → marks_of t whole_numbers text ≡ marks_of t false text
unfolding marks_of
whole_anyway t whole_numbers text version =
    ap (λ rs. marks_after rs [] (bases_of (map (character t) text)))
    (ap (λ v. rules v whole_numbers) version ∙ same_rules whole_numbers ∙ sym (ap (λ v. rules v false) version))
