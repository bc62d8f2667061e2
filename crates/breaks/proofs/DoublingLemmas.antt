-- A doubled character adds one mark and changes no other.
use Rattle.std.proofs.Common.{◌≡◌, ◌∙◌, suc, Bool, true, false, not, ◌&&◌, List, [], ◌∷◌, ◌++◌, map, length, refl, sym, ap, inl, inr}
use Rattle.std.specs.List.{insert}
use Rattle.std.proofs.lemmas.Bool.{cases_Bool}
use Rattle.std.proofs.lemmas.List.{length-map, map-append}
use Rattle.ucd.specs.declared.line_class.LineClass.{LineClass}
use Rattle.ucd.specs.declared.line_class.LineClass.TheVariants.{BK, CM, CR, LF, NL, SP, ZW, ZWJ}
use Rattle.ucd.specs.declared.version.Version.{Version}
use Rattle.ucd.specs.declared.version.Version.TheVariants.{V15_0, V17_0}
use Rattle.breaks.specs.Bases.{BaseCharacter, Character, alone, bases_of, character, end_of, stays_with}
use Rattle.breaks.specs.Classes.{is_one_of}
use Rattle.breaks.specs.Doubling.{DoublingKeepsMarks, can_be_doubled, mark_between}
use Rattle.breaks.specs.Marks.{marks_after, marks_of}
use Rattle.breaks.specs.Passes.{with_attached}
use Rattle.breaks.specs.Rules.{Rule, mark_by, rules}
use Rattle.breaks.specs.declared.mark.Mark.{Mark}
use Rattle.breaks.specs.declared.mark.Mark.TheVariants.{Never}
use Rattle.breaks.proofs.BoolLemmas.{both, cons}
use Rattle.breaks.proofs.DoublingRows.{Doubles, begun_by, doubles_15, for_class, is_class}
use Rattle.breaks.proofs.DoublingRows17.{doubles_17}
use Rattle.breaks.proofs.PassLemmas.{first_base}
use Rattle.breaks.proofs.WalkLemmas.{walk, walk_from, walk_from_start}

-- ---- the bases around a character that joins no other

begins_alone : (a c : Character) → is_one_of (CM ∷ ZWJ ∷ []) c.class ≡ false → stays_with a c ≡ false
begins_alone a c free = ap (λ joins. joins && not (is_one_of (BK ∷ CR ∷ LF ∷ NL ∷ SP ∷ ZW ∷ []) a.class)) free

bases_before : (before : List Character) (c : Character) (text : List Character) → is_one_of (CM ∷ ZWJ ∷ []) c.class ≡ false
    → bases_of (before ++ c ∷ text) ≡ bases_of before ++ bases_of (c ∷ text)
bases_before [] c text free = refl
bases_before (a ∷ []) c text free = rw (begins_alone a c free) refl
bases_before (a ∷ b ∷ before) c text free =
    elim (cases_Bool (stays_with a b)) [
      | inl stays ↦ rw (stays, bases_before (b ∷ before) c text free, (first_base b before).2) refl
      | inr begins ↦ rw (begins, bases_before (b ∷ before) c text free) refl
    ]

-- ---- the recursion over the characters, one step at a time

walk_stays : (rs : List Rule) (others : List BaseCharacter) (last : BaseCharacter) (c : Character) (text : List Character) → stays_with (end_of last) c ≡ true
    → walk rs others last (c ∷ text) ≡ Never ∷ walk rs others (with_attached last c) text
walk_stays rs others last c text stays = rw stays refl

walk_begins : (rs : List Rule) (others : List BaseCharacter) (last : BaseCharacter) (c : Character) (text : List Character) → stays_with (end_of last) c ≡ false
    → walk rs others last (c ∷ text) ≡ mark_by rs (last ∷ others) (bases_of (c ∷ text)) ∷ walk rs (last ∷ others) (alone c) text
walk_begins rs others last c text begins = rw begins refl

-- ---- a text with a doubled character

module _ (v : Version) (whole_numbers : Bool) (Like : List BaseCharacter → List BaseCharacter → Type 0) (c : Character) (mark : Mark)
    (free : is_one_of (CM ∷ ZWJ ∷ []) c.class ≡ false) (doubles : Doubles (rules v whole_numbers) Like c mark) (after : List Character) where
  abbrev rs : List Rule
  rs = rules v whole_numbers

  -- the marks are the same after bases that the rules do not distinguish
  like_marks : (p q rest : List BaseCharacter) → Like p q → marks_after rs p rest ≡ marks_after rs q rest
  like_marks p q [] like = refl
  like_marks p q (b ∷ rest) like = rw (doubles.like_mark b p q rest like, like_marks (b ∷ p) (b ∷ q) rest (doubles.like_more b p q like)) refl

  -- the characters attached to c, and the bases after the base of c
  attached : List Character
  attached = (first_base c after).0

  others_after : List BaseCharacter
  others_after = (first_base c after).1

  once : bases_of (c ∷ after) ≡ begun_by c attached ∷ others_after
  unfolding attached others_after
  once = (first_base c after).2

  twice : bases_of (c ∷ c ∷ after) ≡ alone c ∷ begun_by c attached ∷ others_after
  twice = rw (begins_alone c c free) (ap (λ bases. alone c ∷ bases) once)

  -- doubling c does not change the marks before c
  same_ahead : (last : BaseCharacter) (others : List BaseCharacter) (front : List Character)
      → mark_by rs (last ∷ others) (bases_of (front ++ c ∷ c ∷ after)) ≡ mark_by rs (last ∷ others) (bases_of (front ++ c ∷ after))
  same_ahead last others front =
      ap (mark_by rs (last ∷ others)) (bases_before front c (c ∷ after) free ∙ ap (λ bases. bases_of front ++ bases) twice)
      ∙ doubles.ahead last others (bases_of front) attached others_after
      ∙ sym (ap (mark_by rs (last ∷ others)) (bases_before front c after free ∙ ap (λ bases. bases_of front ++ bases) once))

  -- the mark between the two characters is `mark`
  mark_inside : (others : List BaseCharacter) → mark_by rs (alone c ∷ others) (bases_of (c ∷ after)) ≡ mark
  mark_inside others = ap (mark_by rs (alone c ∷ others)) once ∙ doubles.between attached others others_after

  -- the marks after the second c are the same as after a single c
  from_base : (others : List BaseCharacter) → marks_after rs (alone c ∷ others) (begun_by c attached ∷ others_after) ≡ marks_after rs others (begun_by c attached ∷ others_after)
  from_base others =
      rw (
        doubles.here attached others others_after,
        like_marks (begun_by c attached ∷ alone c ∷ others) (begun_by c attached ∷ others) others_after (doubles.like attached others),
      ) refl

  same_after : (others : List BaseCharacter) → walk rs (alone c ∷ others) (alone c) after ≡ walk rs others (alone c) after
  same_after others =
      walk_from v whole_numbers (alone c ∷ others) c after ∙ ap (marks_after rs (alone c ∷ others)) once
      ∙ from_base others
      ∙ sym (walk_from v whole_numbers others c after ∙ ap (marks_after rs others) once)

  from_second : (others : List BaseCharacter) → walk rs others (alone c) (c ∷ after) ≡ mark ∷ walk rs others (alone c) after
  from_second others =
      walk_begins rs others (alone c) c after (begins_alone c c free) ∙ cons _ _ _ _ (mark_inside others) (same_after others)

  marks_from : (before : List Character) (others : List BaseCharacter) (last : BaseCharacter)
      → walk rs others last (before ++ c ∷ c ∷ after) ≡ insert (walk rs others last (before ++ c ∷ after)) (suc (length before)) mark
  marks_from [] others last =
      walk_begins rs others last c (c ∷ after) (begins_alone (end_of last) c free)
      ∙ cons _ _ _ _ (same_ahead last others []) (from_second (last ∷ others))
      ∙ sym (ap (λ marks. insert marks 1 mark) (walk_begins rs others last c after (begins_alone (end_of last) c free)))
  marks_from (a ∷ before) others last =
      elim (cases_Bool (stays_with (end_of last) a)) [
        | inl stays ↦
            walk_stays rs others last a (before ++ c ∷ c ∷ after) stays
            ∙ ap (λ marks. Never ∷ marks) (marks_from before others (with_attached last a))
            ∙ sym (ap (λ marks. insert marks (suc (suc (length before))) mark) (walk_stays rs others last a (before ++ c ∷ after) stays))
        | inr begins ↦
            walk_begins rs others last a (before ++ c ∷ c ∷ after) begins
            ∙ cons _ _ _ _ (same_ahead last others (a ∷ before)) (marks_from before (last ∷ others) (alone a))
            ∙ sym (ap (λ marks. insert marks (suc (suc (length before))) mark) (walk_begins rs others last a (before ++ c ∷ after) begins))
      ]

  pub marks_doubled : (before : List Character) → marks_after rs [] (bases_of (before ++ c ∷ c ∷ after))
      ≡ insert (marks_after rs [] (bases_of (before ++ c ∷ after))) (length before) mark
  marks_doubled [] =
      sym (walk_from_start v whole_numbers c (c ∷ after)) ∙ from_second []
      ∙ ap (λ marks. insert marks 0 mark) (walk_from_start v whole_numbers c after)
  marks_doubled (a ∷ before) =
      sym (walk_from_start v whole_numbers a (before ++ c ∷ c ∷ after)) ∙ marks_from before [] (alone a)
      ∙ ap (λ marks. insert marks (suc (length before)) mark) (walk_from_start v whole_numbers a (before ++ c ∷ after))

-- ---- both versions

joins_none : (class : LineClass) → is_class class ≡ true → is_one_of (CM ∷ ZWJ ∷ []) class ≡ false
joins_none = for_class (λ class. is_one_of (CM ∷ ZWJ ∷ []) class ≡ false) refl refl refl refl refl

by_version : (v : Version) (whole_numbers : Bool) (c : Character) → can_be_doubled c ≡ true → (before after : List Character)
    → marks_after (rules v whole_numbers) [] (bases_of (before ++ c ∷ c ∷ after))
    ≡ insert (marks_after (rules v whole_numbers) [] (bases_of (before ++ c ∷ after))) (length before) (mark_between c.class)
by_version V15_0 whole_numbers c fits before after =
    marks_doubled V15_0 whole_numbers _ c _ (joins_none c.class (both _ _ fits).0) (doubles_15 whole_numbers c fits) after before
by_version V17_0 whole_numbers c fits before after =
    marks_doubled V17_0 whole_numbers _ c _ (joins_none c.class (both _ _ fits).0) (doubles_17 whole_numbers c fits) after before

pub doubling_keeps_marks : DoublingKeepsMarks
unfolding marks_of
doubling_keeps_marks t whole_numbers before after c d fits same =
    rw (map-append (character t) before (c ∷ d ∷ after), map-append (character t) before (c ∷ after), same, ← length-map before (character t))
    (by_version t.version whole_numbers (character t c) fits (map (character t) before) (map (character t) after))
