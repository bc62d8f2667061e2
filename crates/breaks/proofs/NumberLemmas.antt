-- A position is inside a number if and only if the bases around it match at one of four places of the expression.
use Rattle.std.proofs.Common.{◌≡◌, Bool, true, false, ◌&&◌, ◌||◌, List, [], ◌∷◌, ◌++◌, map, reverse, refl, sym, ap, ◌∙◌}
use Rattle.std.specs.List.{list_any}
use Rattle.std.proofs.lemmas.List.{append_assoc}
use Rattle.std.proofs.lemmas.Grind.{reverse_onto}
use Rattle.ucd.specs.declared.line_class.LineClass.{LineClass}
use Rattle.ucd.specs.declared.line_class.LineClass.TheVariants.{CL, CP, HY, IS, NU, OP, PO, PR, SY}
use Rattle.breaks.specs.Bases.{BaseCharacter, class_of}
use Rattle.breaks.specs.Classes.{is_same, is_one_of}
use Rattle.breaks.specs.Numbers.{affix, opening, middle, closing, is_end, goes_on, begins_with_digit, is_unaffixed, is_number, fronts, is_in_number}
use Rattle.breaks.specs.Rules.{is}
use Rattle.breaks.specs.Walk.{ends_in_digits, ends_in_closed_digits, begins_unaffixed, goes_on_after_digits}

abbrev classes_of : List BaseCharacter → List LineClass
classes_of bases = map class_of bases

-- Whether a position is at one of the four places of the expression, and `back` matches the rest of it. The
-- places are after an affix, an opening, digits or closed digits.
abbrev at_place : Bool → Bool → Bool → Bool → List LineClass → Bool
at_place affixed opened digits closed back =
    (affixed && is_unaffixed back) || ((opened && begins_with_digit back) || ((digits && goes_on back) || (closed && is_end back)))

none_of : (a b d e : Bool) → ((a && false) || ((b && false) || ((d && false) || (e && false)))) ≡ false
none_of true true true true = refl
none_of true true true false = refl
none_of true true false true = refl
none_of true true false false = refl
none_of true false true true = refl
none_of true false true false = refl
none_of true false false true = refl
none_of true false false false = refl
none_of false true true true = refl
none_of false true true false = refl
none_of false true false true = refl
none_of false true false false = refl
none_of false false true true = refl
none_of false false true false = refl
none_of false false false true = refl
none_of false false false false = refl

or_false : (a : Bool) → (a || false) ≡ a
or_false true = refl
or_false false = refl

and_false : (a : Bool) → (a && false) ≡ false
and_false true = refl
and_false false = refl

shuffled : (a b d e : Bool) → ((a || b) || (d || e)) ≡ ((a || d) || (b || e))
shuffled true b d e = refl
shuffled false true true e = refl
shuffled false true false e = refl
shuffled false false d e = refl

-- a disjunction can be simplified if some of its terms are false or repeat the first term
opens : (r a b d e : Bool) → (r || ((a && r) || ((b && false) || ((d && false) || (e && false))))) ≡ (r || false)
opens true a b d e = refl
opens false a b d e = rw (and_false a, and_false b, and_false d, and_false e) refl

digit : (r a b d e : Bool) → (r || ((a && r) || ((b && r) || ((d && r) || (e && false))))) ≡ (r || false)
digit true a b d e = refl
digit false a b d e = rw (and_false a, and_false b, and_false d, and_false e) refl

within : (r a b d e : Bool) → ((a && false) || ((b && false) || ((d && r) || (e && false)))) ≡ ((d && r) || false)
within r a b d e = rw (and_false a, and_false b, and_false e) refl

ends : (r a b d e : Bool) → ((a && false) || ((b && false) || ((d && r) || (e && false)))) ≡ (d && r)
ends r a b d e = rw (and_false a, and_false b, and_false e, or_false (d && r)) refl

begins : (r a b d e : Bool) → (r || ((a && false) || ((b && false) || ((d && false) || (e && false))))) ≡ (r || false)
begins r a b d e = rw (and_false a, and_false b, and_false d, and_false e) refl

-- moving the position forward past `class` moves `class` into the conditions on the bases before the position
step : (class next : LineClass) (back : List LineClass) (a b d e : Bool) →
    (is_number (class ∷ next ∷ back) || at_place a b d e (class ∷ next ∷ back))
    ≡ at_place (is_one_of affix class) (is_one_of opening class) (is_same class NU || (is_one_of middle class && d)) (is_one_of closing class && d) (next ∷ back)
step PR next back a b d e = begins (is_unaffixed (next ∷ back)) a b d e
step PO next back a b d e = begins (is_unaffixed (next ∷ back)) a b d e
step OP next back a b d e = opens (begins_with_digit (next ∷ back)) a b d e
step HY next back a b d e = opens (begins_with_digit (next ∷ back)) a b d e
step NU next back a b d e = digit (goes_on (next ∷ back)) a b d e
step SY next back a b d e = within (goes_on (next ∷ back)) a b d e
step IS next back a b d e = within (goes_on (next ∷ back)) a b d e
step CL next back a b d e = ends (is_end (next ∷ back)) a b d e
step CP next back a b d e = ends (is_end (next ∷ back)) a b d e
step class next back a b d e = none_of a b d e

-- whether some bases directly before a position, with `next` and `back` after them, form a number
abbrev begun : List BaseCharacter → BaseCharacter → List BaseCharacter → Bool
begun before next back = list_any (λ front. is_number (classes_of (reverse front ++ next ∷ back))) (fronts before)

any_map : {A B : Type 0} (f : A → B) (test : B → Bool) (xs : List A) → list_any test (map f xs) ≡ list_any (λ x. test (f x)) xs
any_map f test [] = refl
any_map f test (x ∷ xs) = ap (λ rest. test (f x) || rest) (any_map f test xs)

any_none : {A : Type 0} (xs : List A) → list_any (λ _. false) xs ≡ false
any_none [] = refl
any_none (x ∷ xs) = any_none xs

map_map : {A B C : Type 0} (f : A → B) (g : B → C) (xs : List A) → map g (map f xs) ≡ map (λ x. g (f x)) xs
map_map f g [] = refl
map_map f g (x ∷ xs) = ap (λ rest. g (f x) ∷ rest) (map_map f g xs)

any_same : {A : Type 0} (p q : A → Bool) (same : (x : A) → p x ≡ q x) (xs : List A) → list_any p xs ≡ list_any q xs
any_same p q same [] = refl
any_same p q same (x ∷ xs) = rw (same x, any_same p q same xs) refl

moved : (b next : BaseCharacter) (front back : List BaseCharacter) → reverse (b ∷ front) ++ next ∷ back ≡ reverse front ++ b ∷ next ∷ back
moved b next front back = ap (λ bases. bases ++ next ∷ back) (reverse_onto front b []) ∙ append_assoc (reverse front) (b ∷ []) (next ∷ back)

begun_more : (b : BaseCharacter) (before : List BaseCharacter) (next : BaseCharacter) (back : List BaseCharacter) → begun (b ∷ before) next back ≡ (is_number (classes_of (b ∷ next ∷ back)) || begun before b (next ∷ back))
begun_more b before next back =
    ap (λ rest. is_number (classes_of (b ∷ next ∷ back)) || rest)
    (any_map (λ front. b ∷ front) (λ front. is_number (classes_of (reverse front ++ next ∷ back))) (fronts before)
    ∙ any_same _ _ (λ front. ap (λ bases. is_number (classes_of bases)) (moved b next front back)) (fronts before))

abbrev is_at : List BaseCharacter → List LineClass → Bool
is_at before = at_place (is affix before) (is opening before) (ends_in_digits before) (ends_in_closed_digits before)

begun_is : (before : List BaseCharacter) (next : BaseCharacter) (back : List BaseCharacter) → begun before next back ≡ is_at before (classes_of (next ∷ back))
begun_is [] next back = refl
begun_is (b ∷ before) next back =
    begun_more b before next back
    ∙ ap (λ rest. is_number (classes_of (b ∷ next ∷ back)) || rest) (begun_is before b (next ∷ back))
    ∙ step (class_of b) (class_of next) (classes_of back) (is affix before) (is opening before) (ends_in_digits before) (ends_in_closed_digits before)

-- some item passes one of two tests if and only if some item passes the first or some item passes the second
any_or : {A : Type 0} (p q : A → Bool) (xs : List A) → list_any (λ x. p x || q x) xs ≡ (list_any p xs || list_any q xs)
any_or p q [] = refl
any_or p q (x ∷ xs) = ap (λ rest. (p x || q x) || rest) (any_or p q xs) ∙ shuffled (p x) (q x) (list_any p xs) (list_any q xs)

any_and : {A : Type 0} (a : Bool) (p : A → Bool) (xs : List A) → list_any (λ x. a && p x) xs ≡ (a && list_any p xs)
any_and true p xs = refl
any_and false p xs = any_none xs

module _ (a b d e : Bool) where
  any_place : (backs : List (List LineClass)) → list_any (at_place a b d e) backs
      ≡ ((a && list_any is_unaffixed backs) ||
      ((b && list_any begins_with_digit backs) || ((d && list_any goes_on backs) || (e && list_any is_end backs))))
  any_place backs =
      any_or (λ back. a && is_unaffixed back) (λ back. (b && begins_with_digit back) || ((d && goes_on back) || (e && is_end back))) backs
      ∙ rw (
        any_and a is_unaffixed backs,
        any_or (λ back. b && begins_with_digit back) (λ back. (d && goes_on back) || (e && is_end back)) backs,
        any_and b begins_with_digit backs,
        any_or (λ back. d && goes_on back) (λ back. e && is_end back) backs,
        any_and d goes_on backs,
        any_and e is_end backs,
      ) refl

-- the non-empty prefixes of a list are its first item alone, and its first item before each non-empty prefix
-- of the rest
fronts_begin : (test : List LineClass → Bool) (class : LineClass) (back : List LineClass)
    → list_any test (fronts (class ∷ back))
    ≡ (test (class ∷ []) || list_any (λ front. test (class ∷ front)) (fronts back))
fronts_begin test class back = ap (λ rest. test (class ∷ []) || rest) (any_map (λ front. class ∷ front) test (fronts back))

abbrev first_is : List LineClass → List LineClass → Bool
first_is classes [] = false
first_is classes (class ∷ back) = is_one_of classes class

some_end : (class : LineClass) (back : List LineClass) → list_any is_end (fronts (class ∷ back)) ≡ is_one_of affix class
some_end PR back = refl
some_end PO back = refl
some_end class back = fronts_begin is_end class back ∙ any_none (fronts back)

some_go_on : (class : LineClass) (back : List LineClass) → list_any goes_on (fronts (class ∷ back)) ≡ is_one_of goes_on_after_digits class
some_go_on NU back = refl
some_go_on SY back = refl
some_go_on IS back = refl
some_go_on CL back = refl
some_go_on CP back = refl
some_go_on PR back = refl
some_go_on PO back = refl
some_go_on class back = fronts_begin goes_on class back ∙ any_none (fronts back)

some_digit : (class : LineClass) (back : List LineClass) → list_any begins_with_digit (fronts (class ∷ back)) ≡ is_one_of (NU ∷ []) class
some_digit NU back = refl
some_digit class back = fronts_begin begins_with_digit class back ∙ any_none (fronts back)

some_digits : (back : List LineClass) → list_any begins_with_digit (fronts back) ≡ first_is (NU ∷ []) back
some_digits [] = refl
some_digits (class ∷ back) = some_digit class back

some_unaffixed : (class : LineClass) (back : List LineClass) → list_any is_unaffixed (fronts (class ∷ back)) ≡ (is_same class NU || (is_one_of opening class && first_is (NU ∷ []) back))
some_unaffixed NU back = refl
some_unaffixed OP back = fronts_begin is_unaffixed OP back ∙ some_digits back
some_unaffixed HY back = fronts_begin is_unaffixed HY back ∙ some_digits back
some_unaffixed class back = fronts_begin is_unaffixed class back ∙ any_none (fronts back)

-- the prefixes of a list of bases have the same classes as the prefixes of the list of the bases' classes
fronts_map : (bases : List BaseCharacter) → map (λ front. classes_of front) (fronts bases) ≡ fronts (classes_of bases)
fronts_map [] = refl
fronts_map (b ∷ bases) =
    ap (λ rest. (class_of b ∷ []) ∷ rest)
    (map_map (λ front. b ∷ front) (λ front. classes_of front) (fronts bases)
    ∙ sym (map_map (λ front. classes_of front) (λ front. class_of b ∷ front) (fronts bases))
    ∙ ap (map (λ front. class_of b ∷ front)) (fronts_map bases))

first_is_class : (classes : List LineClass) (bases : List BaseCharacter) → first_is classes (classes_of bases) ≡ is classes bases
first_is_class classes [] = refl
first_is_class classes (b ∷ bases) = refl

-- searching all pairs of items from two lists gives the same result in either order
either_way : {A B : Type 0} (test : A → B → Bool) (xs : List A) (ys : List B) → list_any (λ x. list_any (test x) ys) xs ≡ list_any (λ y. list_any (λ x. test x y) xs) ys
either_way test [] ys = sym (any_none ys)
either_way test (x ∷ xs) ys = ap (λ rest. list_any (test x) ys || rest) (either_way test xs ys) ∙ sym (any_or (test x) (λ y. list_any (λ x. test x y) xs) ys)

-- some bases before a position and a prefix of those after it form a number if and only if the conditions
-- hold for the prefix
begun_fronts : (before : List BaseCharacter) (b : BaseCharacter) (fs : List (List BaseCharacter))
    → list_any (λ back. list_any (λ front. is_number (classes_of (reverse front ++ back))) (fronts before))
    (map (λ front. b ∷ front) fs) ≡ list_any (λ back. is_at before (classes_of back)) (map (λ front. b ∷ front) fs)
begun_fronts before b [] = refl
begun_fronts before b (f ∷ fs) = rw (begun_is before b f, begun_fronts before b fs) refl

begun_all : (before after : List BaseCharacter)
    → list_any (λ back. list_any (λ front. is_number (classes_of (reverse front ++ back))) (fronts before))
    (fronts after) ≡ list_any (λ back. is_at before (classes_of back)) (fronts after)
begun_all before [] = refl
begun_all before (b ∷ after) = begun_fronts before b ([] ∷ fronts after)

-- a position is inside a number if and only if the conditions before and after it hold for one of the four
-- places
pub in_number_is : (before after : List BaseCharacter) → is_in_number before after
    ≡ ((is affix before && begins_unaffixed after) ||
    ((is opening before && is (NU ∷ []) after) ||
    ((ends_in_digits before && is goes_on_after_digits after) || (ends_in_closed_digits before && is affix after))))
in_number_is before [] =
    either_way (λ front back. is_number (classes_of (reverse front ++ back))) (fronts before) []
    ∙ sym (none_of (is affix before) (is opening before) (ends_in_digits before) (ends_in_closed_digits before))
in_number_is before (b ∷ after) =
    let classes : List LineClass = classes_of after in
    either_way (λ front back. is_number (classes_of (reverse front ++ back))) (fronts before) (fronts (b ∷ after))
    ∙ begun_all before (b ∷ after)
    ∙ sym (any_map (λ back. classes_of back) (is_at before) (fronts (b ∷ after)))
    ∙ ap (list_any (is_at before)) (fronts_map (b ∷ after))
    ∙ any_place (is affix before) (is opening before) (ends_in_digits before) (ends_in_closed_digits before) (fronts (class_of b ∷ classes))
    ∙ rw (some_unaffixed (class_of b) classes, some_digit (class_of b) classes, some_go_on (class_of b) classes, some_end (class_of b) classes, first_is_class (NU ∷ []) after) refl
