-- The bracket type that the program reads at an index agrees with the character there.
use Rattle.std.proofs.Common.{◌≡◌, ◌<◌, ℕ, Bool, true, false, ◌&&◌, List, length, get_or, Option, Some, None, if◌then◌else◌, refl, sym, ap, ◌∙◌, inl, inr, arith}
use Rattle.std.proofs.lemmas.Bool.{cond-true, cond-false, cases_Bool, and_left, not_from_true, not_from_false}
use Rattle.std.proofs.lemmas.List.{get_or_default, get_or-map, length-map}
use Rattle.ucd.specs.declared.bidi_class.BidiClass.{BidiClass}
use Rattle.ucd.specs.declared.bidi_class.BidiClass.TheVariants.{L, ON}
use Rattle.ucd.specs.declared.bracket.Bracket.{Bracket}
use Rattle.ucd.specs.Classes.{class_at}
use Rattle.bidi.specs.declared.bracket_type.BracketType.{BracketType}
use Rattle.bidi.specs.declared.bracket_type.BracketType.TheVariants.{Other, Opening, Closing}
use Rattle.bidi.specs.Brackets.{is_closer, is_closing, is_opener, is_opening, is_other}
use Rattle.bidi.specs.BracketTypes.{bracket_at, bracket_types, is_bracket, type_by}

-- whether a bracket type is an opening or a closing bracket
abbrev pub opens_by : BracketType → Bool
opens_by (Opening n) = true
opens_by bracket = false

abbrev pub closes_by : BracketType → Bool
closes_by (Closing n) = true
closes_by bracket = false

record Says (o : Option Bracket) (c : ℕ) (answer : BracketType) : Type 0 where
  opens : is_opening o ≡ opens_by answer
  closes : is_closing o ≡ closes_by answer
  pair : (n : ℕ) → answer ≡ Opening n → (b : Bracket) × (o ≡ Some b) × (b.pair ≡ n)
  number : (n : ℕ) → answer ≡ Closing n → c ≡ n

says_opening : (b : Bracket) (c : ℕ) → b.opens ≡ true → Says (Some b) c (Opening b.pair)
says_opening b c e = record {
  opens = e;
  closes = not_from_true b.opens e;
  pair = λ n f. (b, refl, cc);
  number = λ n f. absurd (cc);
}

says_closing : (b : Bracket) (c : ℕ) → b.opens ≡ false → Says (Some b) c (Closing c)
says_closing b c e = record {
  opens = e;
  closes = not_from_false b.opens e;
  pair = λ n f. absurd (cc);
  number = λ n f. cc;
}

says_other : (c : ℕ) → Says None c Other
says_other c = record { opens = refl; closes = refl; pair = λ n f. absurd (cc); number = λ n f. absurd (cc) }

says : (o : Option Bracket) (c : ℕ) → Says o c (type_by o c)
says None c = says_other c
says (Some b) c =
    elim (cases_Bool b.opens) [
      | inl opens ↦ rw (cond-true b.opens (Opening b.pair) (Closing c) opens) (says_opening b c opens)
      | inr closes ↦ rw (cond-false b.opens (Opening b.pair) (Closing c) closes) (says_closing b c closes)
    ]

-- the bracket type `answer`, which was read at k, agrees with the character there
pub record LookedUp (look : ℕ → Option Bracket) (text : List ℕ) (types : List BidiClass) (k : ℕ) (answer : BracketType) : Type 0 where
  pub opens : is_opener look text types k ≡ opens_by answer
  pub closes : is_closer look text types k ≡ closes_by answer
  pub pair : (n : ℕ) → answer ≡ Opening n → (b : Bracket) × (look (get_or text k 0) ≡ Some b) × (b.pair ≡ n)
  pub number : (n : ℕ) → answer ≡ Closing n → get_or text k 0 ≡ n

pub looked_up_of : (look : ℕ → Option Bracket) (text : List ℕ) (kinds : List BracketType) (types : List BidiClass) (k : ℕ) (answer : BracketType)
    → k < length types → length kinds ≡ length types → kinds ≡ bracket_types look text
    → answer ≡ (if is_other (get_or types k L) then get_or kinds k Other else Other) → LookedUp look text types k answer
looked_up_of look text kinds types k answer within size are e =
    let c = get_or text k 0 in
    let inside : k < length text = omega (arith, within, size, ap length are, length-map text (λ c. type_by (look c) c)) in
    let kind : get_or kinds k Other ≡ type_by (look c) c = ap (λ xs. get_or xs k Other) are ∙ get_or-map (λ c. type_by (look c) c) text k 0 Other inside in
    let whole : answer ≡ (if is_other (class_at types k) then type_by (look c) c else Other) =
    e ∙ ap (λ t. if is_other t then get_or kinds k Other else Other) (get_or_default types k L ON within) ∙ ap (λ b. if is_other (class_at types k) then b else Other) kind in
    elim (cases_Bool (is_other (class_at types k))) [
      | inl other ↦
          let is : answer ≡ type_by (look c) c = whole ∙ cond-true (is_other (class_at types k)) (type_by (look c) c) Other other in
          let all = says (look c) c in
          record {
            opens = ap (λ b. b && is_opening (look c)) other ∙ all.opens ∙ ap opens_by (sym is);
            closes = ap (λ b. b && is_closing (look c)) other ∙ all.closes ∙ ap closes_by (sym is);
            pair = λ n f. all.pair n (sym is ∙ f);
            number = λ n f. all.number n (sym is ∙ f);
          }
      | inr none ↦
          let is : answer ≡ Other = whole ∙ cond-false (is_other (class_at types k)) (type_by (look c) c) Other none in
          record {
            opens = and_left (is_other (class_at types k)) (is_opening (look c)) none ∙ ap opens_by (sym is);
            closes = and_left (is_other (class_at types k)) (is_closing (look c)) none ∙ ap closes_by (sym is);
            pair = λ n f. let e = sym is ∙ f in absurd (cc);
            number = λ n f. let e = sym is ∙ f in absurd (cc);
          }
    ]

-- a bracket type that is not a bracket is `Other`
no_bracket : (bracket : BracketType) → is_bracket bracket ≡ false → bracket ≡ Other
no_bracket Other e = refl
no_bracket (Opening n) e = absurd (cc)
no_bracket (Closing n) e = absurd (cc)

pub other_looked_up : (look : ℕ → Option Bracket) (text : List ℕ) (kinds : List BracketType) (types : List BidiClass) (k : ℕ)
    → k < length types → length kinds ≡ length types → kinds ≡ bracket_types look text → is_bracket (bracket_at kinds k) ≡ false → LookedUp look text types k Other
other_looked_up look text kinds types k within size are none =
    let is : get_or kinds k Other ≡ Other = no_bracket (get_or kinds k Other) none in
    looked_up_of look text kinds types k Other within size are
    (elim (cases_Bool (is_other (get_or types k L))) [
      | inl other ↦ sym (cond-true (is_other (get_or types k L)) (get_or kinds k Other) Other other ∙ is)
      | inr none ↦ sym (cond-false (is_other (get_or types k L)) (get_or kinds k Other) Other none)
    ])
