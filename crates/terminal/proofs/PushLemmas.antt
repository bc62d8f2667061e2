-- The lines of blocks, one block after the other.
use Rattle.std.proofs.Common.{◌≡◌, ℕ, zero, suc, ◌+◌, ◌-◌, ◌*◌, ◌<◌, ◌≤◌, nat_le, nat_lt, ◌==◌, Bool, true, false, ◌&&◌, ◌||◌, List, [], ◌∷◌, ◌++◌, length, take, drop, get_or, Option, None, refl, sym, subst, ap, ap₂, inl, inr, ◌∙◌, append_assoc, arith, drop-drop}
use Rattle.std.specs.List.{concat, flat_map, list_any, onto_first}
use Rattle.std.proofs.Math.Bool.{or_assoc}
use Rattle.std.proofs.lemmas.Bool.{and_parts, cases_Bool, cond-true, cond-false, eqb-true}
use Rattle.std.proofs.lemmas.Bool.Decides.{nat_tests}
use Rattle.std.proofs.lemmas.Grind.{flat_map-append}
use Rattle.std.proofs.lemmas.List.{append-nil, length-drop, length-take-le, nil_from_length, take-append-drop}
use Rattle.std.proofs.lemmas.List.Folds.{concat-append, list_all-append, list_any-append}
use Rattle.std.specs.Option.{option_or}
use Rattle.lines.specs.Layouts.{Rules, cut_by}
use Rattle.sequences.specs.Laws.{characters_of}
use Rattle.sequences.specs.Scanners.{pen_of}
use Rattle.sequences.specs.Styled.{Pen, Style, next_paragraph, pen_at_end, shown_text, styled}
use Rattle.sequences.specs.StyledTexts.{styled_of}
use Rattle.terminal.specs.Ends.{AreNoEnds, IsFirst, IsHeld, IsOpen}
use Rattle.terminal.specs.Newlines.{ended_page, last_of}
use Rattle.terminal.specs.Pieces.{has_over}
use Rattle.terminal.specs.Run.{ArePermitted, IsTooLong, are_within, have_over, is_within}
use Rattle.terminal.specs.RunState.{Adds, AddsEnded, AddsLast, IsFront, Leaves, is_left_long, pages, pen_after_blocks}
use Rattle.terminal.specs.Texts.{block_page, blocks, ends_block, shown_blocks, text_page}
use Rattle.terminal.specs.Whole.{joined}
use Rattle.terminal.specs.declared.form.Form.{Form}
use Rattle.terminal.specs.declared.output.Output.{Output}
use Rattle.terminal.proofs.NewlineLemmas.{ended-append, last-append, text_end}
use Rattle.terminal.proofs.WholeLemmas.{characters_of-append, shown_whole}

-- ---- blocks one after the other

pub shown-append : (pen : Pen) (xs ys : List (List ℕ)) → shown_blocks pen (xs ++ ys) ≡ shown_blocks pen xs ++ shown_blocks (pen_after_blocks pen xs) ys
shown-append pen [] ys = refl
shown-append pen (x ∷ xs) ys = ap (λ (rest : List (List (ℕ × Style))). styled pen x ∷ rest) (shown-append (next_paragraph (pen_at_end pen x)) xs ys)

pub pages-append : (rules : Rules) (form : Form) (pen : Pen) (xs ys : List (List ℕ))
    → pages rules form pen (xs ++ ys) ≡ pages rules form pen xs ++ pages rules form (pen_after_blocks pen xs) ys
pages-append rules form pen xs ys =
    ap (flat_map (block_page rules form)) (shown-append pen xs ys)
    ∙ flat_map-append (block_page rules form) (shown_blocks pen xs) (shown_blocks (pen_after_blocks pen xs) ys)

pub pen-append : (pen : Pen) (xs ys : List (List ℕ)) → pen_after_blocks pen (xs ++ ys) ≡ pen_after_blocks (pen_after_blocks pen xs) ys
pen-append pen [] ys = refl
pen-append pen (x ∷ xs) ys = pen-append (next_paragraph (pen_at_end pen x)) xs ys

pub within-append : (xs ys : List (List ℕ)) → are_within xs ≡ true → are_within ys ≡ true → are_within (xs ++ ys) ≡ true
within-append xs ys x y = list_all-append is_within xs ys ∙ ap₂ (λ a b. a && b) x y

short_is : (block : List ℕ) → length block ≤ 1048576 → is_within block ≡ true
short_is block short = grind (arith, nat_tests)

-- ---- first blocks

pub front_none : (is_cut : ℕ → ℕ → Bool) (text : List ℕ) → IsFront is_cut [] text text
front_none is_cut text = record { whole = refl; cuts = λ more. refl }

pub front_join : (is_cut : ℕ → ℕ → Bool) (xs ys : List (List ℕ)) (text rest last : List ℕ) → IsFront is_cut xs text rest → IsFront is_cut ys rest last → IsFront is_cut (xs ++ ys) text last
front_join is_cut xs ys text rest last a b = record {
  whole = a.whole ∙ ap (λ t. concat xs ++ t) b.whole ∙ sym (append_assoc (concat xs) (concat ys) last) ∙ ap (λ t. t ++ last) (sym (concat-append xs ys));
  cuts = λ more. a.cuts more ∙ ap (λ (t : List (List ℕ)). xs ++ t) (b.cuts more) ∙ sym (append_assoc xs ys (blocks is_cut (last ++ more)));
}

-- ---- blocks within the limit

pub permit_join : (form : Form) (xs ys : List (List ℕ)) → ArePermitted form xs → ArePermitted form ys → ArePermitted form (xs ++ ys)
permit_join form xs ys a b is = within-append xs ys (a is) (b is)

at_most : (k : ℕ) → nat_lt 1048576 k ≡ false → k ≤ 1048576
at_most k e = grind (arith, nat_tests)

more_than : (k : ℕ) → nat_lt 1048576 k ≡ true → 1048576 < k
more_than k e = grind (arith, nat_tests)

-- a block that is not too long does not end the run
pub permit_one : (form : Form) (block : List ℕ) (k : ℕ) (long : Bool) → long ≡ (form.strict && nat_lt 1048576 k) → long ≡ false → length block ≡ k → ArePermitted form (block ∷ [])
permit_one form block k long e free len is =
    let short : nat_lt 1048576 k ≡ false = ap (λ (b : Bool). b && nat_lt 1048576 k) (sym is) ∙ sym e ∙ free in
    ap (λ (b : Bool). b && true) (short_is block (omega (arith, len, at_most k short)))

-- a block that ends the run is over the limit, and the form is strict
pub refuse_one : (form : Form) (k : ℕ) (long : Bool) → long ≡ (form.strict && nat_lt 1048576 k) → long ≡ true → (form.strict ≡ true) × (1048576 < k)
refuse_one form k long e holds =
    let both = and_parts form.strict (nat_lt 1048576 k) (sym e ∙ holds) in
    (both.0, more_than k both.1)

pub front_one : (is_cut : ℕ → ℕ → Bool) (text : List ℕ) (k : ℕ) → IsFirst is_cut k text → IsFront is_cut (take k text ∷ []) text (drop k text)
front_one is_cut text k first = record {
  whole = sym (take-append-drop k text) ∙ ap (λ t. t ++ drop k text) (sym (append-nil (take k text)));
  cuts = first.block;
}

-- ---- paragraphs over the limit

pub over-append : (rules : Rules) (pen : Pen) (xs ys : List (List ℕ)) → have_over rules pen (xs ++ ys) ≡ (have_over rules pen xs || have_over rules (pen_after_blocks pen xs) ys)
over-append rules pen xs ys =
    let test : List (ℕ × Style) → Bool = λ shown. has_over rules (characters_of shown) in
    ap (list_any test) (shown-append pen xs ys) ∙ list_any-append test (shown_blocks pen xs) (shown_blocks (pen_after_blocks pen xs) ys)

over_more : (rules : Rules) (form : Form) (old mid new : Output) (xs ys : List (List ℕ)) → mid.over ≡ (old.over || have_over rules (pen_of old.scanner) xs)
    → pen_of mid.scanner ≡ pen_after_blocks (pen_of old.scanner) xs → Adds rules form ys mid new → new.over ≡ (old.over || have_over rules (pen_of old.scanner) (xs ++ ys))
over_more rules form old mid new xs ys h p a =
    a.over ∙ ap₂ (λ (b : Bool) (q : Pen). b || have_over rules q ys) h p ∙ or_assoc old.over (have_over rules (pen_of old.scanner) xs) (have_over rules (pen_after_blocks (pen_of old.scanner) xs) ys)
    ∙ ap (λ (b : Bool). old.over || b) (sym (over-append rules (pen_of old.scanner) xs ys))

pub over_none : (b : Bool) → b ≡ (b || false)
over_none true = refl
over_none false = refl

-- ---- what was added so far

pub record HasAdded (rules : Rules) (form : Form) (text : List ℕ) (old new : Output) (start : ℕ) : Type 0 where
  pub parts : List (List ℕ)
  pub front : IsFront (cut_by rules) parts text (drop start text)
  pub permitted : ArePermitted form parts
  pub within : start ≤ length text
  pub lines : new.page.bytes.items ≡ old.page.bytes.items ++ pages rules form (pen_of old.scanner) parts
  pub pen : pen_of new.scanner ≡ pen_after_blocks (pen_of old.scanner) parts
  pub written : new.written ≡ old.written
  pub over : new.over ≡ (old.over || have_over rules (pen_of old.scanner) parts)

pub added_none : (rules : Rules) (form : Form) (text : List ℕ) (old : Output) → HasAdded rules form text old old 0
added_none rules form text old = record {
  parts = [];
  front = front_none (cut_by rules) text;
  permitted = λ is. refl;
  within = omega arith;
  lines = sym (append-nil old.page.bytes.items);
  pen = refl;
  written = refl;
  over = over_none old.over;
}

lines_more : (rules : Rules) (form : Form) (old mid new : Output) (xs ys : List (List ℕ))
    → mid.page.bytes.items ≡ old.page.bytes.items ++ pages rules form (pen_of old.scanner) xs → pen_of mid.scanner ≡ pen_after_blocks (pen_of old.scanner) xs
    → Adds rules form ys mid new → new.page.bytes.items ≡ old.page.bytes.items ++ pages rules form (pen_of old.scanner) (xs ++ ys)
lines_more rules form old mid new xs ys l p a =
    let before = pages rules form (pen_of old.scanner) xs in
    let after = pages rules form (pen_after_blocks (pen_of old.scanner) xs) ys in
    a.lines ∙ ap₂ (λ t (q : Pen). t ++ pages rules form q ys) l p ∙ append_assoc old.page.bytes.items before after
    ∙ ap (λ t. old.page.bytes.items ++ t) (sym (pages-append rules form (pen_of old.scanner) xs ys))

pen_more : (rules : Rules) (form : Form) (old mid new : Output) (xs ys : List (List ℕ)) → pen_of mid.scanner ≡ pen_after_blocks (pen_of old.scanner) xs
    → Adds rules form ys mid new → pen_of new.scanner ≡ pen_after_blocks (pen_of old.scanner) (xs ++ ys)
pen_more rules form old mid new xs ys p a = a.pen ∙ ap (λ (q : Pen). pen_after_blocks q ys) p ∙ sym (pen-append (pen_of old.scanner) xs ys)

pub added_one : (rules now : Rules) (form : Form) (text rest block : List ℕ) (old mid new : Output) (start k : ℕ) → now ≡ rules → HasAdded rules form text old mid start
    → rest ≡ drop start text → IsFirst (cut_by now) k rest → ArePermitted form (block ∷ []) → block ≡ take k rest → Adds now form (block ∷ []) mid new → HasAdded rules form text old new (start + k)
added_one rules now form text rest block old mid new start k e h r first permit b adds =
    let first_is : IsFirst (cut_by rules) k (drop start text) = subst (λ (t : List ℕ). IsFirst (cut_by rules) k t) r (subst (λ (n : Rules). IsFirst (cut_by n) k rest) e first) in
    let block_is : block ≡ take k (drop start text) = b ∙ ap (take k) r in
    let adds_is : Adds rules form (take k (drop start text) ∷ []) mid new =
    subst (λ (t : List ℕ). Adds rules form (t ∷ []) mid new) block_is (subst (λ (n : Rules). Adds n form (block ∷ []) mid new) e adds) in
    let one = take k (drop start text) ∷ [] in
    record {
      parts = h.parts ++ one;
      front = subst (IsFront (cut_by rules) (h.parts ++ one) text) (drop-drop k start text)
          (front_join (cut_by rules) h.parts one text (drop start text) (drop k (drop start text)) h.front (front_one (cut_by rules) (drop start text) k first_is));
      permitted = permit_join form h.parts one h.permitted (subst (λ (t : List ℕ). ArePermitted form (t ∷ [])) block_is permit);
      within = omega (arith, first_is.within, length-drop start text, h.within);
      lines = lines_more rules form old mid new h.parts one h.lines h.pen adds_is;
      pen = pen_more rules form old mid new h.parts one h.pen adds_is;
      written = adds_is.written ∙ h.written;
      over = over_more rules form old mid new h.parts one h.over h.pen adds_is;
    }

-- If the form is strict, a part of a non-empty text is left.
abbrev pub IsHolding : Bool → List ℕ → ℕ → Type 0
IsHolding strict text start = strict ≡ true → length text ≤ start → length text ≡ 0

-- ---- whether a block is held back
not_equal : (a b : ℕ) → (a == b) ≡ false → a ≡ b → ⊥
not_equal a b e same = grind (arith, nat_tests)

pub held_is : (strict held : Bool) (k n : ℕ) → held ≡ (strict && (k == n)) → held ≡ true → (strict ≡ true) × (k ≡ n)
held_is strict held k n e holds =
    let both = and_parts strict (k == n) (sym e ∙ holds) in
    (both.0, eqb-true k n both.1)

pub holding_more : (strict held : Bool) (text rest : List ℕ) (start k : ℕ) → rest ≡ drop start text → held ≡ (strict && (k == length rest)) → held ≡ false → k ≤ length rest
    → IsHolding strict text (start + k)
holding_more strict held text rest start k r e free within is beyond =
    let other : (k == length rest) ≡ false = ap (λ (b : Bool). b && (k == length rest)) (sym is) ∙ sym e ∙ free in
    absurd (not_equal k (length rest) other (omega (arith, ap length r, length-drop start text, beyond, within)))

pub added_ended : (rules : Rules) (form : Form) (text : List ℕ) (old new : Output) (start scanned : ℕ) (is_long : Bool) → HasAdded rules form text old new start
    → Leaves rules form.strict is_long scanned (drop start text) → styled_of new.scanner.text ≡ [] → IsHolding form.strict text start → AddsEnded rules form text old new start scanned is_long
added_ended rules form text old new start scanned is_long h leaves empty holding = record {
  parts = h.parts;
  front = h.front;
  permitted = h.permitted;
  within = h.within;
  adds = record { lines = h.lines; pen = h.pen; empty = empty; written = h.written; over = h.over };
  leaves = leaves;
  holds = λ is none. holding is (omega (arith, none, length-drop start text));
}

-- ---- blocks that are too long

suc_is : (k : ℕ) → suc k + 1 ≡ suc (k + 1)
suc_is k = omega arith

drop_suc : (c : ℕ) (text : List ℕ) (k : ℕ) → drop (suc k + 1) (c ∷ text) ≡ drop (k + 1) text
drop_suc c text k = ap (λ n. drop n (c ∷ text)) (suc_is k)

abbrev IsLongerThan : ℕ → List (List ℕ) → Type 0
IsLongerThan n parts = (first : List ℕ) × (others : List (List ℕ)) × (parts ≡ first ∷ others) × (n < length first)

onto_some : (c : ℕ) (parts : List (List ℕ)) → IsLongerThan 0 (onto_first c parts)
onto_some c [] = (c ∷ [], [], refl, omega arith)
onto_some c (p ∷ parts) = (c ∷ p, parts, refl, omega arith)

-- if none of the first n characters ends a block, the first block has more than n characters
long_first : (is_cut : ℕ → ℕ → Bool) (n : ℕ) (text more : List ℕ) → AreNoEnds is_cut n text → n < length text → IsLongerThan n (blocks is_cut (text ++ more))
long_first is_cut n [] more none less = absurd (omega (arith, less))
long_first is_cut zero (c ∷ text) more none less =
    elim (cases_Bool (ends_block is_cut c (text ++ more))) [
      | inl y ↦ (c ∷ [], blocks is_cut (text ++ more), cond-true (ends_block is_cut c (text ++ more)) _ _ y, omega arith)
      | inr n ↦
          let some = onto_some c (blocks is_cut (text ++ more)) in
          (some.0, some.1, cond-false (ends_block is_cut c (text ++ more)) _ _ n ∙ some.2, some.3)
    ]
long_first is_cut (suc n) (c ∷ text) more none less =
    let later : AreNoEnds is_cut n text = λ k below rest.
    ap (λ t. ends_block is_cut (get_or text k 0) (t ++ rest)) (sym (drop_suc c text k)) ∙ none (suc k) (omega (arith, below)) rest in
    let some = long_first is_cut n text more later (omega (arith, less)) in
    let here : ends_block is_cut c (text ++ more) ≡ false = none 0 (omega arith) more in
    (c ∷ some.0, some.1, cond-false (ends_block is_cut c (text ++ more)) _ _ here ∙ ap (onto_first c) some.2, omega (arith, some.3))

pub left_is : (rules : Rules) (holds : Bool) (scanned : ℕ) (text : List ℕ) (is_long : Bool) → IsOpen (cut_by rules) scanned text → is_long ≡ (holds && is_left_long scanned (length text))
    → Leaves rules holds is_long scanned text
left_is rules holds scanned text false o e = inl o
left_is rules holds scanned text true o e =
    let all = and_parts holds (is_left_long scanned (length text)) (sym e) in
    let both = and_parts (nat_lt 1048576 (length text)) (nat_le 1048576 scanned || nat_lt (2 * 1048576) (length text)) all.1 in
    let less : 1048576 < length text = lt_of (length text) both.0 in
    let long : IsTooLong (cut_by rules) text = elim (cases_Bool (nat_le 1048576 scanned)) [
      | inl y ↦ inl (λ more. long_first (cut_by rules) 1048576 text more (λ k below. o.none k (omega (arith, below, le_of scanned y))) less)
      | inr n ↦ inr (twice (length text) (nat_le 1048576 scanned) n both.1)
    ] in
    (all.0, long)
  where
    lt_of : (n : ℕ) → nat_lt 1048576 n ≡ true → 1048576 < n
    lt_of n h = grind (arith, nat_tests)

    le_of : (n : ℕ) → nat_le 1048576 n ≡ true → 1048576 ≤ n
    le_of n h = grind (arith, nat_tests)

    twice : (n : ℕ) (b : Bool) → b ≡ false → (b || nat_lt (2 * 1048576) n) ≡ true → 2 * 1048576 < n
    twice n b none h = grind (arith, nat_tests)

pub first_long : (is_cut : ℕ → ℕ → Bool) (k : ℕ) (text : List ℕ) → IsFirst is_cut k text → 1048576 < k → IsTooLong is_cut text
first_long is_cut k text first long =
    inl (λ more. (take k text, blocks is_cut (drop k text ++ more), first.block more, omega (arith, length-take-le k text first.within, long)))

-- ---- what is left

pub ends_open : (rules now : Rules) (form : Form) (text rest : List ℕ) (old new : Output) (start k left_start left_scanned : ℕ) (is_long : Bool) → now ≡ rules
    → HasAdded rules form text old new start → rest ≡ drop start text → IsOpen (cut_by now) k rest → left_start ≡ start → left_scanned ≡ k
    → is_long ≡ (form.strict && is_left_long k (length rest)) → styled_of new.scanner.text ≡ [] → IsHolding form.strict text start → AddsEnded rules form text old new left_start left_scanned is_long
ends_open rules now form text rest old new start k left_start left_scanned is_long e h r open_ s c l empty holding =
    let open_is : IsOpen (cut_by rules) k (drop start text) = subst (λ (t : List ℕ). IsOpen (cut_by rules) k t) r (subst (λ (n : Rules). IsOpen (cut_by n) k rest) e open_) in
    let leaves : Leaves rules form.strict is_long k (drop start text) = left_is rules form.strict k (drop start text) is_long open_is (l ∙ ap (λ t. form.strict && is_left_long k (length t)) r) in
    subst (λ n. AddsEnded rules form text old new n left_scanned is_long) (sym s)
    (subst (λ n. AddsEnded rules form text old new start n is_long) (sym c) (added_ended rules form text old new start k is_long h leaves empty holding))

pub ends_first : (rules now : Rules) (form : Form) (text rest : List ℕ) (old new : Output) (start k : ℕ) → now ≡ rules → HasAdded rules form text old new start
    → rest ≡ drop start text → IsFirst (cut_by now) k rest → (form.strict ≡ true) × (1048576 < k) → styled_of new.scanner.text ≡ []
    → IsHolding form.strict text start → AddsEnded rules form text old new start 0 true
ends_first rules now form text rest old new start k e h r first refused empty holding =
    let first_is : IsFirst (cut_by rules) k (drop start text) = subst (λ (t : List ℕ). IsFirst (cut_by rules) k t) r (subst (λ (n : Rules). IsFirst (cut_by n) k rest) e first) in
    added_ended rules form text old new start 0 true h (refused.0, first_long (cut_by rules) k (drop start text) first_is refused.1) empty holding

-- if a block is held back, `AddsEnded` holds without the block
pub ends_held : (rules now : Rules) (form : Form) (text rest : List ℕ) (old new : Output) (start k scanned : ℕ) → now ≡ rules → HasAdded rules form text old new start
    → rest ≡ drop start text → IsFirst (cut_by now) k rest → k ≡ length rest → form.strict ≡ true → scanned ≡ k - 1 → styled_of new.scanner.text ≡ []
    → IsHolding form.strict text start → AddsEnded rules form text old new start scanned false
ends_held rules now form text rest old new start k scanned e h r first whole strict s empty holding =
    let first_is : IsFirst (cut_by rules) k (drop start text) = subst (λ (t : List ℕ). IsFirst (cut_by rules) k t) r (subst (λ (n : Rules). IsFirst (cut_by n) k rest) e first) in
    let held : IsHeld (cut_by rules) scanned (drop start text) = record {
      last = omega (arith, s, first_is.some, whole, ap length r);
      none = subst (λ n. AreNoEnds (cut_by rules) n (drop start text)) (sym s) first_is.none;
    } in
    added_ended rules form text old new start scanned false h (inr (strict, held)) empty holding

-- ---- the blocks of a whole text

-- the last character that blocks show
abbrev pub last_shown : Pen → List (List ℕ) → Option ℕ
last_shown pen parts = last_of (characters_of (joined (shown_blocks pen parts)))

last_more : (pen : Pen) (parts : List (List ℕ)) (block : List ℕ)
    → last_shown pen (parts ++ block ∷ []) ≡ option_or (last_of (characters_of (styled (pen_after_blocks pen parts) block))) (last_shown pen parts)
last_more pen parts block =
    let front = shown_blocks pen parts in
    let own = styled (pen_after_blocks pen parts) block in
    ap (λ (xs : List (List (ℕ × Style))). last_of (characters_of (joined xs))) (shown-append pen parts (block ∷ []))
    ∙ ap (λ (xs : List (ℕ × Style)). last_of (characters_of xs)) (flat_map-append (λ (group : List (ℕ × Style)). group) front (own ∷ []) ∙ ap (λ (xs : List (ℕ × Style)). joined front ++ xs) (append-nil own))
    ∙ ap last_of (characters_of-append (joined front) own) ∙ last-append (characters_of (joined front)) (characters_of own)

pub record HasAddedLast (rules : Rules) (form : Form) (text rest : List ℕ) (old new : Output) (last : Option ℕ) : Type 0 where
  pub parts : List (List ℕ)
  pub cuts : blocks (cut_by rules) text ≡ parts ++ blocks (cut_by rules) rest
  pub permitted : ArePermitted form parts
  pub lines : new.page.bytes.items ≡ old.page.bytes.items ++ pages rules form (pen_of old.scanner) parts
  pub pen : pen_of new.scanner ≡ pen_after_blocks (pen_of old.scanner) parts
  pub written : new.written ≡ old.written
  pub over : new.over ≡ (old.over || have_over rules (pen_of old.scanner) parts)
  pub shown : last ≡ last_shown (pen_of old.scanner) parts

pub last_none : (rules : Rules) (form : Form) (text : List ℕ) (old : Output) → HasAddedLast rules form text text old old None
last_none rules form text old = record {
  parts = [];
  cuts = refl;
  permitted = λ is. refl;
  lines = sym (append-nil old.page.bytes.items);
  pen = refl;
  written = refl;
  over = over_none old.over;
  shown = refl;
}

pub last_one : (rules now : Rules) (form : Form) (text rest block after : List ℕ) (old mid new : Output) (k : ℕ) (last own both : Option ℕ) → now ≡ rules → HasAddedLast rules form text rest old mid last
    → blocks (cut_by now) rest ≡ take k rest ∷ blocks (cut_by now) (drop k rest) → k ≤ length rest → ArePermitted form (block ∷ []) → block ≡ take k rest → after ≡ drop k rest
    → Adds now form (block ∷ []) mid new → own ≡ last_of (characters_of (styled (pen_of mid.scanner) block)) → both ≡ option_or own last → HasAddedLast rules form text after old new both
last_one rules now form text rest block after old mid new k last own both e h split within permit b a adds l o =
    let P : Rules → Type 0 = λ n. blocks (cut_by n) rest ≡ take k rest ∷ blocks (cut_by n) (drop k rest) in
    let split_is : blocks (cut_by rules) rest ≡ block ∷ blocks (cut_by rules) after =
    subst P e split ∙ ap₂ (λ (x : List ℕ) (xs : List ℕ). x ∷ blocks (cut_by rules) xs) (sym b) (sym a) in
    let adds_is : Adds rules form (block ∷ []) mid new = subst (λ (n : Rules). Adds n form (block ∷ []) mid new) e adds in
    record {
      parts = h.parts ++ block ∷ [];
      cuts = h.cuts ∙ ap (λ (ps : List (List ℕ)). h.parts ++ ps) split_is ∙ sym (append_assoc h.parts (block ∷ []) (blocks (cut_by rules) after));
      permitted = permit_join form h.parts (block ∷ []) h.permitted permit;
      lines = lines_more rules form old mid new h.parts (block ∷ []) h.lines h.pen adds_is;
      pen = pen_more rules form old mid new h.parts (block ∷ []) h.pen adds_is;
      written = adds_is.written ∙ h.written;
      over = over_more rules form old mid new h.parts (block ∷ []) h.over h.pen adds_is;
      shown = o ∙ ap₂ (λ (a b : Option ℕ). option_or a b) (l ∙ ap (λ (p : Pen). last_of (characters_of (styled p block))) h.pen) h.shown ∙ sym (last_more (pen_of old.scanner) h.parts block);
    }

pub last_all : (rules now : Rules) (form : Form) (is_last : Bool) (text rest : List ℕ) (old mid new : Output) (last : Option ℕ) → now ≡ rules
    → HasAddedLast rules form text rest old mid last → length rest ≡ 0 → new.page.bytes.items ≡ ended_page now.tables is_last last mid.page.bytes.items
    → new.over ≡ mid.over → AddsLast rules form is_last text old new false
last_all rules now form is_last text rest old mid new last same h none ended over =
    let pen = pen_of old.scanner in
    let page = text_page rules form pen text in
    let nothing : blocks (cut_by rules) rest ≡ [] = ap (blocks (cut_by rules)) (nil_from_length rest none) in
    let all : blocks (cut_by rules) text ≡ h.parts = h.cuts ∙ ap (λ (ps : List (List ℕ)). h.parts ++ ps) nothing ∙ append-nil h.parts in
    let lines : mid.page.bytes.items ≡ old.page.bytes.items ++ page =
    h.lines ∙ ap (λ (ps : List (List ℕ)). old.page.bytes.items ++ pages rules form pen ps) (sym all) in
    let shown : last ≡ last_of (shown_text text) =
    h.shown ∙ ap (last_shown pen) (sym all) ∙ ap last_of (shown_whole (cut_by rules) (length text) pen text (omega arith)) in (
      ended ∙ ap (λ (r : Rules). ended_page r.tables is_last last mid.page.bytes.items) same ∙ ap₂ (ended_page rules.tables is_last) shown lines
          ∙ ended-append rules.tables is_last old.page.bytes.items page (shown_text text) (text_end rules form pen text),
      over ∙ h.over ∙ ap (λ (ps : List (List ℕ)). old.over || have_over rules pen ps) (sym all),
    )

pub last_long : (rules now : Rules) (form : Form) (is_last : Bool) (text rest : List ℕ) (old new : Output) (k : ℕ) (last : Option ℕ) → now ≡ rules → HasAddedLast rules form text rest old new last
    → blocks (cut_by now) rest ≡ take k rest ∷ blocks (cut_by now) (drop k rest) → k ≤ length rest → (form.strict ≡ true) × (1048576 < k) → AddsLast rules form is_last text old new true
last_long rules now form is_last text rest old new k last e h split within refused =
    let P : Rules → Type 0 = λ n. blocks (cut_by n) rest ≡ take k rest ∷ blocks (cut_by n) (drop k rest) in (
      refused.0,
      (
        h.parts,
        take k rest,
        blocks (cut_by rules) (drop k rest),
        h.cuts ∙ ap (λ (ps : List (List ℕ)). h.parts ++ ps) (subst P e split),
        h.permitted refused.0,
        omega (arith, length-take-le k rest within, refused.1),
        h.lines,
      ),
    )
