-- The advances of paragraphs that are laid out one after another.
use Rattle.std.proofs.Common.{◌≡◌, ℕ, zero, suc, suc-add, zero-add, ◌+◌, ◌^◌, ◌<◌, nat_lt, Bool, true, false, ◌&&◌, List, [], ◌∷◌, ◌++◌, length, take, drop, replicate, sum, Option, Some, None, refl, sym, ap, ap₂, ◌∙◌, arith, if◌then◌else◌}
use Rattle.std.specs.List.{concat}
use Rattle.std.proofs.lemmas.Bool.{and_from, and_parts, cond-true, lt-ltb, ltb-true}
use Rattle.std.proofs.lemmas.List.{drop-drop, drop-take, drop_at, length-append, length-drop, length-replicate, length-take-le, take-append-drop, take_all, take_at}
use Rattle.std.proofs.lemmas.List.Sums.{sum_by-cons, sum_by-take-drop}
use Rattle.std.proofs.lemmas.Option.{same_Some}
use Rattle.lines.specs.Layouts.{Layout, Rules, HaveRoom, layout_of, with_advances}
use Rattle.lines.specs.Measures.{given_if}
use Rattle.session.specs.Edits.{have_room, room_refusal}
use Rattle.session.specs.Kept.{advance_lists, advances_in, back_advances, first_advances, front_advances, layouts_from, pars_of, AreForEach}
use Rattle.session.specs.declared.edits.EditFault.TheVariants.{ParagraphTooLong}

-- ---- parts of a list of advances

take_less : (k n : ℕ) (xs : List ℕ) → take k (take (k + n) xs) ≡ take k xs
take_less zero n xs = refl
take_less (suc k) n [] = rw suc-add refl
take_less (suc k) n (x ∷ xs) = rw suc-add (ap (λ ys. x ∷ ys) (take_less k n xs))

pub back_back : (m n : ℕ) (advances : Option (List ℕ)) → back_advances n (back_advances m advances) ≡ back_advances (m + n) advances
back_back m n None = refl
back_back m n (Some list) = ap Some (drop-drop n m list)

pub back_none : (advances : Option (List ℕ)) → back_advances 0 advances ≡ advances
back_none None = refl
back_none (Some list) = refl

-- if the first k + n advances are the same, so are the first k and the n after them
front_less : (k n : ℕ) (a b : Option (List ℕ)) → front_advances (k + n) a ≡ front_advances (k + n) b → front_advances k a ≡ front_advances k b
front_less k n None None e = refl
front_less k n None (Some ys) e = absurd (cc e)
front_less k n (Some xs) None e = absurd (cc e)
front_less k n (Some xs) (Some ys) e =
    ap Some (sym (take_less k n xs) ∙ ap (take k) (same_Some (take (k + n) xs) (take (k + n) ys) e) ∙ take_less k n ys)

front_after : (k n : ℕ) (a b : Option (List ℕ)) → front_advances (k + n) a ≡ front_advances (k + n) b
    → front_advances n (back_advances k a) ≡ front_advances n (back_advances k b)
front_after k n None None e = refl
front_after k n None (Some ys) e = absurd (cc e)
front_after k n (Some xs) None e = absurd (cc e)
front_after k n (Some xs) (Some ys) e =
    ap Some (sym (drop-take k n xs) ∙ ap (drop k) (same_Some (take (k + n) xs) (take (k + n) ys) e) ∙ drop-take k n ys)

-- if there is an advance for each character of a text, the same holds for each of its two parts
pub for_front : (first after : List ℕ) (advances : Option (List ℕ)) → AreForEach advances (first ++ after) → AreForEach (front_advances (length first) advances) first
for_front first after None each = tt
for_front first after (Some list) each = length-take-le (length first) list (omega (arith, each, length-append first after))

pub for_back : (first after : List ℕ) (advances : Option (List ℕ)) → AreForEach advances (first ++ after) → AreForEach (back_advances (length first) advances) after
for_back first after None each = tt
for_back first after (Some list) each = omega (arith, length-drop (length first) list, each, length-append first after)

-- ---- layouts

module _ (rules : Rules) (width : ℕ) where
  pub layouts-append : (advances : Option (List ℕ)) (ps qs : List (List ℕ))
      → layouts_from rules width advances (ps ++ qs) ≡ layouts_from rules width advances ps ++ layouts_from rules width (back_advances (length (concat ps)) advances) qs
  layouts-append advances [] qs = ap (λ a. layouts_from rules width a qs) (sym (back_none advances))
  layouts-append advances (p ∷ ps) qs =
      let rest = back_advances (length p) advances in
      let place : back_advances (length (concat ps)) rest ≡ back_advances (length (concat (p ∷ ps))) advances =
      back_back (length p) (length (concat ps)) advances ∙ ap (λ n. back_advances n advances) (sym (length-append p (concat ps))) in
      ap (λ ls. layout_of (with_advances rules (front_advances (length p) advances)) width p ∷ ls)
      (layouts-append rest ps qs ∙ ap (λ a. layouts_from rules width rest ps ++ layouts_from rules width a qs) place)

  -- layouts depend only on the advances of their characters
  pub layouts-same : (a b : Option (List ℕ)) (ps : List (List ℕ)) → front_advances (length (concat ps)) a ≡ front_advances (length (concat ps)) b
      → layouts_from rules width a ps ≡ layouts_from rules width b ps
  layouts-same a b [] e = refl
  layouts-same a b (p ∷ ps) e =
      let n = length (concat ps) in
      let both : front_advances (length p + n) a ≡ front_advances (length p + n) b =
      ap (λ k. front_advances k a) (sym (length-append p (concat ps))) ∙ e ∙ ap (λ k. front_advances k b) (length-append p (concat ps)) in
      ap₂ (λ (l : Layout) (ls : List Layout). l ∷ ls) (ap (λ x. layout_of (with_advances rules x) width p) (front_less (length p) n a b both))
      (layouts-same (back_advances (length p) a) (back_advances (length p) b) ps (front_after (length p) n a b both))

  pub length-layouts : (advances : Option (List ℕ)) (ps : List (List ℕ)) → length (layouts_from rules width advances ps) ≡ length ps
  length-layouts advances [] = refl
  length-layouts advances (p ∷ ps) = omega (arith, length-layouts (back_advances (length p) advances) ps)

  -- the layouts have the paragraphs from which they were made
  pub pars-layouts : (advances : Option (List ℕ)) (ps : List (List ℕ)) → pars_of (layouts_from rules width advances ps) ≡ ps
  pars-layouts advances [] = refl
  pars-layouts advances (p ∷ ps) = ap (λ qs. p ∷ qs) (pars-layouts (back_advances (length p) advances) ps)

  -- the layouts have the advances from which they were made
  listed : (list : List ℕ) (ps : List (List ℕ)) → length list ≡ length (concat ps) → concat (advance_lists (layouts_from rules width (Some list) ps)) ≡ list
  listed [] [] each = refl
  listed (x ∷ list) [] each = absurd (omega (arith, each))
  listed list (p ∷ ps) each =
      ap (λ more. take (length p) list ++ more) (listed (drop (length p) list) ps (omega (arith, each, length-append p (concat ps), length-drop (length p) list)))
      ∙ take-append-drop (length p) list

  pub advances-layouts : (is_measured : Bool) (list : List ℕ) (ps : List (List ℕ)) → AreForEach (given_if is_measured list) (concat ps)
      → advances_in is_measured (layouts_from rules width (given_if is_measured list) ps) ≡ given_if is_measured list
  advances-layouts false list ps each = refl
  advances-layouts true list ps each = ap Some (listed list ps each)

-- ---- the limit: the advances of each paragraph must add up to less than 2^32

-- each paragraph is within the limit if the sum of all advances is
pub sum_fits : (list : List ℕ) (ps : List (List ℕ)) → sum list < 2 ^ 32 → have_room list ps ≡ true
sum_fits list [] few = refl
sum_fits list (p ∷ ps) few =
    let parts : sum (take (length p) list) + sum (drop (length p) list) ≡ sum list = sum_by-take-drop (λ (x : ℕ). x) list (length p) in
    and_from (nat_lt (sum (take (length p) list)) (2 ^ 32)) (have_room (drop (length p) list) ps)
    (lt-ltb (sum (take (length p) list)) (2 ^ 32) (omega (arith, parts, few)))
    (sum_fits (drop (length p) list) ps (omega (arith, parts, few)))

accepted_room : (b : Bool) → (if b then None else Some ParagraphTooLong) ≡ None → b ≡ true
accepted_room true e = refl
accepted_room false e = absurd (cc e)

pub roomy : (list : List ℕ) (ps : List (List ℕ)) → room_refusal (Some list) ps ≡ None → have_room list ps ≡ true
roomy list ps e = accepted_room (have_room list ps) e

pub accepted : (b : Bool) → b ≡ true → (if b then None else Some ParagraphTooLong) ≡ None
accepted b e = cond-true b None (Some ParagraphTooLong) e

-- if the advances of paragraphs are within the limit, so are those of the first one, and those of the others
pub first_room : (advances : Option (List ℕ)) (p : List ℕ) (ps : List (List ℕ)) → room_refusal advances (p ∷ ps) ≡ None → HaveRoom (front_advances (length p) advances)
first_room None p ps e = tt
first_room (Some list) p ps e =
    ltb-true (sum (take (length p) list)) (2 ^ 32) (and_parts (nat_lt (sum (take (length p) list)) (2 ^ 32)) (have_room (drop (length p) list) ps) (roomy list (p ∷ ps) e)).0

pub other_room : (advances : Option (List ℕ)) (p : List ℕ) (ps : List (List ℕ)) → room_refusal advances (p ∷ ps) ≡ None → room_refusal (back_advances (length p) advances) ps ≡ None
other_room None p ps e = refl
other_room (Some list) p ps e =
    accepted (have_room (drop (length p) list) ps)
    (and_parts (nat_lt (sum (take (length p) list)) (2 ^ 32)) (have_room (drop (length p) list) ps) (roomy list (p ∷ ps) e)).1

-- whether paragraphs are within the limit depends only on the advances of their characters
room-same : (xs ys : List ℕ) (ps : List (List ℕ)) → take (length (concat ps)) xs ≡ take (length (concat ps)) ys → have_room xs ps ≡ have_room ys ps
room-same xs ys [] e = refl
room-same xs ys (p ∷ ps) e =
    let n = length (concat ps) in
    let both : take (length p + n) xs ≡ take (length p + n) ys =
    ap (λ k. take k xs) (sym (length-append p (concat ps))) ∙ e ∙ ap (λ k. take k ys) (length-append p (concat ps)) in
    ap₂ (λ (a : Bool) (b : Bool). a && b)
    (ap (λ zs. nat_lt (sum zs) (2 ^ 32)) (sym (take_less (length p) n xs) ∙ ap (take (length p)) both ∙ take_less (length p) n ys))
    (room-same (drop (length p) xs) (drop (length p) ys) ps (sym (drop-take (length p) n xs) ∙ ap (drop (length p)) both ∙ drop-take (length p) n ys))

and_assoc : (a b c : Bool) → (a && (b && c)) ≡ ((a && b) && c)
and_assoc true b c = refl
and_assoc false b c = refl

room-append : (list : List ℕ) (ps qs : List (List ℕ)) → have_room list (ps ++ qs) ≡ (have_room list ps && have_room (drop (length (concat ps)) list) qs)
room-append list [] qs = refl
room-append list (p ∷ ps) qs =
    let rest = drop (length p) list in
    let place : drop (length (concat ps)) rest ≡ drop (length (concat (p ∷ ps))) list =
    drop-drop (length (concat ps)) (length p) list ∙ ap (λ n. drop n list) (sym (length-append p (concat ps))) in
    ap (λ (b : Bool). nat_lt (sum (take (length p) list)) (2 ^ 32) && b) (room-append rest ps qs)
    ∙ and_assoc (nat_lt (sum (take (length p) list)) (2 ^ 32)) (have_room rest ps) (have_room (drop (length (concat ps)) rest) qs)
    ∙ ap (λ l. (nat_lt (sum (take (length p) list)) (2 ^ 32) && have_room rest ps) && have_room l qs) place

-- ---- the middle of a list of advances is replaced

-- ---- the paragraphs before and after those that are replaced
module _ (rules : Rules) (width : ℕ) (left mid right : List (List ℕ)) (new : List (List ℕ)) (front inner back fresh : List ℕ)
    (in_front : length front ≡ length (concat left)) (in_mid : length inner ≡ length (concat mid)) (in_new : length fresh ≡ length (concat new)) where
  abbrev old : List ℕ
  old = front ++ (inner ++ back)

  abbrev after : List ℕ
  after = front ++ (fresh ++ back)

  before_right : drop (length (concat mid)) (drop (length (concat left)) old) ≡ back
  before_right =
      ap (drop (length (concat mid))) (drop_at front (inner ++ back) (length (concat left)) in_front)
      ∙ drop_at inner back (length (concat mid)) in_mid

  after_right : drop (length (concat new)) (drop (length (concat left)) after) ≡ back
  after_right =
      ap (drop (length (concat new))) (drop_at front (fresh ++ back) (length (concat left)) in_front)
      ∙ drop_at fresh back (length (concat new)) in_new

  same_front : take (length (concat left)) after ≡ take (length (concat left)) old
  same_front = take_at front (fresh ++ back) (length (concat left)) in_front ∙ sym (take_at front (inner ++ back) (length (concat left)) in_front)

  same_middle : take (length (concat new)) (drop (length (concat left)) after) ≡ take (length (concat new)) fresh
  same_middle =
      ap (take (length (concat new))) (drop_at front (fresh ++ back) (length (concat left)) in_front)
      ∙ take_at fresh back (length (concat new)) in_new
      ∙ sym (take_all (length (concat new)) fresh (omega (arith, in_new)))

  -- the layouts of the new text are the old layouts before and after the new paragraphs, and the fresh
  -- layouts of the new paragraphs
  pub layouts-middle : layouts_from rules width (Some after) (left ++ (new ++ right))
      ≡ layouts_from rules width (Some old) left ++ (layouts_from rules width (Some fresh) new ++ layouts_from rules width (Some back) right)
  layouts-middle =
      layouts-append rules width (Some after) left (new ++ right)
      ∙ ap₂ (λ (xs ys : List Layout). xs ++ ys) (layouts-same rules width (Some after) (Some old) left (ap Some same_front))
      (layouts-append rules width (Some (drop (length (concat left)) after)) new right
      ∙ ap₂ (λ (xs ys : List Layout). xs ++ ys)
      (layouts-same rules width (Some (drop (length (concat left)) after)) (Some fresh) new (ap Some same_middle))
      (ap (λ l. layouts_from rules width (Some l) right) after_right))

  pub layouts-whole : layouts_from rules width (Some old) (left ++ (mid ++ right))
      ≡ layouts_from rules width (Some old) left ++ (layouts_from rules width (Some (drop (length (concat left)) old)) mid ++ layouts_from rules width (Some back) right)
  layouts-whole =
      layouts-append rules width (Some old) left (mid ++ right)
      ∙ ap (λ xs. layouts_from rules width (Some old) left ++ xs)
      (layouts-append rules width (Some (drop (length (concat left)) old)) mid right
      ∙ ap (λ l. layouts_from rules width (Some (drop (length (concat left)) old)) mid ++ layouts_from rules width (Some l) right) before_right)

  -- if the old advances are within the limit, the new ones are if and only if those in the middle are
  pub room-middle : have_room old (left ++ (mid ++ right)) ≡ true → have_room after (left ++ (new ++ right)) ≡ have_room fresh new
  room-middle has =
      let outer = and_parts (have_room old left) (have_room (drop (length (concat left)) old) (mid ++ right)) (sym (room-append old left (mid ++ right)) ∙ has) in
      let inside = and_parts (have_room (drop (length (concat left)) old) mid) (have_room (drop (length (concat mid)) (drop (length (concat left)) old)) right)
      (sym (room-append (drop (length (concat left)) old) mid right) ∙ outer.1) in
      let last : have_room back right ≡ true = ap (λ l. have_room l right) (sym before_right) ∙ inside.1 in
      room-append after left (new ++ right)
      ∙ ap (λ (b : Bool). b && have_room (drop (length (concat left)) after) (new ++ right)) (room-same after old left same_front ∙ outer.0)
      ∙ room-append (drop (length (concat left)) after) new right
      ∙ ap₂ (λ (a b : Bool). a && b) (room-same (drop (length (concat left)) after) fresh new same_middle) (ap (λ l. have_room l right) after_right ∙ last)
      ∙ and_true (have_room fresh new)
    where
      and_true : (b : Bool) → (b && true) ≡ b
      and_true true = refl
      and_true false = refl

-- the opening advances of a prefix of a text are a prefix of the text's opening advances
pub first_front : (is_measured : Bool) (first after : List ℕ) → front_advances (length first) (first_advances is_measured (length (first ++ after))) ≡ first_advances is_measured (length first)
first_front false first after = refl
first_front true first after =
    let n : length (first ++ after) ≡ length first + length after = length-append first after in
    ap Some (ap (λ k. take (length first) (replicate {A = ℕ} k 0)) n ∙ zeros_front (length first) (length after))
  where
    zeros_front : (k n : ℕ) → take {A = ℕ} k (replicate (k + n) 0) ≡ replicate k 0
    zeros_front zero n = refl
    zeros_front (suc k) n = rw suc-add (ap (λ xs. 0 ∷ xs) (zeros_front k n))

pub first_back : (is_measured : Bool) (first after : List ℕ) → back_advances (length first) (first_advances is_measured (length (first ++ after))) ≡ first_advances is_measured (length after)
first_back false first after = refl
first_back true first after =
    let n : length (first ++ after) ≡ length first + length after = length-append first after in
    ap Some (ap (λ k. drop (length first) (replicate {A = ℕ} k 0)) n ∙ zeros_back (length first) (length after))
  where
    zeros_back : (k n : ℕ) → drop {A = ℕ} k (replicate (k + n) 0) ≡ replicate n 0
    zeros_back zero n = rw zero-add refl
    zeros_back (suc k) n = rw suc-add (zeros_back k n)

pub zeros_sum : (n : ℕ) → sum (replicate n 0) ≡ 0
zeros_sum zero = refl
zeros_sum (suc n) = omega (arith, zeros_sum n, sum_by-cons (λ (x : ℕ). x) 0 (replicate n 0))

pub first_room_all : (is_measured : Bool) (n : ℕ) → HaveRoom (first_advances is_measured n)
first_room_all false n = tt
first_room_all true n = omega (arith, zeros_sum n)

pub first_each : (is_measured : Bool) (text : List ℕ) → AreForEach (first_advances is_measured (length text)) text
first_each false text = tt
first_each true text = length-replicate (length text) 0

pub first_fits : (is_measured : Bool) (n : ℕ) (ps : List (List ℕ)) → room_refusal (first_advances is_measured n) ps ≡ None
first_fits false n ps = refl
first_fits true n ps = accepted (have_room (replicate n 0) ps) (sum_fits (replicate n 0) ps (omega (arith, zeros_sum n)))
