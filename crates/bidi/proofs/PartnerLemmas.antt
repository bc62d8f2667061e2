-- The partners of brackets, and the pass that finds them.
use Rattle.std.proofs.Common.{◌≡◌, ◌≢◌, ℕ, zero, suc, ◌+◌, ◌<◌, ◌≤◌, ◌⊎◌, ◌==◌, nat_lt, nat_le, min, max, Bool, true, false, ◌&&◌, ◌||◌, List, ◌++◌, ◌∷◌, [], map, length, replicate, get_or, Option, Some, None, unwrap_or, if◌then◌else◌, refl, sym, ap, subst, ◌∙◌, inl, inr, arith}
use Rattle.std.specs.List.{list_any, range_with_len}
use Rattle.std.proofs.lemmas.Bool.{cond-true, cond-false, cases_Bool, cases_eq, cases_lt, and_from, and_left, and_right, both_ways, eq-eqb, ne_eqb, le-leb, le-ltb, lt-ltb, or_left, or_right, or_from}
use Rattle.std.proofs.lemmas.List.{map-append, take-map, get_or-set_same, get_or-set_other, length-set}
use Rattle.std.proofs.lemmas.List.Folds.{list_any-append}
use Rattle.std.proofs.lemmas.List.FromFn.{fill_by_all, length-range_with_len, length-map-range_with_len, get_or-map-range_with_len}
use Rattle.std.proofs.lemmas.Simd.{splat_is_map}
use Rattle.std.proofs.Math.ListN.{set}
use Rattle.ucd.specs.declared.bidi_class.BidiClass.{BidiClass}
use Rattle.ucd.specs.declared.bracket.Bracket.{Bracket}
use Rattle.ucd.specs.Least.{least}
use Rattle.bidi.specs.declared.brackets.Opener.{Opener}
use Rattle.bidi.specs.Brackets.{Pair, closer_of, is_full, is_live, pairs_of}
use Rattle.bidi.specs.BracketPasses.{ArePartners, closer_by, is_open, paired_by, partners_of}
use Rattle.bidi.specs.BracketSteps.{partner_in}
use Rattle.bidi.specs.Closers.{closers_of, index_of, left_by, newest}
use Rattle.bidi.proofs.LeastLemmas.{least_found, least_none, least_within}
use Rattle.bidi.proofs.PairLemmas.{Walks, Walks-start, Walks-other, Walks-open, Walks-close, all-end, all-full, before, cases_Option, cases_step, closed_at, closer_of-at, closer_of-past, closes, covers, covers-from, full, item_of, live, live_parts, lives, lives-no, lives-yes, match_for, match_held, match_parts, opens, opens_closes_none, or-no, pairs-no, pairs-none, pairs-some, place-below, with_pair}

-- the first of two options that is not `None`
abbrev pub first_some : Option ℕ → Option ℕ → Option ℕ
first_some (Some y) other = Some y
first_some None other = other

abbrev pub partner_of_pair : ℕ → ℕ → ℕ → Option ℕ
partner_of_pair i j x = if i == x then Some j else (if j == x then Some i else None)

partner_in-with : (pairs : List Pair) (i j x : ℕ) → partner_in (with_pair pairs i j) x ≡ first_some (partner_in pairs x) (partner_of_pair i j x)
partner_in-with [] i j x = refl
partner_in-with (p ∷ pairs) i j x =
    let rest = partner_in-with pairs i j x in
    elim (cases_Bool (p.opener == x)) [
      | inl same ↦
          cond-true (p.opener == x) (Some p.closer) _ same
          ∙ sym (ap (λ o. first_some o (partner_of_pair i j x)) (cond-true (p.opener == x) (Some p.closer) (if p.closer == x then Some p.opener else partner_in pairs x) same))
      | inr other ↦ elim (cases_Bool (p.closer == x)) [
        | inl same ↦
            cond-false (p.opener == x) (Some p.closer) _ other ∙ cond-true (p.closer == x) (Some p.opener) _ same
            ∙ sym (ap (λ o. first_some o (partner_of_pair i j x))
            (cond-false (p.opener == x) (Some p.closer) (if p.closer == x then Some p.opener else partner_in pairs x) other ∙ cond-true (p.closer == x) (Some p.opener) (partner_in pairs x) same))
        | inr neither ↦
            cond-false (p.opener == x) (Some p.closer) _ other ∙ cond-false (p.closer == x) (Some p.opener) _ neither ∙ rest
            ∙ sym (ap (λ o. first_some o (partner_of_pair i j x))
            (cond-false (p.opener == x) (Some p.closer) (if p.closer == x then Some p.opener else partner_in pairs x) other ∙ cond-false (p.closer == x) (Some p.opener) (partner_in pairs x) neither))
      ]
    ]

first_some-none : (o : Option ℕ) → first_some o None ≡ o
first_some-none (Some y) = refl
first_some-none None = refl

-- appending a pair to the list makes its brackets partners if they had none, and changes no other partner
partner-opener : (pairs : List Pair) (i j : ℕ) → partner_in pairs i ≡ None → partner_in (with_pair pairs i j) i ≡ Some j
partner-opener pairs i j none =
    partner_in-with pairs i j i ∙ ap (λ o. first_some o (partner_of_pair i j i)) none ∙ cond-true (i == i) (Some j) (if j == i then Some i else None) (eq-eqb i i refl)

partner-closer : (pairs : List Pair) (i j : ℕ) → i ≢ j → partner_in pairs j ≡ None → partner_in (with_pair pairs i j) j ≡ Some i
partner-closer pairs i j ne none =
    partner_in-with pairs i j j ∙ ap (λ o. first_some o (partner_of_pair i j j)) none ∙ cond-false (i == j) (Some j) (if j == j then Some i else None) (ne_eqb i j ne)
    ∙ cond-true (j == j) (Some i) None (eq-eqb j j refl)

partner-past : (pairs : List Pair) (i j x : ℕ) → i ≢ x → j ≢ x → partner_in (with_pair pairs i j) x ≡ partner_in pairs x
partner-past pairs i j x ne other =
    partner_in-with pairs i j x
    ∙ ap (first_some (partner_in pairs x)) (cond-false (i == x) (Some j) (if j == x then Some i else None) (ne_eqb i x ne) ∙ cond-false (j == x) (Some i) None (ne_eqb j x other))
    ∙ first_some-none (partner_in pairs x)

-- the list of partners has an item for each character: its partner, or the length if it has none
pub length-partners_of : (pairs : List Pair) (len : ℕ) → length (partners_of pairs len) ≡ len
length-partners_of pairs len = length-map-range_with_len (λ k. unwrap_or (partner_in pairs k) len) 0 len

pub partners_of-at : (pairs : List Pair) (len k d : ℕ) → k < len → get_or (partners_of pairs len) k d ≡ unwrap_or (partner_in pairs k) len
partners_of-at pairs len k d within = get_or-map-range_with_len (λ k. unwrap_or (partner_in pairs k) len) 0 len k k d within (omega arith)

partners_of-with : (pairs : List Pair) (len i j : ℕ) → i < len → j < len → i ≢ j → partner_in pairs i ≡ None → partner_in pairs j ≡ None
    → partners_of (with_pair pairs i j) len ≡ set (set (partners_of pairs len) i j) j i
partners_of-with pairs len i j within inside ne free other =
    let old = partners_of pairs len in
    let size : length old ≡ len = length-partners_of pairs len in
    let once : length (set old i j) ≡ len = length-set old i j ∙ size in
    sym (fill_by_all (λ x. unwrap_or (partner_in (with_pair pairs i j) x) len) (set (set old i j) j i) len 0 (length-set (set old i j) j i ∙ once)
    (λ x below. elim (cases_eq x j) [
      | inl e ↦
          rw e (get_or-set_same (set old i j) j i 0 (omega arith) ∙ sym (ap (λ o. unwrap_or o len) (partner-closer pairs i j ne other)))
      | inr past ↦ get_or-set_other (set old i j) j x i 0 past ∙ elim (cases_eq x i) [
        | inl e ↦ rw e (get_or-set_same old i j 0 (omega arith) ∙ sym (ap (λ o. unwrap_or o len) (partner-opener pairs i j free)))
        | inr gone ↦
            get_or-set_other old i x j 0 gone ∙ partners_of-at pairs len x 0 below
            ∙ sym (ap (λ o. unwrap_or o len) (partner-past pairs i j x (λ e. gone (sym e)) (λ e. past (sym e))))
      ]
    ]))

module _ (look : ℕ → Option Bracket) (text : List ℕ) (types : List BidiClass) where
  -- the partner of an opening bracket is its closing bracket, and the other way round
  pub record ArePartnered (pairs : List Pair) (k : ℕ) : Type 0 where
    pub below : (x y : ℕ) → partner_in pairs x ≡ Some y → (x < k) × (y < k)
    pub sides : (x y : ℕ) → partner_in pairs x ≡ Some y
        → ((x < y) × (closer_of pairs x ≡ Some y)) ⊎ ((y < x) × (closes look text types x ≡ true) × (closer_of pairs y ≡ Some x))
    pub openers : (x y : ℕ) → closer_of pairs x ≡ Some y → (partner_in pairs x ≡ Some y) × (x < y)

  free_opener : (pairs : List Pair) (k i : ℕ) → ArePartnered pairs k → live look text types pairs i ≡ true → partner_in pairs i ≡ None
  free_opener pairs k i now alive =
      let parts = live_parts look text types pairs i alive in
      elim (cases_Option (partner_in pairs i)) [
        | inl none ↦ none
        | inr w ↦ absurd (elim (now.sides i w.0 w.1) [
          | inl opener ↦ both_ways (covers pairs i) parts.1 (covers-from pairs i w.0 i opener.1 (omega arith) opener.0)
          | inr closer ↦ both_ways (closes look text types i) (opens_closes_none look text types i parts.0) closer.1
        ])
      ]

  free_closer : (pairs : List Pair) (k : ℕ) → ArePartnered pairs k → partner_in pairs k ≡ None
  free_closer pairs k now =
      elim (cases_Option (partner_in pairs k)) [
        | inl none ↦ none
        | inr w ↦ absurd (omega (arith, (now.below k w.0 w.1).0))
      ]

  free_closer_of : (pairs : List Pair) (k i : ℕ) → ArePartnered pairs k → partner_in pairs i ≡ None → closer_of pairs i ≡ None
  free_closer_of pairs k i now free =
      elim (cases_Option (closer_of pairs i)) [
        | inl none ↦ none
        | inr w ↦ let e = sym free ∙ (now.openers i w.0 w.1).0 in absurd (cc)
      ]

  ArePartnered-with : (pairs : List Pair) (k i : ℕ) → ArePartnered pairs k → live look text types pairs i ≡ true → i < k → closes look text types k ≡ true
      → ArePartnered (with_pair pairs i k) (suc k)
  ArePartnered-with pairs k i now alive order closing =
      let ne : i ≢ k = omega arith in
      let free = free_opener pairs k i now alive in
      let none = free_closer_of pairs k i now free in
      let at_i = partner-opener pairs i k free in
      let at_k = partner-closer pairs i k ne (free_closer pairs k now) in
      let closer = closer_of-at pairs i k none in
      record {
        below = λ x y e. elim (cases_eq i x) [
          | inl same ↦
              let f : Some k ≡ Some y = sym at_i ∙ ap (partner_in (with_pair pairs i k)) same ∙ e in
              let g : k ≡ y = cc in
              (omega arith, omega arith)
          | inr past ↦ elim (cases_eq k x) [
            | inl same ↦
                let f : Some i ≡ Some y = sym at_k ∙ ap (partner_in (with_pair pairs i k)) same ∙ e in
                let g : i ≡ y = cc in
                (omega arith, omega arith)
            | inr other ↦
                let old = now.below x y (sym (partner-past pairs i k x past other) ∙ e) in
                (omega (arith, old.0), omega (arith, old.1))
          ]
        ];
        sides = λ x y e. elim (cases_eq i x) [
          | inl same ↦
              let f : Some k ≡ Some y = sym at_i ∙ ap (partner_in (with_pair pairs i k)) same ∙ e in
              let g : k ≡ y = cc in
              inl (omega arith, ap (closer_of (with_pair pairs i k)) (sym same) ∙ closer ∙ ap Some g)
          | inr past ↦ elim (cases_eq k x) [
            | inl same ↦
                let f : Some i ≡ Some y = sym at_k ∙ ap (partner_in (with_pair pairs i k)) same ∙ e in
                let g : i ≡ y = cc in
                inr (omega arith, ap (closes look text types) (sym same) ∙ closing, ap (closer_of (with_pair pairs i k)) (sym g) ∙ closer ∙ ap Some same)
            | inr other ↦ elim (now.sides x y (sym (partner-past pairs i k x past other) ∙ e)) [
              | inl opener ↦ inl (opener.0, closer_of-past pairs i k x past ∙ opener.1)
              | inr old ↦ inr (
                old.0,
                old.1,
                elim (cases_eq i y) [
                  | inl same ↦ let f = sym none ∙ ap (closer_of pairs) same ∙ old.2 in absurd (cc)
                  | inr apart ↦ closer_of-past pairs i k y apart ∙ old.2
                ],
              )
            ]
          ]
        ];
        openers = λ x y e. elim (cases_eq i x) [
          | inl same ↦
              let f : Some k ≡ Some y = sym closer ∙ ap (closer_of (with_pair pairs i k)) same ∙ e in
              let g : k ≡ y = cc in
              (ap (partner_in (with_pair pairs i k)) (sym same) ∙ at_i ∙ f, omega arith)
          | inr past ↦
              let old = now.openers x y (sym (closer_of-past pairs i k x past) ∙ e) in
              let low = (now.below x y old.0).0 in
              (partner-past pairs i k x past (omega arith) ∙ old.0, old.1)
        ];
      }

  pub ArePartnered-before : (k : ℕ) → ArePartnered (before look text types k) k
  ArePartnered-before zero = record { below = λ x y e. absurd (cc); sides = λ x y e. absurd (cc); openers = λ x y e. absurd (cc) }
  ArePartnered-before (suc k) =
      let now = ArePartnered-before k in
      elim (cases_step look text types k) [
        | inl same ↦ rw same (record {
          below = λ x y e. let old = now.below x y e in (omega (arith, old.0), omega (arith, old.1));
          sides = now.sides;
          openers = now.openers;
        })
        | inr w ↦
            let parts = match_parts look text types k w.0 w.2 in
            rw (pairs-some look text types k w.0 w.1 w.2) (ArePartnered-with (before look text types k) k w.0 now parts.1 parts.0 w.1)
      ]

  -- the closing bracket that is read from the list of partners is that of the pair
  closer_by-some : (pairs : List Pair) (len k : ℕ) → ArePartnered pairs k → k ≤ len → (a : ℕ) → a < len
      → closer_by (partners_of pairs len) a ≡ closer_of pairs a
  closer_by-some pairs len k now within a below =
      let size = length-partners_of pairs len in
      let at = partners_of-at pairs len a 0 below in
      let is : closer_by (partners_of pairs len) a
      ≡ (if nat_lt a (unwrap_or (partner_in pairs a) len) && nat_lt (unwrap_or (partner_in pairs a) len) len then Some (unwrap_or (partner_in pairs a) len) else None) =
      ap (λ n. if nat_lt a (get_or (partners_of pairs len) a 0) && nat_lt (get_or (partners_of pairs len) a 0) n then Some (get_or (partners_of pairs len) a 0) else None) size
      ∙ ap (λ p. if nat_lt a p && nat_lt p len then Some p else None) at in
      is ∙ elim (cases_Option (partner_in pairs a)) [
        | inl none ↦
            ap (λ o. if nat_lt a (unwrap_or o len) && nat_lt (unwrap_or o len) len then Some (unwrap_or o len) else None) none
            ∙ cond-false (nat_lt a len && nat_lt len len) (Some len) None (and_right (nat_lt a len) (nat_lt len len) (le-ltb len len (omega arith)))
            ∙ sym (free_closer_of pairs k a now none)
        | inr w ↦
            let low = (now.below a w.0 w.1).1 in
            ap (λ o. if nat_lt a (unwrap_or o len) && nat_lt (unwrap_or o len) len then Some (unwrap_or o len) else None) w.1
            ∙ elim (now.sides a w.0 w.1) [
              | inl opener ↦
                  cond-true (nat_lt a w.0 && nat_lt w.0 len) (Some w.0) None (and_from (nat_lt a w.0) (nat_lt w.0 len) (lt-ltb a w.0 opener.0) (lt-ltb w.0 len (omega arith)))
                  ∙ sym opener.1
              | inr closer ↦
                  let order = closer.0 in
                  cond-false (nat_lt a w.0 && nat_lt w.0 len) (Some w.0) None (and_left (nat_lt a w.0) (nat_lt w.0 len) (le-ltb a w.0 (omega arith)))
                  ∙ sym (elim (cases_Option (closer_of pairs a)) [
                    | inl none ↦ none
                    | inr v ↦
                        let old = now.openers a v.0 v.1 in
                        let f : Some w.0 ≡ Some v.0 = sym w.1 ∙ old.0 in
                        let g : w.0 ≡ v.0 = cc in
                        absurd (omega (arith, old.1))
                  ])
            ]
      ]

  pub closer_by-pairs_of : (a : ℕ) → a < length types → closer_by (partners_of (pairs_of look text types) (length types)) a ≡ closer_of (pairs_of look text types) a
  closer_by-pairs_of a below =
      let end = unwrap_or (least (is_full look text types) 0 (length types)) (length types) in
      closer_by-some (before look text types end) (length types) end (ArePartnered-before end)
      (least_within (is_full look text types) 0 (length types) (length types) (omega arith)) a below

  -- the partner of a bracket is in the sequence, and the later of the two brackets closes the earlier one
  pub record IsPartner (k j : ℕ) : Type 0 where
    pub within : j < length types
    pub closer : closer_of (pairs_of look text types) (min k j) ≡ Some (max k j)

  pub partner-is : (k j : ℕ) → partner_in (pairs_of look text types) k ≡ Some j → IsPartner k j
  partner-is k j e =
      let end = unwrap_or (least (is_full look text types) 0 (length types)) (length types) in
      let now = ArePartnered-before end in
      let low = least_within (is_full look text types) 0 (length types) (length types) (omega arith) in
      let pairs = pairs_of look text types in
      record {
        within = omega (arith, (now.below k j e).1);
        closer = elim (now.sides k j e) [
          | inl opener ↦
              let order = opener.0 in
              let a : min k j ≡ k = omega arith in
              let b : max k j ≡ j = omega arith in
              ap (closer_of pairs) a ∙ opener.1 ∙ ap Some (sym b)
          | inr closer ↦
              let order = closer.0 in
              let a : min k j ≡ j = omega arith in
              let b : max k j ≡ k = omega arith in
              ap (closer_of pairs) a ∙ closer.2 ∙ ap Some (sym b)
        ];
      }

  -- The state of the pass after k characters: the stack holds the live opening brackets, and the list the partners.
  pub record Pairing (k : ℕ) (openers : List Opener) (partners : List ℕ) : Type 0 where
    pub walks : Walks look text types k (map (λ (o : Opener). o.index) openers) openers (closers_of (before look text types k) (length types))
    pub partners_are : partners ≡ partners_of (before look text types k) (length types)

  pub Pairing-start : (partners : List ℕ) → partners ≡ partners_of [] (length types) → Pairing 0 [] partners
  Pairing-start partners are = record { walks = Walks-start look text types; partners_are = are }

  -- the program counts by `k + 1`, and the definition by `suc k`
  settled : (k : ℕ) (openers : List Opener) (partners closers : List ℕ) → Walks look text types (suc k) (map (λ (o : Opener). o.index) openers) openers closers
      → partners ≡ partners_of (before look text types (suc k)) (length types) → Pairing (k + 1) openers partners
  settled k openers partners closers walks are =
      let e : suc k ≡ k + 1 = omega arith in
      subst (λ n. Pairing n openers partners) e (record {
        walks = subst (Walks look text types (suc k) (map (λ (o : Opener). o.index) openers) openers) walks.found walks;
        partners_are = are;
      })

  pub Pairing-other : (k : ℕ) (openers : List Opener) (partners : List ℕ) → opens look text types k ≡ false → closes look text types k ≡ false
      → Pairing k openers partners → Pairing (k + 1) openers partners
  Pairing-other k openers partners other none now =
      settled k openers partners (closers_of (before look text types k) (length types))
      (Walks-other look text types k (map (λ (o : Opener). o.index) openers) openers (closers_of (before look text types k) (length types)) other none now.walks)
      (now.partners_are ∙ ap (λ l. partners_of l (length types)) (sym (pairs-no look text types k none)))

  pub Pairing-open : (k : ℕ) (openers : List Opener) (partners : List ℕ) (bracket : Bracket) (opener : Opener) → opener.index ≡ k
      → opens look text types k ≡ true → look (get_or text k 0) ≡ Some bracket → bracket.pair ≡ opener.pair → length openers < 63
      → Pairing k openers partners → Pairing (k + 1) (openers ++ opener ∷ []) partners
  Pairing-open k openers partners bracket opener here opening is number room now =
      let places : map (λ (o : Opener). o.index) openers ++ k ∷ [] ≡ map (λ (o : Opener). o.index) (openers ++ opener ∷ []) =
      ap (λ i. map (λ (o : Opener). o.index) openers ++ i ∷ []) (sym here) ∙ sym (map-append (λ (o : Opener). o.index) openers (opener ∷ [])) in
      settled k (openers ++ opener ∷ []) partners (closers_of (before look text types k) (length types))
      (subst (λ ps. Walks look text types (suc k) ps (openers ++ opener ∷ []) (closers_of (before look text types k) (length types))) places
      (Walks-open look text types k (map (λ (o : Opener). o.index) openers) openers (closers_of (before look text types k) (length types)) bracket opener opening is number room now.walks))
      (now.partners_are ∙ ap (λ l. partners_of l (length types)) (sym (pairs-no look text types k (opens_closes_none look text types k opening))))

  left_places : (found : Option ℕ) (openers : List Opener) → left_by found (map (λ (o : Opener). o.index) openers) ≡ map (λ (o : Opener). o.index) (left_by found openers)
  left_places None openers = refl
  left_places (Some m) openers = take-map (λ (o : Opener). o.index) m openers

  partners-closed : (k : ℕ) (openers : List Opener) (partners : List ℕ) (found : Option ℕ) → newest openers (get_or text k 0) ≡ found → k < length types → closes look text types k ≡ true
      → Pairing k openers partners → paired_by found openers partners k ≡ partners_of (before look text types (suc k)) (length types)
  partners-closed k openers partners None e within closing now =
      let places = map (λ (o : Opener). o.index) openers in
      let closers = closers_of (before look text types k) (length types) in
      now.partners_are ∙ ap (λ l. partners_of l (length types))
      (sym (pairs-none look text types k closing (match_held look text types k places openers closers now.walks ∙ ap (item_of places) e)))
  partners-closed k openers partners (Some m) e within closing now =
      let places = map (λ (o : Opener). o.index) openers in
      let closers = closers_of (before look text types k) (length types) in
      let i = get_or places m 0 in
      let found : match_for look text types k ≡ Some i = match_held look text types k places openers closers now.walks ∙ ap (item_of places) e in
      let parts = match_parts look text types k i found in
      let order = parts.0 in
      let old = ArePartnered-before k in
      ap (λ l. set (set l i k) k i) now.partners_are
      ∙ sym (partners_of-with (before look text types k) (length types) i k (omega arith) within (omega arith)
      (free_opener (before look text types k) k i old parts.1) (free_closer (before look text types k) k old))
      ∙ ap (λ l. partners_of l (length types)) (sym (pairs-some look text types k i closing found))

  pub Pairing-close : (k : ℕ) (openers : List Opener) (partners : List ℕ) (c : ℕ) → get_or text k 0 ≡ c → k < length types → closes look text types k ≡ true
      → Pairing k openers partners → Pairing (k + 1) (left_by (newest openers c) openers) (paired_by (newest openers c) openers partners k)
  Pairing-close k openers partners c is within closing now =
      let found = newest openers c in
      let places = map (λ (o : Opener). o.index) openers in
      let closers = closers_of (before look text types k) (length types) in
      settled k (left_by found openers) (paired_by found openers partners k) (closed_at found places closers k)
      (subst (λ ps. Walks look text types (suc k) ps (left_by found openers) (closed_at found places closers k)) (left_places found openers)
      (Walks-close look text types k places openers closers c is within closing now.walks))
      (partners-closed k openers partners found (ap (newest openers) is) within closing now)

  -- the brackets on the stack are before k, which is within the list
  pub index-below : (k m : ℕ) (openers : List Opener) (partners : List ℕ) → Pairing k openers partners → m < length openers → index_of openers m < k
  index-below k m openers partners now h =
      (place-below look text types k (map (λ (o : Opener). o.index) openers) openers (closers_of (before look text types k) (length types)) now.walks m h).0

  pub length-partners : (k : ℕ) (openers : List Opener) (partners : List ℕ) → Pairing k openers partners → length partners ≡ length types
  length-partners k openers partners now = ap length now.partners_are ∙ length-partners_of (before look text types k) (length types)

  -- the opening bracket at x is on the stack if and only if it is live
  open-map : (openers : List Opener) (x : ℕ) → is_open openers x ≡ list_any (λ i. i == x) (map (λ (o : Opener). o.index) openers)
  open-map [] x = refl
  open-map (o ∷ openers) x = ap (λ b. (o.index == x) || b) (open-map openers x)

  below-more : (x k : ℕ) → k ≢ x → nat_lt x k ≡ nat_lt x (suc k)
  below-more x k ne =
      elim (cases_lt x k) [
        | inl below ↦ lt-ltb x k below ∙ sym (lt-ltb x (suc k) (omega arith))
        | inr above ↦ le-ltb x k above ∙ sym (le-ltb x (suc k) (omega arith))
      ]

  and_true_left : (a b : Bool) → a ≡ true → (a && b) ≡ b
  and_true_left true b e = refl
  and_true_left false b e = absurd (cc)

  any-live : (test : ℕ → Bool) (k x : ℕ) → list_any (λ i. i == x) (lives test k) ≡ (nat_lt x k && test x)
  any-live test zero x = sym (and_left (nat_lt x 0) (test x) (le-ltb x 0 (omega arith)))
  any-live test (suc k) x =
      let old = any-live test k x in
      elim (cases_eq k x) [
        | inl same ↦ elim (cases_Bool (test k)) [
          | inl passed ↦
              ap (list_any (λ i. i == x)) (lives-yes test k passed) ∙ list_any-append (λ i. i == x) (lives test k) (k ∷ [])
              ∙ or_right (list_any (λ i. i == x) (lives test k)) ((k == x) || false) (or_left (k == x) false (eq-eqb k x same))
              ∙ sym (and_from (nat_lt x (suc k)) (test x) (lt-ltb x (suc k) (omega arith)) (ap test (sym same) ∙ passed))
          | inr failed ↦
              ap (list_any (λ i. i == x)) (lives-no test k failed) ∙ old
              ∙ and_right (nat_lt x k) (test x) (ap test (sym same) ∙ failed) ∙ sym (and_right (nat_lt x (suc k)) (test x) (ap test (sym same) ∙ failed))
        ]
        | inr ne ↦
            let other : list_any (λ i. i == x) (lives test (suc k)) ≡ list_any (λ i. i == x) (lives test k) =
            elim (cases_Bool (test k)) [
              | inl passed ↦
                  ap (list_any (λ i. i == x)) (lives-yes test k passed) ∙ list_any-append (λ i. i == x) (lives test k) (k ∷ [])
                  ∙ or-no (list_any (λ i. i == x) (lives test k)) ((k == x) || false) (or_from (k == x) false (ne_eqb k x ne) refl)
              | inr failed ↦ ap (list_any (λ i. i == x)) (lives-no test k failed)
            ] in
            other ∙ old ∙ ap (λ b. b && test x) (below-more x k ne)
      ]

  pub openers-live : (k x : ℕ) (openers : List Opener) (partners : List ℕ) → Pairing k openers partners → x < k
      → is_open openers x ≡ is_live look text types (before look text types k) x
  openers-live k x openers partners now below =
      open-map openers x ∙ ap (list_any (λ i. i == x)) now.walks.held ∙ any-live (live look text types (before look text types k)) k x
      ∙ and_true_left (nat_lt x k) (live look text types (before look text types k) x) (lt-ltb x k below)

  -- pairing stops at an opening bracket if 63 are on the stack
  pub Pairing-full : (k : ℕ) (openers : List Opener) (partners : List ℕ) → k < length types → opens look text types k ≡ true → 63 ≤ length openers → Pairing k openers partners
      → ArePartners look text types openers partners (Some k)
  Pairing-full k openers partners within opening whole now =
      let places = map (λ (o : Opener). o.index) openers in
      let closers = closers_of (before look text types k) (length types) in
      record {
        partners_are = now.partners_are ∙ ap (λ l. partners_of l (length types)) (sym (all-full look text types k places openers closers within opening whole now.walks));
        full_is = sym (least_found (is_full look text types) 0 (length types) k (omega arith) (omega arith)
            (full look text types k places openers closers now.walks ∙ and_from (opens look text types k) (nat_le 63 (length openers)) opening (le-leb 63 (length openers) whole))
            (λ j from to. now.walks.room j to));
        openers_are = λ f x e below.
            let same : k ≡ f = cc in
            let low : x < k = omega arith in
            openers-live k x openers partners now low ∙ ap (λ n. is_live look text types (before look text types n) x) same;
      }

  -- if the pass reaches the end, it has found all pairs
  pub Pairing-end : (k : ℕ) (openers : List Opener) (partners : List ℕ) → k ≡ length types → Pairing k openers partners → ArePartners look text types openers partners None
  Pairing-end k openers partners whole now =
      let places = map (λ (o : Opener). o.index) openers in
      let closers = closers_of (before look text types k) (length types) in
      record {
        partners_are = now.partners_are ∙ ap (λ l. partners_of l (length types)) (sym (all-end look text types k places openers closers whole now.walks));
        full_is = sym (least_none (is_full look text types) 0 (length types) (λ j from to. now.walks.room j (omega arith)));
        openers_are = λ f x e below. absurd (cc);
      }

pub length-paired : (found : Option ℕ) (openers : List Opener) (partners : List ℕ) (k : ℕ) → length (paired_by found openers partners k) ≡ length partners
length-paired None openers partners k = refl
length-paired (Some m) openers partners k =
    let i = index_of openers m in
    length-set (set partners i k) k i ∙ length-set partners i k

-- before the pass, no bracket has a partner
pub none_yet : (len : ℕ) → replicate len len ≡ partners_of [] len
none_yet len = splat_is_map (range_with_len 0 len) len len (length-range_with_len 0 len)
