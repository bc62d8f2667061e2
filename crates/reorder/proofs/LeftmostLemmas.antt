-- Scans for the leftmost of a range of characters, and for the character to the right of another one.
use Rattle.std.proofs.Common.{◌≡◌, ◌≢◌, ℕ, suc, ◌+◌, ◌-◌, ◌%◌, ◌<◌, ◌≤◌, min, Bool, true, false, not, List, length, get_or}
use Rattle.std.proofs.Common.{◌⊎◌, None, sym, ap, subst, ◌∙◌, inl, inr, arith}
use Rattle.std.proofs.lemmas.Bool.{both_ways, cases_eq, cases_lt, eq-eqb, ne_eqb}
use Rattle.reorder.specs.Lowest.{AreAtLeast, IsExtentBack, IsExtentOn, IsLeft, IsLeftmostBack, IsLeftmostOn, IsLowest, IsNext, IsPassed, IsRightOf}
use Rattle.reorder.specs.Order.{is_odd}
use Rattle.reorder.proofs.LowestLemmas.{back_most, front_most, in_back, in_front, joined, left_left, lowest_of, only_lowest, not_both, not_itself, one_lowest, HasLowest}

-- ---- odd and even, as the code tests them

pub odd_one : (level : ℕ) → level % 2 ≡ 1 → is_odd level ≡ true
odd_one level e = eq-eqb (level % 2) 1 e

pub even_one : (level : ℕ) → (level % 2 ≡ 1 → ⊥) → is_odd level ≡ false
even_one level e = ne_eqb (level % 2) 1 e

pub even_zero : (level : ℕ) → level % 2 ≡ 0 → is_odd level ≡ false
even_zero level e = ne_eqb (level % 2) 1 (λ f. omega arith)

pub odd_zero : (level : ℕ) → (level % 2 ≡ 0 → ⊥) → is_odd level ≡ true
odd_zero level e = eq-eqb (level % 2) 1 (omega arith)

differ_in : (t : Bool) (low other : ℕ) → is_odd low ≡ t → is_odd other ≡ not t → low ≡ other → ⊥
differ_in true low other one two same = both_ways (is_odd other) two (ap is_odd (sym same) ∙ one)
differ_in false low other one two same = both_ways (is_odd low) one (ap is_odd same ∙ two)

module _ (levels : List ℕ) where
  abbrev level_at : ℕ → ℕ
  level_at k = get_or levels k 0

  -- ---- one more character in a range

  pushed : (a b u : ℕ) → a ≤ b → IsLowest levels a b u → IsLowest levels a (suc b) (min u (level_at (suc b)))
  pushed a b u from l =
      let all : (k : ℕ) → a ≤ k → k ≤ suc b → min u (level_at (suc b)) ≤ level_at k =
      λ k after before. elim (cases_eq k (suc b)) [
        | inl last ↦ omega (arith, ap level_at last)
        | inr other ↦ let here : u ≤ level_at k = l.all k after (omega arith) in omega (arith, here)
      ] in
      elim (cases_lt u (level_at (suc b))) [
        | inl less ↦ let to : l.at ≤ b = l.to in record { all = all; at = l.at; from = l.from; to = omega (arith, to); is = l.is ∙ omega arith }
        | inr more ↦ record { all = all; at = suc b; from = omega arith; to = omega arith; is = omega arith }
      ]

  pulled : (a b u : ℕ) → suc a ≤ b → IsLowest levels (suc a) b u → IsLowest levels a b (min u (level_at a))
  pulled a b u to l =
      let all : (k : ℕ) → a ≤ k → k ≤ b → min u (level_at a) ≤ level_at k =
      λ k after before. elim (cases_eq k a) [
        | inl first ↦ omega (arith, ap level_at first)
        | inr other ↦ let here : u ≤ level_at k = l.all k (omega arith) before in omega (arith, here)
      ] in
      elim (cases_lt u (level_at a)) [
        | inl less ↦ let from : suc a ≤ l.at = l.from in record { all = all; at = l.at; from = omega (arith, from); to = l.to; is = l.is ∙ omega arith }
        | inr more ↦ record { all = all; at = a; from = omega arith; to = omega arith; is = omega arith }
      ]

  -- ---- the leftmost character from `start` on

  -- `first` is the leftmost of the characters from `start` up to `at`, and `low` is the lowest level from
  -- `first` on
  pub record LeftmostOn (level start first low at : ℕ) : Type 0 where
    pub from : start ≤ first
    pub to : first < at
    pub within : at ≤ length levels
    pub high : (k : ℕ) → start < k → k < at → level < level_at k
    pub lowest : IsLowest levels first (at - 1) low
    pub leftmost : (k : ℕ) → start ≤ k → k < at → k ≢ first → IsLeft levels first k

  pub LeftmostOn-start : (level start : ℕ) → start < length levels → LeftmostOn level start start (level_at start) (start + 1)
  LeftmostOn-start level start within =
      let last : start ≡ start + 1 - 1 = omega arith in
      record {
        from = omega arith;
        to = omega arith;
        within = omega arith;
        high = λ k after before. absurd (omega arith);
        lowest = subst (λ k. IsLowest levels start k (level_at start)) last (one_lowest levels start);
        leftmost = λ k after before other. absurd (omega (arith, other));
      }

  module _ (level start first low at : ℕ) (w : LeftmostOn level start first low at) (within : at < length levels) (high : level < level_at at) where
    to_here : first < at
    to_here = w.to

    with_here : IsLowest levels first at (min low (level_at at))
    with_here =
        let next : suc (at - 1) ≡ at = omega (arith, to_here) in
        subst (λ k. IsLowest levels first k (min low (level_at k))) next (pushed first (at - 1) low (omega (arith, to_here)) w.lowest)

    all_high : (k : ℕ) → start < k → k < at + 1 → level < level_at k
    all_high k after before = elim (cases_eq k at) [
      | inl last ↦ omega (arith, high, ap level_at last)
      | inr other ↦ w.high k after (omega (arith, other))
    ]

    pub LeftmostOn-odd : is_odd (min low (level_at at)) ≡ true → LeftmostOn level start at (level_at at) (at + 1)
    LeftmostOn-odd odd =
        let last : at ≡ at + 1 - 1 = omega arith in
        let turned : IsLeft levels at first = inr (record { after = to_here; low = min low (level_at at); lowest = with_here; odd = odd }) in
        let from : start ≤ first = w.from in
        record {
          from = omega (arith, from, to_here);
          to = omega arith;
          within = omega arith;
          high = all_high;
          lowest = subst (λ k. IsLowest levels at k (level_at at)) last (one_lowest levels at);
          leftmost = λ k after before other. elim (cases_eq k first) [
            | inl same ↦ subst (λ m. IsLeft levels at m) (sym same) turned
            | inr apart ↦ left_left levels at first k turned (w.leftmost k after (omega (arith, before, other)) apart)
          ];
        }

    pub LeftmostOn-even : is_odd (min low (level_at at)) ≡ false → LeftmostOn level start first (min low (level_at at)) (at + 1)
    LeftmostOn-even even =
        let last : at ≡ at + 1 - 1 = omega arith in
        let kept : IsLeft levels first at = inl (record { before = to_here; low = min low (level_at at); lowest = with_here; even = even }) in
        record {
          from = w.from;
          to = omega (arith, to_here);
          within = omega arith;
          high = all_high;
          lowest = subst (λ k. IsLowest levels first k (min low (level_at at))) last with_here;
          leftmost = λ k after before other. elim (cases_eq k at) [
            | inl same ↦ subst (λ m. IsLeft levels first m) (sym same) kept
            | inr apart ↦ w.leftmost k after (omega (arith, before, apart)) other
          ];
        }

  pub LeftmostOn-end : (level start first low at : ℕ) → LeftmostOn level start first low at → is_odd level ≡ false → level ≤ level_at start
      → (at < length levels → level_at at ≤ level) → IsLeftmostOn levels level start first
  LeftmostOn-end level start first low at w even high stops =
      let from : start ≤ first = w.from in
      let to : first < at = w.to in
      let inside : at ≤ length levels = w.within in
      let all : (k : ℕ) → start ≤ k → k < at → level ≤ level_at k =
      λ k after before. elim (cases_eq k start) [
        | inl same ↦ omega (arith, high, ap level_at same)
        | inr other ↦ let here : level < level_at k = w.high k (omega (arith, after, other)) before in omega (arith, here)
      ] in
      record {
        from = from;
        within = omega (arith, to, inside);
        high = λ k after before. all k after (omega (arith, before, to));
        leftmost = λ k after before least other. elim (cases_lt k at) [
          | inl passed ↦ w.leftmost k after passed other
          | inr past ↦
              let there : level ≤ level_at at = least at (omega (arith, from, to)) past in
              let stop : level_at at ≤ level = stops (omega (arith, before, past)) in
              inl (record {
                before = omega (arith, to, past);
                low = level;
                lowest = record {
                  all = λ m since until. least m (omega (arith, from, since)) until;
                  at = at;
                  from = omega (arith, to);
                  to = past;
                  is = omega (arith, there, stop);
                };
                even = even;
              })
        ];
      }

  -- ---- the leftmost character before `end`

  pub record LeftmostBack (level end first low at : ℕ) : Type 0 where
    pub from : at ≤ first
    pub to : first < end
    pub high : (k : ℕ) → at ≤ k → k + 1 < end → level < level_at k
    pub lowest : IsLowest levels at first low
    pub leftmost : (k : ℕ) → at ≤ k → k < end → k ≢ first → IsLeft levels first k

  pub LeftmostBack-start : (level end last : ℕ) → last + 1 ≡ end → LeftmostBack level end last (level_at last) last
  LeftmostBack-start level end last e = record {
    from = omega arith;
    to = omega arith;
    high = λ k after before. absurd (omega arith);
    lowest = one_lowest levels last;
    leftmost = λ k after before other. absurd (omega (arith, other));
  }

  module _ (level end first low at : ℕ) (w : LeftmostBack level end first low (suc at)) (high : level < level_at at) where
    after_here : suc at ≤ first
    after_here = w.from

    from_here : IsLowest levels at first (min low (level_at at))
    from_here = pulled at first low after_here w.lowest

    all_back : (k : ℕ) → at ≤ k → k + 1 < end → level < level_at k
    all_back k after before = elim (cases_eq k at) [
      | inl same ↦ omega (arith, high, ap level_at same)
      | inr other ↦ w.high k (omega (arith, after, other)) before
    ]

    pub LeftmostBack-even : is_odd (min low (level_at at)) ≡ false → LeftmostBack level end at (level_at at) at
    LeftmostBack-even even =
        let to : first < end = w.to in
        let kept : IsLeft levels at first = inl (record { before = after_here; low = min low (level_at at); lowest = from_here; even = even }) in
        record {
          from = omega arith;
          to = omega (arith, after_here, to);
          high = all_back;
          lowest = one_lowest levels at;
          leftmost = λ k after before other. elim (cases_eq k first) [
            | inl same ↦ subst (λ m. IsLeft levels at m) (sym same) kept
            | inr apart ↦ left_left levels at first k kept (w.leftmost k (omega (arith, after, other)) before apart)
          ];
        }

    pub LeftmostBack-odd : is_odd (min low (level_at at)) ≡ true → LeftmostBack level end first (min low (level_at at)) at
    LeftmostBack-odd odd =
        let turned : IsLeft levels first at = inr (record { after = after_here; low = min low (level_at at); lowest = from_here; odd = odd }) in
        record {
          from = omega (arith, after_here);
          to = w.to;
          high = all_back;
          lowest = from_here;
          leftmost = λ k after before other. elim (cases_eq k at) [
            | inl same ↦ subst (λ m. IsLeft levels first m) (sym same) turned
            | inr apart ↦ w.leftmost k (omega (arith, after, apart)) before other
          ];
        }

  pub LeftmostBack-end : (level end first low at : ℕ) → LeftmostBack level end first low at → is_odd level ≡ true → level ≤ level_at (end - 1)
      → (0 < at → level_at (at - 1) ≤ level) → IsLeftmostBack levels level end first
  LeftmostBack-end level end first low at w odd high stops =
      let from : at ≤ first = w.from in
      let to : first < end = w.to in
      let all : (k : ℕ) → at ≤ k → k ≤ end - 1 → level ≤ level_at k =
      λ k after before. elim (cases_eq k (end - 1)) [
        | inl same ↦ omega (arith, high, ap level_at same)
        | inr other ↦ let here : level < level_at k = w.high k after (omega (arith, before, other)) in omega (arith, here)
      ] in
      record {
        before = to;
        high = λ k after before. all k (omega (arith, after, from)) before;
        leftmost = λ k before least other. elim (cases_lt k at) [
          | inr passed ↦ w.leftmost k passed before other
          | inl past ↦
              let there : level ≤ level_at (at - 1) = least (at - 1) (omega (arith, past)) (omega (arith, from, to)) in
              let stop : level_at (at - 1) ≤ level = stops (omega (arith, past)) in
              inr (record {
                after = omega (arith, from, past);
                low = level;
                lowest = record {
                  all = λ m since until. least m since (omega (arith, until, to));
                  at = at - 1;
                  from = omega (arith, past);
                  to = omega (arith, from);
                  is = omega (arith, there, stop);
                };
                odd = odd;
              })
        ];
      }

  -- ---- the character to the right of another one

  pub IsPassed-start : (place : ℕ) → place < length levels → IsPassed levels place (level_at place) place (place + 1)
  IsPassed-start place within = record {
    from = omega arith;
    to = omega arith;
    within = omega arith;
    high = λ k after before. let same : k ≡ place = omega arith in omega (arith, ap level_at same);
    left = λ k after before other. absurd (omega (arith, other));
    above_back = λ k before above. let here : level_at place < level_at place = above place (omega (arith, before)) (omega arith) in absurd (omega (arith, here));
    above_on = λ k after inside above. let here : level_at place < level_at place = above place (omega arith) (omega (arith, after)) in absurd (omega (arith, here));
  }

  module _ (place level start end : ℕ) (w : IsPassed levels place level start end) where
    from : start ≤ place
    from = w.from

    to : place < end
    to = w.to

    inside : end ≤ length levels
    inside = w.within

    -- if the characters from `place` to k are at the level or higher, and k is after those passed, the lowest
    -- of their levels is the level itself
    lowest_on : (k : ℕ) → end ≤ k → k < length levels → AreAtLeast levels level place k → IsLowest levels place k level
    lowest_on k past within least =
        let l : HasLowest levels place k = lowest_of levels place k (omega (arith, to, past)) in
        let above : level ≤ level_at l.lowest.at = least l.lowest.at l.lowest.from l.lowest.to in
        elim (cases_lt level l.low) [
          | inl more ↦
              let passed : k < end = w.above_on k (omega (arith, to, past)) within (λ m after before. let here : l.low ≤ level_at m = l.lowest.all m after before in omega (arith, more, here)) in
              absurd (omega (arith, past, passed))
          | inr most ↦
              let same : l.low ≡ level = omega (arith, most, above, l.lowest.is) in
              subst (λ u. IsLowest levels place k u) same l.lowest
        ]

    lowest_back : (k : ℕ) → k < start → AreAtLeast levels level k place → IsLowest levels k place level
    lowest_back k past least =
        let l : HasLowest levels k place = lowest_of levels k place (omega (arith, from, past)) in
        let above : level ≤ level_at l.lowest.at = least l.lowest.at l.lowest.from l.lowest.to in
        elim (cases_lt level l.low) [
          | inl more ↦
              let passed : start ≤ k = w.above_back k (omega (arith, from, past)) (λ m after before. let here : l.low ≤ level_at m = l.lowest.all m after before in omega (arith, more, here)) in
              absurd (omega (arith, past, passed))
          | inr most ↦
              let same : l.low ≡ level = omega (arith, most, above, l.lowest.is) in
              subst (λ u. IsLowest levels k place u) same l.lowest
        ]

    -- if the lowest level from `place` to a character not passed differs from `level` in parity, it is below
    -- `level`
    below_on : (t : Bool) (k v : ℕ) → end ≤ k → k < length levels → IsLowest levels place k v → is_odd level ≡ not t → is_odd v ≡ t → v < level
    below_on t k v past within l parity other =
        elim (cases_lt v level) [
          | inl fine ↦ fine
          | inr high ↦
              let same : v ≡ level = only_lowest levels place k v level l (lowest_on k past within (λ m after before. let here : v ≤ level_at m = l.all m after before in omega (arith, high, here))) in
              absurd (differ_in t v level other parity same)
        ]

    below_back : (t : Bool) (k v : ℕ) → k < start → IsLowest levels k place v → is_odd level ≡ not t → is_odd v ≡ t → v < level
    below_back t k v past l parity other =
        elim (cases_lt v level) [
          | inl fine ↦ fine
          | inr high ↦
              let same : v ≡ level = only_lowest levels k place v level l (lowest_back k past (λ m after before. let here : v ≤ level_at m = l.all m after before in omega (arith, high, here))) in
              absurd (differ_in t v level other parity same)
        ]

    -- a character to the right of `place` is not among those passed
    not_passed : (k : ℕ) → IsLeft levels place k → (k < start) ⊎ (end ≤ k)
    not_passed k right =
        elim (cases_lt k start) [
          | inl before ↦ inl before
          | inr after ↦
              elim (cases_lt k end) [
                | inl within ↦
                    absurd (not_both levels place k right (w.left k after within (λ e. not_itself levels place k right (sym e))))
                | inr past ↦ inr past
              ]
        ]

    -- at an even level, the characters after those passed are to the right
    module _ (even : is_odd level ≡ false) (first : ℕ) (l : IsLeftmostOn levels level end first) where
      high_to : AreAtLeast levels level place first
      high_to k after before = elim (cases_lt k end) [
        | inl passed ↦ w.high k (omega (arith, from, after)) passed
        | inr past ↦ l.high k past before
      ]

      end_first : end ≤ first
      end_first = l.from

      lowest_first : IsLowest levels place first level
      lowest_first = lowest_on first end_first l.within high_to

      first_after : (k : ℕ) → k < length levels → IsLeft levels place k → k ≢ first → IsLeft levels first k
      first_after k within (inl kept) other =
          let after : place < k = kept.before in
          elim (not_passed k (inl kept)) [
            | inl before ↦ absurd (omega (arith, before, from, after))
            | inr past ↦
                let u : HasLowest levels end k = lowest_of levels end k past in
                elim (cases_lt u.low level) [
                  | inr high ↦ l.leftmost k past within (λ m since until. let here : u.low ≤ level_at m = u.lowest.all m since until in omega (arith, high, here)) other
                  | inl low ↦
                      let most : kept.low ≤ u.low = back_most levels place end k kept.low u.low (omega (arith, to)) kept.lowest u.lowest in
                      let beyond : first < k = elim (cases_lt first k) [
                        | inl fine ↦ fine
                        | inr short ↦
                            let at_to : u.lowest.at ≤ k = u.lowest.to in
                            let here : level ≤ level_at u.lowest.at = l.high u.lowest.at u.lowest.from (omega (arith, at_to, short)) in
                            absurd (omega (arith, low, here, u.lowest.is))
                      ] in
                      inl (record {
                        before = beyond;
                        low = kept.low;
                        lowest = in_back levels place first k kept.low level (omega (arith, beyond)) kept.lowest lowest_first (omega (arith, most, low));
                        even = kept.even;
                      })
                ]
          ]
      first_after k within (inr turned) other =
          let before : k < place = turned.after in
          elim (not_passed k (inr turned)) [
            | inr past ↦ absurd (omega (arith, before, to, past))
            | inl past ↦
                let less : turned.low < level = below_back true k turned.low past turned.lowest even turned.odd in
                let e : min turned.low level ≡ turned.low = omega (arith, less) in
                inr (record {
                  after = omega (arith, before, to, end_first);
                  low = turned.low;
                  lowest = subst (λ u. IsLowest levels k first u) e
                      (joined levels k place first turned.low level (omega (arith, before)) (omega (arith, to, end_first)) turned.lowest lowest_first);
                  odd = turned.odd;
                })
          ]

      pub right_on : IsRightOf levels place first
      right_on = record {
        within = l.within;
        after = inl (record { before = omega (arith, to, end_first); low = level; lowest = lowest_first; even = even });
        first = first_after;
      }

    -- at an odd level, the characters before those passed are to the right
    module _ (odd : is_odd level ≡ true) (first : ℕ) (l : IsLeftmostBack levels level start first) where
      first_start : first < start
      first_start = l.before

      high_from : AreAtLeast levels level first place
      high_from k after before = elim (cases_lt k start) [
        | inl past ↦ l.high k after (omega (arith, past))
        | inr passed ↦ w.high k passed (omega (arith, before, to))
      ]

      lowest_last : IsLowest levels first place level
      lowest_last = lowest_back first first_start high_from

      back_after : (k : ℕ) → k < length levels → IsLeft levels place k → k ≢ first → IsLeft levels first k
      back_after k within (inl kept) other =
          let after : place < k = kept.before in
          elim (not_passed k (inl kept)) [
            | inl before ↦ absurd (omega (arith, before, from, after))
            | inr past ↦
                let less : kept.low < level = below_on false k kept.low past within kept.lowest odd kept.even in
                let e : min level kept.low ≡ kept.low = omega (arith, less) in
                inl (record {
                  before = omega (arith, after, from, first_start);
                  low = kept.low;
                  lowest = subst (λ u. IsLowest levels first k u) e
                      (joined levels first place k level kept.low (omega (arith, from, first_start)) (omega (arith, after)) lowest_last kept.lowest);
                  even = kept.even;
                })
          ]
      back_after k within (inr turned) other =
          let before : k < place = turned.after in
          elim (not_passed k (inr turned)) [
            | inr past ↦ absurd (omega (arith, before, to, past))
            | inl past ↦
                let u : HasLowest levels k (start - 1) = lowest_of levels k (start - 1) (omega (arith, past)) in
                elim (cases_lt u.low level) [
                  | inr high ↦ l.leftmost k past (λ m since until. let here : u.low ≤ level_at m = u.lowest.all m since until in omega (arith, high, here)) other
                  | inl low ↦
                      let most : turned.low ≤ u.low = front_most levels k (start - 1) place turned.low u.low (omega (arith, from)) turned.lowest u.lowest in
                      let beyond : k < first = elim (cases_lt k first) [
                        | inl fine ↦ fine
                        | inr short ↦
                            let at_from : k ≤ u.lowest.at = u.lowest.from in
                            let here : level ≤ level_at u.lowest.at = l.high u.lowest.at (omega (arith, at_from, short)) u.lowest.to in
                            absurd (omega (arith, low, here, u.lowest.is))
                      ] in
                      inr (record {
                        after = beyond;
                        low = turned.low;
                        lowest = in_front levels k first place turned.low level (omega (arith, beyond)) turned.lowest lowest_last (omega (arith, most, low));
                        odd = turned.odd;
                      })
                ]
          ]

      pub right_back : IsRightOf levels place first
      right_back = record {
        within = omega (arith, first_start, from, to, inside);
        after = inr (record { after = omega (arith, first_start, from); low = level; lowest = lowest_last; odd = odd });
        first = back_after;
      }

    -- at an even level, the characters before those passed are to the left
    module _ (even : is_odd level ≡ false) (stop : end < length levels → level_at end < level) (low : ℕ) (x : IsExtentBack levels level start low) where
      back_left : (k : ℕ) → low ≤ k → k < end → k ≢ place → IsLeft levels k place
      back_left k after before other = elim (cases_lt k start) [
        | inr passed ↦ w.left k passed before other
        | inl past ↦ inl (record {
          before = omega (arith, past, from);
          low = level;
          lowest = lowest_back k past (λ m since until. elim (cases_lt m start) [
            | inl out ↦ x.high m (omega (arith, after, since)) out
            | inr within ↦ w.high m within (omega (arith, until, to))
          ]);
          even = even;
        })
      ]

      pub passed_back : (next : ℕ) → next + 1 ≡ level → IsPassed levels place next low end
      passed_back next e =
          let back : low ≤ start = x.back in
          record {
            from = omega (arith, back, from);
            to = to;
            within = inside;
            high = λ k after before. elim (cases_lt k start) [
              | inl past ↦ let here : level ≤ level_at k = x.high k after past in omega (arith, here)
              | inr passed ↦ let here : level ≤ level_at k = w.high k passed before in omega (arith, here)
            ];
            left = back_left;
            above_back = λ k before above. elim (cases_lt k low) [
              | inr fine ↦ fine
              | inl past ↦
                  let here : next < level_at (low - 1) = above (low - 1) (omega (arith, past)) (omega (arith, back, from)) in
                  let there : level_at (low - 1) < level = x.stops (omega (arith, past)) in
                  absurd (omega (arith, here, there))
            ];
            above_on = λ k after within above. elim (cases_lt k end) [
              | inl fine ↦ fine
              | inr past ↦
                  let here : next < level_at end = above end (omega (arith, to)) past in
                  let there : level_at end < level = stop (omega (arith, past, within)) in
                  absurd (omega (arith, here, there))
            ];
          }

      pub none_right : level ≡ 0 → IsNext levels place None
      none_right none k within other =
          elim (cases_lt k end) [
            | inr past ↦ let there : level_at end < level = stop (omega (arith, past, within)) in absurd (omega (arith, there, none))
            | inl before ↦
                elim (cases_lt k low) [
                  | inl past ↦ let there : level_at (low - 1) < level = x.stops (omega (arith, past)) in absurd (omega (arith, there, none))
                  | inr after ↦ back_left k after before other
                ]
          ]

    -- at an odd level, the characters after those passed are to the left
    module _ (odd : is_odd level ≡ true) (stop : 0 < start → level_at (start - 1) < level) (high : ℕ) (x : IsExtentOn levels level end high) where
      on_left : (k : ℕ) → start ≤ k → k < high → k ≢ place → IsLeft levels k place
      on_left k after before other = elim (cases_lt k end) [
        | inl passed ↦ w.left k after passed other
        | inr past ↦
            let within : high ≤ length levels = x.within in
            inr (record {
              after = omega (arith, past, to);
              low = level;
              lowest = lowest_on k past (omega (arith, before, within)) (λ m since until. elim (cases_lt m end) [
                | inl out ↦ w.high m (omega (arith, since, from)) out
                | inr there ↦ x.high m there (omega (arith, until, before))
              ]);
              odd = odd;
            })
      ]

      pub passed_on : (next : ℕ) → next + 1 ≡ level → IsPassed levels place next start high
      passed_on next e =
          let on : end ≤ high = x.on in
          record {
            from = from;
            to = omega (arith, on, to);
            within = x.within;
            high = λ k after before. elim (cases_lt k end) [
              | inl passed ↦ let here : level ≤ level_at k = w.high k after passed in omega (arith, here)
              | inr past ↦ let here : level ≤ level_at k = x.high k past before in omega (arith, here)
            ];
            left = on_left;
            above_back = λ k before above. elim (cases_lt k start) [
              | inr fine ↦ fine
              | inl past ↦
                  let here : next < level_at (start - 1) = above (start - 1) (omega (arith, past)) (omega (arith, from)) in
                  let there : level_at (start - 1) < level = stop (omega (arith, past)) in
                  absurd (omega (arith, here, there))
            ];
            above_on = λ k after within above. elim (cases_lt k high) [
              | inl fine ↦ fine
              | inr past ↦
                  let here : next < level_at high = above high (omega (arith, on, to)) past in
                  let there : level_at high < level = x.stops (omega (arith, past, within)) in
                  absurd (omega (arith, here, there))
            ];
          }
