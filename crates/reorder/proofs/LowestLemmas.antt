-- Which of two characters L2 puts to the left, determined by the lowest level between them.
use Rattle.std.proofs.Common.{◌≡◌, ◌≢◌, ℕ, zero, suc, ◌+◌, ◌-◌, ◌<◌, ◌≤◌, min, Bool, true, false, not, List, get_or}
use Rattle.std.proofs.Common.{◌⊎◌, refl, sym, ap, subst, ◌∙◌, inl, inr, arith}
use Rattle.std.proofs.lemmas.Bool.{both_ways, cases_Bool, cases_eq, cases_lt, cases_order}
use Rattle.reorder.specs.Lowest.{IsKept, IsLeft, IsLowest, IsTurned}
use Rattle.reorder.specs.Order.{is_odd}

module _ (levels : List ℕ) where
  abbrev level_at : ℕ → ℕ
  level_at k = get_or levels k 0

  -- ---- the lowest level of a range

  pub one_lowest : (x : ℕ) → IsLowest levels x x (level_at x)
  one_lowest x = record {
    all = λ k from to. let same : k ≡ x = omega arith in omega (arith, ap level_at same);
    at = x;
    from = omega arith;
    to = omega arith;
    is = refl;
  }

  pub only_lowest : (a b u v : ℕ) → IsLowest levels a b u → IsLowest levels a b v → u ≡ v
  only_lowest a b u v l m =
      let one : u ≤ level_at m.at = l.all m.at m.from m.to in
      let other : v ≤ level_at l.at = m.all l.at l.from l.to in
      omega (arith, one, other, l.is, m.is)

  -- the lowest level of two ranges that share a character is the lower of their lowest levels
  pub joined : (a b c u v : ℕ) → a ≤ b → b ≤ c → IsLowest levels a b u → IsLowest levels b c v → IsLowest levels a c (min u v)
  joined a b c u v from to l m =
      let all : (k : ℕ) → a ≤ k → k ≤ c → min u v ≤ level_at k =
      λ k after before. elim (cases_lt k b) [
        | inl front ↦ let here : u ≤ level_at k = l.all k after (omega arith) in omega (arith, here)
        | inr back ↦ let here : v ≤ level_at k = m.all k back before in omega (arith, here)
      ] in
      elim (cases_lt u v) [
        | inl less ↦
            let inside : l.at ≤ b = l.to in
            record { all = all; at = l.at; from = l.from; to = omega (arith, inside); is = l.is ∙ omega arith }
        | inr more ↦
            let inside : b ≤ m.at = m.from in
            record { all = all; at = m.at; from = omega (arith, inside); to = m.to; is = m.is ∙ omega arith }
      ]

  -- if the lowest level of a range does not occur in a suffix, it is the lowest level of the prefix up to
  -- that suffix; the same holds with prefix and suffix exchanged
  pub in_front : (a b c u v : ℕ) → a ≤ b → IsLowest levels a c u → IsLowest levels b c v → u < v → IsLowest levels a b u
  in_front a b c u v from l m less =
      let last : l.at ≤ c = l.to in
      let at : l.at < b = elim (cases_lt l.at b) [
        | inl fine ↦ fine
        | inr back ↦ let here : v ≤ level_at l.at = m.all l.at back last in absurd (omega (arith, here, l.is))
      ] in
      record { all = λ k after before. l.all k after (omega (arith, at, last, b_within m)); at = l.at; from = l.from; to = omega (arith, at); is = l.is }
    where
      b_within : IsLowest levels b c v → b ≤ c
      b_within m = let one : b ≤ m.at = m.from in let other : m.at ≤ c = m.to in omega (arith, one, other)

  pub in_back : (a b c u v : ℕ) → b ≤ c → IsLowest levels a c u → IsLowest levels a b v → u < v → IsLowest levels b c u
  in_back a b c u v to l m less =
      let first : a ≤ l.at = l.from in
      let at : b < l.at = elim (cases_lt b l.at) [
        | inl fine ↦ fine
        | inr front ↦ let here : v ≤ level_at l.at = m.all l.at first front in absurd (omega (arith, here, l.is))
      ] in
      let a_within : a ≤ b = (let one : a ≤ m.at = m.from in let other : m.at ≤ b = m.to in omega (arith, one, other)) in
      record { all = λ k after before. l.all k (omega (arith, a_within, after)) before; at = l.at; from = omega (arith, at); to = l.to; is = l.is }

  -- the lowest level of a range is at most the lowest level of any prefix or suffix of the range
  pub back_most : (a b c u v : ℕ) → a ≤ b → IsLowest levels a c u → IsLowest levels b c v → u ≤ v
  back_most a b c u v from l m =
      let at : b ≤ m.at = m.from in
      let here : u ≤ level_at m.at = l.all m.at (omega (arith, at)) m.to in
      omega (arith, here, m.is)

  pub front_most : (a b c u v : ℕ) → b ≤ c → IsLowest levels a c u → IsLowest levels a b v → u ≤ v
  front_most a b c u v to l m =
      let at : m.at ≤ b = m.to in
      let here : u ≤ level_at m.at = l.all m.at m.from (omega (arith, at)) in
      omega (arith, here, m.is)

  -- each range has a lowest level
  pub record HasLowest (a b : ℕ) : Type 0 where
    pub low : ℕ
    pub lowest : IsLowest levels a b low

  some_lowest : (a d : ℕ) → HasLowest a (a + d)
  some_lowest a zero =
      let e : a ≡ a + 0 = omega arith in
      record { low = level_at a; lowest = subst (λ k. IsLowest levels a k (level_at a)) e (one_lowest a) }
  some_lowest a (suc d) =
      let w : HasLowest a (a + d) = some_lowest a d in
      let e : suc (a + d) ≡ a + suc d = omega arith in
      let next : IsLowest levels (a + d) (suc (a + d)) (min (level_at (a + d)) (level_at (suc (a + d)))) = pair (a + d) in
      record {
        low = min w.low (min (level_at (a + d)) (level_at (suc (a + d))));
        lowest = subst (λ k. IsLowest levels a k (min w.low (min (level_at (a + d)) (level_at (suc (a + d)))))) e
            (joined a (a + d) (suc (a + d)) w.low (min (level_at (a + d)) (level_at (suc (a + d)))) (omega arith) (omega arith) w.lowest next);
      }
    where
      pair : (k : ℕ) → IsLowest levels k (suc k) (min (level_at k) (level_at (suc k)))
      pair k =
          let all : (m : ℕ) → k ≤ m → m ≤ suc k → min (level_at k) (level_at (suc k)) ≤ level_at m =
          λ m from to. elim (cases_eq m k) [
            | inl same ↦ omega (arith, ap level_at same)
            | inr other ↦ let last : m ≡ suc k = omega arith in omega (arith, ap level_at last)
          ] in
          elim (cases_lt (level_at k) (level_at (suc k))) [
            | inl less ↦ record { all = all; at = k; from = omega arith; to = omega arith; is = omega arith }
            | inr more ↦ record { all = all; at = suc k; from = omega arith; to = omega arith; is = omega arith }
          ]

  pub lowest_of : (a b : ℕ) → a ≤ b → HasLowest a b
  lowest_of a b from =
      let e : a + (b - a) ≡ b = omega arith in
      subst (λ k. HasLowest a k) e (some_lowest a (b - a))

  -- ---- to the left

  differ : (t : Bool) (low other : ℕ) → is_odd low ≡ t → is_odd other ≡ not t → low ≡ other → ⊥
  differ true low other one two same = both_ways (is_odd other) two (ap is_odd (sym same) ∙ one)
  differ false low other one two same = both_ways (is_odd low) one (ap is_odd same ∙ two)

  pub min_is : (t : Bool) (u v : ℕ) → is_odd u ≡ t → is_odd v ≡ t → is_odd (min u v) ≡ t
  min_is t u v one two = elim (cases_lt u v) [
    | inl less ↦ let e : min u v ≡ u = omega arith in ap is_odd e ∙ one
    | inr more ↦ let e : min u v ≡ v = omega arith in ap is_odd e ∙ two
  ]

  pub not_both : (x y : ℕ) → IsLeft levels x y → IsLeft levels y x → ⊥
  not_both x y (inl one) (inl other) = let h : x < y = one.before in let k : y < x = other.before in absurd (omega (arith, h, k))
  not_both x y (inl one) (inr other) = both_ways (is_odd other.low) (ap is_odd (only_lowest x y other.low one.low other.lowest one.lowest) ∙ one.even) other.odd
  not_both x y (inr one) (inl other) = both_ways (is_odd one.low) (ap is_odd (only_lowest y x one.low other.low one.lowest other.lowest) ∙ other.even) one.odd
  not_both x y (inr one) (inr other) = let h : y < x = one.after in let k : x < y = other.after in absurd (omega (arith, h, k))

  pub not_itself : (x y : ℕ) → IsLeft levels x y → x ≢ y
  not_itself x y (inl one) same = let h : x < y = one.before in absurd (omega (arith, h))
  not_itself x y (inr one) same = let h : y < x = one.after in absurd (omega (arith, h))

  pub one_way : (x y : ℕ) → x ≢ y → IsLeft levels x y ⊎ IsLeft levels y x
  one_way x y other = elim (cases_lt x y) [
    | inl less ↦
        let w : HasLowest x y = lowest_of x y (omega arith) in
        elim (cases_Bool (is_odd w.low)) [
          | inl odd ↦ inr (inr (record { after = less; low = w.low; lowest = w.lowest; odd = odd }))
          | inr even ↦ inl (inl (record { before = less; low = w.low; lowest = w.lowest; even = even }))
        ]
    | inr more ↦
        let w : HasLowest y x = lowest_of y x more in
        elim (cases_Bool (is_odd w.low)) [
          | inl odd ↦ inl (inr (record { after = omega arith; low = w.low; lowest = w.lowest; odd = odd }))
          | inr even ↦ inr (inl (record { before = omega arith; low = w.low; lowest = w.lowest; even = even }))
        ]
  ]

  kept_kept : (x y z : ℕ) → IsKept levels is_odd x y → IsKept levels is_odd y z → IsLeft levels x z
  kept_kept x y z one other =
      let h : x < y = one.before in
      let k : y < z = other.before in
      inl (record {
        before = omega (arith, h, k);
        low = min one.low other.low;
        lowest = joined x y z one.low other.low (omega (arith, h)) (omega (arith, k)) one.lowest other.lowest;
        even = min_is false one.low other.low one.even other.even;
      })

  turned_turned : (x y z : ℕ) → IsTurned levels is_odd x y → IsTurned levels is_odd y z → IsLeft levels x z
  turned_turned x y z one other =
      let h : y < x = one.after in
      let k : z < y = other.after in
      inr (record {
        after = omega (arith, h, k);
        low = min other.low one.low;
        lowest = joined z y x other.low one.low (omega (arith, k)) (omega (arith, h)) other.lowest one.lowest;
        odd = min_is true other.low one.low other.odd one.odd;
      })

  -- x is to the left of z if x is before y and to the left of y, and z is before y but to the right of y
  kept_turned : (x y z : ℕ) → IsKept levels is_odd x y → IsTurned levels is_odd y z → IsLeft levels x z
  kept_turned x y z one other =
      let h : x < y = one.before in
      let k : z < y = other.after in
      let apart : one.low ≡ other.low → ⊥ = differ false one.low other.low one.even other.odd in
      elim (cases_order x z) [
        | inl same ↦ absurd (apart (only_lowest z y one.low other.low (subst (λ m. IsLowest levels m y one.low) same one.lowest) other.lowest))
        | inr (inl less) ↦
            let most : one.low ≤ other.low = back_most x z y one.low other.low (omega arith) one.lowest other.lowest in
            inl (record {
              before = less;
              low = one.low;
              lowest = in_front x z y one.low other.low (omega arith) one.lowest other.lowest (omega (arith, most, apart));
              even = one.even;
            })
        | inr (inr more) ↦
            let most : other.low ≤ one.low = back_most z x y other.low one.low (omega arith) other.lowest one.lowest in
            inr (record {
              after = more;
              low = other.low;
              lowest = in_front z x y other.low one.low (omega arith) other.lowest one.lowest (omega (arith, most, apart));
              odd = other.odd;
            })
      ]

  -- x is to the left of z if x is after y but to the left of y, and z is after y and to the right of y
  turned_kept : (x y z : ℕ) → IsTurned levels is_odd x y → IsKept levels is_odd y z → IsLeft levels x z
  turned_kept x y z one other =
      let h : y < x = one.after in
      let k : y < z = other.before in
      let apart : one.low ≡ other.low → ⊥ = differ true one.low other.low one.odd other.even in
      elim (cases_order x z) [
        | inl same ↦ absurd (apart (only_lowest y z one.low other.low (subst (λ m. IsLowest levels y m one.low) same one.lowest) other.lowest))
        | inr (inl less) ↦
            let most : other.low ≤ one.low = front_most y x z other.low one.low (omega arith) other.lowest one.lowest in
            inl (record {
              before = less;
              low = other.low;
              lowest = in_back y x z other.low one.low (omega arith) other.lowest one.lowest (omega (arith, most, apart));
              even = other.even;
            })
        | inr (inr more) ↦
            let most : one.low ≤ other.low = front_most y z x one.low other.low (omega arith) one.lowest other.lowest in
            inr (record {
              after = more;
              low = one.low;
              lowest = in_back y z x one.low other.low (omega arith) one.lowest other.lowest (omega (arith, most, apart));
              odd = one.odd;
            })
      ]

  pub left_left : (x y z : ℕ) → IsLeft levels x y → IsLeft levels y z → IsLeft levels x z
  left_left x y z (inl one) (inl other) = kept_kept x y z one other
  left_left x y z (inl one) (inr other) = kept_turned x y z one other
  left_left x y z (inr one) (inl other) = turned_kept x y z one other
  left_left x y z (inr one) (inr other) = turned_turned x y z one other
