-- The bytes of a block at which a paragraph separator may begin, as lanes of vectors.
use Rattle.std.proofs.Common.{◌≡◌, ℕ, ◌+◌, ◌%◌, ◌^◌, ◌<◌, ◌≤◌, eqb, ltb, Bool, true, false, not, ◌||◌, ◌&&◌, cond, List, [], ◌∷◌, map, length, get_or, replicate, bit_and, bit_or, refl, sym, ap, ap₂, ◌∙◌, subst, arith}
use Rattle.std.proofs.lemmas.Bool.{not-true, not-false}
use Rattle.std.proofs.lemmas.List.{get_or-map, length-map}
use Rattle.std.proofs.lemmas.List.FromFn.{get_or-range_with_len, length-range_with_len}
use Rattle.std.proofs.lemmas.List.Sums.{prefix_len-le-length, prefix_len_passes, prefix_len_stops}
use Rattle.std.proofs.lemmas.Simd.{get_or-chunk, length-chunk, leading_from_mask_l, map-map, mask_l-mod, splat_is_map, trailing_mask_l, zip2_of_maps}
use Rattle.std.specs.List.{prefix_len, range_with_len}
use lib.Seq.{ext_get_or}
use lib.Count.{count_trailing_zeros}
use lib.Lanes.{chunk, mask_l, top, zip2}
use Rattle.bidi.specs.TextCuts.{leads_at, may_lead}

-- ---- a lane of a mask

either : (p q : Bool) → bit_or (cond p 255 0) (cond q 255 0) ≡ cond (p || q) 255 0
either true true = refl
either true false = refl
either false true = refl
either false false = refl

both : (p q : Bool) → bit_and (cond p 255 0) (cond q 255 0) ≡ cond (p && q) 255 0
both true true = refl
both true false = refl
both false true = refl
both false false = refl

is_set : (p : Bool) → top 7 (cond p 255 0) ≡ p
is_set true = refl
is_set false = refl

lane : (p q r s t u : Bool)
    → top 7 (bit_or (cond p 255 0) (bit_or (bit_and (cond q 255 0) (cond r 255 0)) (bit_and (cond s 255 0) (bit_and (cond t 255 0) (cond u 255 0)))))
    ≡ (p || ((q && r) || (s && (t && u))))
lane p q r s t u =
    let last = ap (bit_and (cond s 255 0)) (both t u) ∙ both s (t && u) in
    let pair = ap₂ bit_or (both q r) last ∙ either (q && r) (s && (t && u)) in
    ap (top 7) (ap (bit_or (cond p 255 0)) pair ∙ either p ((q && r) || (s && (t && u)))) ∙ is_set (p || ((q && r) || (s && (t && u))))

-- ---- the lanes by position

abbrev pub positions : List ℕ
positions = range_with_len 0 32

-- loading 32 lanes from index `from` on yields, at each position k, the byte at k + `from`
pub loaded : (block : List ℕ) (from : ℕ) → from + 32 ≤ length block → chunk from 32 block ≡ map (λ k. get_or block (k + from) 0) positions
loaded block from room =
    let f : ℕ → ℕ = λ k. get_or block (k + from) 0 in
    let len = length-chunk from 32 block room in
    ext_get_or 0 (chunk from 32 block) (map f positions) (len ∙ sym (length-range_with_len 0 32) ∙ sym (length-map positions f)) (λ k lt.
    let inside : k < 32 = omega (arith, lt, len) in
    let at : from + k ≡ k + from = omega arith in
    let first : 0 + k ≡ k = omega arith in
    get_or-chunk from 32 block k 0 inside ∙ ap (λ i. get_or block i 0) at
    ∙ sym (get_or-map f positions k 0 0 (omega (arith, inside, length-range_with_len 0 32)) ∙ ap f (get_or-range_with_len 0 32 k 0 inside ∙ first)))

-- a vector with the same value in each lane is a constant function of the position
pub splat : (y : ℕ) → replicate 32 y ≡ map (λ (k : ℕ). y) positions
splat y = splat_is_map positions 32 y (length-range_with_len 0 32)

map_agree : (f g : ℕ → Bool) (xs : List ℕ) → ((x : ℕ) → f x ≡ g x) → map f xs ≡ map g xs
map_agree f g [] same = refl
map_agree f g (x ∷ xs) same = ap₂ (λ b bs. b ∷ bs) (same x) (map_agree f g xs same)

-- if the top bit of each lane says whether a separator may begin at its position, the mask of the top bits is
-- the mask of these positions
pub bits_by_position : (block lanes : List ℕ) (f : ℕ → ℕ) → lanes ≡ map f positions → ((k : ℕ) → top 7 (f k) ≡ leads_at block k)
    → mask_l (map (top 7) lanes) % 2 ^ 64 ≡ mask_l (map (leads_at block) positions)
bits_by_position block lanes f is same =
    ap (λ l. mask_l l % 2 ^ 64) (ap (map (top 7)) is ∙ map-map (top 7) f positions ∙ map_agree (λ k. top 7 (f k)) (leads_at block) positions same)
    ∙ mask_l-mod (map (leads_at block) positions) 64 (omega (arith, length-map positions (leads_at block), length-range_with_len 0 32))

module _ (block : List ℕ) (room : 34 ≤ length block) where
  abbrev byte : ℕ → ℕ → ℕ
  byte from k = get_or block (k + from) 0

  abbrev is_byte : ℕ → ℕ → ℕ → ℕ
  is_byte from y k = cond (eqb (byte from k) y) 255 0

  equals : (from y : ℕ) → from ≤ 2 → zip2 (λ a b. cond (eqb a b) 255 0) (chunk from 32 block) (replicate 32 y) ≡ map (is_byte from y) positions
  equals from y few = zip2_of_maps (λ a b. cond (eqb a b) 255 0) (byte from) (λ k. y) positions (loaded block from (omega (arith, room, few))) (splat y)

  abbrev is_control : ℕ → ℕ
  is_control k = cond (ltb (byte 0 k) 32) 255 0

  controls : zip2 (λ a b. cond (ltb a b) 255 0) (chunk 0 32 block) (replicate 32 32) ≡ map is_control positions
  controls = zip2_of_maps (λ a b. cond (ltb a b) 255 0) (byte 0) (λ k. 32) positions (loaded block 0 (omega (arith, room))) (splat 32)

  abbrev is_nel : ℕ → ℕ
  is_nel k = bit_and (is_byte 0 194 k) (is_byte 1 133 k)

  nels : zip2 bit_and (zip2 (λ a b. cond (eqb a b) 255 0) (chunk 0 32 block) (replicate 32 194)) (zip2 (λ a b. cond (eqb a b) 255 0) (chunk 1 32 block) (replicate 32 133))
      ≡ map is_nel positions
  nels = zip2_of_maps bit_and (is_byte 0 194) (is_byte 1 133) positions (equals 0 194 (omega arith)) (equals 1 133 (omega arith))

  abbrev is_end : ℕ → ℕ
  is_end k = bit_and (is_byte 1 128 k) (is_byte 2 169 k)

  abbrev is_ps : ℕ → ℕ
  is_ps k = bit_and (is_byte 0 226 k) (is_end k)

  pss : zip2 bit_and (zip2 (λ a b. cond (eqb a b) 255 0) (chunk 0 32 block) (replicate 32 226))
      (zip2 bit_and (zip2 (λ a b. cond (eqb a b) 255 0) (chunk 1 32 block) (replicate 32 128)) (zip2 (λ a b. cond (eqb a b) 255 0) (chunk 2 32 block) (replicate 32 169)))
      ≡ map is_ps positions
  pss =
      zip2_of_maps bit_and (is_byte 0 226) is_end positions (equals 0 226 (omega arith))
      (zip2_of_maps bit_and (is_byte 1 128) (is_byte 2 169) positions (equals 1 128 (omega arith)) (equals 2 169 (omega arith)))

  abbrev lane_of : ℕ → ℕ
  lane_of k = bit_or (is_control k) (bit_or (is_nel k) (is_ps k))

  lane_is : (k : ℕ) → top 7 (lane_of k) ≡ leads_at block k
  lane_is k =
      let same : k + 0 ≡ k = omega arith in
      lane (ltb (byte 0 k) 32) (eqb (byte 0 k) 194) (eqb (byte 1 k) 133) (eqb (byte 0 k) 226) (eqb (byte 1 k) 128) (eqb (byte 2 k) 169)
      ∙ ap (λ i. may_lead (get_or block i 0) (byte 1 k) (byte 2 k)) same

  pub leads_are : mask_l (map (top 7) (zip2 bit_or (zip2 (λ a b. cond (ltb a b) 255 0) (chunk 0 32 block) (replicate 32 32))
      (zip2 bit_or (zip2 bit_and (zip2 (λ a b. cond (eqb a b) 255 0) (chunk 0 32 block) (replicate 32 194)) (zip2 (λ a b. cond (eqb a b) 255 0) (chunk 1 32 block) (replicate 32 133)))
      (zip2 bit_and (zip2 (λ a b. cond (eqb a b) 255 0) (chunk 0 32 block) (replicate 32 226))
      (zip2 bit_and (zip2 (λ a b. cond (eqb a b) 255 0) (chunk 1 32 block) (replicate 32 128)) (zip2 (λ a b. cond (eqb a b) 255 0) (chunk 2 32 block) (replicate 32 169))))))) % 2 ^ 64
      ≡ mask_l (map (leads_at block) positions)
  leads_are =
      let special = zip2_of_maps bit_or is_nel is_ps positions nels pss in
      bits_by_position block _ lane_of (zip2_of_maps bit_or is_control (λ k. bit_or (is_nel k) (is_ps k)) positions controls special) lane_is

-- ---- from the bits to the positions

-- n is the first position of a block at which a separator may begin, or 32 if there is none
pub record IsFirst (block : List ℕ) (n : ℕ) : Type 0 where
  pub within : n ≤ 32
  pub before : (k : ℕ) → k < n → leads_at block k ≡ false
  pub here : n < 32 → leads_at block n ≡ true

at_position : (k : ℕ) → k < 32 → get_or positions k 0 ≡ k
at_position k lt = get_or-range_with_len 0 32 k 0 lt ∙ (let first : 0 + k ≡ k = omega arith in first)

first_is : (block : List ℕ) (n : ℕ) → n ≡ prefix_len (λ k. not (leads_at block k)) positions → IsFirst block n
first_is block n is =
    let plain : ℕ → Bool = λ k. not (leads_at block k) in
    let len = length-range_with_len 0 32 in
    let most = prefix_len-le-length plain positions in
    record {
      within = omega (arith, is, len, most);
      before = λ k lt. subst (λ i. leads_at block i ≡ false) (at_position k (omega (arith, lt, is, len, most)))
          (not-true _ (prefix_len_passes plain positions k 0 (omega (arith, lt, is))));
      here = λ lt. subst (λ i. leads_at block i ≡ true) (ap (λ i. get_or positions i 0) (sym is) ∙ at_position n lt)
          (not-false _ (prefix_len_stops plain positions 0 (omega (arith, lt, is, len))));
    }

pub no_lead : (block : List ℕ) (bits : ℕ) → bits ≡ mask_l (map (leads_at block) positions) → bits ≡ 0 → IsFirst block 32
no_lead block bits is none =
    first_is block 32 (sym (length-range_with_len 0 32) ∙ sym (leading_from_mask_l (leads_at block) positions (sym is ∙ none)))

pub some_lead : (block : List ℕ) (bits n : ℕ) → bits ≡ mask_l (map (leads_at block) positions) → 0 < bits → n ≡ count_trailing_zeros 64 bits → IsFirst block n
some_lead block bits n is some found =
    first_is block n (found ∙ ap (count_trailing_zeros 64) is ∙ trailing_mask_l (leads_at block) 64 positions (omega (arith, length-range_with_len 0 32)) (omega (arith, is, some)))
