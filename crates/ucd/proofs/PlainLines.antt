-- Lines with a field, a name and possibly a comment, described by the indices at which these parts begin and end.
use Rattle.std.proofs.Common.{◌≡◌, ℕ, ◌+◌, ◌-◌, ◌<◌, ◌≤◌, ◌==◌, nat_le, Bool, Some, None, if◌then◌else◌, List, [], ◌∷◌, length, get_or, take, drop, map, true, false, refl, sym, ◌∙◌, ap, subst, inl, inr, arith}
use Rattle.std.specs.List.{slice_split, list_all}
use Rattle.std.specs.Char.{is_ascii, is_ascii_hexdigit}
use Rattle.std.proofs.lemmas.Bool.{cases_lt, lt-ltb, leb-true, ne_eqb, and_parts}
use Rattle.std.proofs.lemmas.List.{get_or-take, get_or-drop, length-take-le, length-drop, take_all, take_rest, ext_get_or}
use Rattle.std.proofs.lemmas.List.Elements.{All-from_get_or, All-get_or}
use Rattle.std.proofs.lemmas.List.Sums.{list_all-from_AllPass, AllPass-from_list_all}
use Rattle.ucd.specs.Grammar.{is_delimiter, is_one_of, spaces, blanks, trimmed, before_comment, content_of, fields_of, hex_value, is_code_point, code_point, points_by, points_of}
use Rattle.ucd.specs.PlainLines.{IsWordByte, AreWord, AreSpaces, IsPlain}
use Rattle.ucd.proofs.Cuts.{NoDelimiterBelow, front_at, front_all, parts_at, parts_one}
use Rattle.ucd.proofs.Trims.{trimmed_at}

-- if m ≤ h, taking h items of a list and then m of these is the same as taking m items
take_take : (l : List ℕ) (m h : ℕ) → m ≤ h → h ≤ length l → take m (take h l) ≡ take m l
take_take l m h le within =
    let long : length (take h l) ≡ h = length-take-le h l within in
    let one : length (take m (take h l)) ≡ m = length-take-le m (take h l) (omega (arith, long)) in
    let other : length (take m l) ≡ m = length-take-le m l (omega arith) in
    ext_get_or 0 _ _ (one ∙ sym other)
    (λ i lt. let im : i < m = omega (arith, one) in get_or-take m (take h l) i 0 im ∙ get_or-take h l i 0 (omega arith) ∙ sym (get_or-take m l i 0 im))

-- the byte at an index of a part is the byte of the whole list at the sum of the index and the part's offset
byte_at : (l : List ℕ) (a b m i : ℕ) → a + (b + i) < m → get_or (drop b (drop a (take m l))) i 0 ≡ get_or l (a + (b + i)) 0
byte_at l a b m i lt = get_or-drop b (drop a (take m l)) i 0 ∙ get_or-drop a (take m l) (b + i) 0 ∙ get_or-take m l (a + (b + i)) 0 lt

same_byte : (l : List ℕ) (a n m i : ℕ) → a ≤ n → i < m - n → get_or (take (m - n) (drop (n - a) (drop a (take m l)))) i 0 ≡ get_or (take (m - n) (drop n l)) i 0
same_byte l a n m i an lt =
    let place : a + (n - a + i) ≡ n + i = omega arith in
    get_or-take (m - n) (drop (n - a) (drop a (take m l))) i 0 lt ∙ byte_at l a (n - a) m i (omega arith) ∙ ap (λ k. get_or l k 0) place
    ∙ sym (get_or-drop n l i 0) ∙ sym (get_or-take (m - n) (drop n l) i 0 lt)

-- the bytes from n to m are the same, whether taken from the whole list or from its part from a to m
part_of_part : (l : List ℕ) (a n m : ℕ) → a ≤ n → n ≤ m → m ≤ length l → take (m - n) (drop (n - a) (drop a (take m l))) ≡ take (m - n) (drop n l)
part_of_part l a n m an nm within =
    let long : length (take m l) ≡ m = length-take-le m l within in
    let rest : length (drop (n - a) (drop a (take m l))) ≡ m - n = omega (arith, length-drop (n - a) (drop a (take m l)), length-drop a (take m l), long) in
    let one : length (take (m - n) (drop (n - a) (drop a (take m l)))) ≡ m - n = length-take-le (m - n) _ (omega (arith, rest)) in
    let whole : length (drop n l) ≡ length l - n = length-drop n l in
    let other : length (take (m - n) (drop n l)) ≡ m - n = length-take-le (m - n) (drop n l) (omega (arith, whole)) in
    ext_get_or 0 _ _ (one ∙ sym other) (λ i lt. same_byte l a n m i an (omega (arith, one)))

-- a byte above 32 is not white space, and the byte 32 is
not_space : (b : ℕ) → 32 < b → is_one_of spaces b ≡ false
not_space b above = rw (ne_eqb 32 b (λ is. omega arith), ne_eqb 9 b (λ is. omega arith)) refl

not_blank : (b : ℕ) → 32 < b → is_one_of blanks b ≡ false
not_blank b above = rw (ne_eqb 32 b (λ is. omega arith), ne_eqb 9 b (λ is. omega arith), ne_eqb 13 b (λ is. omega arith)) refl

is_space : (b : ℕ) → b ≡ 32 → is_one_of spaces b ≡ true
is_space b is = rw is refl

is_blank : (b : ℕ) → b ≡ 32 → is_one_of blanks b ≡ true
is_blank b is = rw is refl

-- A field ends at `f`, its separator is at `s`, a name is in `n..m`, and the line ends or its comment begins at `h`.
-- Everything else before `h` is a space.
module _ (line : List ℕ) (f s n m h : ℕ) (some : 0 < f) (fs : f ≤ s) (sn : s < n) (nm : n < m) (mh : m ≤ h) (hl : h ≤ length line)
    (field : AreWord line 0 f) (gap : AreSpaces line f s) (separator : get_or line s 0 ≡ 59) (next : AreSpaces line (s + 1) n)
    (name : AreWord line n m) (last : AreSpaces line m h) (comment : h < length line → get_or line h 0 ≡ 35) where
  -- the bytes before the comment are ASCII, and none of them is `#`
  before : (k : ℕ) → k < h → (get_or line k 0 < 128) × (get_or line k 0 ≡ 35 → ⊥)
  before k lt = elim (cases_lt k f) [
    | inl in_field ↦ let w = field k (omega arith) in_field in (w.ascii, w.no_comment)
    | inr after ↦ elim (cases_lt k s) [
      | inl in_gap ↦ let is = gap k after in_gap in (omega (arith, is), λ other. omega (arith, is, other))
      | inr from ↦ elim (cases_lt k (s + 1)) [
        | inl at ↦ let is : k ≡ s = omega arith in rw is (omega (arith, separator), λ other. omega (arith, separator, other))
        | inr past ↦ elim (cases_lt k n) [
          | inl in_next ↦ let is = next k past in_next in (omega (arith, is), λ other. omega (arith, is, other))
          | inr named ↦ elim (cases_lt k m) [
            | inl in_name ↦ let w = name k named in_name in (w.ascii, w.no_comment)
            | inr ended ↦ let is = last k ended lt in (omega (arith, is), λ other. omega (arith, is, other))
          ]
        ]
      ]
    ]
  ]

  before_separator : (k : ℕ) → k < s → get_or line k 0 ≡ 59 → ⊥
  before_separator k lt other = elim (cases_lt k f) [
    | inl in_field ↦ (field k (omega arith) in_field).no_separator other
    | inr after ↦ omega (arith, gap k after lt, other)
  ]

  after_separator : (k : ℕ) → s + 1 ≤ k → k < m → get_or line k 0 ≡ 59 → ⊥
  after_separator k from lt other = elim (cases_lt k n) [
    | inl in_next ↦ omega (arith, next k from in_next, other)
    | inr named ↦ (name k named lt).no_separator other
  ]

  cut : before_comment line ≡ take h line
  cut = elim (cases_lt h (length line)) [
    | inl lt ↦ sym (front_at 35 line h (λ k lt. (before k lt).1) lt (comment lt))
    | inr ge ↦ sym (front_all 35 line (λ k lt. (before k (omega arith)).1)) ∙ sym (take_all h line ge)
  ]

  pub plain_ascii : list_all is_ascii (before_comment line) ≡ true
  plain_ascii =
      let long : length (take h line) ≡ h = length-take-le h line (omega arith) in
      ap (list_all is_ascii) cut
      ∙ list_all-from_AllPass is_ascii (take h line) (All-from_get_or (λ b. is_ascii b ≡ true) (take h line) 0
      (λ i lt. let within : i < h = omega (arith, long) in rw (get_or-take h line i 0 within) (lt-ltb _ _ (before i within).0)))

  -- the content of the line (without comment and white space) is its first m bytes
  content : content_of line ≡ take m line
  content =
      let front = take h line in
      let long : length front ≡ h = length-take-le h line (omega arith) in
      let byte : (k : ℕ) → k < h → get_or front k 0 ≡ get_or line k 0 = λ k lt. get_or-take h line k 0 lt in
      ap (trimmed (is_one_of blanks)) cut
      ∙ sym (trimmed_at (is_one_of blanks) front front 0 m refl (omega arith) (λ k lt. absurd (omega arith))
      (λ lt. ap (is_one_of blanks) (byte 0 (omega arith)) ∙ not_blank _ (field 0 (omega arith) some).above)
      (omega (arith, long))
      (λ k from lt. ap (is_one_of blanks) (byte k (omega (arith, long))) ∙ is_blank _ (last k from (omega (arith, long))))
      (λ lt. ap (is_one_of blanks) (byte (m - 1) (omega arith)) ∙ not_blank _ (name (m - 1) (omega arith) (omega arith)).above))
      ∙ take_take line m h mh (omega arith)

  pub plain_some : (length (content_of line) == 0) ≡ false
  plain_some =
      let long : length (content_of line) ≡ m = ap length content ∙ length-take-le m line (omega arith) in
      ne_eqb _ _ (λ is. omega (arith, long, is))

  split : slice_split (is_delimiter 59) (take m line) ≡ take s line ∷ drop (s + 1) (take m line) ∷ []
  split =
      let front = take m line in
      let long : length front ≡ m = length-take-le m line (omega arith) in
      let byte : (k : ℕ) → k < m → get_or front k 0 ≡ get_or line k 0 = λ k lt. get_or-take m line k 0 lt in
      let rest : take (length front - (s + 1)) (drop (s + 1) front) ≡ drop (s + 1) front = take_rest front (s + 1) in
      let left : length (drop (s + 1) front) ≡ m - (s + 1) = omega (arith, length-drop (s + 1) front, long) in
      let none : NoDelimiterBelow 59 (drop (s + 1) front) (length (drop (s + 1) front)) = λ k lt other.
      let within : s + 1 + k < m = omega (arith, left) in
      after_separator (s + 1 + k) (omega arith) within (sym (byte (s + 1 + k) within) ∙ sym (get_or-drop (s + 1) front k 0) ∙ other) in
      parts_at 59 front s (λ k lt other. before_separator k lt (sym (byte k (omega arith)) ∙ other)) (omega (arith, long)) (byte s (omega arith) ∙ separator)
      ∙ ap (λ part. take s front ∷ slice_split (is_delimiter 59) part) rest
      ∙ ap (λ parts. take s front ∷ parts) (parts_one 59 (drop (s + 1) front) none)
      ∙ ap (λ part. part ∷ drop (s + 1) front ∷ []) (take_take line s m (omega arith) (omega arith))

  first_field : trimmed (is_one_of spaces) (take s line) ≡ take f line
  first_field =
      let front = take s line in
      let long : length front ≡ s = length-take-le s line (omega arith) in
      let byte : (k : ℕ) → k < s → get_or front k 0 ≡ get_or line k 0 = λ k lt. get_or-take s line k 0 lt in
      sym (trimmed_at (is_one_of spaces) front front 0 f refl (omega arith) (λ k lt. absurd (omega arith))
      (λ lt. ap (is_one_of spaces) (byte 0 (omega arith)) ∙ not_space _ (field 0 (omega arith) some).above)
      (omega (arith, long))
      (λ k from lt. ap (is_one_of spaces) (byte k (omega (arith, long))) ∙ is_space _ (gap k from (omega (arith, long))))
      (λ lt. ap (is_one_of spaces) (byte (f - 1) (omega arith)) ∙ not_space _ (field (f - 1) (omega arith) (omega arith)).above))
      ∙ take_take line f s fs (omega arith)

  second_field : trimmed (is_one_of spaces) (drop (s + 1) (take m line)) ≡ take (m - n) (drop n line)
  second_field =
      let front = drop (s + 1) (take m line) in
      let start = n - (s + 1) in
      let long : length front ≡ m - (s + 1) = omega (arith, length-drop (s + 1) (take m line), length-take-le m line (omega arith)) in
      let left : length (drop start front) ≡ m - n = omega (arith, length-drop start front, long) in
      let byte : (k : ℕ) → s + 1 + k < m → get_or front k 0 ≡ get_or line (s + 1 + k) 0 = λ k lt. get_or-drop (s + 1) (take m line) k 0 ∙ get_or-take m line (s + 1 + k) 0 lt in
      let end : get_or (drop start front) (m - n - 1) 0 ≡ get_or line (m - 1) 0 =
      let place : s + 1 + (start + (m - n - 1)) ≡ m - 1 = omega arith in
      get_or-drop start front (m - n - 1) 0 ∙ byte (start + (m - n - 1)) (omega arith) ∙ ap (λ k. get_or line k 0) place in
      sym (trimmed_at (is_one_of spaces) front (drop start front) start (m - n) refl (omega (arith, long))
      (λ k lt. ap (is_one_of spaces) (byte k (omega arith)) ∙ is_space _ (next (s + 1 + k) (omega arith) (omega arith)))
      (λ lt. ap (is_one_of spaces) (byte start (omega arith)) ∙ not_space _ (name (s + 1 + start) (omega arith) (omega arith)).above)
      (omega (arith, left))
      (λ k from lt. absurd (let no : ⊥ = omega (arith, left) in no))
      (λ lt. ap (is_one_of spaces) end ∙ not_space _ (name (m - 1) (omega arith) (omega arith)).above))
      ∙ part_of_part line (s + 1) n m (omega arith) (omega arith) (omega arith)

  pub plain_fields : fields_of (content_of line) ≡ take f line ∷ take (m - n) (drop n line) ∷ []
  plain_fields =
      ap fields_of content ∙ ap (map (trimmed (is_one_of spaces))) split
      ∙ ap (λ part. part ∷ trimmed (is_one_of spaces) (drop (s + 1) (take m line)) ∷ []) first_field
      ∙ ap (λ part. take f line ∷ part ∷ []) second_field

  -- if the first field holds these code points, the line is plain
  pub plain_line : (x y : ℕ) → points_of true (take f line) ≡ Some (x, y) → IsPlain line x y (take (m - n) (drop n line))
  plain_line x y points = record { ascii = plain_ascii; some = plain_some; field = take f line; fields = plain_fields; points = points }

-- ---- the digits of a code point
is_given : (b : Bool) (v w : ℕ) → (if b then Some w else None) ≡ Some v → b ≡ true
is_given true v w is = refl
is_given false v w is = absurd (let no : ⊥ = cc in no)

digit_at : (x : List ℕ) (v k : ℕ) → code_point x ≡ Some v → k < length x → is_ascii_hexdigit (get_or x k 0) ≡ true
digit_at x v k is lt =
    let long = and_parts _ _ (is_given (is_code_point x) v (hex_value x) is) in
    let short = and_parts _ _ long.1 in
    let digits = and_parts _ _ short.1 in
    All-get_or (λ b. is_ascii_hexdigit b ≡ true) x k 0 lt (AllPass-from_list_all is_ascii_hexdigit x digits.0)

pub some_digits : (x : List ℕ) (v : ℕ) → code_point x ≡ Some v → 4 ≤ length x
some_digits x v is =
    let long = and_parts _ _ (is_given (is_code_point x) v (hex_value x) is) in
    let few : nat_le 4 (length x) ≡ true = long.0 in
    omega (arith, leb-true _ _ few)

digit_word : (b : ℕ) → is_ascii_hexdigit b ≡ true → IsWordByte b
digit_word b is = record { above = grind arith; ascii = grind arith; no_comment = λ o. grind arith; no_separator = λ o. grind arith }

no_dot : (b : ℕ) → is_ascii_hexdigit b ≡ true → b ≡ 46 → ⊥
no_dot b is dot = grind arith

dot_word : (b : ℕ) → b ≡ 46 → IsWordByte b
dot_word b is = record { above = omega (arith, is); ascii = omega (arith, is); no_comment = λ o. omega (arith, is, o); no_separator = λ o. omega (arith, is, o) }

-- a field with a single code point is the range from this code point to itself
pub single_points : (x : List ℕ) (v : ℕ) → code_point x ≡ Some v → points_of true x ≡ Some (v, v)
single_points x v is = ap (points_by true) (parts_one 46 x (λ k lt. no_dot _ (digit_at x v k is lt))) ∙ rw is refl

pub single_word : (line : List ℕ) (d v : ℕ) → d ≤ length line → code_point (take d line) ≡ Some v → AreWord line 0 d
single_word line d v within is k from lt =
    let long : length (take d line) ≡ d = length-take-le d line within in
    subst IsWordByte (get_or-take d line k 0 lt) (digit_word _ (digit_at (take d line) v k is (omega (arith, long))))

-- ---- two code points with two dots between them
module _ (line : List ℕ) (d e v w : ℕ) (within : d + 2 + e ≤ length line) (first : code_point (take d line) ≡ Some v) (last : code_point (take e (drop (d + 2) line)) ≡ Some w)
    (dot : get_or line d 0 ≡ 46) (other_dot : get_or line (d + 1) 0 ≡ 46) where
  pub range_word : AreWord line 0 (d + 2 + e)
  range_word k from lt = elim (cases_lt k d) [
    | inl before ↦ single_word line d v (omega arith) first k from before
    | inr at ↦ elim (cases_lt k (d + 1)) [
      | inl here ↦ let is : k ≡ d = omega arith in rw is (dot_word _ dot)
      | inr past ↦ elim (cases_lt k (d + 2)) [
        | inl here ↦ let is : k ≡ d + 1 = omega arith in rw is (dot_word _ other_dot)
        | inr after ↦
            let place : d + 2 + (k - (d + 2)) ≡ k = omega arith in
            let long : length (drop (d + 2) line) ≡ length line - (d + 2) = length-drop (d + 2) line in
            subst IsWordByte (get_or-drop (d + 2) line (k - (d + 2)) 0 ∙ ap (λ i. get_or line i 0) place)
            (single_word (drop (d + 2) line) e w (omega (arith, long)) last (k - (d + 2)) (omega arith) (omega arith))
      ]
    ]
  ]

  pub range_points : points_of true (take (d + 2 + e) line) ≡ Some (v, w)
  range_points =
      let front = take (d + 2 + e) line in
      let rest = drop (d + 1) front in
      let end = take e (drop (d + 2) line) in
      let long : length front ≡ d + 2 + e = length-take-le (d + 2 + e) line within in
      let left : length rest ≡ e + 1 = omega (arith, length-drop (d + 1) front, long) in
      let after : length (drop (0 + 1) rest) ≡ e = omega (arith, length-drop (0 + 1) rest, left) in
      let more : length (drop (d + 2) line) ≡ length line - (d + 2) = length-drop (d + 2) line in
      let ended : length end ≡ e = length-take-le e (drop (d + 2) line) (omega (arith, more)) in
      let byte : (k : ℕ) → k < d + 2 + e → get_or front k 0 ≡ get_or line k 0 = λ k lt. get_or-take (d + 2 + e) line k 0 lt in
      let later : (k : ℕ) → d + 1 + k < d + 2 + e → get_or rest k 0 ≡ get_or line (d + 1 + k) 0 = λ k lt. get_or-drop (d + 1) front k 0 ∙ byte (d + 1 + k) lt in
      let is_end : drop (0 + 1) rest ≡ end =
      ext_get_or 0 _ _ (after ∙ sym ended)
      (λ i lt.
      let few : i < e = omega (arith, after) in
      let place : d + 1 + (0 + 1 + i) ≡ d + 2 + i = omega arith in
      get_or-drop (0 + 1) rest i 0 ∙ later (0 + 1 + i) (omega arith) ∙ ap (λ k. get_or line k 0) place ∙ sym (get_or-take e (drop (d + 2) line) i 0 few ∙ get_or-drop (d + 2) line i 0)) in
      let next : d + 1 + 0 ≡ d + 1 = omega arith in
      let begin : take d front ≡ take d line = take_take line d (d + 2 + e) (omega arith) within in
      let short : length (take d line) ≡ d = length-take-le d line (omega arith) in
      ap (points_by true)
      (parts_at 46 front d
      (λ k lt other. no_dot _ (digit_at (take d line) v k first (omega (arith, short))) (get_or-take d line k 0 lt ∙ sym (byte k (omega arith)) ∙ other))
      (omega (arith, long)) (byte d (omega arith) ∙ dot)
      ∙ ap (λ part. take d front ∷ slice_split (is_delimiter 46) part) (take_rest front (d + 1))
      ∙ ap (λ parts. take d front ∷ parts)
      (parts_at 46 rest 0 (λ k lt. absurd (omega arith)) (omega (arith, left)) (later 0 (omega arith) ∙ ap (λ k. get_or line k 0) next ∙ other_dot)
      ∙ ap (λ part. [] ∷ slice_split (is_delimiter 46) part) (take_rest rest (0 + 1) ∙ is_end)
      ∙ ap (λ parts. [] ∷ parts) (parts_one 46 end (λ k lt. no_dot _ (digit_at end w k last lt))))
      ∙ ap (λ part. part ∷ [] ∷ end ∷ []) begin)
      ∙ rw (first, last) refl
