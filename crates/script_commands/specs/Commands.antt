-- The command of each line of an edit script.
use Rattle.std.specs.Prelude.{◌≡◌, ◌<◌, ℕ, zero, suc, ◌+◌, ◌*◌, ◌-◌, ◌==◌, nat_lt, nat_le, ◌&&◌, ◌||◌, Bool, List, [], ◌∷◌, length, fold, take, drop, take_while, slice_index, codes, Option, Some, None, is_some, false, true, option_map, if◌then◌else◌}
use Rattle.std.specs.Char.{digit_value, is_digit}
use Rattle.std.specs.Cmp.Lexicographic.{pointwise}
use Rattle.std.specs.List.{after_first, before_first, list_all, position_or_len}
use Rattle.script_commands.specs.declared.commands.Query.{Query}
use Rattle.script_commands.specs.declared.commands.Query.TheVariants as ask

-- A command inserts a text before the character at a position, deletes characters from a position on, sets
-- the width, prints all lines, or replies to a query.
pub data Command : Type 0 where
  Insert : (pos : ℕ) (inserted : List ℕ) → Command
  Delete : (pos count : ℕ) → Command
  SetWidth : (width : ℕ) → Command
  Show : Command
  Ask : (query : Query) → Command

-- the number that digits denote in a radix; `number_in` accepts 1 to 9 decimal digits
abbrev pub number_by : ℕ → List ℕ → ℕ
number_by radix digits = fold (λ n d. radix * n + digit_value d) 0 digits

abbrev pub are_digits : ℕ → List ℕ → Bool
are_digits radix text = list_all (λ c. is_digit c radix) text

abbrev pub number_in : List ℕ → Option ℕ
number_in text = if nat_lt 0 (length text) && (nat_le (length text) 9 && are_digits 10 text) then Some (number_by 10 text) else None

-- An escape is a backslash followed by `n`, `r`, a backslash or `u{H}`. H is a Unicode scalar value in 1 to 6
-- hexadecimal digits. Given the text after the backslash, these definitions return the character and the
-- length of the whole escape, or `None` if the escape is invalid.
abbrev pub is_character : ℕ → Bool
is_character n = nat_lt n 0xD800 || (nat_le 0xE000 n && nat_le n 0x10FFFF)

abbrev pub braced_by : List ℕ → List ℕ → Option (ℕ × ℕ)
braced_by digits text =
    if nat_lt 0 (length digits) && (nat_le (length digits) 6 && (slice_index text (length digits) == 125 && is_character (number_by 16 digits)))
    then Some (number_by 16 digits, length digits + 4) else None

abbrev pub braced : List ℕ → Option (ℕ × ℕ)
braced text = braced_by (take_while (λ c. is_digit c 16) text) text

abbrev pub escaped : List ℕ → Option (ℕ × ℕ)
escaped text =
    if slice_index text 0 == 110 then Some (10, 2)
    else (if slice_index text 0 == 114 then Some (13, 2)
    else (if slice_index text 0 == 92 then Some (92, 2)
    else (if slice_index text 0 == 117 && slice_index text 1 == 123 then braced (drop 2 text) else None)))

-- the first character that a text represents, and how many characters represent it; `None` if these are an
-- invalid escape
abbrev pub written : ℕ → List ℕ → Option (ℕ × ℕ)
written c after = if c == 92 then escaped after else Some (c, 1)

-- the characters that a text represents after its first `skip` characters, which belong to a decoded escape
abbrev pub onto : Option (ℕ × ℕ) → (ℕ → Option (List ℕ)) → Option (List ℕ)
onto None others = None
onto (Some (c, len)) others = option_map (λ cs. c ∷ cs) (others len)

unfoldable pub unescaped_after : ℕ → List ℕ → Option (List ℕ)
unescaped_after skip [] = Some []
unescaped_after (suc skip) (c ∷ text) = unescaped_after skip text
unescaped_after zero (c ∷ text) = onto (written c text) (λ len. unescaped_after (len - 1) text)

abbrev pub unescaped : List ℕ → Option (List ℕ)
unescaped text = unescaped_after 0 text

-- the parts of a text before and after its first space, or `None` if it has no space
abbrev pub is_space : ℕ → Bool
is_space c = c == 32

abbrev pub parted : List ℕ → Option (List ℕ × List ℕ)
parted text = if nat_lt (position_or_len is_space text) (length text) then Some (before_first is_space text, after_first is_space text) else None

-- the rest of a text after a prefix, or `None` if the text does not start with the prefix
abbrev pub stripped : List ℕ → List ℕ → Option (List ℕ)
stripped word text = if pointwise (◌==◌) (take (length word) text) word then Some (drop (length word) text) else None

-- `insert POS TEXT`, `delete POS COUNT`, `width N` and `show`
abbrev pub insertion_of : Option ℕ → Option (List ℕ) → Option Command
insertion_of (Some pos) (Some inserted) = Some (Insert pos inserted)
insertion_of (Some pos) None = None
insertion_of None inserted = None

abbrev pub insertion_in : Option (List ℕ × List ℕ) → Option Command
insertion_in None = None
insertion_in (Some (pos, text)) = insertion_of (number_in pos) (unescaped text)

-- All escapes of `text` are valid, and `kept` has fewer characters than the text represents.
pub record LacksText (text kept : List ℕ) : Type 0 where
  pub whole : List ℕ
  pub right : unescaped text ≡ Some whole
  pub short : length kept < length whole

-- The position of an insert is a number, and `kept` has fewer characters than the insert's text represents.
pub record LacksInsertedIn (text kept : List ℕ) : Type 0 where
  pub pos : List ℕ
  pub inserted : List ℕ
  pub parts : parted text ≡ Some (pos, inserted)
  pub place : is_some (number_in pos) ≡ true
  pub some : 0 < length inserted
  pub lacks : LacksText inserted kept

pub record LacksInserted (line kept : List ℕ) : Type 0 where
  pub rest : List ℕ
  pub word : stripped (codes "insert ") line ≡ Some rest
  pub inserted : LacksInsertedIn rest kept

abbrev pub deletion_of : Option ℕ → Option ℕ → Option Command
deletion_of (Some pos) (Some count) = Some (Delete pos count)
deletion_of (Some pos) None = None
deletion_of None count = None

abbrev pub deletion_in : Option (List ℕ × List ℕ) → Option Command
deletion_in None = None
deletion_in (Some (pos, count)) = deletion_of (number_in pos) (number_in count)

abbrev pub command_by : Option (List ℕ) → Option (List ℕ) → Option (List ℕ) → Option (List ℕ) → Option Command
command_by (Some rest) insert delete width = if length rest == 0 then Some Show else None
command_by None (Some rest) delete width = insertion_in (parted rest)
command_by None None (Some rest) width = deletion_in (parted rest)
command_by None None None (Some rest) = option_map SetWidth (number_in rest)
command_by None None None None = None

abbrev pub edit_command_in : List ℕ → Option Command
edit_command_in line =
    command_by (stripped (codes "show") line) (stripped (codes "insert ") line) (stripped (codes "delete ") line) (stripped (codes "width ") line)

-- `lines FIRST COUNT`, `caret POS`, `hit LINE COLUMN`, `cluster POS`, `word POS`, `size` and `text POS COUNT`
abbrev pub both_of : {A B : Type 0} → Option A → Option B → Option (A × B)
both_of (Some a) (Some b) = Some (a, b)
both_of (Some a) None = None
both_of None b = None

abbrev pub both_in : Option (List ℕ × List ℕ) → Option (ℕ × ℕ)
both_in None = None
both_in (Some (a, b)) = both_of (number_in a) (number_in b)

-- three numbers
abbrev pub three_in : Option (List ℕ × List ℕ) → Option (ℕ × (ℕ × ℕ))
three_in None = None
three_in (Some (a, rest)) = both_of (number_in a) (both_in (parted rest))

-- which of two words a text is: `false` for the first word, `true` for the second
abbrev pub choice_in : List ℕ → List ℕ → List ℕ → Option Bool
choice_in one other text = if pointwise (◌==◌) text one then Some false else (if pointwise (◌==◌) text other then Some true else None)

-- whether a side is `after`, and whether a direction is `right`
abbrev pub side_in : List ℕ → Option Bool
side_in text = choice_in (codes "before") (codes "after") text

abbrev pub direction_in : List ℕ → Option Bool
direction_in text = choice_in (codes "left") (codes "right") text

-- `POS SIDE`, `SIDE DIRECTION` and `POS SIDE DIRECTION`
abbrev pub edge_in : Option (List ℕ × List ℕ) → Option (ℕ × Bool)
edge_in None = None
edge_in (Some (pos, side)) = both_of (number_in pos) (side_in side)

abbrev pub turn_in : Option (List ℕ × List ℕ) → Option (Bool × Bool)
turn_in None = None
turn_in (Some (side, direction)) = both_of (side_in side) (direction_in direction)

abbrev pub step_in : Option (List ℕ × List ℕ) → Option (ℕ × (Bool × Bool))
step_in None = None
step_in (Some (pos, rest)) = both_of (number_in pos) (turn_in (parted rest))

-- a query whose word is followed by two numbers, one number or nothing
abbrev pub with_two : (ℕ → ℕ → Query) → List ℕ → Option Query
with_two query rest = option_map (λ n. query n.0 n.1) (both_in (parted rest))

abbrev pub with_one : (ℕ → Query) → List ℕ → Option Query
with_one query rest = option_map query (number_in rest)

abbrev pub with_none : Query → List ℕ → Option Query
with_none query rest = if length rest == 0 then Some query else None

-- the query of a line that starts with a word; `other` is the query of any other line
abbrev pub by_word : Option (List ℕ) → (List ℕ → Option Query) → Option Query → Option Query
by_word (Some rest) query other = query rest
by_word None query other = other

-- `edge POS SIDE`, `step POS SIDE DIRECTION`, `at LINE COLUMN`, `ends LINE`, `spans LINE FROM TO`, `runs LINE`,
-- `clusters LINE` and `why POS`
unfoldable pub edge_query_in : List ℕ → Option Query
edge_query_in line =
    by_word (stripped (codes "edge ") line) (λ rest. option_map (λ edge. ask.Edge edge.0 edge.1) (edge_in (parted rest)))
    (by_word (stripped (codes "step ") line) (λ rest. option_map (λ step. ask.Step step.0 (step.1).0 (step.1).1) (step_in (parted rest)))
    (by_word (stripped (codes "at ") line) (with_two ask.At)
    (by_word (stripped (codes "ends ") line) (with_one ask.Ends)
    (by_word (stripped (codes "spans ") line) (λ rest. option_map (λ n. ask.Spans n.0 (n.1).0 (n.1).1) (three_in (parted rest)))
    (by_word (stripped (codes "runs ") line) (with_one ask.Runs)
    (by_word (stripped (codes "clusters ") line) (with_one ask.Clusters)
    (by_word (stripped (codes "why ") line) (with_one ask.Why) None)))))))

-- `byte POS`, `utf16 POS`, `frombyte BYTE` and `fromutf16 UNIT`
unfoldable pub offset_query_in : List ℕ → Option Query
offset_query_in line =
    by_word (stripped (codes "byte ") line) (with_one ask.Byte)
    (by_word (stripped (codes "utf16 ") line) (with_one ask.Utf16)
    (by_word (stripped (codes "frombyte ") line) (with_one ask.FromByte)
    (by_word (stripped (codes "fromutf16 ") line) (with_one ask.FromUtf16) (edge_query_in line))))

unfoldable pub query_in : List ℕ → Option Query
query_in line =
    by_word (stripped (codes "lines ") line) (with_two ask.Lines)
    (by_word (stripped (codes "caret ") line) (with_one ask.Caret)
    (by_word (stripped (codes "hit ") line) (with_two ask.Hit)
    (by_word (stripped (codes "cluster ") line) (with_one ask.Cluster)
    (by_word (stripped (codes "word ") line) (with_one ask.Word)
    (by_word (stripped (codes "size") line) (with_none ask.Size)
    (by_word (stripped (codes "text ") line) (with_two ask.Text) (offset_query_in line)))))))

-- if queries are allowed, a line that is not another command may be a query
abbrev pub or_query : Option Command → Option Query → Option Command
or_query (Some command) query = Some command
or_query None query = option_map Ask query

abbrev pub command_in : Bool → List ℕ → Option Command
command_in queries line = or_query (edit_command_in line) (if queries then query_in line else None)
