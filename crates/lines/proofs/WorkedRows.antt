-- Worked examples: where lines start, and the values of limits and buffer sizes.
use Rattle.std.proofs.Common.{◌≡◌, ℕ, ◌-◌, ◌^◌, true, false, Some, None, List, [], ◌∷◌, ◌++◌, map, replicate, refl}
use Rattle.breaks.specs.declared.mark.Mark.TheVariants.{Never, May, Must}
use Rattle.lines.specs.Engine.{counted}
use Rattle.lines.specs.Filling.{before_tail, columns, line_starts_of}
use Rattle.lines.specs.ShownParts.{shown, shown_len}
use Rattle.lines.specs.declared.printing.bytes.TheConstants.{CHARACTERS_AT_ONCE, ROW_BYTES_AT_ONCE}
use Rattle.lines.specs.declared.engine.TheConstants.{PARAGRAPH_LIMIT}
use Rattle.lines.specs.declared.char_info.CharInfo.{CharInfo}
use Rattle.lines.specs.declared.char_info.Trailing.TheVariants.{No, Space, Separator, Tab}

-- a letter, a space, a space before a break opportunity, and the last letter of a paragraph
abbrev letter : CharInfo
letter = record { columns = 1; trailing = No; mark = Never; ends_cluster = true }

abbrev space : CharInfo
space = record { columns = 1; trailing = Space; mark = Never; ends_cluster = true }

abbrev last_space : CharInfo
last_space = record space { mark = May }

abbrev last : CharInfo
last = record letter { mark = Must }

abbrev starts : ℕ → List CharInfo → List ℕ
starts width infos = line_starts_of false width infos

letters : starts 3 (letter ∷ letter ∷ letter ∷ letter ∷ letter ∷ letter ∷ letter ∷ last ∷ []) ≡ 0 ∷ 3 ∷ 6 ∷ []
unfolding line_starts_of
letters = refl

spaces : starts 3 (letter ∷ letter ∷ letter ∷ space ∷ space ∷ last_space ∷ letter ∷ letter ∷ last ∷ []) ≡ 0 ∷ 6 ∷ []
unfolding line_starts_of
spaces = refl

abbrev words : List CharInfo
words = letter ∷ letter ∷ last_space ∷ letter ∷ letter ∷ last_space ∷ letter ∷ last ∷ []

five : starts 5 words ≡ 0 ∷ 6 ∷ []
unfolding line_starts_of
five = refl

four : starts 4 words ≡ 0 ∷ 3 ∷ 6 ∷ []
unfolding line_starts_of
four = refl

one : starts 1 words ≡ 0 ∷ 1 ∷ 3 ∷ 4 ∷ 6 ∷ 7 ∷ []
unfolding line_starts_of
one = refl

-- spaces in a tail are not shown, so three of them fit on a line one column wide
front : starts 1 (space ∷ space ∷ last_space ∷ last ∷ []) ≡ 0 ∷ 3 ∷ []
unfolding line_starts_of
front = refl

nothing_shown : before_tail (space ∷ space ∷ last_space ∷ []) ≡ []
nothing_shown = refl

-- With a margin, spaces that end within it are shown, but none after a wider text, and none after a separator.
abbrev separator : CharInfo
separator = record { columns = 0; trailing = Separator; mark = Must; ends_cluster = true }

abbrev shown_lens : List CharInfo → List ℕ
shown_lens line = shown_len None line ∷ shown_len (Some 80) line ∷ shown_len (Some 4) line ∷ shown_len (Some 3) line ∷ shown_len (Some 2) line ∷ []

after_text : shown_lens (letter ∷ letter ∷ letter ∷ space ∷ last_space ∷ []) ≡ 3 ∷ 5 ∷ 4 ∷ 3 ∷ 3 ∷ []
after_text = refl

spaces_alone : shown_lens (space ∷ space ∷ space ∷ last_space ∷ []) ≡ 0 ∷ 4 ∷ 4 ∷ 3 ∷ 2 ∷ []
spaces_alone = refl

before_separator : shown_lens (letter ∷ space ∷ space ∷ space ∷ separator ∷ []) ≡ 1 ∷ 4 ∷ 4 ∷ 3 ∷ 2 ∷ []
before_separator = refl

after_separator : shown_lens (letter ∷ separator ∷ space ∷ space ∷ []) ≡ 1 ∷ 1 ∷ 1 ∷ 1 ∷ 1 ∷ []
after_separator = refl

no_tail : shown_lens (letter ∷ space ∷ letter ∷ []) ≡ 3 ∷ 3 ∷ 3 ∷ 3 ∷ 3 ∷ []
no_tail = refl

-- spaces may have no columns, or two
shown_lens_of_zero : shown_lens (letter ∷ letter ∷ letter ∷ record space { columns = 0 } ∷ space ∷ []) ≡ 3 ∷ 5 ∷ 5 ∷ 4 ∷ 3 ∷ []
shown_lens_of_zero = refl

shown_lens_of_two : shown_lens (letter ∷ record space { columns = 2 } ∷ space ∷ []) ≡ 1 ∷ 3 ∷ 3 ∷ 2 ∷ 1 ∷ []
shown_lens_of_two = refl

columns_shown : columns (shown (Some 4) (letter ∷ letter ∷ letter ∷ space ∷ last_space ∷ [])) ≡ 4
columns_shown = refl

-- in `a`, a space with a combining mark, and `b`, the line may end inside a cluster
inside : starts 1 (letter ∷ record last_space { ends_cluster = false } ∷ record letter { columns = 0 } ∷ last ∷ []) ≡ 0 ∷ 2 ∷ []
unfolding line_starts_of
inside = refl

-- a line ends at a mandatory break at any width
ends : starts 80 (letter ∷ record space { mark = Must } ∷ last ∷ []) ≡ 0 ∷ 2 ∷ []
unfolding line_starts_of
ends = refl

nobreak : line_starts_of true 1 words ≡ 0 ∷ []
unfolding line_starts_of
nobreak = refl

-- two wide characters, each of which is wider than the line
abbrev wide : CharInfo
wide = record { columns = 2; trailing = No; mark = May; ends_cluster = true }

too_wide : starts 1 (wide ∷ record wide { mark = Must } ∷ []) ≡ 0 ∷ 1 ∷ []
unfolding line_starts_of
too_wide = refl

-- `a bW`, where W has three columns, and `a b c` have the same first three characters. A line start at the end of these, at
-- 3, does not mean that the line start before it, at 2, stays.
wide_last : starts 3 (letter ∷ last_space ∷ letter ∷ record last { columns = 3 } ∷ []) ≡ 0 ∷ 2 ∷ 3 ∷ []
unfolding line_starts_of
wide_last = refl

next_word : starts 3 (letter ∷ last_space ∷ letter ∷ last_space ∷ last ∷ []) ≡ 0 ∷ 4 ∷ []
unfolding line_starts_of
next_word = refl

-- ---- tab stops

abbrev tab : ℕ → CharInfo
tab n = record { columns = n; trailing = Tab; mark = May; ends_cluster = true }

abbrev mark : CharInfo
mark = record letter { columns = 0 }

-- a tab moves to the next tab stop
tabs_alone : map (λ n. columns (replicate n (tab 4))) (0 ∷ 1 ∷ 2 ∷ 3 ∷ []) ≡ 0 ∷ 4 ∷ 8 ∷ 12 ∷ []
tabs_alone = refl

tab_after : map (λ n. columns (replicate n letter ++ tab 4 ∷ [])) (0 ∷ 1 ∷ 2 ∷ 3 ∷ 4 ∷ 5 ∷ []) ≡ 4 ∷ 4 ∷ 4 ∷ 4 ∷ 8 ∷ 8 ∷ []
tab_after = refl

tab_between : columns (letter ∷ tab 8 ∷ letter ∷ []) ≡ 9
tab_between = refl

tab_after_wide : columns (wide ∷ tab 4 ∷ letter ∷ []) ≡ 5
tab_after_wide = refl

tab_after_mark : columns (letter ∷ mark ∷ tab 4 ∷ letter ∷ []) ≡ 5
tab_after_mark = refl

-- the tab width is at least 1 and at most 255
tab_widths : columns (letter ∷ tab 1 ∷ tab 1 ∷ []) ∷ columns (letter ∷ tab 255 ∷ []) ∷ columns (tab 255 ∷ tab 255 ∷ letter ∷ []) ∷ [] ≡ 3 ∷ 255 ∷ 511 ∷ []
tab_widths = refl

-- `abc`, a tab, `defg`, a space and `h`
abbrev tabbed : List CharInfo
tabbed = letter ∷ letter ∷ letter ∷ tab 4 ∷ letter ∷ letter ∷ letter ∷ letter ∷ last_space ∷ last ∷ []

tab_inside : starts 8 tabbed ≡ 0 ∷ 9 ∷ []
unfolding line_starts_of
tab_inside = refl

-- a line may end after a tab, and tab stops are counted from the start of each line
tab_last : starts 4 tabbed ≡ 0 ∷ 4 ∷ 9 ∷ []
unfolding line_starts_of
tab_last = refl

-- a tab that is wider than the width gets a line of its own
tab_alone : starts 3 (letter ∷ letter ∷ letter ∷ tab 4 ∷ last ∷ []) ≡ 0 ∷ 3 ∷ 4 ∷ []
unfolding line_starts_of
tab_alone = refl

-- a tab is not in the tail, so the spaces before it count
tab_after_spaces : starts 3 (letter ∷ space ∷ tab 4 ∷ last ∷ []) ≡ 0 ∷ 2 ∷ 3 ∷ []
unfolding line_starts_of
tab_after_spaces = refl

-- a work counter saturates at 2^64−1
count_stays : counted (2 ^ 64 - 3) 7 ≡ 2 ^ 64 - 1
count_stays = refl

-- the greatest length of a paragraph, in characters
paragraph_limit : PARAGRAPH_LIMIT ≡ 1048576
paragraph_limit = refl

-- the sizes of the stack buffers: one of bytes, and one of characters
row_room : ROW_BYTES_AT_ONCE ≡ 512
row_room = refl

characters_at_once : CHARACTERS_AT_ONCE ≡ 64
characters_at_once = refl
