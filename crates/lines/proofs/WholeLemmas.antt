-- If lines end only at mandatory breaks, a paragraph without a mandatory break before its end is one line.
use Rattle.std.proofs.Common.{◌≡◌, ℕ, zero, suc, ◌+◌, ◌-◌, ◌<◌, ◌≤◌, Bool, true, false, not, ◌&&◌, ◌⊎◌, Option, Some, None, List, [], ◌∷◌, ◌++◌, length, map, take, drop, get_or}
use Rattle.std.proofs.Common.{slice_range, if◌then◌else◌, refl, sym, ap, ap₂, subst, ◌∙◌, inl, inr, arith}
use Rattle.std.specs.List.{list_all, suffix_len}
use Rattle.std.proofs.lemmas.Bool.{and_from, and_left, and_parts, both_ways, cases_Bool, cases_eq, cond-true, cond-false, not-true, or_parts}
use Rattle.std.proofs.lemmas.List.{append-nil, get_or-map, get_or-take, get_or_default, length-map, length-take-le, take_all}
use Rattle.std.proofs.lemmas.List.Sums.{AllPass-from_list_all, list_all-from_AllPass, suffix_len_is}
use Rattle.ucd.specs.Properties.{properties_of}
use Rattle.ucd.specs.Tables.{class_of, is_mark_in, line_class_of}
use Rattle.ucd.specs.declared.line_class.LineClass.{LineClass}
use Rattle.ucd.specs.declared.line_class.LineClass.TheVariants.{AK, AP, AS, BK, CM, CR, HH, LF, NL, SA, SP, VF, VI, ZW, ZWJ}
use Rattle.ucd.specs.declared.version.Version.{Version}
use Rattle.ucd.specs.declared.version.Version.TheVariants.{V15_0, V17_0}
use Rattle.ucd.specs.declared.properties.Properties.{Properties}
use Rattle.ucd.specs.declared.tables.Tables.{Tables}
use Rattle.breaks.specs.Bases.{BaseCharacter, Character, alone, base_class, bases_of, character, class_of as base_class_of, joined, known, resolved, stays_with}
use Rattle.breaks.specs.Classes.{is_one_of}
use Rattle.breaks.specs.Marks.{marks_after, marks_of}
use Rattle.breaks.specs.Rules.{Rule, mark_by, rules, rows_before_numbers, rows_of_numbers, rows_after_numbers}
use Rattle.breaks.specs.declared.mark.Mark.{Mark}
use Rattle.breaks.specs.declared.mark.Mark.TheVariants.{Never}
use Rattle.lines.specs.Asked.{visual_shown}
use Rattle.lines.specs.Bytes.{direction_line, line_bytes, numbers_line, visual_line}
use Rattle.lines.specs.Clusters.{cluster_ends}
use Rattle.lines.specs.Filling.{before_tail, is_must, line_starts_of, must_end, nothing, place_at, starts, stop, trails}
use Rattle.lines.specs.ShownParts.{margin_of}
use Rattle.lines.specs.Reordering.{ends_by, ltov_by, vtol_by}
use Rattle.lines.proofs.ReorderingLemmas.{all_ends}
use Rattle.lines.specs.Pages.{lines_bytes}
use Rattle.lines.specs.CharInfos.{infos, infos_of, may_trail, trailing_in}
use Rattle.reorder.specs.Spaces.{line_levels}
use Rattle.lines.specs.Tabs.{tab_width_in}
use Rattle.lines.specs.Visual.{Line, Visual, line_between, lines_from, visual_of}
use Rattle.lines.specs.Whole.{ends_line, is_cr, is_lf, may_go_on, EndsInCrLf, IsEndLen, IsShownLen, IsWhole}
use Rattle.lines.specs.declared.options.Options.{Options}
use Rattle.lines.specs.declared.char_info.CharInfo.{CharInfo}
use Rattle.lines.specs.declared.printing.print.Print.{Print}
use Rattle.lines.proofs.ClusterLemmas.{length-cluster_ends}
use Rattle.lines.proofs.FillingLemmas.{stop_at, stop_none}
use Rattle.lines.proofs.SkippedLemmas.{length-infos}
use Rattle.lines.proofs.TabLemmas.{no_tabs}

-- ---- rules that require no mandatory break

-- whether each rule has a mark other than `Must` or does not apply
Quiet : List Rule → List BaseCharacter → List BaseCharacter → Type 0
Quiet [] before after = Unit {0}
Quiet (rule ∷ rules) before after = ((is_must rule.mark ≡ false) ⊎ (rule.holds before after ≡ false)) × Quiet rules before after

quiet_mark : (rules : List Rule) (before after : List BaseCharacter) → Quiet rules before after → is_must (mark_by rules before after) ≡ false
unfolding Quiet
quiet_mark [] before after quiet = refl
quiet_mark (rule ∷ rules) before after quiet =
    let rest = quiet_mark rules before after quiet.1 in
    elim (cases_Bool (rule.holds before after)) [
      | inl holds ↦
          ap is_must (cond-true (rule.holds before after) rule.mark (mark_by rules before after) holds)
          ∙ elim quiet.0 [ inl tame ↦ tame | inr fails ↦ absurd (both_ways (rule.holds before after) fails holds) ]
      | inr fails ↦ ap is_must (cond-false (rule.holds before after) rule.mark (mark_by rules before after) fails) ∙ rest
    ]

abbrev tame : List Rule → Bool
tame [] = true
tame (rule ∷ rules) = not (is_must rule.mark) && tame rules

tame_quiet : (rules : List Rule) (before after : List BaseCharacter) → tame rules ≡ true → Quiet rules before after
unfolding Quiet
tame_quiet [] before after is = tt
tame_quiet (rule ∷ rules) before after is =
    let both = and_parts (not (is_must rule.mark)) (tame rules) is in
    (inl (not-true (is_must rule.mark) both.0), tame_quiet rules before after both.1)

-- whether no rule requires a line to end after this base, except at the end of the paragraph
abbrev ends_no_line : BaseCharacter → Type 0
ends_no_line b = (is_one_of (BK ∷ []) (base_class_of b) ≡ false) × (is_one_of (CR ∷ LF ∷ NL ∷ []) (base_class_of b) ≡ false)

quiet_rules : (v : Version) (whole_numbers : Bool) (before after : List BaseCharacter) (b a : BaseCharacter) → ends_no_line b → Quiet (rules v whole_numbers) (b ∷ before) (a ∷ after)
unfolding Quiet rules rows_before_numbers rows_of_numbers rows_after_numbers
quiet_rules V15_0 true before after b a ends = (
  inr refl,
  (
    inr (and_left (is_one_of (BK ∷ []) (base_class_of b)) true ends.0),
    (
      inl refl,
      (
        inr (and_left (is_one_of (CR ∷ LF ∷ NL ∷ []) (base_class_of b)) true ends.1),
        tame_quiet (drop 4 (rules V15_0 true)) (b ∷ before) (a ∷ after) refl,
      ),
    ),
  ),
)
quiet_rules V15_0 false before after b a ends = (
  inr refl,
  (
    inr (and_left (is_one_of (BK ∷ []) (base_class_of b)) true ends.0),
    (
      inl refl,
      (
        inr (and_left (is_one_of (CR ∷ LF ∷ NL ∷ []) (base_class_of b)) true ends.1),
        tame_quiet (drop 4 (rules V15_0 false)) (b ∷ before) (a ∷ after) refl,
      ),
    ),
  ),
)
quiet_rules V17_0 true before after b a ends = (
  inr refl,
  (
    inr (and_left (is_one_of (BK ∷ []) (base_class_of b)) true ends.0),
    (
      inl refl,
      (
        inr (and_left (is_one_of (CR ∷ LF ∷ NL ∷ []) (base_class_of b)) true ends.1),
        tame_quiet (drop 4 (rules V17_0 true)) (b ∷ before) (a ∷ after) refl,
      ),
    ),
  ),
)
quiet_rules V17_0 false before after b a ends = (
  inr refl,
  (
    inr (and_left (is_one_of (BK ∷ []) (base_class_of b)) true ends.0),
    (
      inl refl,
      (
        inr (and_left (is_one_of (CR ∷ LF ∷ NL ∷ []) (base_class_of b)) true ends.1),
        tame_quiet (drop 4 (rules V17_0 false)) (b ∷ before) (a ∷ after) refl,
      ),
    ),
  ),
)

-- ---- the rule for CR LF, LB5

-- whether the first rule that applies, if any, has a mark other than `Must`
Settled : List Rule → List BaseCharacter → List BaseCharacter → Type 0
Settled [] before after = Unit {0}
Settled (rule ∷ rules) before after =
    ((rule.holds before after ≡ false) × Settled rules before after) ⊎ ((rule.holds before after ≡ true) × (is_must rule.mark ≡ false))

settled_mark : (rules : List Rule) (before after : List BaseCharacter) → Settled rules before after → is_must (mark_by rules before after) ≡ false
unfolding Settled
settled_mark [] before after settled = refl
settled_mark (rule ∷ rules) before after (inl later) =
    ap is_must (cond-false (rule.holds before after) rule.mark (mark_by rules before after) later.0) ∙ settled_mark rules before after later.1
settled_mark (rule ∷ rules) before after (inr here) =
    ap is_must (cond-true (rule.holds before after) rule.mark (mark_by rules before after) here.0) ∙ here.1

-- CR is not BK, and LF joins no character
cr_is_no_bk : (class : LineClass) → is_one_of (CR ∷ []) class ≡ true → is_one_of (BK ∷ []) class ≡ false
cr_is_no_bk BK is = absurd (both_ways (is_one_of (CR ∷ []) BK) refl is)
cr_is_no_bk class is = refl

lf_joins_none : (class : LineClass) → is_lf class ≡ true → is_one_of (CM ∷ ZWJ ∷ []) class ≡ false
lf_joins_none CM is = absurd (both_ways (is_lf CM) refl is)
lf_joins_none ZWJ is = absurd (both_ways (is_lf ZWJ) refl is)
lf_joins_none class is = refl

-- a character CR and a character LF, and such bases
abbrev AreCrLf : Character → Character → Type 0
AreCrLf c d = (is_cr c.class ≡ true) × (is_lf d.class ≡ true)

settled_rules : (v : Version) (whole_numbers : Bool) (before after : List BaseCharacter) (b a : BaseCharacter) → AreCrLf b.first a.first
    → Settled (rules v whole_numbers) (b ∷ before) (a ∷ after)
unfolding Settled rules rows_before_numbers rows_of_numbers rows_after_numbers
settled_rules V15_0 true before after b a are =
    inl (refl, inl (and_left (is_one_of (BK ∷ []) (base_class_of b)) true (cr_is_no_bk (base_class_of b) are.0), inr (and_from (is_cr b.first.class) (is_lf a.first.class) are.0 are.1, refl)))
settled_rules V15_0 false before after b a are =
    inl (refl, inl (and_left (is_one_of (BK ∷ []) (base_class_of b)) true (cr_is_no_bk (base_class_of b) are.0), inr (and_from (is_cr b.first.class) (is_lf a.first.class) are.0 are.1, refl)))
settled_rules V17_0 true before after b a are =
    inl (refl, inl (and_left (is_one_of (BK ∷ []) (base_class_of b)) true (cr_is_no_bk (base_class_of b) are.0), inr (and_from (is_cr b.first.class) (is_lf a.first.class) are.0 are.1, refl)))
settled_rules V17_0 false before after b a are =
    inl (refl, inl (and_left (is_one_of (BK ∷ []) (base_class_of b)) true (cr_is_no_bk (base_class_of b) are.0), inr (and_from (is_cr b.first.class) (is_lf a.first.class) are.0 are.1, refl)))

-- ---- the marks of bases after which a line need not end

-- whether no mark except the last is mandatory
pub Tame : List Mark → Type 0
Tame [] = Unit {0}
Tame (m ∷ []) = Unit {0}
Tame (m ∷ n ∷ marks) = (is_must m ≡ false) × Tame (n ∷ marks)

-- whether no base except the last requires a line to end after it, or the last two are CR LF
QuietBases : List BaseCharacter → Type 0
QuietBases [] = Unit {0}
QuietBases (b ∷ []) = Unit {0}
QuietBases (b ∷ a ∷ bases) = (ends_no_line b ⊎ ((bases ≡ []) × AreCrLf b.first a.first)) × QuietBases (a ∷ bases)

tame_before : (m : Mark) (marks : List Mark) → is_must m ≡ false → Tame marks → Tame (m ∷ marks)
unfolding Tame
tame_before m [] other rest = tt
tame_before m (n ∷ marks) other rest = (other, rest)

tame_inside : (attached : List Character) (marks : List Mark) → Tame marks → Tame (map (λ _. Never) attached ++ marks)
tame_inside [] marks rest = rest
tame_inside (c ∷ attached) marks rest = tame_before Never (map (λ _. Never) attached ++ marks) refl (tame_inside attached marks rest)

tame_marks : (v : Version) (whole_numbers : Bool) (before bases : List BaseCharacter) → QuietBases bases → Tame (marks_after (rules v whole_numbers) before bases)
unfolding Tame QuietBases
tame_marks v whole_numbers before [] quiet = tt
tame_marks v whole_numbers before (b ∷ []) quiet = tame_inside b.attached (mark_by (rules v whole_numbers) (b ∷ before) [] ∷ []) tt
tame_marks v whole_numbers before (b ∷ a ∷ bases) quiet =
    tame_inside b.attached (mark_by (rules v whole_numbers) (b ∷ before) (a ∷ bases) ∷ marks_after (rules v whole_numbers) (b ∷ before) (a ∷ bases))
    (tame_before (mark_by (rules v whole_numbers) (b ∷ before) (a ∷ bases)) (marks_after (rules v whole_numbers) (b ∷ before) (a ∷ bases))
    (elim quiet.0 [
      | inl ends ↦ quiet_mark (rules v whole_numbers) (b ∷ before) (a ∷ bases) (quiet_rules v whole_numbers before bases b a ends)
      | inr pair ↦ settled_mark (rules v whole_numbers) (b ∷ before) (a ∷ bases) (settled_rules v whole_numbers before bases b a pair.1)
    ])
    (tame_marks v whole_numbers (b ∷ before) (a ∷ bases) quiet.1))

-- ---- the bases of characters after which a line need not end

abbrev ends_none : Character → Type 0
ends_none c = (is_one_of (BK ∷ []) (base_class c.class) ≡ false) × (is_one_of (CR ∷ LF ∷ NL ∷ []) (base_class c.class) ≡ false)

-- whether no character except the last requires a line to end after it, or the last two are CR LF
QuietText : List Character → Type 0
QuietText [] = Unit {0}
QuietText (c ∷ []) = Unit {0}
QuietText (c ∷ d ∷ text) = (ends_none c ⊎ ((text ≡ []) × AreCrLf c d)) × QuietText (d ∷ text)

no_more : (t : Tables) (text : List ℕ) → length text ≡ 0 → map (character t) text ≡ []
no_more t [] none = refl
no_more t (c ∷ text) none = absurd (omega (arith, none))

whole_quiet : (t : Tables) (text : List ℕ) → IsWhole t text → QuietText (map (character t) text)
unfolding QuietText
whole_quiet t [] is = tt
whole_quiet t (c ∷ []) is = tt
whole_quiet t (c ∷ d ∷ text) is = (
  elim (is 0 (omega arith)) [
    | inl goes_on ↦ inl (or_parts (is_one_of (BK ∷ []) (base_class (character t c).class)) (is_one_of (CR ∷ LF ∷ NL ∷ []) (base_class (character t c).class)) goes_on)
    | inr pair ↦ inr (no_more t text (omega (arith, pair.last)), (pair.cr, pair.lf))
  ],
  whole_quiet t (d ∷ text) (λ j below.
      elim (is (suc j) (omega arith)) [
        | inl goes_on ↦ inl goes_on
        | inr pair ↦
            let next : suc j + 1 ≡ suc (j + 1) = omega arith in
            inr (record { last = omega (arith, pair.last); cr = pair.cr; lf = subst (λ i. is_lf (character t (get_or (c ∷ d ∷ text) i 0)).class ≡ true) next pair.lf })
      ]),
)

quiet_before : (b : BaseCharacter) (bases : List BaseCharacter) → ends_no_line b → QuietBases bases → QuietBases (b ∷ bases)
unfolding QuietBases
quiet_before b [] ends quiet = tt
quiet_before b (a ∷ bases) ends quiet = (inl ends, quiet)

rest_quiet : (b : BaseCharacter) (bases : List BaseCharacter) → QuietBases (b ∷ bases) → QuietBases bases
unfolding QuietBases
rest_quiet b [] quiet = tt
rest_quiet b (a ∷ bases) quiet = quiet.1

joined_quiet : (c : Character) (bases : List BaseCharacter) → ends_none c → QuietBases bases → QuietBases (joined c bases)
unfolding QuietBases
joined_quiet c [] ends quiet = tt
joined_quiet c (b ∷ bases) ends quiet = quiet_before (record { first = c; attached = b.first ∷ b.attached }) bases ends (rest_quiet b bases quiet)

pair_quiet : (c d : Character) → AreCrLf c d → QuietBases (bases_of (c ∷ d ∷ []))
unfolding QuietBases
pair_quiet c d are =
    let joins : Bool = is_one_of (CM ∷ ZWJ ∷ []) d.class in
    let apart = and_left joins (not (is_one_of (BK ∷ CR ∷ LF ∷ NL ∷ SP ∷ ZW ∷ []) c.class)) (lf_joins_none d.class are.1) in
    subst (λ (bases : List BaseCharacter). QuietBases bases) (sym (cond-false (stays_with c d) (joined c (alone d ∷ [])) (alone c ∷ alone d ∷ []) apart))
    (inr (refl, are), tt)

before_quiet : (c d : Character) (text : List Character) → ends_none c → QuietBases (bases_of (d ∷ text)) → QuietBases (bases_of (c ∷ d ∷ text))
before_quiet c d text ends rest =
    elim (cases_Bool (stays_with c d)) [
      | inl stays ↦
          subst (λ (bases : List BaseCharacter). QuietBases bases) (sym (cond-true (stays_with c d) (joined c (bases_of (d ∷ text))) (alone c ∷ bases_of (d ∷ text)) stays))
          (joined_quiet c (bases_of (d ∷ text)) ends rest)
      | inr apart ↦
          subst (λ (bases : List BaseCharacter). QuietBases bases) (sym (cond-false (stays_with c d) (joined c (bases_of (d ∷ text))) (alone c ∷ bases_of (d ∷ text)) apart))
          (quiet_before (alone c) (bases_of (d ∷ text)) ends rest)
    ]

bases_quiet : (text : List Character) → QuietText text → QuietBases (bases_of text)
unfolding QuietBases QuietText
bases_quiet [] quiet = tt
bases_quiet (c ∷ []) quiet = tt
bases_quiet (c ∷ d ∷ text) quiet =
    elim quiet.0 [
      | inl ends ↦ before_quiet c d text ends (bases_quiet (d ∷ text) quiet.1)
      | inr pair ↦ subst (λ (rest : List Character). QuietBases (bases_of (c ∷ d ∷ rest))) (sym pair.0) (pair_quiet c d pair.1)
    ]

pub quiet_marks : (t : Tables) (whole_numbers : Bool) (text : List ℕ) → IsWhole t text → Tame (marks_of t whole_numbers text)
unfolding marks_of
quiet_marks t whole_numbers text is = tame_marks t.version whole_numbers [] (bases_of (map (character t) text)) (bases_quiet (map (character t) text) (whole_quiet t text is))

-- ---- only the last `CharInfo` has a mandatory break

pub tame_infos : (t : Tables) (n : ℕ) (text : List ℕ) (marks : List Mark) (ends : List Bool) (j : ℕ) → Tame marks → j + 1 < length (infos t n text marks ends)
    → must_end (infos t n text marks ends) j ≡ false
unfolding Tame
tame_infos t n [] marks ends j quiet below = absurd (omega (arith, below))
tame_infos t n (c ∷ text) [] ends j quiet below = absurd (omega (arith, below))
tame_infos t n (c ∷ text) (m ∷ marks) [] j quiet below = absurd (omega (arith, below))
tame_infos t n (c ∷ []) (m ∷ marks) (e ∷ ends) j quiet below = absurd (omega (arith, below))
tame_infos t n (c ∷ d ∷ text) (m ∷ []) (e ∷ ends) j quiet below = absurd (omega (arith, below))
tame_infos t n (c ∷ d ∷ text) (m ∷ next ∷ marks) (e ∷ ends) zero quiet below = quiet.0
tame_infos t n (c ∷ d ∷ text) (m ∷ next ∷ marks) (e ∷ ends) (suc j) quiet below =
    tame_infos t n (d ∷ text) (next ∷ marks) ends j quiet.1 (omega (arith, below))

trailing_place : (t : Tables) (text : List ℕ) (marks : List Mark) (ends : List Bool) (k : ℕ) → k < length (infos t 0 text marks ends)
    → (place_at (infos t 0 text marks ends) k).trailing ≡ trailing_in t (get_or text k 0)
trailing_place t [] marks ends k below = absurd (omega (arith, below))
trailing_place t (c ∷ text) [] ends k below = absurd (omega (arith, below))
trailing_place t (c ∷ text) (m ∷ marks) [] k below = absurd (omega (arith, below))
trailing_place t (c ∷ text) (m ∷ marks) (e ∷ ends) zero below = refl
trailing_place t (c ∷ text) (m ∷ marks) (e ∷ ends) (suc k) below = trailing_place t text marks ends k (omega (arith, below))

pub stop_last : (rest : List CharInfo) → 0 < length rest → ((j : ℕ) → j + 1 < length rest → must_end rest j ≡ false) → stop rest ≡ length rest - 1
stop_last rest some fails =
    let last : ℕ = length rest - 1 in
    elim (cases_Bool (must_end rest last)) [
      | inl must ↦ stop_at rest last (omega arith) (λ j below. fails j (omega arith)) must
      | inr not_must ↦ stop_none rest (λ j below.
          elim (cases_eq j last) [ inl e ↦ ap (must_end rest) e ∙ not_must | inr ne ↦ fails j (omega arith) ])
    ]

passed : (nobreak : Bool) (width place left : ℕ) (rest : List CharInfo) → length rest ≤ left → starts nobreak width place left rest ≡ []
passed nobreak width place left [] within = refl
passed nobreak width place zero (p ∷ rest) within = absurd (omega (arith, within))
passed nobreak width place (suc left) (p ∷ rest) within = passed nobreak width (suc place) left rest (omega (arith, within))

pub one_start : (width : ℕ) (rest : List CharInfo) → 0 < length rest → ((j : ℕ) → j + 1 < length rest → must_end rest j ≡ false)
    → line_starts_of true width rest ≡ 0 ∷ []
unfolding line_starts_of
one_start width [] some fails = absurd (omega (arith, some))
one_start width (p ∷ rest) some fails =
    let last = stop_last (p ∷ rest) some fails in
    ap (λ (ss : List ℕ). 0 ∷ ss) (passed true width 1 (suc (stop (p ∷ rest)) - 1) rest (omega (arith, last)))

-- ---- the printed bytes of a paragraph of one line, if its visual line is not printed

pub whole_range : {X : Type 0} (xs : List X) (n : ℕ) → n ≡ length xs → slice_range xs 0 n ≡ xs
whole_range xs n e = take_all (n - 0) xs (omega arith)

pub shown_is : (t : Tables) (text : List ℕ) (marks : List Mark) (ends : List Bool) (len : ℕ) → length (infos t 0 text marks ends) ≡ length text
    → IsShownLen t text len → len ≡ length (before_tail (slice_range (infos t 0 text marks ends) 0 (length text)))
shown_is t text marks ends len size is =
    let all : List CharInfo = infos t 0 text marks ends in
    let tail : suffix_len trails all ≡ length all - len =
    suffix_len_is trails all len nothing (omega (arith, is.within, size))
    (λ k from below. ap may_trail (trailing_place t text marks ends k below) ∙ is.tail k from (omega (arith, below, size)))
    (λ some. ap may_trail (trailing_place t text marks ends (len - 1) (omega (arith, is.within, size))) ∙ is.last some) in
    let whole : length (before_tail all) ≡ len =
    length-take-le (length all - suffix_len trails all) all (omega arith) ∙ omega (arith, tail, is.within, size) in
    sym (ap (λ (ps : List CharInfo). length (before_tail ps)) (whole_range all (length text) (sym size)) ∙ whole)

unseen : (width : ℕ) (print : Print) (a b : Visual) → print.novisual ≡ true → a.is_first ≡ b.is_first → a.base ≡ b.base → a.ltov ≡ b.ltov → a.vtol ≡ b.vtol
    → a.levels ≡ b.levels → line_bytes width print a ≡ line_bytes width print b
unseen width print a b off first base ltov vtol levels =
    ap₂ ◌++◌
    (ap₂ ◌++◌
    (ap₂ ◌++◌
    (ap₂ ◌++◌ (cond-true print.novisual [] (visual_line width print a) off ∙ sym (cond-true print.novisual [] (visual_line width print b) off))
    (ap₂ (λ (f : Bool) (x : ℕ). if print.basedir && f then direction_line x else []) first base))
    (ap (λ (xs : List ℕ). if print.ltov then numbers_line xs else []) ltov))
    (ap (λ (xs : List ℕ). if print.vtol then numbers_line xs else []) vtol))
    (ap (λ (xs : List ℕ). if print.levels then numbers_line xs else []) levels)

pub whole_bytes : (t : Tables) (options : Options) (base width : ℕ) (print : Print) (text levels : List ℕ) (len : ℕ) → print.novisual ≡ true → options.nobreak ≡ true → options.show_spaces ≡ false → options.tab_width ≡ 0
    → 0 < length text → length levels ≡ length text → length (marks_of t options.whole_numbers text) ≡ length text → IsWhole t text → IsShownLen t text len
    → line_bytes width print (visual_shown t options base true text (ends_by options text) levels (record { len = len; columns = 0 }))
    ≡ lines_bytes width print base (tab_width_in t options) None text (lines_from t options (margin_of options width) base text levels (infos_of t options None text)
    (line_starts_of options.nobreak width (infos_of t options None text)))
unfolding infos_of
whole_bytes t options base width print text levels len off nobreak hidden tabs some sizes many is shown_len =
    let marks : List Mark = marks_of t options.whole_numbers text in
    let ends : List Bool = cluster_ends text in
    let tab_width : ℕ = tab_width_in t options in
    let none : tab_width ≡ 0 = no_tabs t options tabs in
    let all : List CharInfo = infos t tab_width text marks ends in
    let n : ℕ = length text in
    let size : length all ≡ n = length-infos t tab_width text marks ends (omega (arith, many)) (length-cluster_ends text) in
    let starts_are : line_starts_of options.nobreak width all ≡ 0 ∷ [] =
    ap (λ (b : Bool). line_starts_of b width all) nobreak
    ∙ one_start width all (omega (arith, size, some)) (λ j below. tame_infos t tab_width text marks ends j (quiet_marks t options.whole_numbers text is) below) in
    let line : Line = line_between t options None base text levels all 0 n in
    let margin_is : margin_of options width ≡ None = cond-false options.show_spaces (Some width) None hidden in
    let levels_by : List ℕ → List ℕ → ℕ → List ℕ = λ cs ls m. take m (line_levels base (map (class_of t) cs) ls) in
    let view : List ℕ → List Bool → List ℕ → ℕ → Visual =
    λ cs es ls m. record {
      is_first = true;
      base = base;
      tab_width = 0;
      len = 0;
      text = [];
      advances = None;
      columns = 0;
      levels = levels_by cs ls m;
      ltov = ltov_by options (map (class_of t) cs) es (levels_by cs ls m);
      vtol = vtol_by options (map (class_of t) cs) es (levels_by cs ls m);
      chars = [];
    } in
    let known : List Bool = ends_by options text in
    let bytes : List ℕ → List Bool → List ℕ → ℕ → List ℕ = λ cs es ls m. line_bytes width print (view cs es ls m) in
    unseen width print (visual_shown t options base true text (ends_by options text) levels (record { len = len; columns = 0 })) (view text known levels len) off refl refl refl refl refl
    ∙ ap (bytes text known levels)
    (subst (λ k. length (infos t k text marks ends) ≡ n → len ≡ length (before_tail (slice_range (infos t k text marks ends) 0 n))) (sym none)
    (λ whole. shown_is t text marks ends len whole shown_len) size)
    ∙ ap (λ (es : List Bool). bytes text es levels (length (before_tail (slice_range all 0 n)))) (sym (all_ends options text))
    ∙ ap₂ (λ (cs ls : List ℕ). bytes cs (slice_range known 0 n) ls (length (before_tail (slice_range all 0 n)))) (sym (whole_range text n refl)) (sym (whole_range levels n (sym sizes)))
    ∙ unseen width print (view (slice_range text 0 n) (slice_range known 0 n) (slice_range levels 0 n) (length (before_tail (slice_range all 0 n)))) (visual_of base tab_width None text (line ∷ []) 0 line) off refl refl refl refl refl
    ∙ sym (append-nil (line_bytes width print (visual_of base tab_width None text (line ∷ []) 0 line)))
    ∙ ap₂ (λ (margin : Option ℕ) (ss : List ℕ). lines_bytes width print base tab_width None text (lines_from t options margin base text levels all ss)) (sym margin_is) (sym starts_are)

-- the k-th looked-up properties are those of the k-th character
pub looked_up : (t : Tables) (text : List ℕ) (properties : List Properties) (k : ℕ) (p : Properties) → properties ≡ map (properties_of t) text → k < length text
    → p ≡ get_or properties k p → p ≡ properties_of t (get_or text k 0)
looked_up t text properties k p are below is =
    is ∙ ap (λ (ps : List Properties). get_or ps k p) are ∙ get_or-map (properties_of t) text k 0 p below

-- ---- a test of the looked-up properties

-- mapping a class to one that a Unicode version knows does not change whether a line must end after it
known_ends : (v : Version) (class : LineClass) (is_mark : Bool) → ends_line (resolved (known v class) is_mark) ≡ ends_line (resolved class is_mark)
known_ends V17_0 class is_mark = refl
known_ends V15_0 AK is_mark = refl
known_ends V15_0 AP is_mark = refl
known_ends V15_0 AS is_mark = refl
known_ends V15_0 HH is_mark = refl
known_ends V15_0 VF is_mark = refl
known_ends V15_0 VI is_mark = refl
known_ends V15_0 SA is_mark = refl
known_ends V15_0 class is_mark = refl

known_cr : (v : Version) (class : LineClass) (is_mark : Bool) → is_cr (resolved (known v class) is_mark) ≡ is_cr (resolved class is_mark)
known_cr V17_0 class is_mark = refl
known_cr V15_0 AK is_mark = refl
known_cr V15_0 AP is_mark = refl
known_cr V15_0 AS is_mark = refl
known_cr V15_0 HH is_mark = refl
known_cr V15_0 VF is_mark = refl
known_cr V15_0 VI is_mark = refl
known_cr V15_0 SA is_mark = refl
known_cr V15_0 class is_mark = refl

known_lf : (v : Version) (class : LineClass) (is_mark : Bool) → is_lf (resolved (known v class) is_mark) ≡ is_lf (resolved class is_mark)
known_lf V17_0 class is_mark = refl
known_lf V15_0 AK is_mark = refl
known_lf V15_0 AP is_mark = refl
known_lf V15_0 AS is_mark = refl
known_lf V15_0 HH is_mark = refl
known_lf V15_0 VF is_mark = refl
known_lf V15_0 VI is_mark = refl
known_lf V15_0 SA is_mark = refl
known_lf V15_0 class is_mark = refl

-- a test of a looked-up class for CR, and one for LF
pub cr_at : (t : Tables) (text : List ℕ) (k : ℕ) (p : Properties) (class : LineClass) (found : Bool) → p ≡ properties_of t (get_or text k 0) → class ≡ p.line_class
    → ((is_mark : Bool) → found ≡ is_cr (resolved class is_mark)) → found ≡ is_cr (character t (get_or text k 0)).class
cr_at t text k p class found known line test =
    let c : ℕ = get_or text k 0 in
    test (is_mark_in t c) ∙ ap (λ (l : LineClass). is_cr (resolved l (is_mark_in t c))) (line ∙ ap (λ (p : Properties). p.line_class) known)
    ∙ sym (known_cr t.version (line_class_of t c) (is_mark_in t c))

pub lf_at : (t : Tables) (text : List ℕ) (k : ℕ) (p : Properties) (class : LineClass) (found : Bool) → p ≡ properties_of t (get_or text k 0) → class ≡ p.line_class
    → ((is_mark : Bool) → found ≡ is_lf (resolved class is_mark)) → found ≡ is_lf (character t (get_or text k 0)).class
lf_at t text k p class found known line test =
    let c : ℕ = get_or text k 0 in
    test (is_mark_in t c) ∙ ap (λ (l : LineClass). is_lf (resolved l (is_mark_in t c))) (line ∙ ap (λ (p : Properties). p.line_class) known)
    ∙ sym (known_lf t.version (line_class_of t c) (is_mark_in t c))

module _ (t : Tables) (text : List ℕ) (end : ℕ) (is_end : IsEndLen t text end) where
  -- the properties of all characters before the end
  abbrev pub tested : List Properties
  tested = take (length text - end) (map (properties_of t) text)

  some_end : (end ≡ 1) ⊎ (end ≡ 2)
  some_end = elim is_end [ inl pair ↦ inr pair.1 | inr other ↦ inl other.1 ]

  at_place : (j : ℕ) → j + end < length text → get_or tested j (properties_of t 0) ≡ properties_of t (get_or text j 0)
  at_place j below =
      get_or-take (length text - end) (map (properties_of t) text) j (properties_of t 0) (omega (arith, below)) ∙ get_or-map (properties_of t) text j 0 (properties_of t 0) (omega (arith, below))

  size_tested : length tested ≡ length text - end
  size_tested = length-take-le (length text - end) (map (properties_of t) text) (omega (arith, length-map text (properties_of t)))

  goes_on : (j : ℕ) → list_all may_go_on tested ≡ true → j + end < length text → ends_line (character t (get_or text j 0)).class ≡ false
  goes_on j all below =
      let passes = AllPass-from_list_all may_go_on tested all j (properties_of t 0) (omega (arith, size_tested, below)) in
      let c : ℕ = get_or text j 0 in
      not-true (ends_line (character t (get_or text j 0)).class)
      (ap not (known_ends t.version (line_class_of t c) (is_mark_in t c)) ∙ ap may_go_on (sym (at_place j below)) ∙ passes)

  pub whole_by : list_all may_go_on tested ≡ true → IsWhole t text
  whole_by all j below =
      elim is_end [
        | inr other ↦ inl (goes_on j all (omega (arith, below, other.1)))
        | inl pair ↦
            elim (cases_eq j (length text - 2)) [
              | inl last ↦ inr (subst (EndsInCrLf t text) (sym last) pair.0)
              | inr earlier ↦ inl (goes_on j all (omega (arith, below, earlier, pair.1)))
            ]
      ]

  passes_at : (j : ℕ) → IsWhole t text → j + end < length text → ends_line (character t (get_or text j 0)).class ≡ false
  passes_at j whole below =
      elim (whole j (elim some_end [ inl one ↦ omega (arith, below, one) | inr two ↦ omega (arith, below, two) ])) [
        | inl quiet ↦ quiet
        | inr pair ↦
            elim is_end [
              | inl two ↦ absurd (omega (arith, below, pair.last, two.1))
              | inr one ↦ absurd (one.0 (subst (EndsInCrLf t text) (omega (arith, pair.last)) pair))
            ]
      ]

  pub not_whole : list_all may_go_on tested ≡ false → ¬ (IsWhole t text)
  not_whole fails whole =
      both_ways (list_all may_go_on tested) fails
      (list_all-from_AllPass may_go_on tested (λ j d inside.
      let below : j + end < length text = omega (arith, size_tested, inside) in
      let c : ℕ = get_or text j 0 in
      ap may_go_on (get_or_default tested j d (properties_of t 0) inside ∙ at_place j below)
      ∙ ap not (sym (known_ends t.version (line_class_of t c) (is_mark_in t c))) ∙ ap not (passes_at j whole below)))
