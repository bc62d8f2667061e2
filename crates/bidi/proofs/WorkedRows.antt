-- Examples of the definitions.
use Rattle.std.proofs.Common.{◌≡◌, ℕ, ◌==◌, true, false, cond, ◌||◌, [], ◌∷◌, Some, None, refl}
use Rattle.ucd.specs.declared.bidi_class.BidiClass.{BidiClass}
use Rattle.ucd.specs.declared.bidi_class.BidiClass.TheVariants.{L, R, AL, EN, B, RLE, PDF, LRI, RLI, FSI, PDI}
use Rattle.bidi.specs.declared.base.Base.TheVariants.{Rtl, Ltr, WeakRtl, WeakLtr}
use Rattle.bidi.specs.Base.{match_of, base_level_of}
use Rattle.bidi.specs.Cuts.{cut, paragraphs, first_cut}
use Rattle.bidi.specs.declared.explicit.TheConstants.{MAX_ENTRIES}

-- the first strong character determines the base level; the default of `WeakLtr` and `WeakRtl` counts only if there is
-- none
strong_right : base_level_of (R ∷ B ∷ []) WeakLtr ≡ 1
strong_right = refl

strong_arabic : base_level_of (EN ∷ AL ∷ L ∷ []) WeakLtr ≡ 1
strong_arabic = refl

none_strong : base_level_of (EN ∷ []) WeakRtl ≡ 1
none_strong = refl

none_at_all : base_level_of [] WeakLtr ≡ 0
none_at_all = refl

fixed_right : base_level_of (L ∷ []) Rtl ≡ 1
fixed_right = refl

fixed_left : base_level_of (R ∷ []) Ltr ≡ 0
fixed_left = refl

-- isolates are skipped, up to the match of the initiator, or to the end if it has none
isolate_skipped : base_level_of (RLI ∷ L ∷ PDI ∷ R ∷ []) WeakLtr ≡ 1
isolate_skipped = refl

unmatched_right : base_level_of (RLI ∷ L ∷ B ∷ []) WeakRtl ≡ 1
unmatched_right = refl

unmatched_left : base_level_of (RLI ∷ L ∷ B ∷ []) WeakLtr ≡ 0
unmatched_left = refl

nested_skipped : base_level_of (LRI ∷ FSI ∷ L ∷ PDI ∷ L ∷ PDI ∷ R ∷ []) WeakLtr ≡ 1
nested_skipped = refl

nested_match : match_of (LRI ∷ FSI ∷ L ∷ PDI ∷ L ∷ PDI ∷ R ∷ []) 0 ≡ Some 5
nested_match = refl

nested_no_match : match_of (LRI ∷ RLI ∷ PDI ∷ []) 0 ≡ None
nested_no_match = refl

nested_open : base_level_of (LRI ∷ RLI ∷ R ∷ PDI ∷ R ∷ []) WeakLtr ≡ 0
nested_open = refl

-- a PDI without a matching initiator closes nothing
lone_pdi : base_level_of (PDI ∷ L ∷ []) WeakRtl ≡ 0
lone_pdi = refl

lone_pdi_before : base_level_of (PDI ∷ LRI ∷ R ∷ PDI ∷ L ∷ []) WeakRtl ≡ 0
lone_pdi_before = refl

lone_pdi_between : base_level_of (LRI ∷ PDI ∷ PDI ∷ RLI ∷ R ∷ PDI ∷ L ∷ []) WeakRtl ≡ 0
lone_pdi_between = refl

-- the characters inside embeddings are not skipped
embedding_counts : base_level_of (RLE ∷ L ∷ PDF ∷ R ∷ []) WeakRtl ≡ 0
embedding_counts = refl

-- a separator ends a paragraph, and U+000D followed by U+000A is one separator
abbrev class_of_code : ℕ → BidiClass
class_of_code c = cond (c == 10 || c == 13) B L

cut_after : cut class_of_code 10 97 ≡ true
cut_after = refl

no_cut_before : cut class_of_code 97 10 ≡ false
no_cut_before = refl

joined_pair : cut class_of_code 13 10 ≡ false
joined_pair = refl

other_pair : cut class_of_code 10 13 ≡ true
other_pair = refl

same_pair : cut class_of_code 13 13 ≡ true
same_pair = refl

lines_of_text : paragraphs (cut class_of_code) (97 ∷ 13 ∷ 10 ∷ 10 ∷ 98 ∷ 10 ∷ []) ≡ (97 ∷ 13 ∷ 10 ∷ []) ∷ (10 ∷ []) ∷ (98 ∷ 10 ∷ []) ∷ []
lines_of_text = refl

no_text : paragraphs (cut class_of_code) [] ≡ []
no_text = refl

first_place : first_cut (cut class_of_code) (97 ∷ 13 ∷ 10 ∷ 10 ∷ []) ≡ Some 3
first_place = refl

no_place : first_cut (cut class_of_code) (97 ∷ 10 ∷ []) ≡ None
no_place = refl

-- the stack of X1 to X8 has at most 127 entries
most_statuses : MAX_ENTRIES ≡ 127
most_statuses = refl
