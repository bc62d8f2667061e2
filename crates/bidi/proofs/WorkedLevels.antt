-- Examples of levels.
use Rattle.std.proofs.Common.{◌≡◌, None, ℕ, List, ◌++◌, [], ◌∷◌, refl}
use Rattle.std.specs.List.{repeat}
use Rattle.ucd.specs.declared.bidi_class.BidiClass.{BidiClass}
use Rattle.ucd.specs.declared.bidi_class.BidiClass.TheVariants.{L, R, AL, EN, ES, ET, B, WS, RLE, RLO, PDF, LRI, RLI, FSI, PDI}
use Rattle.bidi.specs.Doubling.{double}
use Rattle.bidi.specs.Levels.{paragraph_levels}

-- the levels of a paragraph without brackets
abbrev levels : List BidiClass → ℕ → List ℕ
levels classes base = paragraph_levels (λ c. None) [] classes base

row_letter : levels (R ∷ B ∷ []) 1 ≡ 1 ∷ 1 ∷ []
row_letter = refl

row_arabic : levels (AL ∷ WS ∷ EN ∷ []) 1 ≡ 1 ∷ 1 ∷ 2 ∷ []
row_arabic = refl

row_number : levels (EN ∷ []) 1 ≡ 2 ∷ []
row_number = refl

row_sum : levels (R ∷ EN ∷ ES ∷ EN ∷ []) 1 ≡ 1 ∷ 2 ∷ 2 ∷ 2 ∷ []
row_sum = refl

row_two_numbers : levels (R ∷ EN ∷ EN ∷ ES ∷ EN ∷ []) 1 ≡ double 1 (levels (R ∷ EN ∷ ES ∷ EN ∷ []) 1)
row_two_numbers = refl

row_two_signs : levels (R ∷ EN ∷ ES ∷ ES ∷ EN ∷ []) 1 ≡ 1 ∷ 2 ∷ 1 ∷ 1 ∷ 2 ∷ []
row_two_signs = refl

row_price : levels (R ∷ WS ∷ ET ∷ EN ∷ []) 1 ≡ 1 ∷ 1 ∷ 2 ∷ 2 ∷ []
row_price = refl

row_arabic_price : levels (AL ∷ ET ∷ EN ∷ []) 1 ≡ 1 ∷ 1 ∷ 2 ∷ []
row_arabic_price = refl

row_left_price : levels (L ∷ EN ∷ ET ∷ R ∷ []) 1 ≡ 2 ∷ 2 ∷ 2 ∷ 1 ∷ []
row_left_price = refl

row_override : levels (RLO ∷ L ∷ B ∷ []) 0 ≡ 0 ∷ 1 ∷ 0 ∷ []
row_override = refl

row_isolates : levels (RLI ∷ L ∷ B ∷ []) 1 ≡ 1 ∷ 4 ∷ 1 ∷ []
row_isolates = refl

row_joined : levels (R ∷ LRI ∷ L ∷ PDI ∷ EN ∷ FSI ∷ R ∷ PDI ∷ []) 1 ≡ 1 ∷ 1 ∷ 2 ∷ 1 ∷ 2 ∷ 1 ∷ 3 ∷ 1 ∷ []
row_joined = refl

row_deep : levels (repeat 64 (RLE ∷ []) ++ L ∷ PDF ∷ L ∷ PDF ∷ L ∷ []) 0 ≡ repeat 64 (0 ∷ []) ++ 126 ∷ 126 ∷ 126 ∷ 126 ∷ 124 ∷ []
row_deep = refl

row_deeper : levels (repeat 65 (RLE ∷ []) ++ L ∷ PDF ∷ L ∷ PDF ∷ L ∷ PDF ∷ L ∷ []) 0 ≡ repeat 65 (0 ∷ []) ++ 126 ∷ 126 ∷ 126 ∷ 126 ∷ 126 ∷ 126 ∷ 124 ∷ []
row_deeper = refl
