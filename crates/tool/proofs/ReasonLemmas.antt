-- Replies that are built by appending parts.
use Rattle.std.proofs.Common.{◌≡◌, ℕ, List, ◌++◌, ap, ◌∙◌}
use Rattle.std.proofs.lemmas.List.{append_assoc}

-- appending `xs` and then `ys` appends `xs ++ ys`
pushed : (old xs ys mid new : List ℕ) → mid ≡ old ++ xs → new ≡ mid ++ ys → new ≡ old ++ (xs ++ ys)
pushed old xs ys mid new first second = second ∙ ap (λ (zs : List ℕ). zs ++ ys) first ∙ append_assoc old xs ys

-- the same for three lists and for nine lists
pub pushed_3 : (old a b c p q new : List ℕ) → p ≡ old ++ a → q ≡ p ++ b → new ≡ q ++ c → new ≡ old ++ (a ++ b ++ c)
pushed_3 old a b c p q new p1 p2 p3 = pushed old (a ++ b) c q new (pushed old a b p q p1 p2) p3

pub pushed_9 : (old a b c d e f g h i p q r s t u v w new : List ℕ) → p ≡ old ++ a → q ≡ p ++ b → r ≡ q ++ c → s ≡ r ++ d → t ≡ s ++ e
    → u ≡ t ++ f → v ≡ u ++ g → w ≡ v ++ h → new ≡ w ++ i → new ≡ old ++ (a ++ b ++ c ++ d ++ e ++ f ++ g ++ h ++ i)
pushed_9 old a b c d e f g h i p q r s t u v w new p1 p2 p3 p4 p5 p6 p7 p8 p9 =
    let three = pushed_3 old a b c p q r p1 p2 p3 in
    let five = pushed_3 old (a ++ b ++ c) d e r s t three p4 p5 in
    let seven = pushed_3 old (a ++ b ++ c ++ d ++ e) f g t u v five p6 p7 in
    pushed_3 old (a ++ b ++ c ++ d ++ e ++ f ++ g) h i v w new seven p8 p9
