-- Writing parts one after another, and writing the items of a list in order.
use Rattle.std.proofs.Common.{◌≡◌, ℕ, zero, suc, ◌+◌, ◌-◌, ◌<◌, ◌≤◌, ◌==◌, false, min, List, [], ◌∷◌, ◌++◌, length, map, get_or, take}
use Rattle.std.proofs.Common.{drop, replicate, Option, Some, None, Result, Ok, Err, IfOk, IfErr, IsErrAnd, if◌then◌else◌, refl, sym, ap, ◌∙◌, arith}
use Rattle.std.specs.Io.KnownBytes.{Appends}
use Rattle.std.specs.List.{concat, join_with_byte}
use Rattle.std.proofs.lemmas.List.{append_assoc, append-nil, length-append, length-map, take-append-le, get_or-map, take-map, take-replicate, replicate-append-replicate}
use Rattle.std.proofs.Math.Seq.{take-append-add}
use Rattle.std.proofs.lemmas.Bool.Decides.{nat_tests}
use Rattle.device.specs.Device.{Device, Took, StoppedAt, greatest}
use Rattle.lines.specs.declared.printing.bytes.TheConstants.{SPACES}
use Rattle.lines.specs.declared.printing.bytes.WriteFault.{WriteFault}
use Rattle.lines.specs.Writing.{PassedOn, StoppedIn}

Appends-append : (old mid new : Option (List ℕ)) (xs ys : List ℕ) → Appends old mid xs → Appends mid new ys → Appends old new (xs ++ ys)
Appends-append None mid new xs ys first second = tt
Appends-append (Some all) None new xs ys first second = absurd first
Appends-append (Some all) (Some more) None xs ys first second = absurd second
Appends-append (Some all) (Some more) (Some last) xs ys first second = second ∙ ap (λ zs. zs ++ ys) first ∙ append_assoc all xs ys

Took-append : (old mid new : Device) (xs ys : List ℕ) → Took old mid xs → Took mid new ys → Took old new (xs ++ ys)
Took-append old mid new xs ys first second = record {
  bytes = Appends-append old.bytes mid.bytes new.bytes xs ys first.bytes second.bytes;
  passed = omega (arith, first.passed, second.passed, length-append xs ys);
}

-- a first part that was written whole, and a second part after it
module _ {old mid : Device} {xs : List ℕ} {before n : ℕ} (first : PassedOn xs before old mid n) {new : Device} {ys : List ℕ} where
  -- if the second part was written whole too, so was the concatenation of both
  pub passed-append : {m : ℕ} → PassedOn ys n mid new m → PassedOn (xs ++ ys) before old new m
  passed-append second = record {
    count = omega (arith, first.count, second.count, length-append xs ys);
    wrote = (Took-append old mid new xs ys first.wrote.0 second.wrote.0, second.wrote.1 ∙ first.wrote.1);
  }

  -- if a prefix of the second part was written, the sink failed within the concatenation of both
  pub stopped-after : {w : ℕ} → StoppedIn ys n mid new w → StoppedIn (xs ++ ys) before old new w
  stopped-after {w = w} second =
      let count : w - before ≡ length xs + (w - n) = omega (arith, first.count, second.after) in
      let front : take (w - before) (xs ++ ys) ≡ xs ++ take (w - n) ys = ap (λ k. take k (xs ++ ys)) count ∙ take-append-add xs ys (w - n) in
      record {
        after = omega (arith, first.count, second.after);
        stopped = (
          omega (arith, count, second.stopped.0, length-append xs ys),
          rw front (Took-append old mid new xs (take (w - n) ys) first.wrote.0 second.stopped.1),
          record {
            failures = second.stopped.2.failures ∙ ap (λ k. min (k + 1) greatest) first.wrote.1;
            last = second.stopped.2.last;
          },
        );
      }

-- if the sink failed within a part, the sink failed within any longer part that begins with that part
pub stopped-before : {old new : Device} {xs : List ℕ} {before w : ℕ} (ys : List ℕ) → StoppedIn xs before old new w → StoppedIn (xs ++ ys) before old new w
stopped-before {old = old} {new = new} {xs = xs} {before = before} {w = w} ys stopped = record {
  after = stopped.after;
  stopped = (
    omega (arith, stopped.stopped.0, length-append xs ys),
    rw (take-append-le (w - before) xs ys (omega (arith, stopped.stopped.0))) stopped.stopped.1,
    stopped.stopped.2,
  );
}

-- after the first part was written, the result of writing the last part is the result of writing both
module _ {old mid : Device} {xs : List ℕ} {before n : ℕ} (first : PassedOn xs before old mid n) (new : Device) (ys : List ℕ) where
  pub last_passed : (r : Result ℕ WriteFault) → IfOk r (λ m. PassedOn ys n mid new m) → IfOk r (λ m. PassedOn (xs ++ ys) before old new m)
  last_passed (Ok m) second = passed-append first second
  last_passed (Err fault) second = tt

  pub last_stopped : (r : Result ℕ WriteFault) → IfErr r (λ fault. StoppedIn ys n mid new fault.written) → IfErr r (λ fault. StoppedIn (xs ++ ys) before old new fault.written)
  last_stopped (Ok m) second = tt
  last_stopped (Err fault) second = stopped-after first second

-- concatenating the first k + 1 lists yields the first k concatenated, followed by list k
concat-more : (xs : List (List ℕ)) (k : ℕ) → k < length xs → concat (take (suc k) xs) ≡ concat (take k xs) ++ get_or xs k []
concat-more [] k short = absurd (omega arith)
concat-more (x ∷ xs) zero short = append-nil x
concat-more (x ∷ xs) (suc k) short =
    ap (λ more. x ++ more) (concat-more xs k (omega (arith, short))) ∙ sym (append_assoc x (concat (take k xs)) (get_or xs k []))

concat-parts : (xs : List (List ℕ)) (k : ℕ) → concat xs ≡ concat (take k xs) ++ concat (drop k xs)
concat-parts xs zero = refl
concat-parts [] (suc k) = refl
concat-parts (x ∷ xs) (suc k) = ap (λ more. x ++ more) (concat-parts xs k) ∙ sym (append_assoc x (concat (take k xs)) (concat (drop k xs)))

concat-next : (xs : List (List ℕ)) (k : ℕ) (x : List ℕ) → k < length xs → x ≡ get_or xs k [] → concat (take (k + 1) xs) ≡ concat (take k xs) ++ x
concat-next xs k x within x_is =
    let more : k + 1 ≡ suc k = omega arith in
    ap (λ j. concat (take j xs)) more ∙ concat-more xs k within ∙ ap (λ y. concat (take k xs) ++ y) (sym x_is)

-- the first k lists of `xs` were written, and then list k or a prefix of it
module _ (xs : List (List ℕ)) (k : ℕ) {x : List ℕ} (within : k < length xs) (x_is : x ≡ get_or xs k [])
    {old mid : Device} {before n : ℕ} (front : PassedOn (concat (take k xs)) before old mid n) {new : Device} where
  pub pieces-more : {m : ℕ} → PassedOn x n mid new m → PassedOn (concat (take (k + 1) xs)) before old new m
  pieces-more next = rw (concat-next xs k x within x_is) (passed-append front next)

  pub pieces-stopped : {w : ℕ} → StoppedIn x n mid new w → StoppedIn (concat xs) before old new w
  pieces-stopped next =
      rw (concat-parts xs (k + 1) ∙ ap (λ ys. ys ++ concat (drop (k + 1) xs)) (concat-next xs k x within x_is))
      (stopped-before (concat (drop (k + 1) xs)) (stopped-after front next))

-- if a function returns a write fault unchanged, what holds for its byte count still holds
pub same_fault : {T : Type 0} (r : Result T WriteFault) (fault : WriteFault) (Q : ℕ → Type 0) → IsErrAnd r (λ y. y ≡ fault) → Q fault.written
    → IfErr r (λ y. Q y.written)
same_fault (Ok x) fault Q is holds = tt
same_fault (Err y) fault Q is holds = rw is holds

-- if `front` followed by `piece` is `whole`, appending `part` to `piece` appends it to `whole`
pub part-more : (front piece part : List ℕ) {new whole : List ℕ} → new ≡ piece ++ part → front ++ piece ≡ whole → front ++ new ≡ whole ++ part
part-more front piece part new_is piece_is =
    ap (λ xs. front ++ xs) new_is ∙ sym (append_assoc front piece part) ∙ ap (λ xs. xs ++ part) piece_is

-- the given lists, with a space before each list but the first
abbrev pub spaced : List (List ℕ) → List (List ℕ)
spaced [] = []
spaced (x ∷ xs) = x ∷ map (λ (y : List ℕ). 32 ∷ y) xs

spaced-after : (x : List ℕ) (xs : List (List ℕ)) → x ++ concat (map (λ (y : List ℕ). 32 ∷ y) xs) ≡ join_with_byte 32 (x ∷ xs)
spaced-after x [] = append-nil x
spaced-after x (y ∷ xs) = ap (λ more. x ++ (32 ∷ more)) (spaced-after y xs)

pub spaced-whole : (xs : List (List ℕ)) → concat (spaced xs) ≡ join_with_byte 32 xs
spaced-whole [] = refl
spaced-whole (x ∷ xs) = spaced-after x xs

pub length-spaced : (xs : List (List ℕ)) → length (spaced xs) ≡ length xs
length-spaced [] = refl
length-spaced (x ∷ xs) = ap suc (length-map xs (λ (y : List ℕ). 32 ∷ y))

pub spaced-at : (xs : List (List ℕ)) (k : ℕ) → k < length xs → (if k == 0 then [] else 32 ∷ []) ++ get_or xs k [] ≡ get_or (spaced xs) k []
spaced-at [] k short = absurd (omega arith)
spaced-at (x ∷ xs) zero short = refl
spaced-at (x ∷ xs) (suc k) short =
    let after : (suc k == 0) ≡ false = grind (arith, nat_tests) in
    rw after (sym (get_or-map (λ (y : List ℕ). 32 ∷ y) xs k [] [] (omega (arith, short))))

pub spaced-within : (xs : List (List ℕ)) (k : ℕ) → k < length xs → k < length (spaced xs)
spaced-within xs k within = rw (length-spaced xs) within

take-spaced : (xs : List (List ℕ)) (k : ℕ) → spaced (take k xs) ≡ take k (spaced xs)
take-spaced xs zero = refl
take-spaced [] (suc k) = refl
take-spaced (x ∷ xs) (suc k) = ap (λ more. x ∷ more) (sym (take-map (λ (y : List ℕ). 32 ∷ y) k xs))

joined-front : (xs : List (List ℕ)) (k : ℕ) → join_with_byte 32 (take k xs) ≡ concat (take k (spaced xs))
joined-front xs k = sym (spaced-whole (take k xs)) ∙ ap concat (take-spaced xs k)

-- when lists are joined by spaces, a space precedes each list except the first
pub joined-more : (xs : List (List ℕ)) (k : ℕ) (x : List ℕ) → k < length xs → x ≡ get_or xs k []
    → join_with_byte 32 (take (k + 1) xs) ≡ join_with_byte 32 (take k xs) ++ ((if k == 0 then [] else 32 ∷ []) ++ x)
joined-more xs k x within is =
    let next = ap (λ y. (if k == 0 then [] else 32 ∷ []) ++ y) is ∙ spaced-at xs k within in
    joined-front xs (k + 1) ∙ concat-next (spaced xs) k _ (spaced-within xs k within) next
    ∙ ap (λ front. front ++ ((if k == 0 then [] else 32 ∷ []) ++ x)) (sym (joined-front xs k))

pub joined-rest : (xs : List (List ℕ)) (k : ℕ) → join_with_byte 32 xs ≡ join_with_byte 32 (take k xs) ++ concat (drop k (spaced xs))
joined-rest xs k =
    sym (spaced-whole xs) ∙ concat-parts (spaced xs) k ∙ ap (λ front. front ++ concat (drop k (spaced xs))) (sym (joined-front xs k))

-- the first n bytes of `SPACES` are n spaces
pub some_spaces : (n : ℕ) → n ≤ 64 → take n SPACES ≡ replicate n 32
some_spaces n within = take-replicate n 64 32 within

-- n spaces
abbrev pub spaces : ℕ → List ℕ
spaces n = replicate n 32

spaces-add : (n m : ℕ) → spaces (n + m) ≡ spaces n ++ spaces m
spaces-add n m = sym (replicate-append-replicate {A = ℕ} n m 32)

pub more_spaces : (count left some : ℕ) → left ≤ count → some ≤ left → spaces (count - (left - some)) ≡ spaces (count - left) ++ spaces some
more_spaces count left some within part =
    let sum : count - (left - some) ≡ (count - left) + some = omega (arith, within, part) in
    ap spaces sum ∙ spaces-add (count - left) some

pub all_spaces : (count left some : ℕ) → left ≤ count → some ≤ left → spaces count ≡ (spaces (count - left) ++ spaces some) ++ spaces (left - some)
all_spaces count left some within part =
    let sum : count ≡ (count - (left - some)) + (left - some) = omega (arith, within, part) in
    ap spaces sum ∙ spaces-add (count - (left - some)) (left - some)
    ∙ ap (λ xs. xs ++ spaces (left - some)) (more_spaces count left some within part)

-- `StoppedIn` for a part before which nothing was written is `StoppedAt`
pub stopped-whole : {xs : List ℕ} {old new : Device} {w : ℕ} → StoppedIn xs 0 old new w → StoppedAt w xs old new
stopped-whole {w = w} stopped = let all : w ≡ w - 0 = omega arith in rw all stopped.stopped
