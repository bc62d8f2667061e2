-- How many bytes the characters of a text need in UTF-8.
use Rattle.std.proofs.Common.{◌≡◌, ℕ, ◌≤◌, List, [], ◌∷◌, length, take, sum_by, encode_utf8_all, refl, ap, arith}
use Rattle.std.specs.Prelude.{IsUtf8}
use Rattle.std.specs.Char.{len_utf8}
use Rattle.std.specs.Str.{chars}
use Rattle.std.proofs.lemmas.List.{length-append}
use Rattle.std.proofs.lemmas.List.Sums.{sum_by-cons, sum_by-take-le}
use Rattle.std.proofs.lemmas.Str.{encodes-chars, length-encode}
use lib.Utf8.{encode}

-- the UTF-8 lengths of the characters in a list add up to the length of the encoded list
bytes_of : (cs : List ℕ) → sum_by len_utf8 cs ≡ length (encode_utf8_all cs)
bytes_of [] = refl
bytes_of (c ∷ cs) =
    omega (arith, sum_by-cons len_utf8 c cs, bytes_of cs, length-encode c, length-append (encode c) (encode_utf8_all cs))

-- the first k characters of a text need at most as many bytes as the whole text
pub bytes_before : (bytes : List ℕ) (k : ℕ) → IsUtf8 bytes → sum_by len_utf8 (take k (chars bytes)) ≤ length bytes
bytes_before bytes k utf8 =
    omega (arith, sum_by-take-le len_utf8 (chars bytes) k, bytes_of (chars bytes), ap length (encodes-chars bytes utf8))
