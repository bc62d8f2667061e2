-- The value of the constant `CHUNK`.
use Rattle.std.proofs.Common.{◌≡◌, refl}
use Rattle.stream.specs.declared.reading.TheConstants.{CHUNK}

-- the maximum number of bytes of one read
piece_size : CHUNK ≡ 65536
piece_size = refl
