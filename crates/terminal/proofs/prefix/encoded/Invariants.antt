use Rattle.std.proofs.Common.{◌≡◌, encode_utf8_all, string_bytes, take}
use Rattle.terminal.proofs.prefix.encoded.Given as goal

abbrev pub invariant-loop-c : goal.invariant-loop-c
invariant-loop-c l = string_bytes l.string ≡ encode_utf8_all (take l.c-index l.text)
