use Rattle.std.proofs.Common.{◌≡◌, ◌++◌, ◌≤◌, ◌-◌, ◌*◌, length, map, take}
use Rattle.std.specs.List.{join_with_byte}
use Rattle.lines.proofs.printing.bytes.encode_row.Given as goal

-- the buffer holds the bytes of the numbers encoded so far
abbrev pub invariant-loop-next : goal.invariant-loop-next
invariant-loop-next g l =
    let row = map g.I.Integer.text l.numbers in
    record {
      above : l.fn.from ≤ l.next;
      within : l.next ≤ length l.numbers;
      len : l.len ≤ length l.buffer;
      few : l.len ≤ 41 * (l.next - l.fn.from);
      bytes_are : join_with_byte 32 (take l.fn.from row) ++ take l.len l.buffer ≡ join_with_byte 32 (take l.next row);
    }

abbrev pub decreases-loop-next : goal.decreases-loop-next
decreases-loop-next g l = length l.numbers - l.next
