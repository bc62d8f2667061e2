use Rattle.std.proofs.Common.{◌≡◌, ◌++◌, ◌≤◌, ◌-◌, ◌*◌, length, map, take, encode_utf8_all, slice_index}
use Rattle.lines.proofs.printing.bytes.encode_places.Given as goal

-- the buffer holds the bytes of the characters encoded so far
abbrev pub invariant-loop-next : goal.invariant-loop-next
invariant-loop-next l =
    let chars = map (slice_index l.text) l.places in
    record {
      above : l.fn.from ≤ l.next;
      within : l.next ≤ length l.places;
      len : l.len ≤ length l.buffer;
      few : l.len ≤ 4 * (l.next - l.fn.from);
      bytes_are : encode_utf8_all (take l.fn.from chars) ++ take l.len l.buffer ≡ encode_utf8_all (take l.next chars);
    }

abbrev pub decreases-loop-next : goal.decreases-loop-next
decreases-loop-next l = length l.places - l.next
