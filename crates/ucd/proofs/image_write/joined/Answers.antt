use Rattle.std.proofs.Common.{codes, ◌/◌, length}
use Rattle.ucd.specs.Images.{version_number}
use Rattle.ucd.proofs.ImageParts.{IsHeader, joins}
use Rattle.ucd.proofs.image_write.joined.Goals as goal

pub returns : goal.returns
returns c =
    let head = c.in_ok-bytes.bytes.items in
    let is : IsHeader (codes "hordguli-ucd") head 1 (version_number c.args.version) (length c.args.pages.now / 512) (length c.args.brackets.now / 8) (length c.args.mirrors.now / 8) = record {
      len = c.in_ok-bytes.ensures.len;
      magic_is = c.in_ok-bytes.ensures.magic;
      a_is = c.in_ok-bytes.ensures.format;
      b_is = c.in_ok-bytes.ensures.version;
      c_is = c.in_ok-bytes.ensures.pages;
      d_is = c.in_ok-bytes.ensures.brackets;
      e_is = c.in_ok-bytes.ensures.mirrors;
    } in
    joins c.args.version head c.args.index.now c.args.pages.now c.args.brackets.now c.args.mirrors.now c.push_checksum.new.bytes.items is
    c.requires.index c.requires.pages.0 c.requires.brackets.0 c.requires.mirrors.0
    (rw (c.in_ok-extend_from_slice-4.ensures.items, c.in_ok-extend_from_slice-3.ensures.items, c.in_ok-extend_from_slice-2.ensures.items, c.in_ok-extend_from_slice.ensures.items) at c.in_ok-push_checksum.ensures)
