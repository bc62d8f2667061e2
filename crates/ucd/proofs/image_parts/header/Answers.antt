use Rattle.std.proofs.Common.{◌∙◌, length, ap}
use Rattle.ucd.proofs.ImageParts.{header_is}
use Rattle.ucd.proofs.image_parts.header.Goals as goal

pub returns-clause-magic : goal.returns-clause-magic
returns-clause-magic c =
    let is = header_is c.in_ok-bytes.bytes.items _ _ _ _ _ _ _ _ _ _ (ap length c.in_ok-bytes.ensures.items) c.in_ok-push_u32.ensures
    c.in_ok-push_u32-2.ensures c.in_ok-push_u32-3.ensures c.in_ok-push_u32-4.ensures c.in_ok-push_u32-5.ensures in
    is.magic_is ∙ c.in_ok-bytes.ensures.items

pub returns-clause-format : goal.returns-clause-format
returns-clause-format c =
    let is = header_is c.in_ok-bytes.bytes.items _ _ _ _ _ _ _ _ _ _ (ap length c.in_ok-bytes.ensures.items) c.in_ok-push_u32.ensures
    c.in_ok-push_u32-2.ensures c.in_ok-push_u32-3.ensures c.in_ok-push_u32-4.ensures c.in_ok-push_u32-5.ensures in
    is.a_is

pub returns-clause-version : goal.returns-clause-version
returns-clause-version c =
    let is = header_is c.in_ok-bytes.bytes.items _ _ _ _ _ _ _ _ _ _ (ap length c.in_ok-bytes.ensures.items) c.in_ok-push_u32.ensures
    c.in_ok-push_u32-2.ensures c.in_ok-push_u32-3.ensures c.in_ok-push_u32-4.ensures c.in_ok-push_u32-5.ensures in
    is.b_is ∙ c.number.ensures

pub returns-clause-pages : goal.returns-clause-pages
returns-clause-pages c =
    let is = header_is c.in_ok-bytes.bytes.items _ _ _ _ _ _ _ _ _ _ (ap length c.in_ok-bytes.ensures.items) c.in_ok-push_u32.ensures
    c.in_ok-push_u32-2.ensures c.in_ok-push_u32-3.ensures c.in_ok-push_u32-4.ensures c.in_ok-push_u32-5.ensures in
    is.c_is

pub returns-clause-brackets : goal.returns-clause-brackets
returns-clause-brackets c =
    let is = header_is c.in_ok-bytes.bytes.items _ _ _ _ _ _ _ _ _ _ (ap length c.in_ok-bytes.ensures.items) c.in_ok-push_u32.ensures
    c.in_ok-push_u32-2.ensures c.in_ok-push_u32-3.ensures c.in_ok-push_u32-4.ensures c.in_ok-push_u32-5.ensures in
    is.d_is
