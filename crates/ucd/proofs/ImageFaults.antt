-- The fault of an image, for each condition that may be the first one to fail.
use Rattle.std.proofs.Common.{◌≡◌, ℕ, ◌+◌, ◌/◌, ◌≤◌, List, length, take, codes, refl, inl, inr}
use Rattle.ucd.specs.Images.{image_version, version_number, u32_at, u64_at, checksum, checksum_at, IsFramed, IsFirstFault, ArePagesKnown, AreEntries, AreBrackets, AreMirrors, AreBracketFlags, AreMirrorFlags}
use Rattle.ucd.specs.declared.image_fault.ImageFault.TheVariants as fault

module _ (bytes : List ℕ) where
  pub no_header : ¬ (32 ≤ length bytes) → IsFirstFault bytes fault.Truncated
  unfolding IsFirstFault
  no_header isnt = inl (isnt, refl)

  pub no_magic : 32 ≤ length bytes → ¬ (take 12 bytes ≡ codes "hordguli-ucd") → IsFirstFault bytes fault.Magic
  unfolding IsFirstFault
  no_magic header isnt = inr (header, inl (isnt, refl))

  pub other_format : 32 ≤ length bytes → take 12 bytes ≡ codes "hordguli-ucd" → ¬ (u32_at bytes 12 ≡ 1) → IsFirstFault bytes fault.Format
  unfolding IsFirstFault
  other_format header magic isnt = inr (header, inr (magic, inl (isnt, refl)))

  -- ---- the conditions on the header
  module _ (header : 32 ≤ length bytes) (magic : take 12 bytes ≡ codes "hordguli-ucd") (format : u32_at bytes 12 ≡ 1) where
    pub other_version : ¬ (u32_at bytes 16 ≡ version_number (image_version bytes)) → IsFirstFault bytes fault.Version
    unfolding IsFirstFault
    other_version isnt = inr (header, inr (magic, inr (format, inl (isnt, refl))))

    module _ (version : u32_at bytes 16 ≡ version_number (image_version bytes)) where
      pub too_short : ¬ (checksum_at bytes + 8 ≤ length bytes) → IsFirstFault bytes fault.Truncated
      unfolding IsFirstFault
      too_short isnt = inr (header, inr (magic, inr (format, inr (version, inl (isnt, refl)))))

      pub too_long : checksum_at bytes + 8 ≤ length bytes → ¬ (length bytes ≤ checksum_at bytes + 8) → IsFirstFault bytes fault.Excess
      unfolding IsFirstFault
      too_long room isnt = inr (header, inr (magic, inr (format, inr (version, inr (room, inl (isnt, refl))))))

      pub other_checksum : checksum_at bytes + 8 ≤ length bytes → length bytes ≤ checksum_at bytes + 8
          → ¬ (u64_at bytes (checksum_at bytes) ≡ checksum bytes (checksum_at bytes / 8)) → IsFirstFault bytes fault.Checksum
      unfolding IsFirstFault
      other_checksum room end isnt =
          inr (header, inr (magic, inr (format, inr (version, inr (room, inr (end, inl (isnt, refl)))))))

  -- ---- the conditions on the parts between the header and the checksum
  module _ (is : IsFramed bytes) where
    pub unknown_page : ¬ (ArePagesKnown bytes) → IsFirstFault bytes fault.PageNumber
    unfolding IsFirstFault
    unknown_page isnt =
        inr (
          is.header,
          inr (
            is.magic,
            inr (
              is.format,
              inr (
                is.version,
                inr (
                  is.room,
                  inr (
                    is.end,
                    inr (
                      is.checksum,
                      inl (isnt, refl),
                    ),
                  ),
                ),
              ),
            ),
          ),
        )

    module _ (pages : ArePagesKnown bytes) where
      pub bad_entry : ¬ (AreEntries bytes) → IsFirstFault bytes fault.Entry
      unfolding IsFirstFault
      bad_entry isnt =
          inr (
            is.header,
            inr (
              is.magic,
              inr (
                is.format,
                inr (
                  is.version,
                  inr (
                    is.room,
                    inr (
                      is.end,
                      inr (
                        is.checksum,
                        inr (pages, inl (isnt, refl)),
                      ),
                    ),
                  ),
                ),
              ),
            ),
          )

      module _ (entries : AreEntries bytes) where
        pub bad_bracket : ¬ (AreBrackets bytes) → IsFirstFault bytes fault.Bracket
        unfolding IsFirstFault
        bad_bracket isnt =
            inr (
              is.header,
              inr (
                is.magic,
                inr (
                  is.format,
                  inr (
                    is.version,
                    inr (
                      is.room,
                      inr (
                        is.end,
                        inr (
                          is.checksum,
                          inr (pages, inr (entries, inl (isnt, refl))),
                        ),
                      ),
                    ),
                  ),
                ),
              ),
            )

        pub bad_mirror : AreBrackets bytes → ¬ (AreMirrors bytes) → IsFirstFault bytes fault.Mirror
        unfolding IsFirstFault
        bad_mirror brackets isnt =
            inr (
              is.header,
              inr (
                is.magic,
                inr (
                  is.format,
                  inr (
                    is.version,
                    inr (
                      is.room,
                      inr (
                        is.end,
                        inr (
                          is.checksum,
                          inr (pages, inr (entries, inr (brackets, inl (isnt, refl)))),
                        ),
                      ),
                    ),
                  ),
                ),
              ),
            )

        module _ (brackets : AreBrackets bytes) (mirrors : AreMirrors bytes) where
          pub bad_bracket_flag : ¬ (AreBracketFlags bytes) → IsFirstFault bytes fault.Flags
          unfolding IsFirstFault
          bad_bracket_flag isnt =
              inr (
                is.header,
                inr (
                  is.magic,
                  inr (
                    is.format,
                    inr (
                      is.version,
                      inr (
                        is.room,
                        inr (
                          is.end,
                          inr (
                            is.checksum,
                            inr (pages, inr (entries, inr (brackets, inr (mirrors, inl (isnt, refl))))),
                          ),
                        ),
                      ),
                    ),
                  ),
                ),
              )

          pub bad_mirror_flag : AreBracketFlags bytes → ¬ (AreMirrorFlags bytes) → IsFirstFault bytes fault.Flags
          unfolding IsFirstFault
          bad_mirror_flag flags isnt =
              inr (
                is.header,
                inr (
                  is.magic,
                  inr (
                    is.format,
                    inr (
                      is.version,
                      inr (
                        is.room,
                        inr (
                          is.end,
                          inr (
                            is.checksum,
                            inr (pages, inr (entries, inr (brackets, inr (mirrors, inr (flags, inl (isnt, refl)))))),
                          ),
                        ),
                      ),
                    ),
                  ),
                ),
              )
