-- The first file of a folder that cannot be read.
use Rattle.std.proofs.Common.{◌≡◌, ℕ, ◌<◌, List, Ok, Err, Result, inl, IfErr, IsErrAnd}
use Rattle.ucd.specs.FileNames.{file_name}
use Rattle.tables.specs.Folders.{IsFileFaultAs, IsUnread}
use Rattle.ucd.specs.declared.version.Version.{Version}
use Rattle.tables.specs.declared.fault.FolderFault.{FolderFault}

module _ (has_file : ℕ → List ℕ → Type 0) (cannot_read : ℕ → Type 0) (version : Version) where
  -- the files before an index can be read, and the file at the index cannot be read
  pub unread : {T : Type 0} (r : Result T FolderFault) (why : FolderFault) → IsErrAnd r (λ x. x ≡ why) → (index : ℕ) → index < 7
      → ((k : ℕ) → k < index → (bytes : List ℕ) × has_file k bytes) → IsUnread (cannot_read index) (file_name index) why
      → IfErr r (IsFileFaultAs has_file cannot_read version)
  unread (Ok x) why is index within first isnt = tt
  unread (Err x) why is index within first isnt = rw is (inl (index, record { within = within; first = first; unread = isnt }))
