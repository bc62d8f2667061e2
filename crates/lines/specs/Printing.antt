-- Whether lines of a paragraph are printed, and how printing can fail.
use Rattle.std.specs.Prelude.{◌≡◌, ℕ, Bool, ◌&&◌, not, List}
use Rattle.device.specs.Device.{Device, StoppedAt}
use Rattle.lines.specs.declared.printing.print.Print.{Print}
use Rattle.lines.specs.declared.printing.print.PrintFault.{PrintFault}
use Rattle.lines.specs.declared.printing.print.PrintFault.TheVariants.{Memory, Write}

-- whether at most the base direction is printed
abbrev pub skips_lines : Print → Bool
skips_lines print = print.novisual && (not print.ltov && (not print.vtol && not print.levels))

-- `Memory` means that nothing was written. `Write` means that the sink failed while these bytes were being
-- written.
abbrev pub FailedAs : PrintFault → List ℕ → Device → Device → Type 0
FailedAs Memory bytes old new = new ≡ old
FailedAs (Write fault) bytes old new = StoppedAt fault.written bytes old new
