use Rattle.std.proofs.Common.{◌≡◌, ℕ, List, refl}
use Rattle.ucd.specs.Images.{IsFirstFault, IsImageFault}
use Rattle.ucd.specs.declared.image_fault.ImageFault.{ImageFault}
use Rattle.ucd.specs.declared.image_fault.ImageFault.TheVariants as fault
use Rattle.tables.proofs.image_fault.Goals as goal

first_fault : (bytes : List ℕ) (why : ImageFault) → ¬ (why ≡ fault.Memory) → IsImageFault bytes why → IsFirstFault bytes why
first_fault bytes fault.Memory isnt is = absurd (isnt refl)
first_fault bytes why isnt is = is

pub returns-in_default : goal.returns-in_default
returns-in_default c = λ bytes is. first_fault _ _ c.in_default.not-Memory is
