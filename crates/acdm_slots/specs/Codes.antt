-- The numbers of errors in replies (this project's profile).
use Rattle.std.specs.Prelude.{ℕ}
use Rattle.acdm_slots.specs.declared.error.SlotError.{SlotError}
use Rattle.acdm_slots.specs.declared.error.SlotError.TheVariants.{EmptySlot, OtherSignatures}
use Rattle.acdm_slots.specs.declared.error.SlotError.TheVariants.{OtherLength}

abbrev pub error_code : SlotError → ℕ
error_code EmptySlot = 321
error_code OtherSignatures = 322
error_code OtherLength = 323
