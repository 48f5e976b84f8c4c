-- The numbers of refusals in replies.
use Rattle.std.specs.Prelude.{ℕ}
use Rattle.acdm_milestones.specs.declared.refusal.Refusal.{Refusal}
use Rattle.acdm_milestones.specs.declared.refusal.Refusal.TheVariants.{NotOwner, UnknownFlight}
use Rattle.acdm_milestones.specs.declared.refusal.Refusal.TheVariants.{MissingMilestone, Barred}
use Rattle.acdm_milestones.specs.declared.refusal.Refusal.TheVariants.{NotSet, TimeOrder}
use Rattle.acdm_milestones.specs.declared.refusal.Refusal.TheVariants.{AlreadyPlanned, FullBoard}
use Rattle.acdm_milestones.specs.declared.refusal.Refusal.TheVariants.{EmptySlot, OtherSignatures}
use Rattle.acdm_milestones.specs.declared.refusal.Refusal.TheVariants.{OtherLength, AlreadyMigrated, FirstLayout}
use Rattle.acdm_milestones.specs.declared.refusal.Refusal.TheVariants.{Unanswered}

abbrev pub refusal_code : Refusal → ℕ
refusal_code NotOwner = 201
refusal_code UnknownFlight = 202
refusal_code MissingMilestone = 203
refusal_code Barred = 204
refusal_code NotSet = 205
refusal_code TimeOrder = 206
refusal_code AlreadyPlanned = 207
refusal_code FullBoard = 503
refusal_code EmptySlot = 321
refusal_code OtherSignatures = 322
refusal_code OtherLength = 323
refusal_code AlreadyMigrated = 324
refusal_code FirstLayout = 325
refusal_code Unanswered = 599
