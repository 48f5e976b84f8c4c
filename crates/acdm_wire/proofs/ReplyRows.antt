-- Texts of replies, computed by the definitions alone.
use Rattle.std.proofs.Common.{◌≡◌, [], ◌∷◌, codes, refl}
use Rattle.std.specs.Fmt.{digits}
use Rattle.acdm_alerts.specs.Names.{names_text}
use Rattle.acdm_milestones.specs.declared.milestone.Milestone.TheVariants.{FlightPlanActivated}
use Rattle.acdm_milestones.specs.declared.milestone.Milestone.TheVariants.{InBlock, TakeOff}
use Rattle.acdm_milestones.specs.declared.refusal.Refusal.TheVariants.{OtherLength, AlreadyMigrated}
use Rattle.acdm_milestones.specs.declared.refusal.Refusal.TheVariants.{FirstLayout}
use Rattle.acdm_slots.specs.declared.kind.Kind.TheVariants.{Tobt, Alert}
use Rattle.acdm_step.specs.declared.outcome.Outcome.TheVariants.{Done, Listed, Migrated, Refused}
use Rattle.acdm_wire.specs.Replies.{entry_text}

accepted : entry_text 5 Done ≡ codes "ok 5\n"
unfolding digits
accepted = refl

first_layout : entry_text 2 (Refused FirstLayout) ≡ codes "no 2 325\n"
unfolding digits
first_layout = refl

migrated_before : entry_text 8 (Refused AlreadyMigrated) ≡ codes "no 8 324\n"
unfolding digits
migrated_before = refl

other_length : entry_text 9 (Refused OtherLength) ≡ codes "no 9 323\n"
unfolding digits
other_length = refl

-- ---- lists

no_flights : entry_text 2 (Listed []) ≡ codes "alerts 2 -\n"
unfolding digits
no_flights = refl

two_flights : entry_text 3
    (Listed (record { flight = 7; alerts = 256 } ∷ record { flight = 12; alerts = 33536 } ∷ []))
    ≡ codes "alerts 3 7:CDM08;12:CDM08,CDM09,CDM07a\n"
unfolding digits names_text
two_flights = refl

none_unloaded : entry_text 3 (Migrated []) ≡ codes "migrated 3 -\n"
unfolding digits
none_unloaded = refl

one_unloaded : entry_text 2
    (Migrated (record { milestone = InBlock; kind = Tobt; code = 308; slot = 2 } ∷ []))
    ≡ codes "migrated 2 7:tobt:308:2\n"
unfolding digits
one_unloaded = refl

three_unloaded : entry_text 10
    (Migrated (record { milestone = FlightPlanActivated; kind = Alert; code = 309; slot = 0 }
    ∷ record { milestone = TakeOff; kind = Tobt; code = 313; slot = 4095 }
    ∷ record { milestone = TakeOff; kind = Alert; code = 310; slot = 17 } ∷ []))
    ≡ codes "migrated 10 1:alert:309:0;16:tobt:313:4095;16:alert:310:17\n"
unfolding digits
three_unloaded = refl
