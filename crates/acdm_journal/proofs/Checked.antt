-- The programs in the slots of a history whose entries fit their types are programs.
use Rattle.std.proofs.Common.{◌≡◌, [], ◌∷◌, Some}
use Rattle.std.specs.List.{AllByRecursion}
use Rattle.bpf_decode.specs.Encoding.{IsProgram}
use Rattle.bpf_verifier.specs.Verdict.{Verified}
use Rattle.acdm_step.proofs.Loading.{Loads, alert_loaded, tobt_loaded}
use Rattle.acdm_step.specs.declared.command.Command.{Command}
use Rattle.acdm_step.specs.declared.command.Command.TheVariants.{Load, Unload, Tick, Migrate, Show}
use Rattle.acdm_step.specs.declared.command.Command.TheVariants.{Alerts}
use Rattle.acdm_step.specs.declared.command.Command.TheVariants as commands
use Rattle.acdm_step.specs.Commands.{History}
use Rattle.acdm_step.specs.InSlots.{programs_of}
use Rattle.acdm_journal.specs.Ranges.{FitsTypes, LoadsProgram}

-- ---- where entries fit their types they are programs

abbrev IsOne : Verified → Type 0
IsOne v = IsProgram v.ops

loads_one : (c : Command) → LoadsProgram c → Loads IsOne c
loads_one (Load l) is = is
loads_one (Unload u) is = tt
loads_one (commands.Schedule k) is = tt
loads_one (commands.Report k) is = tt
loads_one (commands.Deice k) is = tt
loads_one Tick is = tt
loads_one Migrate is = tt
loads_one (Show f) is = tt
loads_one Alerts is = tt

all_programs : (J : History) → AllByRecursion FitsTypes J
    → AllByRecursion (λ e. Loads IsOne e.command) J
all_programs [] fit = tt
all_programs (e ∷ J) fit = (loads_one e.command fit.0.program, all_programs J fit.1)

pub tobt_is_program : (J : History) (c : Command) → AllByRecursion FitsTypes J
    → (v : Verified) → (programs_of J c).tobt ≡ Some v → IsProgram v.ops
tobt_is_program J c fit = tobt_loaded IsOne (λ v h. h) J c (all_programs J fit)

pub alert_is_program : (J : History) (c : Command) → AllByRecursion FitsTypes J
    → (v : Verified) → (programs_of J c).alert ≡ Some v → IsProgram v.ops
alert_is_program J c fit = alert_loaded IsOne (λ v h. h) J c (all_programs J fit)
