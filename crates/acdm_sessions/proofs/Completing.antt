-- The command that a line asks for, once the bytes of its program are read.
use Rattle.std.proofs.Common.{◌≡◌, ℕ, List, false, not, Ok, Err, refl, sym, subst}
use Rattle.bpf_helpers.specs.Promise.{Promise}
use Rattle.bpf_helpers.proofs.SameSigs.{same_sigs-decides}
use Rattle.bpf_verifier.specs.Verdict.{Verified}
use Rattle.acdm_step.specs.History.{is_checked}
use Rattle.acdm_step.specs.declared.command.Command.{Command}
use Rattle.acdm_step.specs.declared.command.Command.TheVariants as commands
use Rattle.bpf_verifier.specs.declared.reading.ProgramError.{ProgramError}
use Rattle.bpf_verifier.specs.declared.reading.ProgramError.TheVariants.{Memory, Refused}
use Rattle.acdm_step.specs.declared.stated.LoadRequest.{LoadRequest}
use Rattle.acdm_step.specs.declared.stated.StatedCommand.{StatedCommand}
use Rattle.acdm_step.specs.declared.stated.StatedCommand.TheVariants.{Plain, Load}
use Rattle.bpf_verifier.specs.Reading.{GivesReading}
use Rattle.acdm_sessions.specs.Output.{Completes}

pub completes_plain : (sigs : List (ℕ × Promise)) (asked : StatedCommand) (c : Command)
    → asked ≡ Plain c → Completes sigs asked (Ok c)
completes_plain sigs asked c e =
    subst (λ a. Completes sigs a (Ok c)) (sym e)
    (record { reading = Err (0, 0); right = tt; command_is = refl })

module _ (sigs : List (ℕ × Promise)) (asked : StatedCommand) (l : LoadRequest) (bytes : List ℕ)
    (is : asked ≡ Load l) (same : bytes ≡ l.program) where
  loaded : Verified → Command
  loaded v = commands.Load record { milestone = l.milestone; kind = l.kind; program = v }

  pub completes_load : (v : Verified) → GivesReading sigs l.record_length bytes (Ok v)
      → Completes sigs asked
      (Ok (commands.Load record { milestone = l.milestone; kind = l.kind; program = v }))
  unfolding loaded
  completes_load v r =
      subst (λ a. Completes sigs a (Ok (loaded v))) (sym is) (record {
        reading = Ok v;
        right = subst (λ bs. GivesReading sigs l.record_length bs (Ok v)) same r;
        command_is = refl;
      })

  pub completes_refused : (e : ProgramError) → GivesReading sigs l.record_length bytes (Err e)
      → Completes sigs asked (Err e)
  completes_refused Memory r = tt
  completes_refused (Refused code slot) r =
      subst (λ a. Completes sigs a (Err (Refused code slot))) (sym is) (record {
        reading = Err (code, slot);
        right = subst (λ bs. GivesReading sigs l.record_length bs (Err (Refused code slot))) same r;
        command_is = refl;
      })

pub checked_is_no_other : (sigs : List (ℕ × Promise)) (v : Verified) → v.sigs ≡ sigs
    → not (is_checked sigs v) ≡ false
checked_is_no_other sigs v same = rw ((same_sigs-decides v.sigs sigs).1 same) refl
