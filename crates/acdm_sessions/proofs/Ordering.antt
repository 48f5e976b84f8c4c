-- What a line of a session asks to be done, by what came of it.
use Rattle.std.proofs.Common.{◌≡◌, ℕ, Bool, true, false, List, Some, None, Ok, Err, refl, sym, ap}
use Rattle.std.proofs.Common.{subst, ◌∙◌}
use Rattle.std.proofs.lemmas.Bool.{false≢true}
use Rattle.bpf_helpers.specs.Promise.{Promise}
use Rattle.acdm_step.specs.declared.command.Command.{Command}
use Rattle.acdm_wire.specs.declared.fault.RequestFault.{RequestFault}
use Rattle.acdm_wire.specs.declared.fault.Bad.TheVariants.{Faulty, NoMinute, NoMemory}
use Rattle.bpf_verifier.specs.declared.reading.ProgramError.{ProgramError}
use Rattle.bpf_verifier.specs.declared.reading.ProgramError.TheVariants.{Memory, Refused}
use Rattle.acdm_step.specs.declared.stated.StatedCommand.{StatedCommand}
use Rattle.acdm_wire.specs.declared.request.LineError.{LineError}
use Rattle.acdm_wire.specs.declared.request.LineError.TheVariants as errors
use Rattle.acdm_wire.specs.Codes.{bad_of}
use Rattle.acdm_sessions.specs.Output.{Completes}
use Rattle.acdm_wire.specs.Meant.{Gives, asked_of}
use Rattle.acdm_sessions.specs.Orders.{OrderFacts, order_at, order_asked, IsReadingAt}
use Rattle.acdm_sessions.specs.Orders.{Orders}

abbrev nothing : OrderFacts
nothing = record { short = false; minute = None; program = Err (0, 0) }

pub fault_read : (line : List ℕ) (e : LineError) (f : RequestFault) → e ≡ errors.Fault f
    → Gives {X = StatedCommand} (Err e) (asked_of line) → asked_of line ≡ Err f
fault_read line e f is g = subst (λ v. Gives {X = StatedCommand} (Err v) (asked_of line)) is g

module _ (gives : ℕ → Bool) (sigs : List (ℕ × Promise)) (line : List ℕ) where
  -- memory was refused
  pub orders_short : Orders gives sigs line (Err NoMemory)
  orders_short = record {
    facts = record nothing { short = true };
    minute = tt;
    reading = λ heard. absurd (false≢true (sym heard));
    is = refl;
  }

  -- the line asks for nothing
  pub orders_fault : (f : RequestFault) → asked_of line ≡ Err f → Orders gives sigs line (Err (Faulty f))
  orders_fault f m = record {
    facts = nothing;
    minute = tt;
    reading = λ heard. tt;
    is = sym (ap (order_asked None nothing.program) m);
  }

  module _ (asked : StatedCommand) (m : asked_of line ≡ Ok asked) where
    -- the clock gave no minute
    pub orders_no_minute : Orders gives sigs line (Err NoMinute)
    orders_no_minute = record {
      facts = nothing;
      minute = tt;
      reading = λ heard. tt;
      is = sym (ap (order_asked None nothing.program) m);
    }

    module _ (minute : ℕ) (given : gives minute ≡ true) where
      -- memory was refused, or the bytes give no program
      pub orders_program : (e : ProgramError) → Completes sigs asked (Err e)
          → Orders gives sigs line (Err (bad_of e))
      orders_program Memory c = orders_short
      orders_program (Refused code slot) c =
          let t : OrderFacts = record { short = false; minute = Some minute; program = c.reading }
          in
          record {
            facts = t;
            minute = given;
            reading = λ heard. subst (λ x. IsReadingAt sigs (Some minute) x c.reading) (sym m)
                c.right;
            is = sym (ap (order_asked (Some minute) c.reading) m
                ∙ ap (order_at minute) c.command_is);
          }

      -- the line asks for a command
      pub orders_command : (c : Command) → Completes sigs asked (Ok c)
          → Orders gives sigs line (Ok record { moment = minute; command = c })
      orders_command c h =
          let t : OrderFacts = record { short = false; minute = Some minute; program = h.reading }
          in
          record {
            facts = t;
            minute = given;
            reading = λ heard. subst (λ x. IsReadingAt sigs (Some minute) x h.reading) (sym m)
                h.right;
            is = sym (ap (order_asked (Some minute) h.reading) m
                ∙ ap (order_at minute) h.command_is);
          }
