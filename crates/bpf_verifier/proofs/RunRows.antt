-- A worked program that meets the premises of the law on what `verify` answers: with a jump, a
-- join, a store, a load from the stack and a call.
use Rattle.std.proofs.Common.{◌≡◌, ℕ, zero, List, [], ◌∷◌, refl, arith}
use Rattle.std.specs.Prelude.{pos, negsuc, replicate}
use Rattle.std.proofs.lemmas.List.{length-replicate}
use Rattle.bpf_decode.specs.declared.op.Op.{Op}
use Rattle.bpf_decode.specs.declared.op.Op.TheVariants.{Arith, Jump, Call, Exit, Load, Store}
use Rattle.bpf_decode.specs.declared.op.Operand.TheVariants.{From, Immediate}
use Rattle.bpf_decode.specs.declared.op.Code.TheVariants.{Mov}
use Rattle.bpf_decode.specs.declared.op.Width.TheVariants.{W64}
use Rattle.bpf_decode.specs.declared.op.Size.TheVariants.{Byte, Double}
use Rattle.bpf_decode.specs.declared.op.Condition.TheVariants.{Equal}
use Rattle.bpf_helpers.specs.Promise.{Promise}
use Rattle.bpf_helpers.specs.Known.{taxi}
use Rattle.bpf_semantics.specs.Machine.{Machine, Asks, action, start}
use Rattle.bpf_semantics.specs.Runs.{Reaches, RunEnds}
use Rattle.bpf_regstate.specs.Lengths.{bytes_in}
use Rattle.bpf_regstate.specs.declared.length.Length.TheVariants.{L128}
use Rattle.bpf_regstate.specs.States.{states, start_shape}
use Rattle.bpf_regstate.proofs.VerdictRows.{IsAccepted, accepted, no_bytes}
use Rattle.bpf_verifier.specs.Runs.{IsInput, Leads, MayRun}
use Rattle.bpf_verifier.specs.Verdict.{Verified}

-- the stand is 5, or 12 at milestone 1, and goes over the lowest eight bytes of the stack
ops : List Op
ops =
    Arith W64 Mov 6 (Immediate (pos 12))
    ∷ Jump W64 Equal 4 (Immediate (pos 1)) (pos 1)
    ∷ Arith W64 Mov 6 (Immediate (pos 5))
    ∷ Store Double 10 (negsuc 511) (From 6)
    ∷ Load Byte 1 10 (negsuc 511)
    ∷ Call 2
    ∷ Exit
    ∷ []

sigs : List (ℕ × Promise)
sigs = (2, taxi) ∷ []

zeros : List ℕ
zeros = replicate 128 0

is_accepted : IsAccepted ops sigs
unfolding states start_shape ops sigs
is_accepted = accepted _ _ refl

the_program : Verified
the_program = record { record_length = L128; ops = ops; sigs = sigs }

may_run : MayRun the_program
unfolding the_program ops sigs bytes_in
may_run = record {
  program = record {
    some = omega arith;
    few = omega arith;
    whole = (
      refl,
      (
        (tt, omega arith, record { sfits = omega arith }),
        (
          (tt, omega arith, (record { sfits = omega arith }, record { sfits = omega arith })),
          (
            (tt, omega arith, record { sfits = omega arith }),
            (
              (tt, (omega arith, omega arith), record { sfits = omega arith }),
              (
                (tt, (omega arith, omega arith), record { sfits = omega arith }),
                ((tt, tt, omega arith), ((tt, tt, tt), tt)),
              ),
            ),
          ),
        ),
      ),
    );
  };
  signatures = refl;
  accepted = is_accepted.accepts;
}

is_input : IsInput L128 zeros 29000580 7
unfolding zeros bytes_in
is_input = record {
  long = length-replicate 128 zero;
  bytes = no_bytes 128;
  timely = omega arith;
  first_milestone = omega arith;
  last_milestone = omega arith;
}

-- five steps lead to the call
to_the_call : (m : Machine) × Reaches ops sigs zeros (start 128 29000580 7) [] 5 m
    × (action ops sigs zeros m ≡ Asks 2 (5 ∷ 0 ∷ 0 ∷ 0 ∷ 0 ∷ []))
unfolding start ops sigs zeros
to_the_call = (_, refl, refl)

-- and with an answer that is promised the seventh is the exit
ends_at_twenty : RunEnds ops sigs zeros 29000580 7 (20 ∷ []) 20 7
unfolding start ops sigs zeros
ends_at_twenty = (_, refl, refl)

-- the law speaks of the machine at the call
leads_to_the_call : Leads the_program zeros 29000580 7 [] 5 (to_the_call.0)
unfolding the_program zeros
leads_to_the_call = record { may_run = may_run; input = is_input; reached = to_the_call.1 }
