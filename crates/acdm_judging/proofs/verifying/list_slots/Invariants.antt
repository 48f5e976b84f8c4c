use Rattle.std.proofs.Common.{◌≡◌, ◌++◌, ◌-◌, ◌≤◌, drop}
use Rattle.acdm_judging.specs.Verdicts.{slots_text}
use Rattle.acdm_judging.proofs.verifying.list_slots.Given as goal

abbrev pub invariant-loop-slot : goal.invariant-loop-slot
invariant-loop-slot l = record {
  lines : l.text.items ++ slots_text l.slot (drop l.slot l.program)
      ≡ l.initial.text.items ++ slots_text 0 l.program;
  below : l.slot ≤ l.slots;
}

abbrev pub decreases-loop-slot : goal.decreases-loop-slot
decreases-loop-slot l = l.slots - l.slot
