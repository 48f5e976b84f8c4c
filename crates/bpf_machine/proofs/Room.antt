-- A program has no more instructions than slots.
use Rattle.std.proofs.Common.{◌≤◌, Bool, true, false, List, [], ◌∷◌, length, suc, cond}
use Rattle.std.proofs.Common.{arith}
use Rattle.bpf_decode.specs.declared.op.Op.{Op}
use Rattle.bpf_decode.specs.Encoding.{is_tail}
use Rattle.bpf_regstate.specs.States.{instruction_count}

pub counted_within : (ops : List Op) → instruction_count ops ≤ length ops
counted_within [] = omega arith
counted_within (op ∷ ops) = at (is_tail op) (counted_within ops)
  where
    at : (tail : Bool) → instruction_count ops ≤ length ops
        → cond tail (instruction_count ops) (suc (instruction_count ops)) ≤ length (op ∷ ops)
    at true h = omega (arith, h)
    at false h = omega (arith, h)
