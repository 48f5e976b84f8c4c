-- Worked runs, computed from the definitions alone.
use Rattle.std.proofs.Common.{◌≡◌, ℕ, List, [], ◌∷◌, ◌++◌, Some, None, refl}
use Rattle.std.specs.Prelude.{replicate, pos, negsuc}
use Rattle.bpf_decode.specs.declared.op.Op.{Op}
use Rattle.bpf_decode.specs.declared.op.Op.TheVariants.{Arith, Ja, Jump, Call, Exit, Load, Store}
use Rattle.bpf_decode.specs.declared.op.Op.TheVariants.{Wide, Tail}
use Rattle.bpf_decode.specs.declared.op.Operand.TheVariants.{From, Immediate}
use Rattle.bpf_decode.specs.declared.op.Code.TheVariants.{Add, And, Div, SignedDiv, Mod, Mov}
use Rattle.bpf_decode.specs.declared.op.Width.TheVariants.{W32, W64}
use Rattle.bpf_decode.specs.declared.op.Size.TheVariants.{Byte, Half, Word, Double}
use Rattle.bpf_decode.specs.declared.op.Condition.TheVariants.{Equal, NotEqual, Above}
use Rattle.bpf_helpers.specs.Promise.{Promise}
use Rattle.bpf_semantics.specs.Machine.{start}
use Rattle.bpf_semantics.specs.Runs.{after, RunEnds, RunTraps, RunAsks, result_of}

-- ---- records and signatures

zeros : List ℕ
zeros = replicate 128 0

-- The record of flight 7 from stand 12, scheduled and with a flight plan, both for 10:00.
planned : List ℕ
planned =
    (7 ∷ 0 ∷ 0 ∷ 0 ∷ 0 ∷ 0 ∷ 0 ∷ 0 ∷ 0x44 ∷ 0x4c ∷ 0x48 ∷ 0x37 ∷ 0 ∷ 0 ∷ 0 ∷ 0 ∷ [])
    ++ (0x41 ∷ 0x33 ∷ 0x32 ∷ 0x30 ∷ 0x41 ∷ 0x33 ∷ 0x32 ∷ 0x30 ∷ 0x44 ∷ 0x41 ∷ 0x49 ∷ 0x42 ∷ 0x43 ∷ 0
    ∷ 0 ∷ 0 ∷ [])
    ++ (0x44 ∷ 0x41 ∷ 0x49 ∷ 0x42 ∷ 0x43 ∷ 0 ∷ 0 ∷ 0 ∷ 0x45 ∷ 0x44 ∷ 0x44 ∷ 0x4d ∷ 0x45 ∷ 0x44
    ∷ 0x44 ∷ 0x4d ∷ [])
    ++ (3 ∷ 0 ∷ 0 ∷ 0 ∷ 0 ∷ 0 ∷ 0 ∷ 0 ∷ 40 ∷ 0 ∷ 10 ∷ 0 ∷ 12 ∷ 0 ∷ 1 ∷ 5 ∷ [])
    ++ (0x38 ∷ 0x84 ∷ 0xba ∷ 1 ∷ 0x38 ∷ 0x84 ∷ 0xba ∷ 1 ∷ [])
    ++ replicate 56 0

-- the taxi time from a stand, as helper 2
sigs : List (ℕ × Promise)
sigs = (
  2,
  record {
    args = record { lo = 0; hi = 999 } ∷ [];
    answer = record { lo = 1; hi = 60 };
    table = (12, 10) ∷ (120, 15) ∷ (900, 20) ∷ [];
  },
) ∷ []

-- ---- the shortest programs

ten : List Op
ten = Arith W64 Mov 0 (Immediate (pos 0)) ∷ Exit ∷ []

ends_at_zero : RunEnds ten [] zeros 5 7 [] 0 2
unfolding start ten zeros
ends_at_zero = (_, refl, refl)

-- the exit before r0 is set
bare_exit : RunTraps (Exit ∷ []) [] zeros 5 7 []
unfolding start zeros
bare_exit = (0, _, refl, tt)

-- a jump backward
backward : RunTraps (Ja (negsuc 0) ∷ Exit ∷ []) [] zeros 5 7 []
unfolding start zeros
backward = (0, _, refl, tt)

-- ---- conditional jumps

twelve : List Op
twelve =
    Arith W64 Mov 0 (Immediate (pos 9)) ∷ Jump W64 Equal 4 (Immediate (pos 1)) (pos 1)
    ∷ Arith W64 Mov 0 (Immediate (pos 5)) ∷ Exit ∷ []

taken : RunEnds twelve [] zeros 5 1 [] 9 3
unfolding start twelve zeros
taken = (_, refl, refl)

not_taken : RunEnds twelve [] zeros 5 7 [] 5 4
unfolding start twelve zeros
not_taken = (_, refl, refl)

-- r2 is the record's length
by_length : List Op
by_length = Jump W64 NotEqual 2 (Immediate (pos 128)) (pos 1) ∷ Arith W64 Mov 0 (Immediate (pos 7))
    ∷ Exit ∷ []

length_128 : RunEnds by_length [] zeros 5 7 [] 7 3
unfolding start by_length zeros
length_128 = (_, refl, refl)

length_160 : RunTraps by_length [] (replicate 160 0) 5 7 []
unfolding start by_length
length_160 = (1, _, refl, tt)

-- a register compared with itself
with_itself : RunEnds (Jump W64 Above 2 (From 2) (pos 1) ∷ Arith W64 Mov 0 (Immediate (pos 7))
    ∷ Exit ∷ []) [] zeros 5 7 [] 7 3
unfolding start zeros
with_itself = (_, refl, refl)

-- an instruction that is jumped over
over : RunEnds (Arith W64 Mov 0 (Immediate (pos 0)) ∷ Ja (pos 1) ∷ Arith W64 Mov 0 (From 6) ∷ Exit
    ∷ []) [] zeros 5 7 [] 0 3
unfolding start zeros
over = (_, refl, refl)

-- ---- arithmetic

-- division by zero gives 0
by_zero : RunEnds (Arith W64 Mov 0 (Immediate (pos 7)) ∷ Arith W64 Mov 2 (Immediate (pos 0))
    ∷ Arith W64 Div 0 (From 2) ∷ Exit ∷ []) [] zeros 5 7 [] 0 4
unfolding start zeros
by_zero = (_, refl, refl)

-- a remainder by zero leaves the low half, and clears the upper one
rest_by_zero : RunEnds (Wide 0 0x100000007 ∷ Tail ∷ Arith W64 Mov 2 (Immediate (pos 0))
    ∷ Arith W32 Mod 0 (From 2) ∷ Exit ∷ []) [] zeros 5 7 [] 7 4
unfolding start zeros
rest_by_zero = (_, refl, refl)

-- the least signed number over -1
least : RunEnds (Wide 0 0x8000000000000000 ∷ Tail ∷ Arith W64 SignedDiv 0 (Immediate (negsuc 0))
    ∷ Exit ∷ []) [] zeros 5 7 [] 9223372036854775808 3
unfolding start zeros
least = (_, refl, refl)

-- ---- memory

-- a byte of the record, by an index that is a byte of the record too
indexed : List Op
indexed =
    Load Byte 5 1 (pos 63) ∷ Jump W64 Above 5 (Immediate (pos 124)) (pos 3)
    ∷ Arith W64 Add 1 (From 5) ∷ Load Byte 0 1 (pos 0) ∷ Exit
    ∷ Arith W64 Mov 0 (Immediate (pos 0)) ∷ Exit ∷ []

by_index : RunEnds indexed [] planned 29000580 7 [] 0 5
unfolding start indexed planned
by_index = (_, refl, refl)

-- the last word of the record, and one byte further
last_word : RunEnds (Load Word 0 1 (pos 124) ∷ Exit ∷ []) [] zeros 5 7 [] 0 2
unfolding start zeros
last_word = (_, refl, refl)

past_record : RunTraps (Load Word 0 1 (pos 125) ∷ Exit ∷ []) [] zeros 5 7 []
unfolding start zeros
past_record = (0, _, refl, tt)

-- a store and a load of the stack
top_byte : RunEnds (Store Byte 10 (negsuc 0) (Immediate (pos 5)) ∷ Load Byte 0 10 (negsuc 0) ∷ Exit
    ∷ []) [] zeros 5 7 [] 5 3
unfolding start zeros
top_byte = (_, refl, refl)

-- the same where only one way to the load has the store
maybe_stored : List Op
maybe_stored =
    Jump W64 Equal 4 (Immediate (pos 1)) (pos 1) ∷ Store Byte 10 (negsuc 0) (Immediate (pos 0))
    ∷ Load Byte 0 10 (negsuc 0) ∷ Exit ∷ []

with_store : RunEnds maybe_stored [] zeros 5 7 [] 0 4
unfolding start maybe_stored zeros
with_store = (_, refl, refl)

without_store : RunTraps maybe_stored [] zeros 5 1 []
unfolding start maybe_stored zeros
without_store = (1, _, refl, tt)

-- a load by one register from either region
either_region : List Op
either_region =
    Jump W64 Equal 4 (Immediate (pos 1)) (pos 2) ∷ Arith W64 Mov 1 (From 10)
    ∷ Arith W64 Add 1 (Immediate (negsuc 7)) ∷ Load Byte 0 1 (pos 0)
    ∷ Exit ∷ []

from_record : RunEnds either_region [] planned 5 1 [] 7 3
unfolding start either_region planned
from_record = (_, refl, refl)

from_stack : RunTraps either_region [] planned 5 7 []
unfolding start either_region planned
from_stack = (3, _, refl, tt)

-- a store into the record, and a write of r10
into_record : RunTraps (Store Double 1 (pos 0) (Immediate (pos 0)) ∷ Exit ∷ []) [] zeros 5 7 []
unfolding start zeros
into_record = (0, _, refl, tt)

of_frame : RunTraps (Arith W64 Add 10 (Immediate (negsuc 7)) ∷ Exit ∷ []) [] zeros 5 7 []
unfolding start zeros
of_frame = (0, _, refl, tt)

-- ---- calls

-- helper 2 on a stand
on_stand : ℕ → List Op
on_stand stand = Arith W64 Mov 1 (Immediate (pos stand)) ∷ Call 2 ∷ Exit ∷ []

stand_5 : RunEnds (on_stand 5) sigs zeros 5 7 (20 ∷ []) 20 3
unfolding start on_stand sigs zeros
stand_5 = (_, refl, refl)

-- no answer is left: the run asks
stand_5_asks : RunAsks (on_stand 5) sigs zeros 5 7 [] 2 (5 ∷ 0 ∷ 0 ∷ 0 ∷ 0 ∷ [])
unfolding start on_stand sigs zeros
stand_5_asks = (1, (_, refl, refl), (20, refl))

-- an answer outside the range makes no step
stand_5_outside : after (on_stand 5) sigs zeros 2 (61 ∷ []) (start 128 5 7) ≡ None
unfolding start on_stand sigs zeros
stand_5_outside = refl

-- stand 12 is in the table
stand_12 : RunEnds (on_stand 12) sigs zeros 5 7 (10 ∷ []) 10 3
unfolding start on_stand sigs zeros
stand_12 = (_, refl, refl)

stand_12_outside : after (on_stand 12) sigs zeros 2 (20 ∷ []) (start 128 5 7) ≡ None
unfolding start on_stand sigs zeros
stand_12_outside = refl

-- the stand of the record, within the argument's range
of_record : RunEnds (Load Half 1 1 (pos 60) ∷ Arith W64 And 1 (Immediate (pos 511)) ∷ Call 2 ∷ Exit
    ∷ []) sigs planned 29000580 9 (10 ∷ []) 10 4
unfolding start sigs planned
of_record = (_, refl, refl)

-- an argument outside its range, an unknown helper, and a call that nothing follows
stand_1000 : RunTraps (on_stand 1000) sigs zeros 5 7 []
unfolding start on_stand sigs zeros
stand_1000 = (1, _, refl, tt)

unknown : RunTraps (on_stand 5) [] zeros 5 7 []
unfolding start on_stand zeros
unknown = (1, _, refl, tt)

last : RunTraps (Arith W64 Mov 1 (Immediate (pos 5)) ∷ Call 2 ∷ []) sigs zeros 5 7 []
unfolding start sigs zeros
last = (1, _, refl, tt)

-- ---- results

-- the answers that the run doesn't use are left
stand_5_result : result_of (on_stand 5) sigs zeros 5 7 (20 ∷ 7 ∷ []) ≡ Some (20, 7 ∷ [])
unfolding start on_stand sigs zeros
stand_5_result = refl

-- no answer, one outside the range, and a trap
stand_5_unanswered : result_of (on_stand 5) sigs zeros 5 7 [] ≡ None
unfolding start on_stand sigs zeros
stand_5_unanswered = refl

stand_5_other_result : result_of (on_stand 5) sigs zeros 5 7 (61 ∷ []) ≡ None
unfolding start on_stand sigs zeros
stand_5_other_result = refl

into_record_result : result_of (Store Double 1 (pos 0) (Immediate (pos 0)) ∷ Exit ∷ []) [] zeros 5 7
    [] ≡ None
unfolding start zeros
into_record_result = refl

-- a jump over two slots
twelve_result : result_of twelve [] zeros 5 1 (3 ∷ []) ≡ Some (9, 3 ∷ [])
unfolding start twelve zeros
twelve_result = refl
