-- Worked programs: which are accepted, and the first fault of the others.
use Rattle.std.proofs.Common.{◌≡◌, ℕ, zero, suc, ◌<◌, ◌≤◌, Bool, true, false, ◌&&◌, List, [], ◌∷◌}
use Rattle.std.proofs.Common.{◌++◌, length, Option, Some, None, refl, arith, subst, ⊎_elim}
use Rattle.std.specs.Prelude.{pos, negsuc}
use Rattle.std.proofs.lemmas.Bool.{cases_lt}
use Rattle.bpf_decode.specs.declared.op.Op.{Op}
use Rattle.bpf_decode.specs.declared.op.Op.TheVariants.{Arith, Ja, Jump, Call, Exit, Load, Store}
use Rattle.bpf_decode.specs.declared.op.Op.TheVariants.{Wide, Tail}
use Rattle.bpf_decode.specs.declared.op.Operand.TheVariants.{From, Immediate}
use Rattle.bpf_decode.specs.declared.op.Code.TheVariants.{Add, And, Mov}
use Rattle.bpf_decode.specs.declared.op.Width.TheVariants.{W64}
use Rattle.bpf_decode.specs.declared.op.Size.TheVariants.{Byte, Half, Word, Double}
use Rattle.bpf_decode.specs.declared.op.Condition.TheVariants.{Equal, Above, NotEqual}
use Rattle.bpf_helpers.specs.Promise.{Promise}
use Rattle.bpf_helpers.specs.Known.{turn_round, taxi, sum}
use Rattle.std.specs.Prelude.{replicate, slice_index_or}
use Rattle.std.proofs.lemmas.List.{length-replicate}
use Rattle.bpf_regstate.specs.Soundness.{IsAcceptedRun}
use Rattle.bpf_regstate.specs.States.{fault_at, states, start_shape, Accepts, IsFirstFault}
use Rattle.bpf_regstate.proofs.ResultsInRange.{both}

-- ---- verdicts that compute

abbrev pub is_clear : Option ℕ → Bool
is_clear None = true
is_clear (Some code) = false

-- the first n slots have no fault
abbrev pub are_clear : List Op → List (ℕ × Promise) → ℕ → Bool
are_clear ops sigs zero = true
are_clear ops sigs (suc n) = are_clear ops sigs n && is_clear (fault_at 128 ops sigs n)

is_none : (o : Option ℕ) → is_clear o ≡ true → o ≡ None
is_none None e = refl
is_none (Some code) e = absurd cc

clear_at : (ops : List Op) (sigs : List (ℕ × Promise)) (n k : ℕ) → are_clear ops sigs n ≡ true
    → k < n → fault_at 128 ops sigs k ≡ None
clear_at ops sigs zero k e h = absurd (omega arith)
clear_at ops sigs (suc n) k e h =
    let parts = both (are_clear ops sigs n) (is_clear (fault_at 128 ops sigs n)) e in
    ⊎_elim (λ (less : k < n). clear_at ops sigs n k parts.0 less)
    (λ (same : n ≤ k). let here : n ≡ k = omega arith in
    subst (λ (j : ℕ). fault_at 128 ops sigs j ≡ None) here
    (is_none (fault_at 128 ops sigs n) parts.1))
    (cases_lt k n)

pub record IsAccepted (ops : List Op) (sigs : List (ℕ × Promise)) : Type 0 where
  pub accepts : Accepts 128 ops sigs

pub accepted : (ops : List Op) (sigs : List (ℕ × Promise)) → are_clear ops sigs (length ops) ≡ true
    → IsAccepted ops sigs
accepted ops sigs e = record { accepts = λ slot h. clear_at ops sigs (length ops) slot e h }

refused : (ops : List Op) (sigs : List (ℕ × Promise)) (slot code : ℕ) → slot < length ops
    → fault_at 128 ops sigs slot ≡ Some code
    → are_clear ops sigs slot ≡ true → IsFirstFault 128 ops sigs slot code
refused ops sigs slot code inside fault e =
    record { inside = inside; fault = fault; before = λ k h. clear_at ops sigs slot k e h }

-- ---- programs

helpers : List (ℕ × Promise)
helpers = (1, turn_round) ∷ (2, taxi) ∷ (3, sum) ∷ []

-- ---- registers that are not set

two_slots : IsAccepted (Arith W64 Mov 0 (Immediate (pos 0)) ∷ Exit ∷ []) []
unfolding states start_shape
two_slots = accepted _ _ refl

no_answer : IsFirstFault 128 (Exit ∷ []) [] 0 308
unfolding states start_shape
no_answer = refused _ _ 0 308 (omega arith) refl refl

-- r0 is set on one edge alone
one_edge : IsFirstFault 128 (Jump W64 Equal 4 (Immediate (pos 1)) (pos 1)
    ∷ Arith W64 Mov 0 (Immediate (pos 5)) ∷ Exit ∷ []) [] 2 308
unfolding states start_shape
one_edge = refused _ _ 2 308 (omega arith) refl refl

both_edges : IsAccepted (Arith W64 Mov 0 (Immediate (pos 9))
    ∷ Jump W64 Equal 4 (Immediate (pos 1)) (pos 1) ∷ Arith W64 Mov 0 (Immediate (pos 5)) ∷ Exit
    ∷ []) []
unfolding states start_shape
both_edges = accepted _ _ refl

-- one register narrows nothing
one_register : IsFirstFault 128
    (Jump W64 Above 2 (From 2) (pos 1) ∷ Arith W64 Mov 0 (Immediate (pos 7)) ∷ Exit ∷ []) [] 2 308
unfolding states start_shape
one_register = refused _ _ 2 308 (omega arith) refl refl

-- r2 is 128, so the jump is never taken
never_taken : IsAccepted (Jump W64 NotEqual 2 (Immediate (pos 128)) (pos 1)
    ∷ Arith W64 Mov 0 (Immediate (pos 7)) ∷ Exit ∷ []) []
unfolding states start_shape
never_taken = accepted _ _ refl

-- what no edge comes to may read what is not set, but may not write r10
unreachable_read : IsAccepted (Arith W64 Mov 0 (Immediate (pos 0)) ∷ Ja (pos 1)
    ∷ Arith W64 Mov 0 (From 6) ∷ Exit ∷ []) []
unfolding states start_shape
unreachable_read = accepted _ _ refl

unreachable_write : IsFirstFault 128
    (Arith W64 Mov 0 (Immediate (pos 0)) ∷ Ja (pos 1) ∷ Arith W64 Mov 10 (Immediate (pos 0)) ∷ Exit
    ∷ []) [] 2 314
unfolding states start_shape
unreachable_write = refused _ _ 2 314 (omega arith) refl refl

-- ---- jumps

backward : IsFirstFault 128 (Ja (negsuc 0) ∷ Exit ∷ []) [] 0 306
unfolding states start_shape
backward = refused _ _ 0 306 (omega arith) refl refl

onto_a_tail : IsFirstFault 128
    (Arith W64 Mov 0 (Immediate (pos 0)) ∷ Ja (pos 1) ∷ Wide 0 1 ∷ Tail ∷ Exit ∷ []) [] 1 306
unfolding states start_shape
onto_a_tail = refused _ _ 1 306 (omega arith) refl refl

past_a_tail : IsAccepted (Arith W64 Mov 0 (Immediate (pos 0)) ∷ Ja (pos 2) ∷ Wide 0 1 ∷ Tail ∷ Exit
    ∷ []) []
unfolding states start_shape
past_a_tail = accepted _ _ refl

off_the_end : IsFirstFault 128 (Wide 0 1 ∷ Tail ∷ []) [] 0 307
unfolding states start_shape
off_the_end = refused _ _ 0 307 (omega arith) refl refl

-- ---- the record

last_word : IsAccepted (Load Word 0 1 (pos 0x7c) ∷ Exit ∷ []) []
unfolding states start_shape
last_word = accepted _ _ refl

past_the_record : IsFirstFault 128 (Load Word 0 1 (pos 0x7d) ∷ Exit ∷ []) [] 0 309
unfolding states start_shape
past_the_record = refused _ _ 0 309 (omega arith) refl refl

-- a byte of the record that a jump bounds is added to r1
bounded : ℕ → List Op
bounded bound = Load Byte 5 1 (pos 63) ∷ Jump W64 Above 5 (Immediate (pos bound)) (pos 3)
    ∷ Arith W64 Add 1 (From 5) ∷ Load Byte 0 1 (pos 0) ∷ Exit ∷ Arith W64 Mov 0 (Immediate (pos 0))
    ∷ Exit ∷ []

bounded_by_124 : IsAccepted (bounded 0x7c) []
unfolding states start_shape bounded
bounded_by_124 = accepted _ _ refl

bounded_by_127 : IsAccepted (bounded 0x7f) []
unfolding states start_shape bounded
bounded_by_127 = accepted _ _ refl

bounded_by_128 : IsFirstFault 128 (bounded 0x80) [] 3 309
unfolding states start_shape bounded
bounded_by_128 = refused _ _ 3 309 (omega arith) refl refl

-- all eight bytes of a field are added to r1, and the sum wraps
unbounded : IsFirstFault 128 (Load Double 5 1 (pos 64) ∷ Arith W64 Add 1 (From 5)
    ∷ Load Byte 0 1 (pos 0) ∷ Exit ∷ []) [] 2 309
unfolding states start_shape
unbounded = refused _ _ 2 309 (omega arith) refl refl

write_to_record : IsFirstFault 128 (Store Double 1 (pos 0) (Immediate (pos 0)) ∷ Exit ∷ []) [] 0 311
unfolding states start_shape
write_to_record = refused _ _ 0 311 (omega arith) refl refl

-- ---- the stack

written_before : IsAccepted (Arith W64 Mov 1 (From 10) ∷ Arith W64 Add 1 (Immediate (negsuc 7))
    ∷ Store Double 1 (pos 0) (Immediate (pos 0)) ∷ Arith W64 Mov 0 (Immediate (pos 0)) ∷ Exit ∷ [])
    []
unfolding states start_shape
written_before = accepted _ _ refl

one_byte : IsAccepted (Store Byte 10 (negsuc 0) (Immediate (pos 5)) ∷ Load Byte 0 10 (negsuc 0)
    ∷ Exit ∷ []) []
unfolding states start_shape
one_byte = accepted _ _ refl

never_written : IsFirstFault 128 (Load Double 0 10 (negsuc 7) ∷ Exit ∷ []) [] 0 310
unfolding states start_shape
never_written = refused _ _ 0 310 (omega arith) refl refl

-- one way comes past the store
written_on_one_edge : IsFirstFault 128
    (Jump W64 Equal 4 (Immediate (pos 1)) (pos 1) ∷ Store Byte 10 (negsuc 0) (Immediate (pos 5))
    ∷ Load Byte 0 10 (negsuc 0) ∷ Exit ∷ []) [] 2 310
unfolding states start_shape
written_on_one_edge = refused _ _ 2 310 (omega arith) refl refl

half_written : IsFirstFault 128
    (Store Word 10 (negsuc 7) (Immediate (pos 1)) ∷ Load Double 0 10 (negsuc 7) ∷ Exit ∷ []) [] 1
    310
unfolding states start_shape
half_written = refused _ _ 1 310 (omega arith) refl refl

end_is_written : IsFirstFault 128 (Arith W64 Add 10 (Immediate (negsuc 7)) ∷ Exit ∷ []) [] 0 314
unfolding states start_shape
end_is_written = refused _ _ 0 314 (omega arith) refl refl

-- an address in the record or in the stack: between them lies no region
hull : IsFirstFault 128 (Jump W64 Equal 4 (Immediate (pos 1)) (pos 2) ∷ Arith W64 Mov 1 (From 10)
    ∷ Arith W64 Add 1 (Immediate (negsuc 7)) ∷ Load Byte 0 1 (pos 0) ∷ Exit ∷ []) [] 3 309
unfolding states start_shape
hull = refused _ _ 3 309 (omega arith) refl refl

-- ---- words of the stack

-- the record's address is stored, and loaded again after something else, for a read of the record
spilled : ℕ → List Op → List Op
spilled below between =
    Store Double 10 (negsuc below) (From 1)
    ∷ (between
    ++ Arith W64 Mov 1 (Immediate (pos 0)) ∷ Load Double 1 10 (negsuc below)
    ∷ Load Byte 0 1 (pos 63) ∷ Exit ∷ [])

spilled_pointer : IsAccepted (spilled 7 []) []
unfolding states start_shape spilled
spilled_pointer = accepted _ _ refl

stored_into : IsFirstFault 128 (spilled 7 (Store Byte 10 (negsuc 0) (Immediate (pos 0)) ∷ [])) [] 4
    309
unfolding states start_shape spilled
stored_into = refused _ _ 4 309 (omega arith) refl refl

stored_below : IsAccepted (spilled 7 (Store Byte 10 (negsuc 8) (Immediate (pos 0)) ∷ [])) []
unfolding states start_shape spilled
stored_below = accepted _ _ refl

-- four bytes off an aligned word
off_a_word : IsFirstFault 128 (spilled 11 []) [] 3 309
unfolding states start_shape spilled
off_a_word = refused _ _ 3 309 (omega arith) refl refl

-- one way stores this register again
spilled_again : ℕ → List Op
spilled_again r = Store Double 10 (negsuc 7) (From 1) ∷ Jump W64 Equal 4 (Immediate (pos 1)) (pos 1)
    ∷ Store Double 10 (negsuc 7) (From r) ∷ Load Double 1 10 (negsuc 7) ∷ Load Byte 0 1 (pos 63)
    ∷ Exit ∷ []

another_value : IsFirstFault 128 (spilled_again 2) [] 4 309
unfolding states start_shape spilled_again
another_value = refused _ _ 4 309 (omega arith) refl refl

same_value : IsAccepted (spilled_again 1) []
unfolding states start_shape spilled_again
same_value = accepted _ _ refl

-- ---- calls

unknown_helper : IsFirstFault 128 (Call 4 ∷ Exit ∷ []) helpers 0 312
unfolding states start_shape helpers
unknown_helper = refused _ _ 0 312 (omega arith) refl refl

-- two bytes of the record pass 999, nine bits of them don't
stand : IsFirstFault 128 (Load Half 1 1 (pos 0x3c) ∷ Call 2 ∷ Exit ∷ []) helpers 1 313
unfolding states start_shape helpers
stand = refused _ _ 1 313 (omega arith) refl refl

stand_of_nine_bits : IsAccepted
    (Load Half 1 1 (pos 0x3c) ∷ Arith W64 And 1 (Immediate (pos 0x1ff)) ∷ Call 2 ∷ Exit ∷ [])
    helpers
unfolding states start_shape helpers
stand_of_nine_bits = accepted _ _ refl

stand_of_ten_bits : IsFirstFault 128
    (Load Half 1 1 (pos 0x3c) ∷ Arith W64 And 1 (Immediate (pos 0x3ff)) ∷ Call 2 ∷ Exit ∷ [])
    helpers 2 313
unfolding states start_shape helpers
stand_of_ten_bits = refused _ _ 2 313 (omega arith) refl refl

-- a call leaves nothing in r1
after_a_call : IsFirstFault 128
    (Arith W64 Mov 1 (Immediate (pos 5)) ∷ Call 2 ∷ Arith W64 Mov 0 (From 1) ∷ Exit ∷ []) helpers 2
    308
unfolding states start_shape helpers
after_a_call = refused _ _ 2 308 (omega arith) refl refl

-- ---- a run

pub no_bytes : (n k : ℕ) → slice_index_or (replicate n 0) k 0 < 256
no_bytes zero k = omega arith
no_bytes (suc n) zero = omega arith
no_bytes (suc n) (suc k) = no_bytes n k

accepts_all : (ops : List Op) (sigs : List (ℕ × Promise)) → IsAccepted ops sigs
    → (record_bytes : List ℕ) → length record_bytes ≡ 128 → Accepts (length record_bytes) ops sigs
accepts_all ops sigs a record_bytes e = rw e a.accepts

-- the laws speak of this run: two slots on a record of zeros
run_of_two_slots : IsAcceptedRun (Arith W64 Mov 0 (Immediate (pos 0)) ∷ Exit ∷ []) []
    (replicate 128 0) 29000580 1
run_of_two_slots = record {
  program = record {
    some = omega arith;
    few = omega arith;
    whole = (refl, ((tt, omega arith, record { sfits = omega arith }), ((tt, tt, tt), tt)));
  };
  signatures = refl;
  short = omega (arith, length-replicate 128 zero);
  bytes = no_bytes 128;
  timely = omega arith;
  first_milestone = omega arith;
  last_milestone = omega arith;
  accepts = accepts_all (Arith W64 Mov 0 (Immediate (pos 0)) ∷ Exit ∷ []) [] two_slots
      (replicate 128 0) (length-replicate 128 zero);
}
