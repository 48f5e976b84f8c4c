-- Counting the instructions of a program.
use Rattle.std.proofs.Common.{◌≡◌, ℕ, zero, suc, ◌<◌, Bool, true, false, cond, List, [], ◌∷◌, take}
use Rattle.std.proofs.Common.{Some, refl, arith}
use Rattle.std.specs.Prelude.{slice_get}
use Rattle.bpf_decode.specs.declared.op.Op.{Op}
use Rattle.bpf_decode.specs.declared.op.Op.TheVariants.{Arith, Negate, Extend, End, Ja, Ja32, Jump}
use Rattle.bpf_decode.specs.declared.op.Op.TheVariants.{Call, Exit, Load, LoadSigned, Store, Wide}
use Rattle.bpf_decode.specs.declared.op.Op.TheVariants.{Tail}
use Rattle.bpf_decode.specs.Encoding.{is_tail}
use Rattle.bpf_semantics.specs.Machine.{is_entry}
use Rattle.bpf_regstate.specs.States.{instruction_count}

-- an entry is no tail
entry_counts : (op : Op) → is_entry (Some op) ≡ true → is_tail op ≡ false
entry_counts (Arith w code dst from) e = refl
entry_counts (Negate w dst) e = refl
entry_counts (Extend w part dst src) e = refl
entry_counts (End order n dst) e = refl
entry_counts (Ja offset) e = refl
entry_counts (Ja32 offset) e = refl
entry_counts (Jump w condition dst from offset) e = refl
entry_counts (Call helper) e = refl
entry_counts Exit e = refl
entry_counts (Load size dst base offset) e = refl
entry_counts (LoadSigned part dst base offset) e = refl
entry_counts (Store size base offset from) e = refl
entry_counts (Wide dst value) e = refl
entry_counts Tail e = absurd cc

-- a list that begins with an instruction has at least one
begins : (op : Op) (ops : List Op) → is_entry (Some op) ≡ true → 0 < instruction_count (op ∷ ops)
begins op ops e = rw (entry_counts op e) (omega arith)

-- counting goes on behind one more slot
goes_on : (t : Bool) (a b : ℕ) → a < b → cond t a (suc a) < cond t b (suc b)
goes_on true a b h = h
goes_on false a b h = omega arith

-- an instruction counts from the next slot on
pub count_more : (ops : List Op) (slot later : ℕ) → slot < later
    → is_entry (slice_get ops slot) ≡ true
    → instruction_count (take slot ops) < instruction_count (take later ops)
count_more [] slot later h e = absurd cc
count_more (op ∷ ops) slot zero h e = absurd (omega arith)
count_more (op ∷ ops) zero (suc later) h e = begins op (take later ops) e
count_more (op ∷ ops) (suc slot) (suc later) h e =
    goes_on (is_tail op) (instruction_count (take slot ops)) (instruction_count (take later ops))
    (count_more ops slot later (omega arith) e)

-- and in the whole program
pub count_all : (ops : List Op) (slot : ℕ) → is_entry (slice_get ops slot) ≡ true
    → instruction_count (take slot ops) < instruction_count ops
count_all [] slot e = absurd cc
count_all (op ∷ ops) zero e = begins op ops e
count_all (op ∷ ops) (suc slot) e =
    goes_on (is_tail op) (instruction_count (take slot ops)) (instruction_count ops)
    (count_all ops slot e)
