-- What may not stand in a program (this project's profile). Faults have numbers from 306 to 314.
use Rattle.std.specs.Prelude.{ℕ, ◌+◌, ◌-◌, List, [], ◌∷◌, take, drop, Bool, true, false, not, ◌&&◌}
use Rattle.std.specs.Prelude.{◌||◌, ◌==◌, nat_lt, nat_le, if◌then◌else◌, Option, Some, None}
use Rattle.std.specs.Prelude.{slice_get, ℤ}
use Rattle.std.specs.Int as int
use Rattle.std.specs.List.{list_all}
use Rattle.bpf_decode.specs.declared.op.Op.{Op}
use Rattle.bpf_decode.specs.declared.op.Op.TheVariants.{Arith, Negate, Extend, End, Ja, Ja32, Jump}
use Rattle.bpf_decode.specs.declared.op.Op.TheVariants.{Call, Exit, Load, LoadSigned, Store, Wide}
use Rattle.bpf_decode.specs.declared.op.Op.TheVariants.{Tail}
use Rattle.bpf_decode.specs.declared.op.Operand.{Operand}
use Rattle.bpf_decode.specs.declared.op.Operand.TheVariants.{From, Immediate}
use Rattle.bpf_decode.specs.declared.op.Code.{Code}
use Rattle.bpf_decode.specs.declared.op.Code.TheVariants.{Mov}
use Rattle.bpf_decode.specs.Words.{part_type}
use Rattle.bpf_helpers.specs.declared.range.Range.{Range}
use Rattle.bpf_helpers.specs.Promise.{Promise, signature_of}
use Rattle.bpf_semantics.specs.Machine.{Place, InStack, InRecord, Nowhere, size_type, target}
use Rattle.bpf_semantics.specs.Machine.{next_slot, is_entry}
use Rattle.bpf_regstate.specs.declared.reg.Reg.{Reg}
use Rattle.bpf_regstate.specs.declared.reg.Reg.TheVariants.{Uninit, Known}
use Rattle.bpf_regstate.specs.Shape.{Shape, known}
use Rattle.bpf_regstate.specs.Effect.{range_of, access}

-- ---- of every slot

-- an instruction begins there
abbrev pub is_target : List Op → Option ℕ → Bool
is_target ops None = false
is_target ops (Some to) = is_entry (slice_get ops to)

-- 306: the target is not later, not in the program, or the second half of a wide load
abbrev pub jumps_badly : List Op → ℕ → Op → Bool
jumps_badly ops slot (Ja offset) = not (is_target ops (target slot offset))
jumps_badly ops slot (Ja32 offset) = not (is_target ops (target slot offset))
jumps_badly ops slot (Jump w condition dst from offset) = not (is_target ops (target slot offset))
jumps_badly ops slot op = false

-- 307: it can go on to the next instruction, and there is none
abbrev pub falls_off : List Op → ℕ → Op → Bool
falls_off ops slot (Ja offset) = false
falls_off ops slot (Ja32 offset) = false
falls_off ops slot Exit = false
falls_off ops slot op = not (is_entry (slice_get ops (next_slot slot op)))

abbrev pub is_missing : Option Promise → Bool
is_missing None = true
is_missing (Some sig) = false

-- 312: no signature has the helper's number
abbrev pub calls_unknown : List (ℕ × Promise) → Op → Bool
calls_unknown sigs (Call helper) = is_missing (signature_of sigs helper)
calls_unknown sigs op = false

-- 314: r10, the end of the stack, is written
abbrev pub writes_end : Op → Bool
writes_end (Arith w code dst from) = dst == 10
writes_end (Negate w dst) = dst == 10
writes_end (Extend w part dst src) = dst == 10
writes_end (End order n dst) = dst == 10
writes_end (Load size dst base offset) = dst == 10
writes_end (LoadSigned part dst base offset) = dst == 10
writes_end (Wide dst value) = dst == 10
writes_end op = false

-- ---- of a slot with a state

abbrev pub is_uninit : Reg → Bool
is_uninit Uninit = true
is_uninit (Known r) = false

abbrev pub operand_uninit : Shape → Operand → Bool
operand_uninit s (From r) = is_uninit (known s r)
operand_uninit s (Immediate v) = false

-- one register for each argument of the signature, from r1 on
abbrev pub argument_uninit : Shape → List Range → ℕ → Bool
argument_uninit s [] first = false
argument_uninit s (r ∷ rs) first = is_uninit (known s first) || argument_uninit s rs (first + 1)

abbrev pub call_uninit : Shape → Option Promise → Bool
call_uninit s None = false
call_uninit s (Some sig) = argument_uninit s sig.args 1

-- MOV doesn't read its destination.
abbrev pub destination_uninit : Code → Shape → ℕ → Bool
destination_uninit Mov s dst = false
destination_uninit code s dst = is_uninit (known s dst)

-- 308: a register that it reads is uninitialised
abbrev pub reads_uninit : List (ℕ × Promise) → Shape → Op → Bool
reads_uninit sigs s (Arith w code dst from) = destination_uninit code s dst || operand_uninit s from
reads_uninit sigs s (Negate w dst) = is_uninit (known s dst)
reads_uninit sigs s (Extend w part dst src) = is_uninit (known s src)
reads_uninit sigs s (End order n dst) = is_uninit (known s dst)
reads_uninit sigs s (Jump w condition dst from offset) =
    is_uninit (known s dst) || operand_uninit s from
reads_uninit sigs s (Call helper) = call_uninit s (signature_of sigs helper)
reads_uninit sigs s Exit = is_uninit (known s 0)
reads_uninit sigs s (Load size dst base offset) = is_uninit (known s base)
reads_uninit sigs s (LoadSigned part dst base offset) = is_uninit (known s base)
reads_uninit sigs s (Store size base offset from) =
    is_uninit (known s base) || operand_uninit s from
reads_uninit sigs s op = false

-- 309: the addresses do not all lie in one region
abbrev pub is_nowhere : Option Place → Bool
is_nowhere (Some Nowhere) = true
is_nowhere p = false

-- so many bytes of the stack from a place on are marked
abbrev pub all_marked : Shape → ℕ → ℕ → Bool
all_marked s at n = list_all (λ mark. mark) (take n (drop at s.marks))

-- a byte of the stack that may be loaded isn't marked
abbrev pub is_unmarked : Shape → Range → ℕ → Place → Bool
is_unmarked s r n (InStack at) = not (all_marked s at (r.hi - r.lo + n))
is_unmarked s r n p = false

abbrev pub is_in_record : Place → Bool
is_in_record (InRecord at) = true
is_in_record p = false

abbrev pub lies_within : Range → Range → Bool
lies_within inner outer = nat_le outer.lo inner.lo && nat_le inner.hi outer.hi

abbrev pub arguments_within : Shape → List Range → ℕ → Bool
arguments_within s [] first = true
arguments_within s (r ∷ rs) first =
    lies_within (range_of (known s first)) r && arguments_within s rs (first + 1)

abbrev pub call_within : Shape → Option Promise → Bool
call_within s None = true
call_within s (Some sig) = arguments_within s sig.args 1

-- 313: an argument's range does not lie in that of the signature
abbrev pub passes_badly : List (ℕ × Promise) → Shape → Op → Bool
passes_badly sigs s (Call helper) = not (call_within s (signature_of sigs helper))
passes_badly sigs s op = false

-- ---- all faults, by their numbers

abbrev pub smaller : ℕ → Option ℕ → Option ℕ
smaller n None = Some n
smaller n (Some m) = if nat_lt n m then Some n else Some m

-- the least number of a fault that is there
abbrev pub least : List (ℕ × Bool) → Option ℕ
least [] = None
least (f ∷ fs) = if f.1 then smaller f.0 (least fs) else least fs

-- ---- all faults, beside a record of this length

module _ (record_length : ℕ) where
  -- where so many bytes may lie that a register and an offset give
  abbrev pub place_by : Shape → ℕ → ℤ → ℕ → Place
  place_by s base offset n = access record_length (range_of (known s base)) offset n

  -- where the access of an instruction lies
  abbrev pub access_of : Shape → Op → Option Place
  access_of s (Load size dst base offset) =
      Some (place_by s base offset (int.byte_len (size_type size)))
  access_of s (LoadSigned part dst base offset) =
      Some (place_by s base offset (int.byte_len (part_type part)))
  access_of s (Store size base offset from) =
      Some (place_by s base offset (int.byte_len (size_type size)))
  access_of s op = None

  -- a load of so many bytes from the stack, of which some may not be marked
  abbrev pub is_unmarked_by : Shape → ℕ → ℤ → ℕ → Bool
  is_unmarked_by s base offset n =
      is_unmarked s (range_of (known s base)) n (place_by s base offset n)

  -- 310: a load from the stack of bytes that are not all marked
  abbrev pub loads_unmarked : Shape → Op → Bool
  loads_unmarked s (Load size dst base offset) =
      is_unmarked_by s base offset (int.byte_len (size_type size))
  loads_unmarked s (LoadSigned part dst base offset) =
      is_unmarked_by s base offset (int.byte_len (part_type part))
  loads_unmarked s op = false

  -- 311: a store to the record
  abbrev pub stores_in_record : Shape → Op → Bool
  stores_in_record s (Store size base offset from) =
      is_in_record (place_by s base offset (int.byte_len (size_type size)))
  stores_in_record s op = false

  -- a fault that counts only where no register that is read is uninitialised
  abbrev pub state_faults : List (ℕ × Promise) → Op → Option Shape → List (ℕ × Bool)
  state_faults sigs op None = []
  state_faults sigs op (Some s) =
      (308, reads_uninit sigs s op)
      ∷ (309, not (reads_uninit sigs s op) && is_nowhere (access_of s op))
      ∷ (310, not (reads_uninit sigs s op) && loads_unmarked s op)
      ∷ (311, not (reads_uninit sigs s op) && stores_in_record s op)
      ∷ (313, not (reads_uninit sigs s op) && passes_badly sigs s op)
      ∷ []

  -- the numbers of faults, each with whether a slot has it
  abbrev pub faults : List Op → List (ℕ × Promise) → ℕ → Op → Option Shape → List (ℕ × Bool)
  faults ops sigs slot Tail s = []
  faults ops sigs slot op s =
      (306, jumps_badly ops slot op) ∷ (307, falls_off ops slot op) ∷ (312, calls_unknown sigs op)
      ∷ (314, writes_end op) ∷ state_faults sigs op s
