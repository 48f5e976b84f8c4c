-- What is known at each slot, and which programs are accepted (this project's profile).
use Rattle.std.specs.Prelude.{◌≡◌, ℕ, zero, suc, ◌+◌, ◌<◌, List, [], ◌∷◌, ◌++◌, length, replicate}
use Rattle.std.specs.Prelude.{false, ◌==◌, if◌then◌else◌, Option, Some, None, slice_get}
use Rattle.bpf_decode.specs.declared.op.Op.{Op}
use Rattle.bpf_decode.specs.Encoding.{is_tail}
use Rattle.bpf_helpers.specs.Promise.{Promise}
use Rattle.bpf_semantics.specs.Machine.{record_base, stack_base}
use Rattle.bpf_regstate.specs.declared.reg.Reg.TheVariants.{Uninit, Known}
use Rattle.bpf_regstate.specs.Shape.{Shape}
use Rattle.bpf_regstate.specs.Ranges.{span}
use Rattle.bpf_regstate.specs.Joins.{joined}
use Rattle.bpf_regstate.specs.Edges.{edges}
use Rattle.bpf_regstate.specs.Faults.{faults, least}

-- ---- joins of any number of states

abbrev pub join_with : Shape → Option Shape → Option Shape
join_with s None = Some s
join_with s (Some t) = Some (joined s t)

-- what all of them have in common
abbrev pub join_all : List Shape → Option Shape
join_all [] = None
join_all (s ∷ ss) = join_with s (join_all ss)

-- ---- states

-- Before the first instruction: r1 is the record's first address, r2 its length, r3 the moment,
-- r4 the milestone, r10 the end of the stack.
unfoldable pub start_shape : ℕ → Shape
start_shape record_length = record {
  registers =
      Uninit ∷ Known (span record_base record_base) ∷ Known (span record_length record_length)
      ∷ Known (span 0 0xffffffff) ∷ Known (span 1 16)
      ∷ Uninit ∷ Uninit ∷ Uninit ∷ Uninit ∷ Uninit
      ∷ Known (span (stack_base + 512) (stack_base + 512)) ∷ [];
  marks = replicate 512 false;
  words = [];
}

-- the states that edges bring to a slot
abbrev pub into : ℕ → List (ℕ × Shape) → List Shape
into to [] = []
into to (e ∷ es) = if e.0 == to then e.1 ∷ into to es else into to es

abbrev pub unless_fault : Option ℕ → List (ℕ × Shape) → List (ℕ × Shape)
unless_fault None es = es
unless_fault (Some code) es = []

-- what the start brings to a slot
abbrev pub entering : ℕ → ℕ → List Shape
entering record_length zero = start_shape record_length ∷ []
entering record_length (suc slot) = []

-- a fault that was found before, with its slot, else that of this slot
abbrev pub found_or : Option (ℕ × ℕ) → ℕ → Option ℕ → Option (ℕ × ℕ)
found_or (Some found) slot fault = Some found
found_or None slot None = None
found_or None slot (Some code) = Some (slot, code)

-- the least of the first n slots that has a fault, and its fault
abbrev pub first_of : (ℕ → Option ℕ) → ℕ → Option (ℕ × ℕ)
first_of fault zero = None
first_of fault (suc n) = found_or (first_of fault n) n (fault n)

-- ---- the states of a program's slots, beside a record of this length

module _ (record_length : ℕ) (ops : List Op) (sigs : List (ℕ × Promise)) where
  -- a slot with a fault sends no edge
  abbrev pub sends : ℕ → Option Op → Option Shape → List (ℕ × Shape)
  sends slot None s = []
  sends slot (Some op) None = []
  sends slot (Some op) (Some s) =
      unless_fault (least (faults record_length ops sigs slot op (Some s)))
      (edges record_length sigs slot op s)

  -- what comes to a slot from these slots, of which the first has this number
  abbrev pub arriving : ℕ → ℕ → List (Option Shape) → List Shape
  arriving to slot [] = []
  arriving to slot (s ∷ ss) =
      into to (sends slot (slice_get ops slot) s) ++ arriving to (suc slot) ss

  -- the state at a slot, from the states of all smaller ones
  abbrev pub state_from : ℕ → List (Option Shape) → Option Shape
  state_from slot earlier = join_all (entering record_length slot ++ arriving slot 0 earlier)

  abbrev pub one_more : ℕ → List (Option Shape) → List (Option Shape)
  one_more slot earlier = earlier ++ state_from slot earlier ∷ []

  -- the states of the first n slots, each by all edges from smaller slots
  unfoldable pub states : ℕ → List (Option Shape)
  states zero = []
  states (suc n) = one_more n (states n)

  -- the state at a slot
  abbrev pub state_at : ℕ → Option Shape
  state_at slot = state_from slot (states slot)

  -- ---- acceptance

  abbrev pub fault_of : ℕ → Option Op → Option Shape → Option ℕ
  fault_of slot None s = None
  fault_of slot (Some op) s = least (faults record_length ops sigs slot op s)

  -- the least fault of a slot
  abbrev pub fault_at : ℕ → Option ℕ
  fault_at slot = fault_of slot (slice_get ops slot) (state_at slot)

  -- no slot has a fault
  abbrev pub Accepts : Type 0
  Accepts = (slot : ℕ) → slot < length ops → fault_at slot ≡ None

  -- the first fault, computed: its slot and its number
  abbrev pub first_fault : Option (ℕ × ℕ)
  first_fault = first_of fault_at (length ops)

  -- the least slot with a fault, and its least number
  pub record IsFirstFault (slot code : ℕ) : Type 0 where
    pub inside : slot < length ops
    pub fault : fault_at slot ≡ Some code
    pub before : (k : ℕ) → k < slot → fault_at k ≡ None

-- how many instructions a program has: its slots but the second ones of wide loads
abbrev pub instruction_count : List Op → ℕ
instruction_count [] = 0
instruction_count (op ∷ ops) =
    if is_tail op then instruction_count ops else suc (instruction_count ops)
