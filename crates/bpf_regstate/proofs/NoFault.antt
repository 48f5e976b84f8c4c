-- What it says of an instruction that its slot has no fault.
use Rattle.std.proofs.Common.{◌≡◌, ◌≢◌, ℕ, Bool, true, false, not, ◌&&◌, ◌||◌, cond, List, [], ◌∷◌}
use Rattle.std.proofs.Common.{Option, Some, None, refl}
use Rattle.std.specs.Prelude.{nat_lt}
use Rattle.bpf_decode.specs.declared.op.Op.{Op}
use Rattle.bpf_decode.specs.declared.op.Op.TheVariants.{Arith, Negate, Extend, End, Ja, Ja32, Jump}
use Rattle.bpf_decode.specs.declared.op.Op.TheVariants.{Call, Exit, Load, LoadSigned, Store, Wide}
use Rattle.bpf_decode.specs.declared.op.Op.TheVariants.{Tail}
use Rattle.bpf_helpers.specs.Promise.{Promise}
use Rattle.bpf_semantics.specs.Machine.{is_entry}
use Rattle.bpf_regstate.specs.Shape.{Shape}
use Rattle.bpf_regstate.specs.Faults.{access_of, calls_unknown, falls_off, faults, is_nowhere}
use Rattle.bpf_regstate.specs.Faults.{jumps_badly, least, loads_unmarked, passes_badly}
use Rattle.bpf_regstate.specs.Faults.{reads_uninit, smaller, stores_in_record, writes_end}

smaller_is : (n : ℕ) (o : Option ℕ) → smaller n o ≢ None
smaller_is n None e = absurd cc
smaller_is n (Some m) e = by_test (nat_lt n m) e
  where
    by_test : (b : Bool) → cond b (Some n) (Some m) ≢ None
    by_test true f = absurd cc
    by_test false f = absurd cc

first_clear : (n : ℕ) (b : Bool) (rest : Option ℕ) → cond b (smaller n rest) rest ≡ None
    → (b ≡ false) × (rest ≡ None)
first_clear n true rest e = absurd (smaller_is n rest e)
first_clear n false rest e = (refl, e)

-- none of the faults is there
abbrev AllClear : List (ℕ × Bool) → Type 0
AllClear [] = Unit {0}
AllClear (f ∷ fs) = (f.1 ≡ false) × AllClear fs

clear : (fs : List (ℕ × Bool)) → least fs ≡ None → AllClear fs
clear [] e = tt
clear (f ∷ fs) e = let p = first_clear f.0 f.1 (least fs) e in (p.0, clear fs p.1)

pub not_true : (b : Bool) → not b ≡ true → b ≡ false
not_true true e = absurd cc
not_true false e = refl

pub not_false : (b : Bool) → not b ≡ false → b ≡ true
not_false true e = refl
not_false false e = absurd cc

pub or_false : (a b : Bool) → (a || b) ≡ false → (a ≡ false) × (b ≡ false)
or_false true b e = absurd cc
or_false false b e = (refl, e)

-- a fault that counts only where the registers are initialised
counts : (a b : Bool) → a ≡ false → (not a && b) ≡ false → b ≡ false
counts true b e f = absurd cc
counts false b e f = f

-- each fault is absent
pub record IsClear (record_length : ℕ) (ops : List Op) (sigs : List (ℕ × Promise)) (slot : ℕ)
    (s : Shape) (op : Op) : Type 0 where
  pub target : jumps_badly ops slot op ≡ false
  pub next : falls_off ops slot op ≡ false
  pub helper : calls_unknown sigs op ≡ false
  pub end : writes_end op ≡ false
  pub reads : reads_uninit sigs s op ≡ false
  pub place : is_nowhere (access_of record_length s op) ≡ false
  pub marked : loads_unmarked record_length s op ≡ false
  pub store : stores_in_record record_length s op ≡ false
  pub arguments : passes_badly sigs s op ≡ false

module _ (record_length : ℕ) (ops : List Op) (sigs : List (ℕ × Promise)) (slot : ℕ) (s : Shape)
  where
    abbrev fault_list : Op → List (ℕ × Bool)
    fault_list op =
        (306, jumps_badly ops slot op) ∷ (307, falls_off ops slot op) ∷ (312, calls_unknown sigs op)
        ∷ (314, writes_end op)
        ∷ (308, reads_uninit sigs s op)
        ∷ (309, not (reads_uninit sigs s op) && is_nowhere (access_of record_length s op))
        ∷ (310, not (reads_uninit sigs s op) && loads_unmarked record_length s op)
        ∷ (311, not (reads_uninit sigs s op) && stores_in_record record_length s op)
        ∷ (313, not (reads_uninit sigs s op) && passes_badly sigs s op) ∷ []

    from_list : (op : Op) → least (fault_list op) ≡ None → IsClear record_length ops sigs slot s op
    from_list op e =
        let c = clear (fault_list op) e in
        let reads = c.1.1.1.1.0 in
        record {
          target = c.0;
          next = c.1.0;
          helper = c.1.1.0;
          end = c.1.1.1.0;
          reads = reads;
          place = counts (reads_uninit sigs s op) (is_nowhere (access_of record_length s op)) reads
              c.1.1.1.1.1.0;
          marked = counts (reads_uninit sigs s op) (loads_unmarked record_length s op) reads
              c.1.1.1.1.1.1.0;
          store = counts (reads_uninit sigs s op) (stores_in_record record_length s op) reads
              c.1.1.1.1.1.1.1.0;
          arguments = counts (reads_uninit sigs s op) (passes_badly sigs s op) reads
              c.1.1.1.1.1.1.1.1.0;
        }

    pub no_fault : (op : Op) → is_entry (Some op) ≡ true
        → least (faults record_length ops sigs slot op (Some s)) ≡ None
        → IsClear record_length ops sigs slot s op
    no_fault (Arith w code dst from) t e = from_list (Arith w code dst from) e
    no_fault (Negate w dst) t e = from_list (Negate w dst) e
    no_fault (Extend w part dst src) t e = from_list (Extend w part dst src) e
    no_fault (End order n dst) t e = from_list (End order n dst) e
    no_fault (Ja offset) t e = from_list (Ja offset) e
    no_fault (Ja32 offset) t e = from_list (Ja32 offset) e
    no_fault (Jump w condition dst from offset) t e = from_list (Jump w condition dst from offset) e
    no_fault (Call helper) t e = from_list (Call helper) e
    no_fault Exit t e = from_list Exit e
    no_fault (Load size dst base offset) t e = from_list (Load size dst base offset) e
    no_fault (LoadSigned part dst base offset) t e = from_list (LoadSigned part dst base offset) e
    no_fault (Store size base offset from) t e = from_list (Store size base offset from) e
    no_fault (Wide dst value) t e = from_list (Wide dst value) e
    no_fault Tail t e = absurd cc
