-- Helpers, and what contracts see of them and of a bank: numbers and promises.
use Rattle.std.specs.Prelude.{ℕ, ◌≤◌, ◌<◌, List, length, map, IsSome, IsNone}
use Rattle.std.specs.declared.alloc.Global.{Global}
use Rattle.std.specs.declared.dyn_box.DynBox.{DynBox}
use Rattle.bpf_helpers.specs.declared.helper.Helper.{Helper}
use Rattle.bpf_helpers.specs.declared.bank.Bank.{Bank}
use Rattle.bpf_helpers.specs.Promise.{Promise, signature_of}

-- the number of a helper, and what it promises
abbrev pub entry_of : {V : _} {F : _} {m : _} → Helper V F m → ℕ × Promise
entry_of helper = (helper.number, helper.signature)

-- the code of a helper
abbrev pub code_of : {V : _} {F : _} {m : _} → Helper V F m → DynBox V Global F
code_of helper = helper.code

-- these of all helpers of a bank, in the order in which they were added
abbrev pub entries_of : {V : _} {F : _} {m : _} → Bank V F m → List (ℕ × Promise)
entries_of bank = map entry_of bank.helpers.items

-- a helper of the bank has the number of this one
abbrev pub IsTaken : {V : _} {F : _} {m : _} → Bank V F m → Helper V F m → Type 0
IsTaken bank helper = IsSome (signature_of (entries_of bank) (entry_of helper).0)

-- no helper of the bank has the number of this one
abbrev pub IsFree : {V : _} {F : _} {m : _} → Bank V F m → Helper V F m → Type 0
IsFree bank helper = IsNone (signature_of (entries_of bank) (entry_of helper).0)

-- the bank has 32 helpers
abbrev pub IsFull : {V : _} {F : _} {m : _} → Bank V F m → Type 0
IsFull bank = 32 ≤ length (entries_of bank)

-- the bank has room for one more helper
abbrev pub HasRoom : {V : _} {F : _} {m : _} → Bank V F m → Type 0
HasRoom bank = length (entries_of bank) < 32
