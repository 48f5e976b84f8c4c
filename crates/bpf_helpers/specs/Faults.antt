-- The numbers of refusals, which are this project's profile.
use Rattle.std.specs.Prelude.{ℕ}
use Rattle.bpf_helpers.specs.declared.bank.BankFault.{BankFault}
use Rattle.bpf_helpers.specs.declared.bank.BankFault.TheVariants.{NumberTaken, Full}

abbrev pub code_of : BankFault → ℕ
code_of NumberTaken = 331
code_of Full = 332
