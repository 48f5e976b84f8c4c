-- The numbers of faults in lines and of bad lines (this project's profile).
use Rattle.std.specs.Prelude.{ℕ}
use Rattle.acdm_wire.specs.declared.fault.RequestFault.{RequestFault}
use Rattle.acdm_wire.specs.declared.fault.RequestFault.TheVariants.{Prefix, NoJson, UnknownCommand}
use Rattle.acdm_wire.specs.declared.fault.RequestFault.TheVariants.{Kind, Range, TooLong}
use Rattle.acdm_wire.specs.declared.fault.Bad.{Bad}
use Rattle.acdm_wire.specs.declared.fault.Bad.TheVariants as bad
use Rattle.bpf_verifier.specs.declared.reading.ProgramError.{ProgramError}
use Rattle.bpf_verifier.specs.declared.reading.ProgramError.TheVariants as errors

abbrev pub fault_code : RequestFault → ℕ
fault_code Prefix = 100
fault_code NoJson = 101
fault_code UnknownCommand = 102
fault_code Kind = 103
fault_code Range = 104
fault_code TooLong = 105

abbrev pub bad_code : Bad → ℕ
bad_code (bad.Faulty fault) = fault_code fault
bad_code (bad.Program code slot) = code
bad_code bad.NoMinute = 106
bad_code bad.NoMemory = 501
bad_code bad.FullJournal = 502

-- what is answered where bytes give no program
abbrev pub bad_of : ProgramError → Bad
bad_of errors.Memory = bad.NoMemory
bad_of (errors.Refused code slot) = bad.Program code slot
