-- The numbers of faults (this project's profile).
use Rattle.std.specs.Prelude.{ℕ}
use Rattle.bpf_decode.specs.declared.fault.EncodingFault.{EncodingFault}
use Rattle.bpf_decode.specs.declared.fault.EncodingFault.TheVariants.{Length, TooLong, Opcode, Field}
use Rattle.bpf_decode.specs.declared.fault.EncodingFault.TheVariants.{Register, CutWide}
use Rattle.bpf_decode.specs.declared.fault.DecodeError.{DecodeError}
use Rattle.bpf_decode.specs.declared.fault.DecodeError.TheVariants.{Refused, Memory}

abbrev pub code_of : EncodingFault → ℕ
code_of Length = 301
code_of TooLong = 302
code_of Opcode = 303
code_of Field = 304
code_of Register = 305
code_of CutWide = 315

abbrev pub error_code : DecodeError → ℕ
error_code (Refused fault slot) = code_of fault
error_code Memory = 501

abbrev pub error_slot : DecodeError → ℕ
error_slot (Refused fault slot) = slot
error_slot Memory = 0
