-- The numbers of faults and of bad lines, as the profile's list of codes has them.
use Rattle.std.proofs.Common.{◌≡◌, map, [], ◌∷◌, refl}
use Rattle.acdm_wire.specs.declared.fault.RequestFault.TheVariants.{Prefix, NoJson, UnknownCommand}
use Rattle.acdm_wire.specs.declared.fault.RequestFault.TheVariants.{Kind, Range, TooLong}
use Rattle.acdm_wire.specs.declared.fault.Bad.TheVariants.{Faulty, Program, NoMinute, NoMemory}
use Rattle.acdm_wire.specs.declared.fault.Bad.TheVariants.{FullJournal}
use Rattle.bpf_verifier.specs.declared.reading.ProgramError.TheVariants as errors
use Rattle.acdm_wire.specs.Codes.{fault_code, bad_code, bad_of}

faults : map fault_code
    (Prefix ∷ NoJson ∷ UnknownCommand ∷ Kind ∷ Range ∷ TooLong ∷ [])
    ≡ 100 ∷ 101 ∷ 102 ∷ 103 ∷ 104 ∷ 105 ∷ []
faults = refl

bad_lines : map bad_code
    (Faulty Prefix ∷ Faulty TooLong ∷ NoMinute ∷ Program 303 2 ∷ NoMemory ∷ FullJournal ∷ [])
    ≡ 100 ∷ 105 ∷ 106 ∷ 303 ∷ 501 ∷ 502 ∷ []
bad_lines = refl

unread_programs : map bad_of (errors.Memory ∷ errors.Refused 315 7 ∷ [])
    ≡ NoMemory ∷ Program 315 7 ∷ []
unread_programs = refl
