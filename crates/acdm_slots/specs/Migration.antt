-- What becomes of loaded programs when the records of a board get another length (this project's
-- profile): each is judged again beside records of that length.
use Rattle.std.specs.Prelude.{◌≡◌, ℕ, List, [], ◌∷◌, ◌++◌, Option, Some, None}
use Rattle.std.specs.List.{flat_map}
use Rattle.acdm_milestones.specs.declared.milestone.Milestone.{Milestone}
use Rattle.bpf_regstate.specs.declared.length.Length.{Length}
use Rattle.bpf_regstate.specs.Lengths.{bytes_in}
use Rattle.bpf_regstate.specs.States.{first_fault}
use Rattle.bpf_verifier.specs.declared.fault.VerifyError.{VerifyError}
use Rattle.bpf_verifier.specs.declared.fault.VerifyError.TheVariants.{Refused, Memory}
use Rattle.bpf_verifier.specs.Verdict.{Verified, code_of}
use Rattle.acdm_slots.specs.declared.kind.Kind.{Kind}
use Rattle.acdm_slots.specs.declared.kind.Kind.TheVariants.{Tobt, Alert}
use Rattle.acdm_slots.specs.declared.migration.Unloaded.{Unloaded}
use Rattle.acdm_slots.specs.Loaded.{Loaded, loaded, program_in, milestones}

-- the first fault of a program beside records of this length: its slot and its number
unfoldable pub fault_beside : Length → Verified → Option (ℕ × ℕ)
fault_beside record_length p = first_fault (bytes_in record_length) p.ops p.sigs

-- the error is that fault, or want of memory
abbrev pub TellsFault : Length → Verified → VerifyError → Type 0
TellsFault record_length p (Refused fault slot) =
    fault_beside record_length p ≡ Some (slot, code_of fault)
TellsFault record_length p Memory = Unit {0}

-- the same program for records of this length
abbrev pub lengthened : Length → Verified → Verified
lengthened record_length p = record { record_length = record_length; ops = p.ops; sigs = p.sigs }

-- a program that has no fault stays
abbrev pub unless_faulty : Option (ℕ × ℕ) → Verified → Option Verified
unless_faulty None p = Some p
unless_faulty (Some f) p = None

abbrev pub kept_program : Length → Option Verified → Option Verified
kept_program record_length None = None
kept_program record_length (Some p) =
    unless_faulty (fault_beside record_length p) (lengthened record_length p)

-- the slots of the board then
abbrev pub migrated_slots : Length → Loaded → Loaded
migrated_slots record_length l =
    loaded l.sigs record_length (λ m kind. kept_program record_length (program_in l m kind))

-- what is taken out of one slot
abbrev pub unloaded_for : Milestone → Kind → Option (ℕ × ℕ) → List Unloaded
unloaded_for m kind None = []
unloaded_for m kind (Some f) = record { milestone = m; kind = kind; code = f.1; slot = f.0 } ∷ []

abbrev pub unloaded_at : Length → Option Verified → Milestone → Kind → List Unloaded
unloaded_at record_length None m kind = []
unloaded_at record_length (Some p) m kind = unloaded_for m kind (fault_beside record_length p)

-- what is taken out of all slots, where this is in them: by milestone, and of one milestone the
-- program for TOBT first
abbrev pub unloaded_of : Length → (Milestone → Kind → Option Verified) → Milestone → List Unloaded
unloaded_of record_length programs m = unloaded_at record_length (programs m Tobt) m Tobt
    ++ unloaded_at record_length (programs m Alert) m Alert

abbrev pub unloaded : Length → (Milestone → Kind → Option Verified) → List Unloaded
unloaded record_length programs = flat_map (unloaded_of record_length programs) milestones
