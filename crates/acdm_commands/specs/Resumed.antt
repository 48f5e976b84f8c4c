-- What a crash leaves of a kept journal is resumed.
use Rattle.std.specs.Prelude.{ℕ, ◌≡◌, List, [], ◌++◌, reverse}
use Rattle.bpf_helpers.specs.Promise.{Promise}
use Rattle.acdm_journal.specs.Whole.{Saves}
use Rattle.acdm_keeping.specs.Kept.{AtAnyMoment, LeavesDuring}
use Rattle.acdm_restoring.specs.Crash.{GoesOnFrom, HasKept}
use Rattle.acdm_step.specs.declared.entry.Entry.{Entry}
use Rattle.acdm_step.specs.Commands.{History}
use Rattle.acdm_step.specs.History.{IsLegal}

-- A keeper kept entries in a call, however that went, and all that the file had before it is the text of what had been
-- seen. A crash at any moment of the call left a text. A desk that goes on from that text, and whose entries these are,
-- has the first entries of what was seen, and all of those that had been seen before the call.
abbrev pub KeptIsResumed : Type 0
KeptIsResumed =
    (sigs : List (ℕ × Promise)) (seen later : List Entry) (old new before left log log_after : List ℕ) (found : History)
    → (during : AtAnyMoment seen later old new) → IsLegal sigs (reverse during.taken)
    → Saves (reverse seen) [] (before ++ old) → LeavesDuring (before ++ old) (before ++ (new ++ during.rest)) left
    → log_after ≡ log ++ left → GoesOnFrom sigs log log_after found
    → HasKept (reverse during.taken) (reverse seen) found
