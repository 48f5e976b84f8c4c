-- The runs of the programs of a report (this project's profile): what the history computes of them
-- is what their runs end with.
use Rattle.std.specs.Prelude.{◌≡◌, ℕ, List, [], ◌++◌, Option, Some, None}
use Rattle.acdm_record.specs.Fields.{Fields, bytes_of}
use Rattle.bpf_semantics.specs.Runs.{RunEnds}
use Rattle.bpf_verifier.specs.Verdict.{Verified}
use Rattle.acdm_step.specs.Programs.{Programs, Effect, suggestion, with_suggestion, local_alerts}

-- the program, if there is one, runs on a record and ends with r0, with exactly these answers
abbrev pub EndsWith : Option Verified → Fields → ℕ → ℕ → List ℕ → Option ℕ → Type 0
EndsWith None r moment m used r0 = (used ≡ []) × (r0 ≡ None)
EndsWith (Some p) r moment m used r0 =
    (answer : ℕ) × (steps : ℕ) × RunEnds p.ops p.sigs (bytes_of r) moment m used answer steps
    × (r0 ≡ Some answer)

-- The TOBT program ends with the first of these answers; the alert program ends, on the record with
-- what came of that, with the others; and this is what both said.
pub record HasEffect (ps : Programs) (r : Fields) (moment m : ℕ) (used : List ℕ) (s : Effect) : Type
    0 where
  pub first : List ℕ
  pub second : List ℕ
  pub tobt : Option ℕ
  pub alert : Option ℕ
  pub parts : used ≡ first ++ second
  pub tobt_ends : EndsWith ps.tobt r moment m first tobt
  pub alert_ends : EndsWith ps.alert (with_suggestion (suggestion r moment tobt) r) moment m second
      alert
  pub effect : s ≡ record { tobt = suggestion r moment tobt; locals = local_alerts alert }

-- both end with exactly these answers
abbrev pub Ran : Programs → Fields → ℕ → ℕ → List ℕ → Type 0
Ran ps r moment m used = (s : Effect) × HasEffect ps r moment m used s
