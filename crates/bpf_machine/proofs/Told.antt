-- What a step tells, as a run takes it.
use Rattle.std.proofs.Common.{◌≡◌, ℕ, ◌<◌, List, length, get_or, Some, false, refl, inl}
use Rattle.std.specs.Prelude.{slice_get}
use Rattle.std.proofs.lemmas.Option.{slice_get_read}
use Rattle.bpf_decode.specs.declared.op.Op.{Op}
use Rattle.bpf_helpers.specs.Promise.{Promise}
use Rattle.bpf_helpers.specs.Oracles.{OracleView}
use Rattle.bpf_semantics.specs.Machine.{Machine, Action, act_on, action}
use Rattle.bpf_machine.specs.declared.state.Step.{Step}
use Rattle.bpf_machine.specs.declared.state.Step.TheVariants.{Went, Ended, Trapped, Unanswered}
use Rattle.bpf_machine.specs.Steps.{StepGives, StepTells, is_unanswered}

-- the action is that of the instruction at the slot
pub action_at : (ops : List Op) (sigs : List (ℕ × Promise)) (record_bytes : List ℕ) (m : Machine)
    (op : Op) → m.slot < length ops → op ≡ get_or ops m.slot op
    → action ops sigs record_bytes m ≡ act_on ops sigs record_bytes m op
action_at ops sigs record_bytes m op inside read =
    let found : slice_get ops m.slot ≡ Some op =
    slice_get_read ops (length ops) m.slot op refl inside read in
    rw found refl

-- a step that asks nothing leaves the log as it was
pub tells : (step : Step) (sigs : List (ℕ × Promise)) (old new : Machine) (what : Action)
    (before after : OracleView)
    → after.log ≡ before.log → StepGives step new what
    → StepTells step sigs old new what before after
tells Went sigs old new what before after same h = inl (h, same)
tells (Ended answer) sigs old new what before after same h = (h, same)
tells Trapped sigs old new what before after same h = (h, same)
tells Unanswered sigs old new what before after same h = absurd h

-- a step that asks nothing isn't unanswered
pub no_refusal : (step : Step) (new : Machine) (what : Action) → StepGives step new what
    → is_unanswered step ≡ false
no_refusal Went new what h = refl
no_refusal (Ended answer) new what h = refl
no_refusal Trapped new what h = refl
no_refusal Unanswered new what h = absurd h
