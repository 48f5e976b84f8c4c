-- The law of accepted programs, for what `verify` answers.
use Rattle.std.proofs.Common.{◌≡◌, ℕ, ◌<◌, ◌≤◌, ◌^◌, List, length, Some, IsTrue, subst, sym, arith}
use Rattle.std.specs.Prelude.{slice_get}
use Rattle.bpf_decode.specs.declared.op.Op.{Op}
use Rattle.bpf_helpers.specs.Promise.{is_question}
use Rattle.bpf_semantics.specs.Machine.{Machine, Asks, action}
use Rattle.bpf_semantics.specs.Runs.{IsTrapped}
use Rattle.bpf_semantics.proofs.Questions.{asks_questions, few_answers}
use Rattle.bpf_regstate.specs.declared.length.Length.{Length}
use Rattle.bpf_regstate.specs.declared.length.Length.TheVariants.{L128, L160}
use Rattle.bpf_regstate.specs.Lengths.{bytes_in}
use Rattle.bpf_regstate.specs.Edges.{edges}
use Rattle.bpf_regstate.specs.Holds.{EdgesHold, HoldsAt}
use Rattle.bpf_regstate.specs.Shape.{Shape}
use Rattle.bpf_regstate.specs.Soundness.{IsAcceptedRun}
use Rattle.bpf_regstate.specs.States.{Accepts, instruction_count, state_at}
use Rattle.bpf_regstate.proofs.Safe.{few_steps, goes_to_its_end, never_trapped, reached_is_held}
use Rattle.bpf_regstate.proofs.Safe.{step_on_edges}
use Rattle.bpf_semantics.specs.Machine.{start}
use Rattle.bpf_verifier.specs.Runs.{GoesToItsEnd, IsInput, Leads, MayRun}
use Rattle.bpf_verifier.specs.Verdict.{Verified}

run_of : (v : Verified) (record_bytes : List ℕ) (moment milestone : ℕ) → MayRun v
    → IsInput v.record_length record_bytes moment milestone
    → IsAcceptedRun v.ops v.sigs record_bytes moment milestone
unfolding bytes_in
run_of v record_bytes moment milestone may input = record {
  program = may.program;
  signatures = may.signatures;
  short = omega (arith, input.long, small v.record_length);
  bytes = input.bytes;
  timely = input.timely;
  first_milestone = input.first_milestone;
  last_milestone = input.last_milestone;
  accepts = subst (λ (n : ℕ). Accepts n v.ops v.sigs) (sym input.long) may.accepted;
}
  where
    small : (l : Length) → bytes_in l < 2 ^ 16
    small L128 = omega arith
    small L160 = omega arith

module _ (v : Verified) (record_bytes : List ℕ) (moment milestone : ℕ) (answers : List ℕ) (n : ℕ)
    (m : Machine) (l : Leads v record_bytes moment milestone answers n m) where
  run : IsAcceptedRun v.ops v.sigs record_bytes moment milestone
  run = run_of v record_bytes moment milestone l.may_run l.input

  pub held : HoldsAt (state_at (bytes_in v.record_length) v.ops v.sigs m.slot) m
  held =
      subst (λ (k : ℕ). HoldsAt (state_at k v.ops v.sigs m.slot) m) l.input.long
      (reached_is_held v.ops v.sigs record_bytes moment milestone run answers n m l.reached)

  pub steps : (op : Op) (s : Shape) → slice_get v.ops m.slot ≡ Some op
      → state_at (bytes_in v.record_length) v.ops v.sigs m.slot ≡ Some s
      → EdgesHold v.sigs (edges (bytes_in v.record_length) v.sigs m.slot op s) m (action v.ops v.sigs record_bytes m)
  steps =
      subst (λ (k : ℕ). (op : Op) (s : Shape) → slice_get v.ops m.slot ≡ Some op
      → state_at k v.ops v.sigs m.slot ≡ Some s
      → EdgesHold v.sigs (edges k v.sigs m.slot op s) m (action v.ops v.sigs record_bytes m))
      l.input.long
      (step_on_edges v.ops v.sigs record_bytes moment milestone run answers n m l.reached)

  pub free : IsTrapped v.sigs (action v.ops v.sigs record_bytes m) → ⊥
  free = never_trapped v.ops v.sigs record_bytes moment milestone run answers n m l.reached

  pub asks : (helper : ℕ) (passed : List ℕ)
      → action v.ops v.sigs record_bytes m ≡ Asks helper passed
      → IsTrue (is_question v.sigs helper passed)
  asks = asks_questions v.ops v.sigs record_bytes m

  pub few : n < instruction_count v.ops
  few = few_steps v.ops v.sigs record_bytes moment milestone run answers n m l.reached

  pub answers_are_few : length answers ≤ n
  answers_are_few = few_answers v.ops v.sigs record_bytes n answers
      (start (length record_bytes) moment milestone) m l.reached

  pub ends : GoesToItsEnd v record_bytes moment milestone answers
  ends =
      let on = goes_to_its_end v.ops v.sigs record_bytes moment milestone run answers n m l.reached
      in
      record { more = on.0; r0 = on.1; steps = on.2; few = on.3; ends = on.4 }
