-- An entry of a legal history has at most 8,190 answers: a program has at most 4,096 slots, and a
-- run uses fewer answers than that.
use Rattle.std.proofs.Common.{◌≡◌, ℕ, ◌<◌, ◌≤◌, true, false, List, [], ◌++◌, length, Option, Some}
use Rattle.std.proofs.Common.{None, refl, sym, ap, ◌∙◌, append-nil, length-append, arith}
use Rattle.std.specs.List.{AllByRecursion}
use Rattle.std.proofs.lemmas.Option.{same_Some}
use Rattle.acdm_record.specs.Fields.{Fields, bytes_of}
use Rattle.bpf_decode.specs.declared.op.Op.{Op}
use Rattle.bpf_decode.specs.declared.program.TheConstants.{MOST_SLOTS}
use Rattle.bpf_helpers.specs.Promise.{Promise}
use Rattle.bpf_semantics.specs.Machine.{Machine, start}
use Rattle.bpf_semantics.specs.Runs.{RunEnds}
use Rattle.bpf_semantics.proofs.Questions.{few_answers}
use Rattle.bpf_semantics.proofs.Results.{Finished, ends_result, result_comes}
use Rattle.bpf_verifier.specs.Verdict.{Verified}
use Rattle.acdm_milestones.specs.declared.role.Role.{Role}
use Rattle.acdm_step.specs.declared.command.Command.{Command}
use Rattle.acdm_step.specs.declared.command.Command.TheVariants as commands
use Rattle.acdm_step.specs.declared.command.Load.{Load}
use Rattle.acdm_step.specs.declared.entry.Verdict.{Verdict}
use Rattle.acdm_step.specs.Programs.{Programs, suggestion, with_suggestion}
use Rattle.acdm_step.specs.Ran.{EndsWith, Ran}
use Rattle.acdm_step.specs.Commands.{History, is_accepted, told_milestone}
use Rattle.acdm_step.specs.InSlots.{programs_of}
use Rattle.acdm_step.specs.Summaries.{run_record_of}
use Rattle.acdm_step.specs.History.{IsAnswered}
use Rattle.acdm_step.proofs.Saying.{left_ran}
use Rattle.acdm_journal.specs.Ranges.{FitsTypes}
use Rattle.acdm_journal.proofs.Checked.{tobt_is_program, alert_is_program}

-- a run that ends uses fewer answers than its program has slots
few_used : (ops : List Op) (sigs : List (ℕ × Promise)) (bytes : List ℕ) (moment m : ℕ)
    (used : List ℕ) (r0 n : ℕ) → RunEnds ops sigs bytes moment m used r0 n
    → length used < length ops
few_used ops sigs bytes moment m used r0 n run =
    let first : Machine = start (length bytes) moment m in
    let f : Finished ops sigs bytes (length ops) (used ++ []) [] first r0 =
    result_comes ops sigs bytes (length ops) (used ++ []) [] first r0
    (ends_result ops sigs bytes moment m used r0 n run []) in
    let few : length f.used ≤ f.steps =
    few_answers ops sigs bytes f.steps f.used first f.comes.0 f.comes.1 in
    let same : used ≡ f.used = sym (append-nil used) ∙ f.taken ∙ append-nil f.used in
    omega (arith, few, f.few, ap length same)

few_in : (p : Option Verified) (r : Fields) (moment m : ℕ) (used : List ℕ) (r0 : Option ℕ)
    → ((v : Verified) → p ≡ Some v → length v.ops ≤ MOST_SLOTS) → EndsWith p r moment m used r0
    → length used ≤ 4095
few_in None r moment m used r0 most e = omega (arith, ap length e.0)
few_in (Some v) r moment m used r0 most e =
    let few = few_used v.ops v.sigs (bytes_of r) moment m used e.0 e.1 e.2 in
    omega (arith, few, most v refl)

few_ran : (ps : Programs) (r : Fields) (moment m : ℕ) (used : List ℕ)
    → ((v : Verified) → ps.tobt ≡ Some v → length v.ops ≤ MOST_SLOTS)
    → ((v : Verified) → ps.alert ≡ Some v → length v.ops ≤ MOST_SLOTS)
    → Ran ps r moment m used → length used ≤ 8190
few_ran ps r moment m used tobt alert ran =
    let h = ran.1 in
    let one : length h.first ≤ 4095 = few_in ps.tobt r moment m h.first h.tobt tobt h.tobt_ends in
    let two : length h.second ≤ 4095 =
    few_in ps.alert (with_suggestion (suggestion r moment h.tobt) r) moment m h.second h.alert
    alert h.alert_ends in
    let both : length used ≡ length (h.first ++ h.second) = ap length h.parts in
    omega (arith, one, two, both, length-append h.first h.second)

module _ (sigs : List (ℕ × Promise)) (J : History) (role : Role) (moment : ℕ) (verdict : Verdict)
    (answers : List ℕ) where
  pub few_answered : (c : Command) → AllByRecursion FitsTypes J
      → IsAnswered sigs J role moment c verdict answers → length answers ≤ 8190
  few_answered c fit is =
      elim (is_accepted verdict) as (λ b. is_accepted verdict ≡ b → length answers ≤ 8190) [
        | true ↦ λ e.
            few_ran (programs_of J c) (run_record_of J c) moment (told_milestone c) answers
            (λ v there. (tobt_is_program J c fit v there).few)
            (λ v there. (alert_is_program J c fit v there).few)
            (left_ran (programs_of J c) (run_record_of J c) moment (told_milestone c) answers (is.used e))
        | false ↦ λ e.
            let none : length answers ≡ 0 = ap length (is.unused e) in
            omega (arith, none)
      ] refl

  -- a load runs no program
  pub load_unanswered : (l : Load)
      → IsAnswered sigs J role moment (commands.Load l) verdict answers → answers ≡ []
  load_unanswered l is =
      elim (is_accepted verdict) as (λ b. is_accepted verdict ≡ b → answers ≡ []) [
        | true ↦ λ e. same_Some answers [] (is.used e)
        | false ↦ λ e. is.unused e
      ] refl
