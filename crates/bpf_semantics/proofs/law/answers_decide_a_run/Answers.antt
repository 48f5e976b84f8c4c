use Rattle.bpf_semantics.proofs.Results.{end_is_one, ends_result, result_ends}
use Rattle.bpf_semantics.proofs.Questions.{end_uses_fewer}
use Rattle.bpf_semantics.proofs.law.answers_decide_a_run.Goals as goal

pub returns : goal.returns
returns c = record {
  computed = result_ends;
  complete = ends_result;
  decided = end_is_one;
  few = end_uses_fewer;
}
