use Rattle.std.proofs.Common.{length, refl, [], ◌∷◌}
use Rattle.bpf_semantics.specs.Machine.{start}
use Rattle.acdm_headline.proofs.headline.the_written_step_is_kept.Goals as goal

pub returns-clause-programs : goal.returns-clause-programs
returns-clause-programs c = λ v may_run. record {
  ends = λ record_bytes moment milestone input.
      c.checked_programs_never_go_wrong.ensures.ends v record_bytes moment milestone [] 0
      (start (length record_bytes) moment milestone)
      (record { may_run = may_run; input = input; reached = refl });
  goes_on = c.checked_programs_never_go_wrong.ensures.ends v;
  free = c.checked_programs_never_go_wrong.ensures.free v;
  few = c.checked_programs_never_go_wrong.ensures.few v;
}

pub returns-clause-step : goal.returns-clause-step
returns-clause-step c = λ sigs J e legal. record {
  verdict = legal.4.verdict_is;
  used = legal.4.used;
  unused = legal.4.unused;
  records = refl;
  slots = c.slots_are_asked_of_the_history.ensures sigs (e ∷ J);
}
