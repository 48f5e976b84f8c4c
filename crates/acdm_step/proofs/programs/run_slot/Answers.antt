use Rattle.std.proofs.Common.{refl, ap, sym, ◌∙◌}
use Rattle.bpf_regstate.specs.Lengths.{bytes_in}
use Rattle.acdm_step.proofs.Runs.{asks_at, ends_at}
use Rattle.acdm_step.proofs.Steps.{on_err}
use Rattle.acdm_step.proofs.programs.run_slot.Goals as goal

pub returns-clause-ended : goal.returns-clause-ended
returns-clause-ended g c =
    ends_at _ c.in-Some.checked.now c.args.record.now c.args.moment _
    (g.O.Oracle.view c.args.oracle.now) (g.O.Oracle.view c.run.new.oracle)
    c.in_ok-ended.ended _ _ c.bytes.result.now
    c.in-Some.ensures.value refl refl c.bytes.ensures.layout c.in_ok-ended.ensures.ended
    c.in_ok-ended.ensures.few c.in_ok-ended.ensures.counted

pub returns-in_err-ended-clause-unanswered : goal.returns-in_err-ended-clause-unanswered
returns-in_err-ended-clause-unanswered g c =
    on_err c.from_residual.result
    (asks_at _ c.in-Some.checked.now c.args.record.now c.args.moment _
    (g.O.Oracle.view c.args.oracle.now) (g.O.Oracle.view c.run.new.oracle) c.bytes.result.now
    c.in-Some.ensures.value c.bytes.ensures.layout c.in_err-ended.ensures.unanswered
    c.in_err-ended.ensures.few_asked c.in_err-ended.ensures.counted)

-- the program in the slot is for records of the board's length
pub run-requires-clause-long : goal.run-requires-clause-long
run-requires-clause-long g c =
    let fits = c.get.ensures.fit c.args.milestone c.args.kind c.in-Some.checked.now
    c.in-Some.ensures.value in
    c.bytes.ensures.long ∙ c.requires.long ∙ sym (ap bytes_in fits.1)
