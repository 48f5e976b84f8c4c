use Rattle.std.proofs.Common.{◌≡◌, Err, sym, ap, ◌∙◌}
use Rattle.acdm_journal.specs.declared.judge.AuditError.TheVariants.{Memory}
use Rattle.acdm_journal.proofs.Needs.{load_needs, command_needs}
use Rattle.acdm_journal.proofs.NextEntry.{planned}
use Rattle.acdm_journal.proofs.judge.plan_line.Goals as goal

pub returns-clause-plans : goal.returns-clause-plans
returns-clause-plans c =
    λ J legal number same.
    let p = c.in-Ok-judged.ensures.judges c.args.sigs.now J legal same in
    planned c.args.sigs.now J c.args.line.now c.in-Ok.stated legal c.in-Ok.ensures.short
    (record {
      line_is = c.in-Ok.ensures.states.0;
      is = c.in-Ok.ensures.states.1;
      short = c.in-Ok.ensures.short;
    })
    (c.if-stated-number.false ∙ sym number) c.in-Ok-command_of.command
    c.in-Ok-command_of.ensures.gives
    _ c.verdict.result (c.verdict.ensures ∙ p.1)
    (rw c.as_slice.ensures at p.0)

pub returns-in-Err-clause-memory : goal.returns-in-Err-clause-memory
returns-in-Err-clause-memory c =
    λ e J legal number same.
    let error : c.in-Err.error ≡ Memory = cc in
    load_needs c.args.sigs.now J c.args.line.now c.in-Ok.stated
    (record {
      states = record {
        line_is = c.in-Ok.ensures.states.0;
        is = c.in-Ok.ensures.states.1;
        short = c.in-Ok.ensures.short;
      };
      number = c.if-stated-number.false ∙ sym number;
    })
    (c.in-Err.ensures.memory (ap Err error))

pub returns-in-Err-judged-clause-memory : goal.returns-in-Err-judged-clause-memory
returns-in-Err-judged-clause-memory c =
    λ e J legal number same.
    let error : c.in-Err-judged.error ≡ Memory = cc in
    command_needs c.args.sigs.now J c.args.line.now c.in-Ok.stated
    (record {
      states = record {
        line_is = c.in-Ok.ensures.states.0;
        is = c.in-Ok.ensures.states.1;
        short = c.in-Ok.ensures.short;
      };
      number = c.if-stated-number.false ∙ sym number;
    })
    c.in-Ok-command_of.command c.in-Ok-command_of.ensures.gives
    (c.in-Err-judged.ensures.memory (ap Err error) c.args.sigs.now J legal same)
