use Rattle.std.proofs.Common.{rules, IsTrue}
use Rattle.bpf_helpers.specs.Promise.{is_question}
use Rattle.bpf_helpers.proofs.SomeAnswer.{some_answer}
use Rattle.bpf_machine.proofs.state.MachineState.question.Goals as goal

pub returns-then-is_entry_at-clause-answerable : goal.returns-then-is_entry_at-clause-answerable
returns-then-is_entry_at-clause-answerable c =
    let known : IsTrue (is_question c.args.sigs.now c.args.helper c.in_ok-passed.passed) =
    search rules in
    some_answer c.args.sigs.now c.args.helper c.in_ok-passed.passed c.get.ensures.well_formed known
