use Rattle.acdm_journal.proofs.OneLine.{states, states_nothing}
use Rattle.acdm_journal.proofs.reading.read_line.Goals as goal

pub returns-clause-states : goal.returns-clause-states
returns-clause-states c = states c.args.line.now _ c.stated_alone.result c.stated_alone.ensures

pub returns-clause-nothing : goal.returns-clause-nothing
returns-clause-nothing c =
    λ e short. states_nothing c.args.line.now _ c.stated_alone.result c.stated_alone.ensures e
