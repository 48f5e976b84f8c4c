use Rattle.std.proofs.Common.{refl}
use Rattle.acdm_command_line.proofs.subcommands.with_journal.Goals as goal

pub returns-clause-shape : goal.returns-clause-shape
returns-clause-shape c = c.with-3.ensures.shape _ _
    (c.with-2.ensures.shape _ _
    (c.with-command.ensures.shape _ _
    (c.with.ensures.shape _ _ c.bare-command.ensures.shape c.journal.ensures.rule) c.save.ensures.rule) refl)
    c.sync.ensures.rule
