use Rattle.acdm_command_line.proofs.subcommands.keeping.Goals as goal

pub returns-clause-shape : goal.returns-clause-shape
returns-clause-shape c = c.with.ensures.shape _ _ c.with_journal.ensures.shape c.tables.ensures.rule
