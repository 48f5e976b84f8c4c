use Rattle.acdm_command_line.proofs.subcommands.on_file.Goals as goal

pub returns-clause-shape : goal.returns-clause-shape
returns-clause-shape c = c.with-2.ensures.shape _ _
    (c.with.ensures.shape _ _ c.bare-command.ensures.shape c.tables.ensures.rule) c.file.ensures.rule
