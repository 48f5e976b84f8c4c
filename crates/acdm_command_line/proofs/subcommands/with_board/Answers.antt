use Rattle.acdm_command_line.specs.CommandLine.{board_app}
use Rattle.acdm_command_line.proofs.subcommands.with_board.Goals as goal

pub returns-clause-shape : goal.returns-clause-shape
unfolding board_app
returns-clause-shape c =
    let displays = c.with-command.ensures.shape _ _
    (c.with.ensures.shape _ _ c.keeping-command.ensures.shape c.watch.ensures.rule) c.changes.ensures.rule in
    let browsers = c.with-command-2.ensures.shape _ _
    (c.with-2.ensures.shape _ _ displays c.web.ensures.rule) c.web_name.ensures.rule in
    let held = c.with-command-3.ensures.shape _ _
    (c.with-3.ensures.shape _ _ browsers c.again.ensures.rule) c.control.ensures.rule in
    let lasting = c.with-command-4.ensures.shape _ _
    (c.with-4.ensures.shape _ _ held c.pace.ensures.rule) c.tick.ensures.rule in
    let logging = c.with-command-5.ensures.shape _ _ lasting c.log.ensures.rule in
    let seconded = c.with-command-6.ensures.shape _ _
    (c.with-5.ensures.shape _ _ logging c.second.ensures.rule) c.strict.ensures.rule in
    c.with-6.ensures.shape _ _ seconded c.peer.ensures.rule
