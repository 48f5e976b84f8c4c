use Rattle.std.proofs.Common.{◌≡◌, IfOk, codes, subst}
use Rattle.clap.specs.Words.{Rule, app_of, with_rule}
use Rattle.acdm_command_line.specs.CommandLine.{board_app, first_rule, partners_rule}
use Rattle.acdm_command_line.proofs.subcommands.follow_command.Goals as goal

pub returns-clause-shape : goal.returns-clause-shape
returns-clause-shape c =
    subst (λ (r : Rule). IfOk c.with-2.result (λ command. app_of command
    ≡ with_rule (with_rule (board_app (codes "follow") r) first_rule) partners_rule)) c.kept.ensures.rule
    (c.with-2.ensures.shape _ _ (c.with.ensures.shape _ _ c.with_board-command.ensures.shape c.first.ensures.rule)
    c.partners.ensures.rule)
