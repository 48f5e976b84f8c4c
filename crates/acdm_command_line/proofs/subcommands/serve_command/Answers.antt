use Rattle.std.proofs.Common.{◌≡◌, IfOk, codes, subst}
use Rattle.clap.specs.Words.{Rule, app_of, with_rule}
use Rattle.acdm_command_line.specs.CommandLine.{board_app, partners_rule}
use Rattle.acdm_command_line.proofs.subcommands.serve_command.Goals as goal

pub returns-clause-shape : goal.returns-clause-shape
returns-clause-shape c =
    subst (λ (r : Rule). IfOk c.with.result (λ command. app_of command
    ≡ with_rule (board_app (codes "serve") r) partners_rule)) c.keep.ensures.rule
    (c.with.ensures.shape _ _ c.with_board.ensures.shape c.partners.ensures.rule)
