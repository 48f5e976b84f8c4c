use Rattle.std.proofs.Common.{◌++◌, ap, sym, ◌∙◌, append-nil}
use Rattle.std.specs.List.{flat_map}
use Rattle.acdm_feed.specs.Records.{alert_bits, alert_token}
use Rattle.acdm_feed.proofs.record.push_set_alerts.Goals as goal

pub returns-then-word-eq0-clause-adds : goal.returns-then-word-eq0-clause-adds
returns-then-word-eq0-clause-adds c =
    sym (append-nil c.args.line.now.tokens)
    ∙ ap (λ w. c.args.line.now.tokens ++ flat_map (alert_token w) alert_bits) (sym c.if-word-eq0.true)
