use Rattle.acdm_feed.proofs.Printable.{printable_utf8}
use Rattle.acdm_feed.proofs.tokens.printable.Goals as goal

pub unreachable-requires : goal.unreachable-requires
unreachable-requires c = c.in_default.ensures.cases.0 (printable_utf8 c.args.bytes.now c.requires)
