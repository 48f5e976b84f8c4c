use Rattle.std.proofs.Common.{rules}
use Rattle.acdm_displays.proofs.Texts.{named_more}
use Rattle.acdm_displays.proofs.resuming.pass_one.Goals as goal

pub returns-clause-named : goal.returns-clause-named
returns-clause-named c name is =
    named_more c.args.watch.now.seen c.take_next.new.self.seen c.in-Some._entry.now name (search rules) is
