use Rattle.std.proofs.Common.{rules}
use Rattle.acdm_displays.proofs.Texts.{text_more}
use Rattle.acdm_displays.proofs.resuming.NamedJournalTelling.add_next.Goals as goal

pub returns-clause-added : goal.returns-clause-added
returns-clause-added c before start =
    text_more c.args.self.now.room c.args.watch.now.seen c.take_next.new.self.seen c.in-Some.entry.now
    c.args.text.now.items c.push_name_of.new.text.items c.push_entry.new.text.items c.len-number.result
    (search rules) c.len-number.ensures c.in_ok-push_name_of.ensures.added
    c.in_ok-push_entry.ensures.text c.in_ok-push_entry.ensures.types before start
