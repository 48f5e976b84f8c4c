use Rattle.acdm_journal.proofs.FromNone.{from_none}
use Rattle.acdm_journal.proofs.journal_reader.read_journal.Goals as goal

pub returns-clause-reads : goal.returns-clause-reads
returns-clause-reads g c =
    from_none (g.U.JournalUse.sigs c.args.to.now c.args.place.now) c.args.is_bounded
    (g.U.JournalUse.has c.args.to.now c.args.place.now c.read_behind.new.to c.read_behind.new.place)
    (g.U.JournalUse.stops c.args.to.now c.args.place.now c.read_behind.new.to c.read_behind.new.place)
    c.args.reader.now c.read_behind.new.reader c.read_behind.result c.read_behind.ensures.reads
