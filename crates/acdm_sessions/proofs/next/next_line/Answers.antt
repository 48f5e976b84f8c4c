use Rattle.acdm_sessions.proofs.NextLine.{takes_whole}
use Rattle.acdm_sessions.proofs.next.next_line.Goals as goal

pub returns-then-take_whole-clause-takes : goal.returns-then-take_whole-clause-takes
returns-then-take_whole-clause-takes g c =
    let taken = c.take_whole.ensures.taken c.if-take_whole.true in
    takes_whole c.args.reader.now c.args.lines.now c.take_whole.new.lines taken.0 taken.1 taken.2
    taken.3 c.take_whole.ensures.reads
