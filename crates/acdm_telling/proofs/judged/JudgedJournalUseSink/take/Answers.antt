use Rattle.std.proofs.Common.{◌∷◌}
use Rattle.acdm_telling.proofs.Gathered.{comes_to, failed, legal_next, many, more, told_part}
use Rattle.acdm_telling.proofs.judged.JudgedJournalUseSink.take.Goals as goal

pub returns-in_default : goal.returns-in_default
returns-in_default g c = λ first at J told next.
    told_part first.core.slots.sigs J c.args._line.now c.args.self.now c.args.next at c.args.writer.now
    told next

pub returns-in_default-follow : goal.returns-in_default-follow
returns-in_default-follow g c = λ first at J told next.
    told_part first.core.slots.sigs J c.args._line.now c.args.self.now c.args.next at c.args.writer.now
    told next

pub returns-in-Ok-write_many : goal.returns-in-Ok-write_many
returns-in-Ok-write_many g c = λ first at J told next.
    let sigs = first.core.slots.sigs in
    let entry = c.args.next.entry in
    let mid = c.push_line.new.text.items in
    let board = comes_to sigs J c.args._line.now c.args.self.now c.args.next at c.args.writer.now told
    next c.commit.new.self c.commit.ensures.board in
    record {
      board = board;
      knows = c.in-Ok-follow.ensures sigs J board told.knows;
      gathers = many (entry ∷ J) mid at c.args.writer.now
          (more J c.args.self.now.text.items at c.args.writer.now told.gathers entry mid
          (c.in-Ok.ensures.told sigs J board told.knows))
          c.write_many.new.writer c.write_many.new.text.items c.in-Ok-write_many.ensures;
    }

pub returns : goal.returns
returns g c = λ first at J told next.
    let sigs = first.core.slots.sigs in
    let entry = c.args.next.entry in
    let mid = c.push_line.new.text.items in
    let board = comes_to sigs J c.args._line.now c.args.self.now c.args.next at c.args.writer.now told
    next c.commit.new.self c.commit.ensures.board in
    failed (entry ∷ J) mid at c.args.writer.now
    (more J c.args.self.now.text.items at c.args.writer.now told.gathers entry mid
    (c.in-Ok.ensures.told sigs J board told.knows))
    sigs c.write_many.new.writer
    (legal_next sigs J c.args._line.now c.args.self.now c.args.next at c.args.writer.now told next)
    c.in-Err.ensures
