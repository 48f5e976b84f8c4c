use Rattle.std.proofs.Common.{◌<◌, ◌≢◌, ◌++◌, Ok, length, sym, ap, ◌∙◌, arith}
use Rattle.std.proofs.lemmas.Bool.{eqb-true, eqb-false}
use Rattle.acdm_journal.proofs.Sofar.{sofar-entry, none-read, not-taken, ends-whole, ends-rest, unended}
use Rattle.acdm_journal.proofs.journal_reader.read_behind.Goals as goal

pub returns-in_default-clause-reads : goal.returns-in_default-clause-reads
returns-in_default-clause-reads g c =
    none-read (g.U.JournalUse.sigs c.args.to.now c.args.place.now) c.args.is_bounded g.before
    (g.U.JournalUse.has c.args.to.now c.args.place.now c.args.to.now c.args.place.now)
    (g.U.JournalUse.stops c.args.to.now c.args.place.now c.args.to.now c.args.place.now) c.args.reader.now
    c.requires.1.1.1.1.1.1.0 c.requires.1.1.1.1.1.0

pub returns-in-Err-clause-reads : goal.returns-in-Err-clause-reads
returns-in-Err-clause-reads g c =
    unended (g.U.JournalUse.sigs c.args.to.now c.args.place.now) c.args.is_bounded g.before
    (g.U.JournalUse.has c.args.to.now c.args.place.now c.loop-is_line.to c.loop-is_line.place)
    c.args.reader.now c.loop-is_line.reader c.next_line.new.reader c.loop-is_line.lines
    c.next_line.new.lines c.loop-is_line.entry c.loop-is_line.invariant.sofar
    c.loop-is_line.invariant.well c.next_line.ensures.soon
    (g.U.JournalUse.stops c.args.to.now c.args.place.now c.loop-is_line.to c.loop-is_line.place) _
    c.in-Err.ensures.takes c.requires.1.1.1.1.0

pub returns-then-is_empty-clause-reads : goal.returns-then-is_empty-clause-reads
returns-then-is_empty-clause-reads g c =
    let t = rw c.if-not-is_line.true at c.in-Ok-next_line.ensures.takes in
    ends-whole (g.U.JournalUse.sigs c.args.to.now c.args.place.now) c.args.is_bounded g.before
    (g.U.JournalUse.has c.args.to.now c.args.place.now c.loop-is_line.to c.loop-is_line.place)
    c.args.reader.now c.loop-is_line.reader c.next_line.new.reader c.loop-is_line.lines
    c.next_line.new.lines c.loop-is_line.entry c.loop-is_line.invariant.sofar
    c.loop-is_line.invariant.well c.next_line.ensures.soon
    (g.U.JournalUse.stops c.args.to.now c.args.place.now c.loop-is_line.to c.loop-is_line.place) t
    (ap length (sym c.as_slice.ensures) ∙ eqb-true _ _ (sym c.is_empty.ensures ∙ c.if-is_empty.true))

pub returns-then-not-is_line-clause-reads : goal.returns-then-not-is_line-clause-reads
returns-then-not-is_line-clause-reads g c =
    let t = rw c.if-not-is_line.true at c.in-Ok-next_line.ensures.takes in
    let more : length c.next_line.new.lines.line ≢ 0 =
    λ none. eqb-false (length c.as_slice.result.now) 0
    (sym c.is_empty.ensures ∙ c.if-is_empty.false) (ap length c.as_slice.ensures ∙ none) in
    let some : 0 < length c.next_line.new.lines.line = omega arith in
    ends-rest (g.U.JournalUse.sigs c.args.to.now c.args.place.now) c.args.is_bounded g.before
    (g.U.JournalUse.has c.args.to.now c.args.place.now c.loop-is_line.to c.loop-is_line.place)
    c.args.reader.now c.loop-is_line.reader c.next_line.new.reader c.loop-is_line.lines
    c.next_line.new.lines c.loop-is_line.entry c.loop-is_line.invariant.sofar
    c.loop-is_line.invariant.well c.next_line.ensures.soon
    (g.U.JournalUse.stops c.args.to.now c.args.place.now c.loop-is_line.to c.loop-is_line.place) t some
    (λ all. c.in-Ok-next_line.ensures.ended all (ap Ok c.if-not-is_line.true))

pub returns-in-Err-use_line-clause-reads : goal.returns-in-Err-use_line-clause-reads
returns-in-Err-use_line-clause-reads g c =
    let t = rw c.if-not-is_line.false at c.in-Ok-next_line.ensures.takes in
    let so_far = c.loop-is_line.invariant.sofar in
    not-taken (g.U.JournalUse.sigs c.args.to.now c.args.place.now) c.args.is_bounded g.before
    (g.U.JournalUse.has c.args.to.now c.args.place.now c.loop-is_line.to c.loop-is_line.place)
    c.args.reader.now c.loop-is_line.reader c.next_line.new.reader c.loop-is_line.lines
    c.next_line.new.lines c.loop-is_line.entry so_far
    c.loop-is_line.invariant.well c.next_line.ensures.soon
    (g.U.JournalUse.has c.args.to.now c.args.place.now c.use_line.new.to c.use_line.new.place)
    (g.U.JournalUse.stops c.args.to.now c.args.place.now c.use_line.new.to c.use_line.new.place)
    _ _ t c.as_slice-in-loop-is_line.ensures
    (c.in-Err-use_line.ensures c.args.to.now c.args.place.now (so_far.newer ++ g.before) so_far.taken
    so_far.legal so_far.count)

pub loop-is_line-preserved : goal.loop-is_line-preserved
loop-is_line-preserved g c =
    let t = rw c.if-not-is_line.false at c.in-Ok-next_line.ensures.takes in
    let so_far = c.loop-is_line.invariant.sofar in
    let lighter = c.in-Ok-next_line.ensures.progress (ap Ok c.if-not-is_line.false) in
    record {
      sofar = sofar-entry (g.U.JournalUse.sigs c.args.to.now c.args.place.now) c.args.is_bounded g.before
          (g.U.JournalUse.has c.args.to.now c.args.place.now c.loop-is_line.to c.loop-is_line.place)
          c.args.reader.now c.loop-is_line.reader c.next_line.new.reader c.loop-is_line.lines
          c.next_line.new.lines c.loop-is_line.entry so_far
          c.loop-is_line.invariant.well c.next_line.ensures.soon
          (g.U.JournalUse.has c.args.to.now c.args.place.now c.use_line.new.to c.use_line.new.place)
          _ t c.as_slice-in-loop-is_line.ensures
          (c.in-Ok-use_line.ensures c.args.to.now c.args.place.now (so_far.newer ++ g.before) so_far.taken
          so_far.legal so_far.count);
      same = t.same ∙ c.loop-is_line.invariant.same;
      well = t.well ∙ c.loop-is_line.invariant.well;
      bound = omega (arith, c.loop-is_line.invariant.bound, lighter);
    }
