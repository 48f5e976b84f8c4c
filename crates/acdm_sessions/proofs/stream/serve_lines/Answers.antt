use Rattle.std.proofs.Common.{◌<◌, ◌≢◌, length, true, Ok, Err, refl, sym, ap, ◌∙◌, arith, inl, inr}
use Rattle.std.proofs.lemmas.Bool.{eqb-true, eqb-false}
use Rattle.std.proofs.lemmas.Result.{err_from_is_err_and}
use Rattle.acdm_sessions.proofs.Announcing.{tells_none, tells_on, tells_same}
use Rattle.acdm_sessions.proofs.Running.{sofar-begins, sofar-line, sofar-ends, sofar-rest}
use Rattle.acdm_sessions.proofs.Running.{sofar-part, sofar-same}
use Rattle.acdm_sessions.proofs.Running.{part-line, part-rest, flush-same, flush-last}
use Rattle.acdm_sessions.proofs.Running.{fails_so, fails_writing}
use Rattle.acdm_lines.proofs.Reading.{input-from_not_line_feed, faults-more}
use Rattle.acdm_lines.specs.Counted.{faults_after}
use Rattle.acdm_sessions.specs.Stream.{serving_by}
use Rattle.acdm_sessions.proofs.stream.serve_lines.Goals as goal

pub loop-lines-init : goal.loop-lines-init
loop-lines-init g c = record {
  sofar = rw (c.in-Ok.ensures.window, c.in-Ok.ensures.reads)
      (sofar-begins g.A.Answerer.may _ _ _);
  same_reader = refl;
  same_writer = refl;
  read_well = refl;
  wrote_well = refl;
  told = λ is. tells_none;
}

pub loop-lines-preserved : goal.loop-lines-preserved
loop-lines-preserved g c =
    let t = rw c.in-LineFeed.is at c.in_ok-next_line.ensures.takes in
    let answered = rw c.as_slice.ensures at c.in_ok-serve_line.ensures.line in
    let so_far = sofar-same g.A.Answerer.may _ _ _ _ _ _ _ _ _ c.next_line.ensures.log
    c.loop-lines.invariant.sofar in
    record {
      sofar = sofar-line g.A.Answerer.may c.args.reader.now c.loop-lines.reader
          c.next_line.new.reader c.loop-lines.lines c.next_line.new.lines
          c.next_line.new.writer c.serve_line.new.writer _ _ _ so_far _ t answered;
      same_reader = t.same ∙ c.loop-lines.invariant.same_reader;
      same_writer = answered.same ∙ c.next_line.ensures.first
          ∙ c.loop-lines.invariant.same_writer;
      read_well = t.well ∙ c.loop-lines.invariant.read_well;
      wrote_well = answered.well ∙ c.in_ok-next_line.ensures.well
          ∙ c.loop-lines.invariant.wrote_well;
      told = λ is. tells_on (tells_same (c.loop-lines.invariant.told is) c.next_line.ensures.told)
          (c.serve_line.ensures.told is);
    }

pub returns-in_err-next_line-clause-lines : goal.returns-in_err-next_line-clause-lines
returns-in_err-next_line-clause-lines g c =
    let before = c.loop-lines.invariant in
    let next = c.in_err-next_line.ensures in
    let so_far = sofar-same g.A.Answerer.may _ _ _ _ _ _ _ _ _ c.next_line.ensures.log before.sofar in
    let p = err_from_is_err_and c.from_residual.result c.from_residual.ensures.1 in
    rw (p.1, p.2)
    (fails_so (serving_by g.A.Answerer.may) c.args.reader.now c.next_line.new.reader
    c.args.writer.now c.next_line.new.writer c.args.who.now c.loop-lines.who _
    (c.next_line.ensures.first ∙ before.same_writer) next.no_memory
    (λ same. (
      (next.read same).same ∙ before.same_reader,
      record {
        read = sofar-part g.A.Answerer.may c.args.reader.now c.loop-lines.reader
            c.next_line.new.reader c.loop-lines.lines c.next_line.new.lines
            c.next_line.new.writer c.next_line.new.writer _ _ _ so_far _ (next.read same)
            before.read_well c.requires.reads;
        read_alone = next.read_alone same ∙ before.wrote_well;
        quiet = next.quiet_fault same;
      },
    ))
    (λ same. (
      ap (λ r. r.first) (next.unread same) ∙ before.same_reader,
      record {
        write = next.write same ∙ ap (faults_after true) before.wrote_well
            ∙ faults-more c.args.writer.now.faults c.requires.writes;
        write_alone = ap (λ r. r.faults) (next.unread same) ∙ before.read_well;
        written_in_part = inr (flush-same g.A.Answerer.may _ _ _ _ _ _ _ _ _ (next.unread same)
            (next.held same) so_far);
      },
    )))

pub returns-in_err-serve_line-clause-lines : goal.returns-in_err-serve_line-clause-lines
returns-in_err-serve_line-clause-lines g c =
    let before = c.loop-lines.invariant in
    let t = rw c.in-LineFeed.is at c.in_ok-next_line.ensures.takes in
    let failed = rw c.as_slice.ensures at c.in_err-serve_line.ensures.line in
    let so_far = sofar-same g.A.Answerer.may _ _ _ _ _ _ _ _ _ c.next_line.ensures.log before.sofar in
    let failure = c.from_residual-in_err-serve_line in
    let p = err_from_is_err_and failure.result failure.ensures.1 in
    rw (p.1, p.2)
    (fails_writing (serving_by g.A.Answerer.may) c.args.reader.now c.next_line.new.reader
    c.args.writer.now c.serve_line.new.writer c.args.who.now c.serve_line.new.who _ failed.kind
    (t.same ∙ before.same_reader)
    (failed.same ∙ c.next_line.ensures.first ∙ before.same_writer)
    (record {
      write = failed.fault
          ∙ ap (faults_after true) (c.in_ok-next_line.ensures.well ∙ before.wrote_well)
          ∙ faults-more c.args.writer.now.faults c.requires.writes;
      write_alone = t.well ∙ before.read_well;
      written_in_part = inl (part-line g.A.Answerer.may c.args.reader.now c.loop-lines.reader
          c.next_line.new.reader c.loop-lines.lines c.next_line.new.lines
          c.next_line.new.writer c.serve_line.new.writer _ _ _ so_far _ _ t failed);
    }))

pub returns-then-is_empty-clause-lines : goal.returns-then-is_empty-clause-lines
returns-then-is_empty-clause-lines g c =
    let before = c.loop-lines.invariant in
    let ended = input-from_not_line_feed _ c.in_default-2.not-LineFeed in
    let t = rw ended at c.in_ok-next_line.ensures.takes in
    let empty = eqb-true _ _ (sym c.is_empty.ensures ∙ c.if-is_empty.true) in
    let so_far = sofar-same g.A.Answerer.may _ _ _ _ _ _ _ _ _ c.next_line.ensures.log before.sofar in
    record {
      same_reader = t.same ∙ before.same_reader;
      same_writer = c.next_line.ensures.first ∙ before.same_writer;
      ends = record {
        output = sofar-ends g.A.Answerer.may c.args.reader.now c.loop-lines.reader
            c.next_line.new.reader c.loop-lines.lines c.next_line.new.lines
            c.next_line.new.writer c.next_line.new.writer _ _ _ so_far t
            (ap length (sym c.as_slice-2.ensures) ∙ empty);
        read_well = t.well ∙ before.read_well;
        wrote_well = c.in_ok-next_line.ensures.well ∙ before.wrote_well;
        flushed = c.in_ok-next_line.ensures.quiet_end (ap (λ e. Ok e) ended);
      };
    }

pub returns-in_err-serve_line-2-clause-lines : goal.returns-in_err-serve_line-2-clause-lines
returns-in_err-serve_line-2-clause-lines g c =
    let before = c.loop-lines.invariant in
    let ended = input-from_not_line_feed _ c.in_default-2.not-LineFeed in
    let t = rw ended at c.in_ok-next_line.ensures.takes in
    let more : length c.next_line.new.lines.line ≢ 0 =
    λ none. eqb-false (length c.as_slice-2.result.now) 0
    (sym c.is_empty.ensures ∙ c.if-is_empty.false) (ap length c.as_slice-2.ensures ∙ none) in
    let some : 0 < length c.next_line.new.lines.line = omega arith in
    let failed = rw c.as_slice-3.ensures at c.in_err-serve_line-2.ensures.line in
    let so_far = sofar-same g.A.Answerer.may _ _ _ _ _ _ _ _ _ c.next_line.ensures.log before.sofar in
    let failure = c.from_residual-in_err-serve_line-2 in
    let p = err_from_is_err_and failure.result failure.ensures.1 in
    rw (p.1, p.2)
    (fails_writing (serving_by g.A.Answerer.may) c.args.reader.now c.next_line.new.reader
    c.args.writer.now c.serve_line-2.new.writer c.args.who.now c.serve_line-2.new.who _ failed.kind
    (t.same ∙ before.same_reader)
    (failed.same ∙ c.next_line.ensures.first ∙ before.same_writer)
    (record {
      write = failed.fault
          ∙ ap (faults_after true) (c.in_ok-next_line.ensures.well ∙ before.wrote_well)
          ∙ faults-more c.args.writer.now.faults c.requires.writes;
      write_alone = t.well ∙ before.read_well;
      written_in_part = inl (part-rest g.A.Answerer.may c.args.reader.now c.loop-lines.reader
          c.next_line.new.reader c.loop-lines.lines c.next_line.new.lines
          c.next_line.new.writer c.serve_line-2.new.writer _ _ _ so_far _ _ t some failed);
    }))

pub returns-in_err-let_go-clause-lines : goal.returns-in_err-let_go-clause-lines
returns-in_err-let_go-clause-lines g c =
    let before = c.loop-lines.invariant in
    let ended = input-from_not_line_feed _ c.in_default-2.not-LineFeed in
    let t = rw ended at c.in_ok-next_line.ensures.takes in
    let more : length c.next_line.new.lines.line ≢ 0 =
    λ none. eqb-false (length c.as_slice-2.result.now) 0
    (sym c.is_empty.ensures ∙ c.if-is_empty.false) (ap length c.as_slice-2.ensures ∙ none) in
    let some : 0 < length c.next_line.new.lines.line = omega arith in
    let answered = rw c.as_slice-3.ensures at c.in_ok-serve_line-2.ensures.line in
    let so_far = sofar-same g.A.Answerer.may _ _ _ _ _ _ _ _ _ c.next_line.ensures.log before.sofar in
    let all = sofar-rest g.A.Answerer.may c.args.reader.now c.loop-lines.reader
    c.next_line.new.reader c.loop-lines.lines c.next_line.new.lines
    c.next_line.new.writer c.serve_line-2.new.writer _ _ _ so_far _ t some
    answered in
    let kind = c.in_err-let_go.ensures.kind in
    let failure = c.from_residual-in_err-let_go in
    let p = err_from_is_err_and failure.result failure.ensures.1 in
    rw (p.1, p.2)
    (fails_writing (serving_by g.A.Answerer.may) c.args.reader.now c.next_line.new.reader
    c.args.writer.now c.let_go.new.writer c.args.who.now c.serve_line-2.new.who _ kind
    (t.same ∙ before.same_reader)
    (c.let_go.ensures.first ∙ answered.same ∙ c.next_line.ensures.first ∙ before.same_writer)
    (record {
      write = c.in_err-let_go.ensures.fault (ap (λ e. Err e) kind)
          ∙ ap (faults_after true)
          (answered.well ∙ c.in_ok-next_line.ensures.well ∙ before.wrote_well)
          ∙ faults-more c.args.writer.now.faults c.requires.writes;
      write_alone = t.well ∙ before.read_well;
      written_in_part = rw c.let_go.ensures.log
          (inr (flush-last g.A.Answerer.may _ _ _ _ _ _ _ all));
    }))

pub returns-clause-lines : goal.returns-clause-lines
returns-clause-lines g c =
    let before = c.loop-lines.invariant in
    let ended = input-from_not_line_feed _ c.in_default-2.not-LineFeed in
    let t = rw ended at c.in_ok-next_line.ensures.takes in
    let more : length c.next_line.new.lines.line ≢ 0 =
    λ none. eqb-false (length c.as_slice-2.result.now) 0
    (sym c.is_empty.ensures ∙ c.if-is_empty.false) (ap length c.as_slice-2.ensures ∙ none) in
    let some : 0 < length c.next_line.new.lines.line = omega arith in
    let answered = rw c.as_slice-3.ensures at c.in_ok-serve_line-2.ensures.line in
    let so_far = sofar-same g.A.Answerer.may _ _ _ _ _ _ _ _ _ c.next_line.ensures.log before.sofar in
    record {
      same_reader = t.same ∙ before.same_reader;
      same_writer = c.let_go.ensures.first ∙ answered.same ∙ c.next_line.ensures.first
          ∙ before.same_writer;
      ends = record {
        output = rw c.let_go.ensures.log
            (sofar-rest g.A.Answerer.may c.args.reader.now c.loop-lines.reader
            c.next_line.new.reader c.loop-lines.lines c.next_line.new.lines
            c.next_line.new.writer c.serve_line-2.new.writer _ _ _ so_far _ t some answered);
        read_well = t.well ∙ before.read_well;
        wrote_well = c.in_ok-let_go.ensures.well ∙ answered.well
            ∙ c.in_ok-next_line.ensures.well ∙ before.wrote_well;
        flushed = c.in_ok-let_go.ensures.gone;
      };
    }

-- ---- of which entries the writer was told

pub returns-in_err-next_line-clause-told : goal.returns-in_err-next_line-clause-told
returns-in_err-next_line-clause-told g c = λ is.
    tells_same (c.loop-lines.invariant.told is) c.next_line.ensures.told

pub returns-in_err-serve_line-clause-told : goal.returns-in_err-serve_line-clause-told
returns-in_err-serve_line-clause-told g c = λ is.
    tells_on (tells_same (c.loop-lines.invariant.told is) c.next_line.ensures.told) (c.serve_line.ensures.told is)

pub returns-then-is_empty-clause-told : goal.returns-then-is_empty-clause-told
returns-then-is_empty-clause-told g c = λ is.
    tells_same (c.loop-lines.invariant.told is) c.next_line.ensures.told

pub returns-in_err-serve_line-2-clause-told : goal.returns-in_err-serve_line-2-clause-told
returns-in_err-serve_line-2-clause-told g c = λ is.
    tells_on (tells_same (c.loop-lines.invariant.told is) c.next_line.ensures.told) (c.serve_line-2.ensures.told is)

pub returns-in_err-let_go-clause-told : goal.returns-in_err-let_go-clause-told
returns-in_err-let_go-clause-told g c = λ is.
    tells_same (tells_on (tells_same (c.loop-lines.invariant.told is) c.next_line.ensures.told)
    (c.serve_line-2.ensures.told is)) c.let_go.ensures.told

pub returns-clause-told : goal.returns-clause-told
returns-clause-told g c = λ is.
    tells_same (tells_on (tells_same (c.loop-lines.invariant.told is) c.next_line.ensures.told)
    (c.serve_line-2.ensures.told is)) c.let_go.ensures.told
