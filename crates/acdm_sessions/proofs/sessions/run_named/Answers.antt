use Rattle.std.proofs.Common.{◌+◌, length, map, reverse, take, sym, ap, subst, ◌∙◌}
use Rattle.std.specs.Prelude.{sum_by}
use Rattle.acdm_row.specs.Views.{RowView}
use Rattle.std.proofs.lemmas.List.{length-reverse}
use Rattle.std.specs.List.{All}
use Rattle.acdm_sessions.specs.Passes.{IsShown}
use Rattle.acdm_sessions.specs.Sessions.{EndsAs, HasServed, HaveServed, session_end, session_left}
use Rattle.acdm_sessions.specs.Sessions.{session_start, session_told}
use Rattle.acdm_sessions.proofs.Counting.{serves_sessions}
use Rattle.acdm_sessions.proofs.Seats.{each_as, each_seated, have_ended}
use denote.Exit.{no}
use denote.Param.Send.{param_send, arg_send}
use Rattle.acdm_sessions.proofs.Crossing.{served_send, work_send}
use Rattle.acdm_sessions.proofs.sessions.run_named.Goals as goal

pub new-requires-send-B : goal.new-requires-send-B
new-requires-send-B g c κs within = let k = c.type_bounds in
    param_send 0 _ (arg_send _ no _ (work_send _ _ _ _ _ _ _ _ _ _ _ _ _ _ k.send-R k.send-W k.send-C
    k.send-H k.sync-G k.sync-Rt))

pub run-served-requires-send-B : goal.run-served-requires-send-B
run-served-requires-send-B g c κs within = let k = c.type_bounds in
    param_send 0 _ (arg_send _ no _ (work_send _ _ _ _ _ _ _ _ _ _ _ _ _ _ k.send-R k.send-W k.send-C
    k.send-H k.sync-G k.sync-Rt))

pub new-requires-send-T : goal.new-requires-send-T
new-requires-send-T g c κs within = let k = c.type_bounds in
    param_send 1 _ (arg_send _ no _ (served_send _ _ _ _ _ _ _ _ _ k.send-R k.send-W k.send-C))

pub run-served-requires-send-T : goal.run-served-requires-send-T
run-served-requires-send-T g c κs within = let k = c.type_bounds in
    param_send 1 _ (arg_send _ no _ (served_send _ _ _ _ _ _ _ _ _ k.send-R k.send-W k.send-C))

pub returns-clause-serves : goal.returns-clause-serves
returns-clause-serves g c =
    let closed = c.close.result in
    let starts = map (λ s. session_start s.role s.reader s.writer (g.C.Clock.gives s.clock))
    c.args.sessions.items in
    let lefts = map (λ e. session_left e.end e.reader e.writer e.pass) closed.sessions.items in
    let first = c.in_ok-locked.ensures.first.1 in
    let seated : HaveServed g.J.Naming.desk_row starts lefts =
    each_seated (λ p t. HasServed g.J.Naming.desk_row p.0 p.1 t) (λ w. w.seat)
    (λ s. (
      s.number,
      session_start s.role s.reader s.writer (g.C.Clock.gives s.caller.clock),
    ))
    (λ y. session_left y.end y.reader y.writer y.caller.pass) c.filled-crew.result.jobs
    c.in_ok-locked.field-0.seats.items c.run-served.result.items _ _
    (each_as _ _ c.filled-crew.result.jobs c.run-served.result.items (λ w y h. h.1)
    c.run-served.ensures.gives)
    c.filled-crew.ensures.seats c.in_ok-locked.ensures.starts c.close.ensures.left in
    serves_sessions (λ s. session_start s.role s.reader s.writer (g.C.Clock.gives s.clock))
    (λ e. session_told e.number e.role e.calls e.end e.torn e.reader e.writer e.pass)
    c.args.desk closed.desk c.args.sessions.items closed.sessions.items
    (c.close.ensures.sum
    ∙ ap (λ n. n + sum_by (λ e. e.calls) closed.sessions.items) c.in_ok-locked.ensures.amount)
    (have_ended 1 _ _
    (each_seated (λ s t. EndsAs s.0 s.1 t) (λ w. w.seat) (λ s. (s.number, s.role))
    (λ y. session_end y.number y.role y.caller.calls y.end) c.filled-crew.result.jobs
    c.in_ok-locked.field-0.seats.items c.run-served.result.items _ _
    (each_as _ _ c.filled-crew.result.jobs c.run-served.result.items (λ w y h. h.0)
    c.run-served.ensures.gives)
    c.filled-crew.ensures.seats c.in_ok-locked.ensures.seats c.close.ensures.session_end))
    (subst (λ (row : RowView). HaveServed row starts lefts) (sym c.requires.row) seated)
    (sym first ∙ c.close.ensures.begins
    ∙ ap (λ n. take n (reverse closed.desk.history))
    (ap length first ∙ length-reverse c.args.desk.history))
    (subst (λ n. All (λ e. IsShown n closed.desk e.number e.role e.calls e.torn e.pass)
    closed.sessions.items) (sym c.requires.start) c.close.ensures.shown)

pub close-requires-clause-first : goal.close-requires-clause-first
close-requires-clause-first g c =
    let first = c.in_ok-locked.ensures.first in (
      first.0,
      ap length first.1 ∙ length-reverse c.args.desk.history
          ∙ sym c.in_ok-locked.ensures.amount,
    )
