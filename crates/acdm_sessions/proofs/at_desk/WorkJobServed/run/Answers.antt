use Rattle.std.proofs.Common.{ap, refl, subst, ◌∙◌}
use Rattle.acdm_row.specs.Views.{PassView}
use Rattle.acdm_sessions.specs.Sessions.{SessionAnswers}
use Rattle.acdm_sessions.specs.Stream.{AnswersLines, serving_by}
use Rattle.acdm_sessions.proofs.Kept.{session_lines, session_number, session_role}
use Rattle.acdm_sessions.proofs.Seats.{ends_as, has_served}
use Rattle.acdm_sessions.proofs.at_desk.WorkJobServed.run.Goals as goal

pub invariant_of-result-2 : goal.invariant_of-result-2
invariant_of-result-2 g c =
    let seat = c.args.self.seat in
    let after = c.serve_lines-answered.new in
    let sigs = g.J.Naming.desk_row.sigs in
    let lines = c.serve_lines-answered.ensures.lines in
    record {
      same_number = session_number (λ a. g.C.Clock.gives a.caller.clock) (λ a. a.caller.pass)
          (λ a. a.caller.number) (λ a. a.caller.role) sigs seat.reader after.reader seat.writer after.writer _
          after.who c.serve_lines-answered.result lines ∙ seat.same_number;
      same_role = session_role (λ a. g.C.Clock.gives a.caller.clock) (λ a. a.caller.pass)
          (λ a. a.caller.number) (λ a. a.caller.role) sigs seat.reader after.reader seat.writer after.writer _
          after.who c.serve_lines-answered.result lines ∙ seat.same_role;
    }

pub returns : goal.returns
returns g c =
    let seat = c.args.self.seat in
    let after = c.serve_lines-answered.new in
    let row = g.J.Naming.desk_row in
    let gives = g.C.Clock.gives seat.caller.clock in
    let answered = c.serve_lines-answered.result in
    let lines = session_lines (λ a. g.C.Clock.gives a.caller.clock) (λ a. a.caller.pass)
    (λ a. a.caller.number) (λ a. a.caller.role) row.sigs seat.reader after.reader seat.writer after.writer _
    after.who answered c.serve_lines-answered.ensures.lines in
    rw c.end_of.ensures (
      ends_as seat.number seat.role after.who.caller.calls answered,
      has_served row seat.number seat.role gives seat.reader after.reader seat.writer after.writer
          after.who.caller.pass answered
          (subst (λ (p : PassView). AnswersLines (serving_by (SessionAnswers gives row.sigs)) seat.reader
          after.reader seat.writer after.writer p after.who.caller.pass answered) seat.new lines)
          seat.caller.pass.numbers (ap (λ (p : PassView). p.numbers) seat.new)
          (c.serve_lines-answered.ensures.told refl),
    )
