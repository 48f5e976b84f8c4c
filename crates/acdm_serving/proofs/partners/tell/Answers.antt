use Rattle.std.proofs.Common.{length, ap, ◌∙◌}
use Rattle.std.specs.List.{flat_map}
use Rattle.std.proofs.lemmas.Result.{err_from_is_err_and}
use Rattle.acdm_wire.proofs.Writing.{wrote-front, writes-both}
use Rattle.acdm_serving.specs.Partners.{closed_text, session_text}
use Rattle.acdm_serving.proofs.partners.tell.Goals as goal

pub returns-in_err-tell_sessions-clause-writes : goal.returns-in_err-tell_sessions-clause-writes
returns-in_err-tell_sessions-clause-writes g c =
    let p = err_from_is_err_and c.from_residual.result c.from_residual.ensures.1 in
    rw (p.1, p.2)
    (wrote-front _ _ (flat_map (λ e. session_text e.number e.calls e.end e.torn)
    c.args.closed.now.sessions.items) (closed_text (length c.args.closed.now.desk.history)) _
    (rw c.as_slice.ensures.value at c.in_err-tell_sessions.ensures))

pub returns-clause-writes : goal.returns-clause-writes
returns-clause-writes g c =
    let last = c.as_slice-2.ensures ∙ c.closed_line-line.ensures ∙ ap closed_text c.len.ensures in
    writes-both _ _ _ (flat_map (λ e. session_text e.number e.calls e.end e.torn)
    c.args.closed.now.sessions.items) (closed_text (length c.args.closed.now.desk.history))
    c.write_out.result (rw c.as_slice.ensures.value at c.in_ok-tell_sessions.ensures) (rw last at c.write_out.ensures.writes)
