use Rattle.std.proofs.Common.{◌++◌, ap, ◌∙◌}
use Rattle.std.specs.List.{flat_map}
use Rattle.std.proofs.lemmas.Result.{err_from_is_err_and}
use Rattle.acdm_wire.proofs.Writing.{wrote-both, piece-part, piece-whole}
use Rattle.acdm_serving.specs.Partners.{session_text}
use Rattle.acdm_serving.proofs.partners.tell_sessions.Goals as goal

pub returns-in_err-write_whole : goal.returns-in_err-write_whole
returns-in_err-write_whole g c =
    let piece = c.as_slice.ensures ∙ c.session_line-line.ensures in
    let left = ap (flat_map (λ e. session_text e.number e.calls e.end e.torn))
    c.in-Some.ensures.cases.0 in
    let s = c.in-Some.session.now in
    let p = err_from_is_err_and c.from_residual.result c.from_residual.ensures.1 in
    rw (p.1, p.2)
    (piece-part _ _ _ c.loop-session.invariant.done
    (flat_map (λ e. session_text e.number e.calls e.end e.torn) c.loop-session.rest.now)
    (session_text s.number s.calls s.end s.torn)
    (flat_map (λ e. session_text e.number e.calls e.end e.torn) c.in-Some.more.now) _ _
    c.loop-session.invariant.wrote c.loop-session.invariant.whole left
    (rw piece at c.in_err-write_whole.ensures))

pub loop-session-preserved : goal.loop-session-preserved
loop-session-preserved g c =
    let piece = c.as_slice.ensures ∙ c.session_line-line.ensures in
    let left = ap (flat_map (λ e. session_text e.number e.calls e.end e.torn))
    c.in-Some.ensures.cases.0 in
    let s = c.in-Some.session.now in
    record {
      done = c.loop-session.invariant.done ++ session_text s.number s.calls s.end s.torn;
      wrote = wrote-both _ _ _ c.loop-session.invariant.done _ c.loop-session.invariant.wrote
          (rw piece at c.in_ok-write_whole.ensures);
      whole = piece-whole c.loop-session.invariant.done
          (flat_map (λ e. session_text e.number e.calls e.end e.torn) c.loop-session.rest.now)
          (session_text s.number s.calls s.end s.torn)
          (flat_map (λ e. session_text e.number e.calls e.end e.torn) c.in-Some.more.now) _
          c.loop-session.invariant.whole left;
    }
