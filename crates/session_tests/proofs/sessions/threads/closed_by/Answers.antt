use Rattle.acdm_sessions.specs.Sessions.{session_told}
use Rattle.session_tests.proofs.Rows.{are_of_row}
use Rattle.session_tests.proofs.sessions.threads.closed_by.Goals as goal

pub returns : goal.returns
returns g c =
    are_of_row (λ e. session_told e.number e.role e.calls e.end e.torn e.reader e.writer e.pass)
    c.args.desk c.in-Ok.closed.desk _ c.in-Ok.closed.sessions.items c.in-Ok.ensures.serves
