use Rattle.acdm_judging.proofs.auditing.finding_in.Goals as goal

pub returns-in-Err-Faulty : goal.returns-in-Err-Faulty
returns-in-Err-Faulty g c =
    (rw (c.in-Err-Faulty.field-0-is, c.in_ok-sigs.ensures) at c.in-Err-Faulty.ensures.audits).0

pub returns-in-Err-Read : goal.returns-in-Err-Read
returns-in-Err-Read g c =
    rw (c.in-Err-Read.field-0-is, c.in_ok-sigs.ensures) at c.in-Err-Read.ensures.audits
