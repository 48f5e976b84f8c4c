use Rattle.std.proofs.Common.{refl}
use Rattle.acdm_judging.specs.declared.auditing.Finding.TheVariants.{Faulty, Legal}
use Rattle.acdm_journal.specs.declared.judge.Clause.TheVariants.{Unreadable}
use Rattle.acdm_telling.proofs.Gathered.{failed, gathered_fault, gathered_whole, in_part, in_write}
use Rattle.acdm_telling.proofs.Gathered.{told_found, told_rest}
use Rattle.acdm_telling.proofs.telling.tell_from.Goals as goal

pub returns-in-Whole : goal.returns-in-Whole
returns-in-Whole g c =
    let r = c.in-Whole.ensures.reads in
    told_found _ _ _ _ _ _ _ (Legal c.in-Whole.entries) _ (gathered_whole _ _ _ _ _ _ _ r.0 r.1)
    (rw c.as_slice-text.ensures.value at c.tell_found.ensures)

pub returns-in-Rest : goal.returns-in-Rest
returns-in-Rest g c =
    told_found _ _ _ _ _ _ _ (Faulty c.in-Rest.entry Unreadable) _
    (gathered_fault _ _ _ _ _ _ _ _ c.in-Rest.ensures.reads.0)
    (rw c.as_slice-text.ensures.value at c.tell_found-in-Rest.ensures)

pub returns-in-Faulty : goal.returns-in-Faulty
returns-in-Faulty g c =
    told_found _ _ _ _ _ _ _ (Faulty c.in-Faulty.entry c.in-Faulty.clause) _
    (gathered_fault _ _ _ _ _ _ _ _ c.in-Faulty.ensures.reads)
    (rw c.as_slice-text.ensures.value at c.tell_found-in-Faulty.ensures)

pub returns-in-Ok : goal.returns-in-Ok
returns-in-Ok g c =
    let r = c.in-Read.ensures.reads in
    told_rest _ _ _ _ _ _ _ (r.0, r.2 refl) r.1
    (rw c.as_slice-text.ensures.value at c.in-Ok.ensures.writes)

pub returns-in-Err : goal.returns-in-Err
returns-in-Err g c =
    let r = c.in-Read.ensures.reads in
    failed _ _ _ _ r.1.gathers _ _ r.0.legal
    (in_write _ _ _ _ (rw c.as_slice-text.ensures.value at c.in-Err.ensures.writes))

pub returns-in-Memory : goal.returns-in-Memory
returns-in-Memory g c =
    let r = c.in-Memory.ensures.reads in
    in_part _ _ _ _ r.2.gathers _ r.1
