use Rattle.std.proofs.Common.{length, ap, sym, ◌∙◌}
use Rattle.acdm_jobs.proofs.Each.{each_length}
use Rattle.acdm_jobs.proofs.jobs.Crew.run.Goals as goal

pub returns-clause-len : goal.returns-clause-len
returns-clause-len g c =
    let jobs = c.self.inside.jobs.items in
    c.run_in.result.ok.0
    ∙ sym (each_length g.B.Job.gives jobs c.run_in.result.items c.run_in.ensures)
    ∙ ap (λ w. length w.jobs) c.self.view_is
