use Rattle.std.proofs.Common.{None, set, ap, ◌∙◌}
use Rattle.std.proofs.lemmas.List.{map-set}
use Rattle.bpf_verifier.specs.Rows.{contents, rows_of}
use Rattle.bpf_verifier.proofs.waiting.Waiting.take.Goals as goal

pub returns-clause-gone : goal.returns-clause-gone
returns-clause-gone c =
    ap (λ o. rows_of (set c.self.inside.rows.items c.args.slot o)) c.take.ensures.after
    ∙ map-set contents c.self.inside.rows.items c.args.slot None
    ∙ ap (λ l. set l c.args.slot None) c.self.view_is
