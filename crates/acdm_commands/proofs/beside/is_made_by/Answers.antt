use Rattle.std.proofs.Common.{ap, option_map}
use Rattle.acdm_commands.proofs.Refusing.{refused_at}
use Rattle.acdm_commands.proofs.beside.is_made_by.Goals as goal

pub returns-in-Ok-open-clause-refused : goal.returns-in-Ok-open-clause-refused
returns-in-Ok-open-clause-refused g c off =
    refused_at c.in-Some.path.now c.args.tables.now c.new.result c.gives.new.reader c.args.errors.now
    c.gives.new.errors (option_map (λ p. p.now) c.args.path) (ap (option_map (λ p. p.now)) c.in-Some.is)
    (ap (λ s. s.log) c.new.ensures, ap (λ s. s.faults) c.new.ensures, ap (λ s. s.ended) c.new.ensures)
    (c.gives.ensures.other off)
