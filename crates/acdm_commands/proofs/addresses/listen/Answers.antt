use Rattle.std.proofs.Common.{rules}
use Rattle.std.proofs.lemmas.Result.{err_from_is_err_and}
use Rattle.acdm_commands.proofs.Named.{fails_at}
use Rattle.acdm_commands.proofs.addresses.listen.Goals as goal

pub returns-in_err-add-clause-fails : goal.returns-in_err-add-clause-fails
returns-in_err-add-clause-fails g c =
    let p = err_from_is_err_and c.from_residual.result c.from_residual.ensures.1 in
    rw (p.1, p.2)
    (fails_at (λ p. p.role) (λ w. w.now) c.args.words.now c.loop-word.word-index _
    c.loop-word.partners.items _ (search rules) c.loop-word.invariant.roles
    c.in_err-add.ensures.fails)
