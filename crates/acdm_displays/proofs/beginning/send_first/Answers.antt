use Rattle.std.proofs.Common.{◌++◌, ap, subst, sym, ◌∙◌}
use Rattle.acdm_displays.proofs.beginning.send_first.Goals as goal

pub returns-clause-begins : goal.returns-clause-begins
returns-clause-begins g c room known =
    let first = c.in_ok-begin.ensures.begins room known c.args.writer.now.log in (
      first.0,
      first.1,
      first.2,
      subst (λ l. g.T.Telling.tells c.args.teller.now c.args.watch.now.seen first.0 l)
          (sym (c.in_ok-write_whole.ensures.takes
          ∙ ap (λ l. c.args.writer.now.log ++ l) c.as_slice.ensures.value)) first.3,
    )
