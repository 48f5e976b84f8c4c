use Rattle.std.proofs.Common.{◌∷◌, sym, subst}
use Rattle.acdm_journal.proofs.journal_reader.use_line.Goals as goal

pub returns-in-Ok-take : goal.returns-in-Ok-take
returns-in-Ok-take g c = λ first at J has legal count.
    let n = c.in-Ok.ensures first at J has legal count in (
      _,
      n.continues,
      subst (λ e. g.U.JournalUse.has first at c.take.new.self c.take.new.place (e ∷ J)) (sym n.entry_is)
          (c.in-Ok-take.ensures first at J has n),
    )
