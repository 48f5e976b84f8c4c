use Rattle.std.proofs.Common.{length, sym, ap, subst, ◌∙◌}
use Rattle.acdm_step.specs.History.{IsLegal}
use Rattle.acdm_board.specs.Desk.{DeskView}
use Rattle.acdm_sessions.proofs.locked.hold_full.Goals as goal

pub returns-clause-full : goal.returns-clause-full
returns-clause-full g c =
    let legal : IsLegal c.args.desk.now.sigs c.args.desk.now.history =
    subst (λ (d : DeskView). IsLegal d.sigs d.history) c.holds.ensures.same.0
    c.core-core.ensures.legal in
    record {
      before = c.args.desk.now.history;
      legal = subst (λ sigs. IsLegal sigs c.args.desk.now.history)
          (sym (ap (λ r. r.sigs) c.requires.row)) legal;
      begins = c.holds.ensures.begins c.if-not-holds.false;
      full = c.requires.full ∙ c.holds.ensures.cells
          ∙ sym (ap (λ r. length r.cells) c.requires.row);
    }
