use Rattle.std.proofs.Common.{sym, ◌∙◌, arith}
use Rattle.acdm_watch.proofs.Places.{are_cell, pair_more}
use Rattle.acdm_watch.proofs.sight.pair_at.Goals as goal

pub agree_at-requires-clause-cell : goal.agree_at-requires-clause-cell
agree_at-requires-clause-cell c = λ d.
    are_cell c.args.front.now.row.cells c.args.theirs.now.items c.requires.theirs c.args.at (omega
    (arith, c.requires.second)) d 0
    ∙ sym (are_cell c.args.front.now.row.cells c.args.ours.now.items c.requires.ours c.args.at
    (omega (arith, c.requires.first)) d 0)

pub returns-clause-same : goal.returns-clause-same
returns-clause-same c =
    pair_more c.args.front.now.row.cells c.args.ours.now.items c.args.theirs.now.items c.args.at
    c.requires.ours c.requires.theirs (omega (arith, c.requires.first)) (omega (
      arith,
      c.requires.second,
    ))
    c.agree_at.ensures.same c.requires.start
