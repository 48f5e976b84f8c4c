use Rattle.std.proofs.Common.{◌≡◌, ◌++◌, ◌∷◌, [], rules, ap, ◌∙◌}
use Rattle.std.specs.Prelude.{reverse}
use Rattle.acdm_step.specs.History.{replay}
use Rattle.acdm_feed.proofs.Later.{one_later, passes_one}
use Rattle.acdm_feed.proofs.telling.pass_next.Goals as goal

pub returns-clause-passes : goal.returns-clause-passes
returns-clause-passes c =
    let sigs = c.take_next.new.self.row.sigs in
    let seen = c.args.watch.now.seen in
    let e = c.in-Some.entry.now in
    let took : c.take_next.new.self.seen ≡ seen ++ e ∷ [] = search rules in
    let later = ap (replay sigs) (one_later seen c.take_next.new.self.seen e took) in
    passes_one c.args.watch.now c.take_next.new.self e c.args.known.now c.follow.new.self took
    (λ k. c.in_ok-follow.ensures sigs (reverse seen) (c.board.ensures.replays ∙ later) k)
