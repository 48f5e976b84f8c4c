use Rattle.std.proofs.Common.{◌++◌, ap, ◌∙◌}
use Rattle.std.proofs.lemmas.Result.{on_ok_weaker}
use Rattle.acdm_feed.specs.Resumed.{board_tokens}
use Rattle.acdm_feed.proofs.Pieces.{standing_pieces}
use Rattle.acdm_feed.proofs.standing.push_board.Goals as goal

pub returns-in-Ok-clause-stands : goal.returns-in-Ok-clause-stands
returns-in-Ok-clause-stands c =
    on_ok_weaker c.end.result (λ is sigs J eq k n.
    standing_pieces c.args.room J c.args.text.now.items c.push_object.new.line.before _ _
    (c.push_object.ensures.before ∙ c.new-line.ensures.before ∙ ap (λ v. v.items) c.replace.ensures.value)
    (c.in-Ok.ensures.adds sigs J eq k n
    ∙ ap (λ l. l ++ board_tokens c.args.room J) c.new-line.ensures.tokens) is) c.end.ensures.ends
