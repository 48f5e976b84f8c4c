use Rattle.std.proofs.Common.{◌++◌, ap, ◌∙◌}
use Rattle.std.proofs.lemmas.Result.{on_ok_weaker}
use Rattle.acdm_feed.specs.Told.{told_tokens}
use Rattle.acdm_feed.proofs.Pieces.{line_pieces}
use Rattle.acdm_feed.proofs.told.push_line.Goals as goal

pub returns-in-Ok-clause-told : goal.returns-in-Ok-clause-told
returns-in-Ok-clause-told c =
    on_ok_weaker c.end.result (λ is sigs J eq k.
    line_pieces J c.args.entry.now c.args.text.now.items c.push_object.new.line.before _ _
    (c.push_object.ensures.before ∙ c.new-line.ensures.before ∙ ap (λ v. v.items) c.replace.ensures.value)
    (c.in-Ok.ensures.adds sigs J eq k
    ∙ ap (λ l. l ++ told_tokens J c.args.entry.now) c.new-line.ensures.tokens) is) c.end.ensures.ends
