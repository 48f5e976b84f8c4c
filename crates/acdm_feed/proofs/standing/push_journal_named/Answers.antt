use Rattle.std.proofs.Common.{◌++◌, ap, ◌∙◌}
use Rattle.std.proofs.lemmas.Result.{on_ok_weaker}
use Rattle.acdm_feed.specs.Resumed.{journal_tokens}
use Rattle.acdm_feed.proofs.Heading.{journal_pieces}
use Rattle.acdm_feed.proofs.standing.push_journal_named.Goals as goal

pub returns-in-Ok : goal.returns-in-Ok
returns-in-Ok c =
    on_ok_weaker c.end.result (λ is.
    journal_pieces c.args.next c.args.room c.args.name.now c.args.text.now.items c.push_journal_object.new.line.before _ _
    (c.push_journal_object.ensures.before ∙ c.new-line.ensures.before ∙ ap (λ v. v.items) c.replace.ensures.value)
    (c.in-Ok.ensures.adds
    ∙ ap (λ l. l ++ journal_tokens c.args.name.now c.args.next c.args.room) c.new-line.ensures.tokens) is) c.end.ensures.ends
