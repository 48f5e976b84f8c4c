use Rattle.std.proofs.Common.{ap, ◌∙◌, ◌++◌}
use Rattle.acdm_journal.specs.Text.{head_words, stated_in}
use Rattle.acdm_journal.specs.Spaced.{spaced}
use Rattle.acdm_journal.proofs.Pieces.{entry_pieces}
use Rattle.acdm_journal.proofs.entry_text.push_line.Goals as goal

pub returns-clause-adds : goal.returns-clause-adds
returns-clause-adds c =
    c.in_ok-push-2.ensures.adds
    ∙ entry_pieces c.args.entry.now _ _ _
    (c.in_ok-push_head.ensures.adds ∙ ap (λ l. l ++ spaced (head_words (stated_in c.args.entry.now)))
    (c.in_ok-push.ensures.adds ∙ ap (λ l. l ++ c.as_bytes.result.now) c.requires.none
    ∙ c.as_bytes.ensures.value ∙ c.format.ensures.text))
    (rw c.as_slice.ensures at c.in_ok-push_answers.ensures.adds)
    c.in_ok-push_command.ensures.adds
