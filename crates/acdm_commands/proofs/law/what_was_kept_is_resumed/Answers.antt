use Rattle.std.proofs.Common.{[], ◌++◌, ap, reverse, ◌∙◌}
use Rattle.std.proofs.lemmas.List.{reverse-append}
use Rattle.acdm_journal.proofs.Taken.{each_readable}
use Rattle.acdm_commands.proofs.law.what_was_kept_is_resumed.Goals as goal

pub returns : goal.returns
returns c = λ sigs seen later old new before left log log_after found during legal saves leaves is goes.
    let text = during.saves before saves in
    goes (reverse during.taken) (reverse seen) left (record {
      legal = legal;
      readable = each_readable sigs (reverse during.taken) [] (before ++ (new ++ during.rest)) legal text;
      newer = reverse during.behind.0;
      split = ap reverse during.behind.1 ∙ reverse-append seen during.behind.0;
    }) (during.crash before left saves leaves) is
