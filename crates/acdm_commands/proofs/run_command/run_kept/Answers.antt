use Rattle.std.proofs.Common.{inl, inr, rules}
use Rattle.acdm_commands.proofs.run_command.run_kept.Goals as goal

pub returns-in-Err-answer_kept : goal.returns-in-Err-answer_kept
returns-in-Err-answer_kept g c =
    inr (inr (record {
      opening = c.resume.new.desk;
      desk = c.answer_kept.new.desk;
      room = search rules;
      helpers = search rules;
      why = inl c.in-Err-answer_kept.ensures.stops;
    }))

pub returns : goal.returns
returns g c =
    inr (inr (record {
      opening = c.resume.new.desk;
      desk = c.answer_kept.new.desk;
      room = search rules;
      helpers = search rules;
      why = inr (c.in-Ok-answer_kept.ensures.serves, c.in-Err-save.ensures.fails);
    }))
