use Rattle.std.proofs.Common.{subst}
use Rattle.acdm_sessions.specs.Run.{serving_desk}
use Rattle.acdm_sessions.specs.Stream.{AnswersLines}
use Rattle.acdm_sessions.proofs.Serving.{serves_lines}
use Rattle.acdm_sessions.proofs.stream.run_announced.Goals as goal

pub returns-in-Ok-clause-lines : goal.returns-in-Ok-clause-lines
returns-in-Ok-clause-lines g c =
    subst (λ d. AnswersLines serving_desk c.args.reader.now c.serve_lines.new.reader c.args.writer.now
    c.serve_lines.new.writer d c.serve_lines.new.who c.serve_lines.result) c.keep_passes.ensures
    (serves_lines _ _ _ _ _ _ _ c.serve_lines.ensures.lines)
