-- What was done for a line that is another.
use Rattle.std.proofs.Common.{◌≡◌, ℕ, List, sym, subst}
use Rattle.bpf_helpers.specs.Promise.{Promise}
use Rattle.acdm_command_line.specs.declared.command_line.Subcommand.{Subcommand}
use Rattle.acdm_lines.specs.Counted.{SinkView, SourceView}
use Rattle.acdm_commands.specs.Completed.{Does}

pub done_as : {R W E : Type 0} (sigs : List (ℕ × Promise)) (l k : Subcommand) (read later : SourceView R)
    (written more : SinkView W) (status : ℕ) (errors last : SinkView E) → l ≡ k
    → Does sigs k read later written more status errors last
    → Does sigs l read later written more status errors last
done_as sigs l k read later written more status errors last same =
    subst (λ it. Does sigs it read later written more status errors last) (sym same)
