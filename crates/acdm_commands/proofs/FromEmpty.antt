-- What a desk has answered that was empty at first.
use Rattle.std.proofs.Common.{◌≡◌, ℕ, List, [], Result, Err, subst}
use Rattle.bpf_helpers.specs.Promise.{Promise}
use Rattle.acdm_board.specs.Desk.{DeskView}
use Rattle.acdm_failures.specs.Failures.{failure_of}
use Rattle.acdm_lines.specs.Counted.{SinkView, SourceView}
use Rattle.acdm_lines.specs.declared.run_error.RunError.{RunError}
use Rattle.acdm_lines.specs.declared.run_error.RunError.TheVariants.{Memory, Read, Write}
use Rattle.acdm_sessions.specs.Run.{serving_desk}
use Rattle.acdm_sessions.specs.Stream.{AnswersLines}
use Rattle.acdm_commands.specs.Served.{ServesFromEmpty, Stops}

module _ {R W : Type 0} (sigs : List (ℕ × Promise)) (capacity : ℕ) (empty desk : DeskView)
    (r r' : SourceView R) (w w' : SinkView W) (none : empty.history ≡ [])
    (room : empty.capacity ≡ capacity) (own : empty.sigs ≡ sigs) where
  pub from_empty : (result : Result (Unit {0}) RunError)
      → AnswersLines serving_desk r r' w w' empty desk result
      → ServesFromEmpty sigs capacity desk r r' w w' result
  from_empty result h = record {
    cells = empty.cells;
    lines = subst (λ (d : DeskView). AnswersLines serving_desk r r' w w' d desk result)
        (λ i. record {
          history = none i;
          capacity = room i;
          sigs = own i;
          cells = empty.cells;
        }) h;
  }

  -- not all lines were answered
  pub stops_so : (error : RunError)
      → AnswersLines {T = Unit {0}} serving_desk r r' w w' empty desk (Err error)
      → Stops sigs capacity r r' w w' (failure_of error)
  stops_so Read h = (desk, from_empty (Err Read) h)
  stops_so Write h = (desk, from_empty (Err Write) h)
  stops_so Memory h = (h.ends.0, h.ends.1)
