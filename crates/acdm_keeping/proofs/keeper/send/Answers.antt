use Rattle.std.proofs.Common.{◌≡◌, ℕ, List, ◌++◌, take, drop, ap, sym, ◌∙◌, append_assoc, take-append-drop}
use Rattle.acdm_keeping.proofs.Behind.{on_any}
use Rattle.acdm_keeping.proofs.keeper.send.Goals as goal

pub returns-in_err-write_whole-clause-part : goal.returns-in_err-write_whole-clause-part
returns-in_err-write_whole-clause-part g c =
    let took = c.in_err-write_whole.ensures.takes.0 in
    let log = c.args.writer.now.log in
    let text = c.args.text.now.items in
    let written = took.took ∙ ap (λ l. log ++ take took.count l) c.as_slice.ensures.value in
    on_any _ ((x : List ℕ) × (log ++ text ≡ c.write_whole.new.writer.log ++ x)) (
      drop took.count text,
      ap (λ l. log ++ l) (sym (take-append-drop took.count text))
          ∙ sym (append_assoc log (take took.count text) (drop took.count text))
          ∙ ap (λ l. l ++ drop took.count text) (sym written),
    )
