use Rattle.std.proofs.Common.{◌≡◌, get_or, IfSome, sym, ap, ◌∙◌, subst, arith, ◌<◌, length}
use Rattle.std.proofs.lemmas.List.{get_or_read}
use Rattle.once_cell.specs.Once.{Agrees}
use Rattle.once_cell.specs.declared.race.note.Note.{Note}
use Rattle.acdm_row.specs.declared.published.Published.{Published}
use Rattle.acdm_watch.proofs.Places.{are_cell, same_more}
use Rattle.acdm_watch.proofs.sight.compare_at.Goals as goal

pub compare-requires : goal.compare-requires
compare-requires c =
    let ns = c.args.notes.now.items in
    let note = c.index_mut-note.result.now in
    let below : c.args.at < length ns = omega (arith, c.requires.notes) in
    let at : note ≡ get_or ns c.args.at note = get_or_read ns c.args.at note below
    c.index_mut-note.ensures.value note in
    c.recall-other.ensures.cell ∙ sym (are_cell c.args.pass.now.row.cells ns c.requires.cells
    c.args.at below note 0) ∙ ap (λ n. n.cell) (sym at)

pub returns-clause-same : goal.returns-clause-same
returns-clause-same c = λ same.
    let ns = c.args.notes.now.items in
    let note = c.index_mut-note.result.now in
    let other = c.recall-other.result in
    let below : c.args.at < length ns = omega (arith, c.requires.notes) in
    let at : note ≡ get_or ns c.args.at note = get_or_read ns c.args.at note below
    c.index_mut-note.ensures.value note in
    let met : IfSome other.known (Agrees (get_or ns c.args.at note).known) = subst (λ (n : Note
    Published). IfSome other.known (Agrees n.known)) at c.compare.ensures.1 in
    same_more c.args.pass.now.row.cells ns c.args.pass.now.seen c.args.at note other
    c.requires.cells below c.recall-other.ensures.known met same
