-- What a sight keeps.
use Rattle.std.specs.Prelude.{◌≡◌, ◌≤◌, List, length, take}
use Rattle.once_cell.specs.declared.race.note.Note.{Note}
use Rattle.acdm_row.specs.declared.published.Published.{Published}
use Rattle.acdm_row.specs.Notes.{entries_of, AreNotes}
use Rattle.acdm_row.specs.Views.{FrontView}

-- each note knows its cell, and a front knows that the first of them go on from each other
pub record IsSight (front : FrontView) (notes : List (Note Published)) : Type 0 where
  pub are : AreNotes front.row.cells notes
  pub begins : front.entries ≡ take (length front.entries) (entries_of notes)
  pub shorter : length front.entries ≤ length notes
  pub room : length notes ≤ front.room
