use Rattle.std.proofs.Common.{length, ap, ◌∙◌}
use Rattle.acdm_board.specs.Desk.{DeskView, row_of}
use Rattle.acdm_sessions.proofs.Seats.{amount_there, parts_any, parts_there}
use Rattle.acdm_sessions.proofs.sessions.open.Goals as goal

pub show-requires : goal.show-requires
show-requires g c = c.in-Ok-pass.ensures.row

pub add-requires : goal.add-requires
add-requires g c = parts_any _ _ _ _ c.open-book.ensures.parts c.requires.parts c.requires.all

pub seated-requires-clause-row : goal.seated-requires-clause-row
seated-requires-clause-row g c =
    ap (λ (d : DeskView). row_of d) c.show.ensures.same ∙ c.requires.row

pub seated-requires-clause-few : goal.seated-requires-clause-few
seated-requires-clause-few g c = c.requires.few

pub seated-requires-clause-parts : goal.seated-requires-clause-parts
seated-requires-clause-parts g c =
    parts_there _ _ _ _ _ c.add.ensures.parts c.open-book.ensures.parts c.requires.parts
    c.requires.all

pub returns-clause-len : goal.returns-clause-len
returns-clause-len g c = c.in-Ok-seated.ensures.len

pub returns-clause-seats : goal.returns-clause-seats
returns-clause-seats g c = c.in-Ok-seated.ensures.seats

pub returns-clause-starts : goal.returns-clause-starts
returns-clause-starts g c = c.in-Ok-seated.ensures.starts

pub returns-clause-parts : goal.returns-clause-parts
returns-clause-parts g c =
    c.in-Ok-seated.ensures.parts ∙ c.add.ensures.parts ∙ c.open-book.ensures.parts

pub returns-clause-amount : goal.returns-clause-amount
returns-clause-amount g c =
    amount_there _ _ _ _ _ c.in-Ok-seated.ensures.amount c.add.ensures.amount
    c.open-book.ensures.amount c.len.ensures
    ∙ ap (λ (d : DeskView). length d.history) c.show.ensures.same

pub returns-clause-first : goal.returns-clause-first
returns-clause-first g c = (
  c.show.ensures.caller.row ∙ c.in-Ok-pass.ensures.row ∙ c.requires.row,
  c.in-Ok-show.ensures.seen,
)
