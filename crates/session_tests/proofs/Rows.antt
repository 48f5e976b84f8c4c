-- What sessions leave, and the row of their desk.
use Rattle.std.proofs.Common.{◌≡◌, List, map, subst, arith}
use Rattle.std.specs.List.{All}
use Rattle.std.proofs.lemmas.List.{length-map, get_or-map}
use Rattle.acdm_board.specs.Desk.{DeskView, row_of}
use Rattle.acdm_sessions.specs.Sessions.{ServesSessions, SessionStart, SessionTold}

-- the pass of each session that was served looks at the row of the desk
pub are_of_row : {X : Type 0} (told : X → SessionTold) (opening closed : DeskView)
    (starts : List SessionStart) (xs : List X) → ServesSessions opening closed starts (map told xs)
    → All (λ x. (told x).left.pass.row ≡ row_of closed) xs
are_of_row told opening closed starts xs serves k d lt =
    subst (λ (t : SessionTold). t.left.pass.row ≡ row_of closed) (get_or-map told xs k d (told d) lt)
    (serves.shown k (told d) (omega (arith, lt, length-map xs told))).row
