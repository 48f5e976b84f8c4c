use Rattle.std.proofs.Common.{◌≡◌, Some}
use Rattle.std.proofs.lemmas.List.Elements.{All-pop}
use Rattle.acdm_board.specs.Desk.{row_of}
use Rattle.session_tests.proofs.sessions.threads.last_pass.Goals as goal

pub returns : goal.returns
returns g c =
    (All-pop (λ e. e.pass.row ≡ row_of c.args.closed.now.desk) c.args.closed.now.sessions.items
    c.pop.new.self.items (Some c.in-Some.left) c.in-Some.ensures.items c.requires).1
