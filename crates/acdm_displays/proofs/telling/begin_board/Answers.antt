use Rattle.std.proofs.Common.{◌≡◌, ◌++◌, ℕ, List, ap, refl, sym, length, ◌∙◌}
use Rattle.std.specs.Prelude.{reverse}
use Rattle.std.proofs.lemmas.List.{length-reverse}
use Rattle.acdm_feed.specs.Resumed.{board_text}
use Rattle.acdm_displays.proofs.Written.{board_told}
use Rattle.acdm_displays.proofs.telling.begin_board.Goals as goal

pub returns-clause-begins : goal.returns-clause-begins
returns-clause-begins c before =
    let seen = c.args.watch.now.seen in
    let sigs = c.args.watch.now.row.sigs in
    let room = c.args.teller.now.room in
    let count : c.len-entries.result ≡ length (reverse seen) =
    ◌∙◌ {A = ℕ} c.len-entries.ensures (sym (length-reverse seen)) in
    board_told room seen c.args.teller.now.known before c.push_board.new.text.items _ c.requires.knows
    (◌∙◌ {A = List ℕ}
    (c.in_ok-push_board.ensures.stands sigs (reverse seen) c.board.ensures.replays c.requires.knows count)
    (ap (λ t. t ++ board_text room (reverse seen)) c.requires.empty))
    refl
