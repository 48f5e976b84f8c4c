use Rattle.std.proofs.Common.{ℕ, List, subst}
use Rattle.acdm_board.specs.Desk.{DeskView}
use Rattle.acdm_following.specs.Comes.{BringsText}
use Rattle.acdm_following.specs.Heads.{head_view}
use Rattle.acdm_following.proofs.Coming.{brings_all}
use Rattle.acdm_following.proofs.connection.follow_one.Goals as goal

pub returns : goal.returns
returns g c =
    let before = c.args.desk.now in
    let after = c.follow_entries.new.desk in
    let old = c.hear_head.new.source in
    let new = c.follow_entries.new.source in
    let later = c.hear_head.new.hearing.pending in
    let why = c.follow_entries.result in
    let brings =
    subst (λ (n : List ℕ). BringsText n before after old new later why) c.as_bytes-name.ensures.value
    (subst (λ (d : DeskView). BringsText c.as_bytes-name.result.now d after old new later why)
    c.compare.ensures.same c.follow_entries.ensures) in
    brings_all (head_view c.in-Ok-hear_head.head) before after old new later why c.in-Ok-hear_head.ensures.hears
    c.in-Ok-compare.ensures.fits.0 c.in-Ok-compare.ensures.fits.1 brings
