use Rattle.std.proofs.Common.{◌≡◌, true, map, sym, subst}
use Rattle.std.proofs.lemmas.Result.{err_from_is_err_and}
use Rattle.clap.specs.Words.{App, HasMatchesOf}
use Rattle.clap.specs.Takes.{takes}
use Rattle.acdm_command_line.proofs.Words.{none_right, program_is_simple, some_right}
use Rattle.acdm_command_line.proofs.command_line.parse_by.Goals as goal

pub returns-in_err-matches-clause-refuses : goal.returns-in_err-matches-clause-refuses
returns-in_err-matches-clause-refuses c =
    let failed = c.from_residual in
    let p = err_from_is_err_and failed.result failed.ensures.1 in
    rw (p.1, p.2) (λ right.
    c.in_err-matches.ensures.passes
    (subst (λ (a : App). takes a (map (λ w. w.now) c.args.words.now) ≡ true)
    (sym c.requires.shape) right.taken))

pub returns-in-Some-clause-asks : goal.returns-in-Some-clause-asks
returns-in-Some-clause-asks c =
    let words = map (λ w. w.now) c.args.words.now in
    let has = subst (λ (a : App). HasMatchesOf a words c.in_ok-matches.matches)
    c.requires.shape c.in_ok-matches.ensures.ok.2 in
    some_right words _ c.in_ok-subcommand.field-0 c.in-Some.subcommand _ (has program_is_simple).1
    c.in_ok-subcommand.ensures c.in-Some.is c.tables_of-tables.ensures

pub returns-clause-refuses : goal.returns-clause-refuses
returns-clause-refuses c = λ right.
    let words = map (λ w. w.now) c.args.words.now in
    let has = subst (λ (a : App). HasMatchesOf a words c.in_ok-matches.matches)
    c.requires.shape c.in_ok-matches.ensures.ok.2 in
    absurd (none_right words _ c.in_ok-subcommand.field-0 (has program_is_simple).1 c.in_ok-subcommand.ensures
    c.in_default.is right)
