use Rattle.std.proofs.Common.{sym, ◌∙◌}
use Rattle.acdm_sessions.proofs.Passes.{froms, shown}
use Rattle.acdm_sessions.proofs.sessions.left_by.Goals as goal

pub returns-clause-shown : goal.returns-clause-shown
returns-clause-shown g c =
    let caller = c.args.one.caller in
    shown g.J.Naming.start c.args.desk.now c.args.one.number c.args.one.role caller.calls
    c.holds-torn.result caller.pass c.holds-torn.new.pass (caller.of_row ∙ sym c.requires.row)
    (caller.of_session ∙ c.args.one.same_number) (caller.of_role ∙ c.args.one.same_role)
    caller.own (froms _ _ caller.since) c.holds-torn.ensures.same.1 c.holds-torn.ensures.begins c.holds-torn.ensures.longer
    c.own_len-own.ensures.rising c.own_len-own.ensures.below c.own_len-own.ensures.own
    c.own_len-own.ensures.of_caller
