use Rattle.std.proofs.Common.{◌++◌, refl, rules, ◌∙◌}
use Rattle.acdm_keeping.proofs.Behind.{all_behind, all_of, on_any, part_of}
use Rattle.acdm_keeping.proofs.keeper.send_all.Goals as goal

pub returns-clause-sent : goal.returns-clause-sent
returns-clause-sent g c =
    all_behind c.args.sight.now.entries c.gather_all.new.sight.entries _ _ c.gather_all.new.writer.log
    c.gather_all.new.text.items _ c.requires.empty (search rules) c.in_ok-gather_all.ensures.gathered

pub returns-in_err-send-clause-part : goal.returns-in_err-send-clause-part
returns-in_err-send-clause-part g c =
    let part = c.in_err-send.ensures.part in
    let seen = c.args.sight.now.entries in
    let later = c.gather_all.new.sight.entries in
    let text = c.gather_all.new.text.items in
    let log = c.gather_all.new.writer.log in
    on_any _ _ (part_of seen later _ (log ++ text) _ part.0 c.in_ok-gather_all.ensures.sees
    (all_behind seen later _ _ log text (log ++ text) c.requires.empty refl c.in_ok-gather_all.ensures.gathered) part.1)

pub returns-in_err-flush-clause-part : goal.returns-in_err-flush-clause-part
returns-in_err-flush-clause-part g c =
    on_any _ _ (all_of c.args.sight.now.entries c.gather_all.new.sight.entries _ _ c.in_ok-gather_all.ensures.sees
    (all_behind c.args.sight.now.entries c.gather_all.new.sight.entries _ _ c.gather_all.new.writer.log
    c.gather_all.new.text.items _ c.requires.empty (c.in_err-flush.ensures.same ∙ c.in_ok-send.ensures.sent)
    c.in_ok-gather_all.ensures.gathered))
