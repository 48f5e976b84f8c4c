use Rattle.std.proofs.Common.{refl, ◌++◌}
use Rattle.acdm_keeping.proofs.Behind.{added_behind, none_of, on_any, part_of, written_behind}
use Rattle.acdm_keeping.proofs.keeper.gather_next.Goals as goal

pub returns-then-len-lt-BUFFER-clause-gathered : goal.returns-then-len-lt-BUFFER-clause-gathered
returns-then-len-lt-BUFFER-clause-gathered g c =
    added_behind c.args.sight.now.entries c.add_next.new.sight.entries c.args.writer.now.log _ _
    c.in_ok-is_there.ensures.added

pub returns-clause-gathered : goal.returns-clause-gathered
returns-clause-gathered g c =
    written_behind c.args.sight.now.entries c.add_next.new.sight.entries c.args.writer.now.log _ _ _ _
    c.in_ok-send.ensures.empty c.in_ok-send.ensures.sent c.in_ok-is_there.ensures.added

pub returns-in_err-send-clause-part : goal.returns-in_err-send-clause-part
returns-in_err-send-clause-part g c =
    let part = c.in_err-send.ensures.part in
    on_any _ _ (part_of _ _ _ (c.args.writer.now.log ++ c.add_next.new.text.items) _ part.0 c.in_ok-is_there.ensures.sees
    (added_behind c.args.sight.now.entries c.add_next.new.sight.entries c.args.writer.now.log _ _
    c.in_ok-is_there.ensures.added) part.1)

pub returns-in_err-is_there-clause-part : goal.returns-in_err-is_there-clause-part
returns-in_err-is_there-clause-part g c =
    on_any _ _ (none_of _ _ _ c.args.writer.now.log c.args.text.now.items c.in_err-is_there.ensures.sees refl)
