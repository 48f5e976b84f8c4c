use Rattle.std.proofs.Common.{◌≡◌, ◌∷◌, ◌++◌, [], false, ap, append-nil, append_assoc, rules, sym, ◌∙◌}
use Rattle.acdm_displays.proofs.Viewing.{kept_one}
use Rattle.acdm_displays.proofs.sharing.those_who_stay.Goals as goal

pub loop-preserved : goal.loop-preserved
loop-preserved c =
    let rest = c.loop.invariant.split.0 in
    let v = c.in-Some.viewer in
    let split : c.args.list.items ≡ (c.pop.new.self.items ++ v ∷ []) ++ rest =
    c.loop.invariant.split.1 ∙ ap (λ l. l ++ rest) c.in-Some.ensures.items in
    let sent : c.stays.new.viewer.log ++ c.stays.new.viewer.waiting ≡ c.in-Some.viewer.log ++ c.in-Some.viewer.waiting =
    search rules in
    let flushed : c.stays.new.viewer.waits ≡ false = search rules in
    record {
      split = (v ∷ rest, split ∙ append_assoc c.pop.new.self.items (v ∷ []) rest);
      kept = kept_one c.args.list.items c.pop.new.self.items rest c.loop.kept.items c.push.new.self.items v
          c.stays.new.viewer [] split c.stays.ensures.start flushed (sent ∙ sym (append-nil (c.in-Some.viewer.log ++ c.in-Some.viewer.waiting))) c.loop.invariant.kept c.in_ok-push.ensures.items;
    }
