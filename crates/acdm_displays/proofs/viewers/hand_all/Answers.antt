use Rattle.std.proofs.Common.{◌≡◌, ◌∷◌, ◌++◌, [], ap, append_assoc, sym, ◌∙◌}
use Rattle.acdm_displays.proofs.Viewing.{kept_one, of_ok}
use Rattle.acdm_displays.proofs.viewers.hand_all.Goals as goal

pub loop-preserved : goal.loop-preserved
loop-preserved g c =
    let rest = c.loop.invariant.split.0 in
    let v = c.in-Some.viewer in
    let split : c.args.list.items ≡ (c.pop.new.self.items ++ v ∷ []) ++ rest =
    c.loop.invariant.split.1 ∙ ap (λ l. l ++ rest) c.in-Some.ensures.items in
    record {
      split = (v ∷ rest, split ∙ append_assoc c.pop.new.self.items (v ∷ []) rest);
      kept = kept_one c.args.list.items c.pop.new.self.items rest c.loop.kept.items c.push.new.self.items v
          c.hand.new.self c.args.text.now split c.hand.ensures.start (of_ok c.hand.result (sym c.is_err.ensures.value ∙ c.if-is_err.false) c.hand.ensures.flushed)
          (of_ok c.hand.result (sym c.is_err.ensures.value ∙ c.if-is_err.false) c.hand.ensures.handed) c.loop.invariant.kept c.in_ok-push.ensures.items;
    }

pub loop-preserved-then-is_err : goal.loop-preserved-then-is_err
loop-preserved-then-is_err g c =
    let rest = c.loop.invariant.split.0 in
    let v = c.in-Some.viewer in
    let split : c.args.list.items ≡ (c.pop.new.self.items ++ v ∷ []) ++ rest =
    c.loop.invariant.split.1 ∙ ap (λ l. l ++ rest) c.in-Some.ensures.items in
    record {
      split = (v ∷ rest, split ∙ append_assoc c.pop.new.self.items (v ∷ []) rest);
      kept = c.loop.invariant.kept;
    }
