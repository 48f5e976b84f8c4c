use Rattle.std.proofs.Common.{◌++◌, ap, ◌∙◌}
use Rattle.std.specs.List.{flat_map}
use Rattle.std.proofs.lemmas.Result.{err_from_is_err_and}
use Rattle.acdm_wire.specs.Replies.{next_text}
use Rattle.acdm_wire.proofs.Writing.{wrote-both, piece-part, piece-whole}
use Rattle.acdm_wire.proofs.reply.write_more.Goals as goal

pub returns-in_err-write_whole : goal.returns-in_err-write_whole
returns-in_err-write_whole g c =
    let next = next_text g.T.ListItem.item_text in
    let whole = rw c.put_next.ensures at c.push_more-rest.ensures.whole in
    let left = ap (flat_map next) c.in-Some.ensures.cases.0 ∙ whole in
    let p = err_from_is_err_and c.from_residual.result c.from_residual.ensures.1 in
    rw (p.1, p.2)
    (piece-part c.args.writer.now c.loop-item.writer c.write_whole.new.writer
    c.loop-item.invariant.done (flat_map next c.loop-item.rest.now)
    c.push_more-rest.new.self (flat_map next c.push_more-rest.result.now)
    (flat_map next c.args.items.now) _
    c.loop-item.invariant.wrote c.loop-item.invariant.whole left
    (rw c.as_slice.ensures at c.in_err-write_whole.ensures))

pub loop-item-preserved : goal.loop-item-preserved
loop-item-preserved g c =
    let next = next_text g.T.ListItem.item_text in
    let whole = rw c.put_next.ensures at c.push_more-rest.ensures.whole in
    let left = ap (flat_map next) c.in-Some.ensures.cases.0 ∙ whole in
    record {
      done = c.loop-item.invariant.done ++ c.push_more-rest.new.self;
      wrote = wrote-both _ _ _ c.loop-item.invariant.done c.push_more-rest.new.self
          c.loop-item.invariant.wrote (rw c.as_slice.ensures at c.in_ok-write_whole.ensures);
      whole = piece-whole c.loop-item.invariant.done (flat_map next c.loop-item.rest.now)
          c.push_more-rest.new.self (flat_map next c.push_more-rest.result.now) _
          c.loop-item.invariant.whole left;
    }
