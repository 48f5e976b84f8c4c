use Rattle.std.proofs.Common.{ap, sym, subst, ◌∙◌}
use Rattle.std.specs.List.{flat_map}
use Rattle.std.proofs.lemmas.Result.{err_from_is_err_and}
use Rattle.acdm_wire.specs.Replies.{next_text, list_text}
use Rattle.acdm_wire.specs.Writes.{Writes}
use Rattle.acdm_wire.proofs.Writing.{wrote-front, wrote-as, writes-both}
use Rattle.acdm_wire.proofs.reply.write_items.Goals as goal

pub returns-in_err-write_whole : goal.returns-in_err-write_whole
returns-in_err-write_whole g c =
    let text = g.T.ListItem.item_text in
    let first = c.as_slice.ensures ∙ c.put_first.ensures in
    let p = err_from_is_err_and c.from_residual.result c.from_residual.ensures.1 in
    rw (p.1, p.2)
    (wrote-as _ _ _ _ _ (ap (list_text text) (sym c.in-Some.ensures.cases.0))
    (wrote-front _ _ (text c.in-Some.first.now) (flat_map (next_text text) c.in-Some.more.now) _
    (rw first at c.in_err-write_whole.ensures)))

pub returns : goal.returns
returns g c =
    let text = g.T.ListItem.item_text in
    let first = c.as_slice.ensures ∙ c.put_first.ensures in
    subst
    (λ t. Writes c.args.writer.now c.write_more.new.writer t c.write_more.result)
    (ap (list_text text) (sym c.in-Some.ensures.cases.0))
    (writes-both _ _ _ (text c.in-Some.first.now)
    (flat_map (next_text text) c.in-Some.more.now) c.write_more.result
    (rw first at c.in_ok-write_whole.ensures) c.write_more.ensures)
