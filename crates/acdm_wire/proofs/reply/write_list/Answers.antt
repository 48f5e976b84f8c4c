use Rattle.std.proofs.Common.{[], ◌∷◌, ◌++◌, ◌∙◌}
use Rattle.std.proofs.lemmas.Result.{err_from_is_err_and}
use Rattle.acdm_wire.specs.Replies.{list_head, list_text}
use Rattle.acdm_wire.proofs.Writing.{wrote-front, wrote-back, writes-both}
use Rattle.acdm_wire.proofs.reply.write_list.Goals as goal

pub returns-in_err-write_whole : goal.returns-in_err-write_whole
returns-in_err-write_whole g c =
    let first = c.as_slice.ensures ∙ c.head.ensures in
    let p = err_from_is_err_and c.from_residual.result c.from_residual.ensures.1 in
    rw (p.1, p.2)
    (wrote-front _ _ (list_head c.args.word.now c.args.number) (list_text g.T.ListItem.item_text c.args.items.now ++ 10 ∷ []) _
    (rw first at c.in_err-write_whole.ensures))

pub returns-in_err-write_items : goal.returns-in_err-write_items
returns-in_err-write_items g c =
    let first = c.as_slice.ensures ∙ c.head.ensures in
    let items = list_text g.T.ListItem.item_text c.args.items.now in
    let result = c.from_residual-in_err-write_items.result in
    let p = err_from_is_err_and result c.from_residual-in_err-write_items.ensures.1 in
    rw (p.1, p.2)
    (wrote-back _ _ _ (list_head c.args.word.now c.args.number) (items ++ 10 ∷ []) _
    (rw first at c.in_ok-write_whole.ensures)
    (wrote-front _ _ items (10 ∷ []) _ c.in_err-write_items.ensures))

pub returns : goal.returns
returns g c =
    let first = c.as_slice.ensures ∙ c.head.ensures in
    let items = list_text g.T.ListItem.item_text c.args.items.now in
    writes-both _ _ _ (list_head c.args.word.now c.args.number) (items ++ 10 ∷ []) c.write_whole-2.result
    (rw first at c.in_ok-write_whole.ensures)
    (writes-both _ _ _ items (10 ∷ []) c.write_whole-2.result
    c.in_ok-write_items.ensures c.write_whole-2.ensures)
