use Rattle.std.proofs.Common.{◌≡◌, ◌++◌, ap, ◌∙◌}
use Rattle.std.proofs.lemmas.Result.{IfOk-weaker}
use Rattle.acdm_journal.specs.Text.{entry_text, line_of, stated_in}
use Rattle.acdm_feed.proofs.Naming.{name_is, without_feed}
use Rattle.acdm_feed.proofs.name.journal_name.Goals as goal

pub returns : goal.returns
returns c =
    let e = c.args.entry.now in
    let is : c.as_slice.result.now ≡ line_of (stated_in e) =
    c.as_slice.ensures.value
    ∙ without_feed (line_of (stated_in e)) c.push_entry.new.text.items c.pop-line_feed.new.self.items _
    (c.in_ok-push_entry.ensures.text ∙ ap (λ l. l ++ entry_text e) c.new-line.ensures.items)
    c.push_entry.new.text.ok.0 c.pop-line_feed.ensures.rest in
    IfOk-weaker c.name_of_line.result _ _ (λ name digits. name_is e c.as_slice.result.now _ is digits) c.name_of_line.ensures
