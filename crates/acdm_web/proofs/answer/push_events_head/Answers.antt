use Rattle.acdm_web.specs.Answers.{events_head}
use Rattle.acdm_web.proofs.Behind.{behind}
use Rattle.acdm_web.proofs.answer.push_events_head.Goals as goal

pub returns : goal.returns
unfolding events_head
returns c =
    behind c.args.text.now.items c.push_head_line.new.text.items c.push_head_end.new.text.items _ _
    c.in_ok-push_head_line.ensures
    (behind c.push_head_line.new.text.items c.push_head_line-2.new.text.items c.push_head_end.new.text.items _ _
    c.in_ok-push_head_line-2.ensures
    c.in_ok-push_head_end.ensures)
