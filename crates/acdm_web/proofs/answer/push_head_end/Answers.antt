use Rattle.acdm_web.specs.Answers.{head_end}
use Rattle.acdm_web.proofs.Behind.{behind}
use Rattle.acdm_web.proofs.answer.push_head_end.Goals as goal

pub returns : goal.returns
unfolding head_end
returns c =
    behind c.args.text.now.items c.push_head_line.new.text.items c.push_head_line-6.new.text.items _ _
    c.in_ok-push_head_line.ensures
    (behind c.push_head_line.new.text.items c.push_head_line-2.new.text.items c.push_head_line-6.new.text.items _ _
    c.in_ok-push_head_line-2.ensures
    (behind c.push_head_line-2.new.text.items c.push_head_line-3.new.text.items c.push_head_line-6.new.text.items _ _
    c.in_ok-push_head_line-3.ensures
    (behind c.push_head_line-3.new.text.items c.push_head_line-4.new.text.items c.push_head_line-6.new.text.items _ _
    c.in_ok-push_head_line-4.ensures
    (behind c.push_head_line-4.new.text.items c.push_head_line-5.new.text.items c.push_head_line-6.new.text.items _ _
    c.in_ok-push_head_line-5.ensures
    c.in_ok-push_head_line-6.ensures))))
