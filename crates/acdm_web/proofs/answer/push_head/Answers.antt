use Rattle.acdm_web.specs.Answers.{head_of}
use Rattle.acdm_web.proofs.Behind.{behind}
use Rattle.acdm_web.proofs.answer.push_head.Goals as goal

pub returns : goal.returns
unfolding head_of
returns c =
    behind c.args.text.now.items c.push_status.new.text.items c.push_head_end.new.text.items _ _
    c.in_ok-push_status.ensures
    (behind c.push_status.new.text.items c.push_kind.new.text.items c.push_head_end.new.text.items _ _
    c.in_ok-push_kind.ensures
    (behind c.push_kind.new.text.items c.push_further.new.text.items c.push_head_end.new.text.items _ _
    c.in_ok-push_further.ensures
    (behind c.push_further.new.text.items c.push_length.new.text.items c.push_head_end.new.text.items _ _
    c.in_ok-push_length.ensures
    (behind c.push_length.new.text.items c.push_date.new.text.items c.push_head_end.new.text.items _ _
    c.in_ok-push_date.ensures
    c.in_ok-push_head_end.ensures))))
