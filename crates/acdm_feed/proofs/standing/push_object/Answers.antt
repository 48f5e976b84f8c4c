use Rattle.std.proofs.Common.{ap, ◌∙◌, ◌++◌}
use Rattle.acdm_feed.specs.Naming.{journal_name}
use Rattle.acdm_feed.specs.Resumed.{head_members}
use Rattle.acdm_feed.proofs.Heading.{object_of_two}
use Rattle.acdm_feed.proofs.standing.push_object.Goals as goal

pub returns-clause-adds : goal.returns-clause-adds
returns-clause-adds c sigs J eq k n =
    object_of_two _ _ _ _ _ _ _ _ _ c.in_ok-begin_object.ensures.adds
    (c.in_ok-push_head.ensures.adds
    ∙ ap (λ t. c.begin_object.new.self.tokens ++ t)
    (ap (λ name. head_members name c.args.entries c.args.room) (c.name.ensures J k)
    ∙ ap (λ m. head_members (journal_name J) m c.args.room) n))
    (c.in_ok-push_list.ensures.adds sigs J eq k) c.in_ok-end_object.ensures.adds
