use Rattle.std.proofs.Common.{Some, set, ap, ◌∙◌}
use Rattle.std.proofs.lemmas.List.{map-set}
use Rattle.bpf_verifier.specs.Rows.{contents}
use Rattle.bpf_verifier.proofs.WaitingLemmas.{put_back}
use Rattle.bpf_verifier.proofs.waiting.Waiting.put.Goals as goal

pub returns : goal.returns
returns c =
    map-set contents c.self.inside.rows.items c.args.to (Some c.join_into.result)
    ∙ ap (λ l. set l c.args.to (Some c.join_into.result.value)) c.self.view_is
    ∙ put_back c.args.self.now c.take-known.new.self c.args.to _ c.args.state.value _
    c.take-known.ensures.gone c.take-known.ensures.taken c.join_into.ensures
