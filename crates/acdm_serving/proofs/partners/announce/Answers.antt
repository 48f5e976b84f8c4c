use Rattle.std.proofs.Common.{rules, ◌++◌, [], ◌∷◌}
use Rattle.acdm_serving.proofs.Told.{announced_more, count_more, roles_more}
use Rattle.acdm_serving.proofs.partners.announce.Goals as goal

pub loop-listener-preserved : goal.loop-listener-preserved
loop-listener-preserved g c =
    let inv = c.loop-listener.invariant in
    let p = c.in-Some.listener.now in
    let address = c.in_ok-announce_one.ensures.0 in
    record {
      listeners = inv.listeners ++ (p.role, address) ∷ [];
      roles = roles_more (λ q. q.role) inv.listeners address p _ c.in-Some.more.now _ inv.roles
          c.in-Some.ensures.cases.0;
      wrote = announced_more _ _ _ inv.listeners c.loop-listener.number p.role address inv.count inv.wrote
          (search rules);
      count = count_more inv.listeners (p.role, address) c.loop-listener.number inv.count;
      few = search rules;
    }
