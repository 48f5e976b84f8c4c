use Rattle.std.proofs.Common.{rules, sym, ◌∙◌, ap}
use Rattle.acdm_keeping.proofs.Knowing.{takes_in_as, compares_as}
use Rattle.acdm_keeping.proofs.lasting.SharedCount.compare.Goals as goal

pub join_pass-requires : goal.join_pass-requires
join_pass-requires g c =
    let i = c.pass.invariant in
    let j = c.receipt.invariant in
    (search rules, (search rules, ((i.0 ∙ sym c.self.invariant, j.0 ∙ sym i.0, j.1), takes_in_as _ _ _ _ _ i.1)))

pub load_as-requires : goal.load_as-requires
load_as-requires g c =
    let i = c.pass.invariant in
    let j = c.join_pass.ensures in
    (search rules, (search rules, (j.0.0 ∙ i.0 ∙ sym c.self.invariant, compares_as _ _ (ap (λ v. v.keeps) j.1 ∙ ap (λ v. v.keeps) i.1))))
