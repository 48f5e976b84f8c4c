use Rattle.std.proofs.Common.{rules, sym, ◌∙◌}
use Rattle.acdm_keeping.proofs.Knowing.{receipt_gives}
use Rattle.acdm_keeping.proofs.lasting.SharedCount.copy.Goals as goal

pub split_pass-kept-requires : goal.split_pass-kept-requires
split_pass-kept-requires g c =
    let i = c.receipt.invariant in
    (search rules, (search rules, (i.0 ∙ sym c.self.invariant, receipt_gives _ _ _ i.2)))

pub split_pass-given-requires : goal.split_pass-given-requires
split_pass-given-requires g c =
    let i = c.receipt.invariant in
    let s = c.split_pass-kept.ensures.kept in
    (search rules, (search rules, (s.0.0 ∙ i.0 ∙ sym c.self.invariant, receipt_gives _ _ _ (s.1 ∙ i.2))))
