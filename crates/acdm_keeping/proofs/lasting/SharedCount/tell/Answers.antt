use Rattle.std.proofs.Common.{[], ◌∷◌, rules, sym, ◌∙◌, arith}
use Rattle.acdm_keeping.proofs.Knowing.{keeper_gives, raises_as}
use Rattle.acdm_keeping.proofs.lasting.SharedCount.tell.Goals as goal

pub swap_as-requires : goal.swap_as-requires
swap_as-requires g c =
    let i = c.pass.invariant in (
      search rules,
      (
        search rules,
        (
          i.0 ∙ sym c.self.invariant,
          raises_as _ _ _ (c.count.result ∷ []) i.1
              (omega (arith, c.pass.view_is, c.requires, c.count.ensures)),
        ),
      ),
    )

pub split_pass-given-requires : goal.split_pass-given-requires
split_pass-given-requires g c =
    let i = c.pass.invariant in
    let s = c.swap_as.ensures in
    (search rules, (search rules, (s.cell.0 ∙ i.0 ∙ sym c.self.invariant, keeper_gives _ _ _ s.rule)))
