use Rattle.std.proofs.Common.{◌≡◌, map, take, Some}
use Rattle.acdm_commands.specs.Partners.{role_in}
use Rattle.acdm_commands.proofs.addresses.listen.Given as goal

abbrev pub invariant-loop-word : goal.invariant-loop-word
invariant-loop-word g l = record {
  roles : map role_in (map (λ w. w.now) (take l.word-index l.words))
      ≡ map (λ p. Some p.role) l.partners.items;
}
