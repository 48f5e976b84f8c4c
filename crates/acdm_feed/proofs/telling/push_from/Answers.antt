use Rattle.std.proofs.Common.{ap, sym, ◌∙◌, ◌++◌, [], if◌then◌else◌}
use Rattle.std.proofs.lemmas.Bool.{le-ltb}
use Rattle.acdm_feed.specs.Told.{told}
use Rattle.acdm_feed.proofs.telling.push_from.Goals as goal

pub returns : goal.returns
returns c = λ sigs J eq k.
    c.in_ok-push_line.ensures.told sigs J eq k
    ∙ ap (λ b. c.args.text.now.items ++ (if b then [] else told J c.args.entry.now))
    (sym (le-ltb c.args.number c.args.from c.if-number-from.false))
