use Rattle.std.proofs.Common.{◌≡◌, length, subst, refl}
use Rattle.acdm_row.specs.Views.{PassView, AreRising, AreBelow, AreOf, entries_at}
use Rattle.acdm_row.proofs.pass.Pass.own_len.Goals as goal

pub returns-clause-rising : goal.returns-clause-rising
returns-clause-rising c =
    subst (λ (p : PassView). AreRising p.numbers) c.self.view_is c.self.invariant.rising

pub returns-clause-below : goal.returns-clause-below
returns-clause-below c =
    subst (λ (p : PassView). AreBelow (length p.seen) p.numbers) c.self.view_is
    c.self.invariant.below

pub returns-clause-own : goal.returns-clause-own
returns-clause-own c =
    subst (λ (p : PassView). p.own ≡ entries_at p.seen p.numbers) c.self.view_is refl

pub returns-clause-of_caller : goal.returns-clause-of_caller
returns-clause-of_caller c =
    subst (λ (p : PassView). AreOf p.session p.role p.own) c.self.view_is
    c.self.invariant.of_caller
