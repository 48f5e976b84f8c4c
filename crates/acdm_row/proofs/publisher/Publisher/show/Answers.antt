use Rattle.std.proofs.Common.{◌≡◌, ◌≤◌, List, length, take, sym, subst, ◌∙◌, rules}
use Rattle.acdm_step.specs.declared.entry.Entry.{Entry}
use Rattle.acdm_row.specs.Views.{entries_at, AreOf}
use Rattle.acdm_row.proofs.Own.{below_more, entries_shown, same_legal}
use Rattle.acdm_row.proofs.publisher.Publisher.show.Goals as goal

pub invariant_of-pass-2 : goal.invariant_of-pass-2
invariant_of-pass-2 c =
    let xs = c.pass.inside.front.entries in
    let ys = c.learn.new.self.entries in
    let ks = c.pass.inside.own.items in
    let entries : ys ≡ c.self.inside.front.entries = search rules in
    let begins : xs ≡ take (length xs) ys = search rules in
    let longer : length xs ≤ length ys = search rules in
    let row : c.learn.new.self.row ≡ c.self.inside.front.row = search rules in
    let own : entries_at ys ks ≡ entries_at xs ks =
    entries_shown xs ys ks c.pass.invariant.below begins in
    record {
      session_given = c.pass.invariant.session_given;
      few_sessions = c.pass.invariant.few_sessions;
      below = below_more (length xs) (length ys) ks c.pass.invariant.below longer;
      rising = c.pass.invariant.rising;
      of_caller = subst (λ (es : List Entry). AreOf c.pass.inside.session c.pass.inside.role es)
          (sym own) c.pass.invariant.of_caller;
      legal = same_legal _ _ _ _ row entries c.self.invariant.2;
    }

pub returns-clause-own : goal.returns-clause-own
returns-clause-own c =
    let xs = c.pass.inside.front.entries in
    let ys = c.learn.new.self.entries in
    let ks = c.pass.inside.own.items in
    let begins : xs ≡ take (length xs) ys = search rules in (
      (λ i. (c.pass.view_is i).numbers),
      entries_shown xs ys ks c.pass.invariant.below begins ∙ (λ i. (c.pass.view_is i).own),
    )
