use Rattle.std.proofs.Common.{◌≡◌, ◌∷◌, [], ◌++◌, ◌+◌, ℕ, List, length, take, sym, subst, ◌∙◌, ap}
use Rattle.std.proofs.Common.{arith, rules, length-append}
use Rattle.acdm_step.specs.declared.entry.Entry.{Entry}
use Rattle.acdm_row.specs.Views.{PassView, entries_at, AreBelow, AreOf, AreRising}
use Rattle.acdm_row.proofs.Own.{below_push, entries_grown, of_caller_push, rising_push, same_legal}
use Rattle.acdm_row.proofs.publisher.Publisher.enter.Goals as goal

pub invariant_of-pass-2 : goal.invariant_of-pass-2
invariant_of-pass-2 c =
    let e : Entry = c.args.entry in
    let journal = c.self.inside.front.entries in
    let entries : c.learn.new.self.entries ≡ journal ++ e ∷ [] = search rules in
    let grown : length c.learn.new.self.entries ≡ length journal + 1 =
    omega (arith, ap length entries, length-append journal (e ∷ [])) in
    let items : c.push_reserved.new.self.items
    ≡ c.pass.inside.own.items ++ c.len-number.result ∷ [] = search rules in
    let row : c.learn.new.self.row ≡ c.args.self.now.row = search rules in
    let all : c.learn.new.self.entries ≡ c.args.self.now.entries ++ e ∷ [] = search rules in
    let counted : c.len-number.result ≡ length journal = search rules in
    let begins : c.pass.inside.front.entries ≡ take (length c.pass.inside.front.entries)
    (journal ++ e ∷ []) = search rules in
    let own : entries_at c.learn.new.self.entries c.push_reserved.new.self.items
    ≡ entries_at c.pass.inside.front.entries c.pass.inside.own.items ++ e ∷ [] =
    (λ i. entries_at (entries i) ((items ∙ (λ j. c.pass.inside.own.items ++ counted j ∷ [])) i))
    ∙ entries_grown c.pass.inside.front.entries journal e c.pass.inside.own.items
    c.pass.invariant.below (search rules) begins in
    record {
      session_given = c.pass.invariant.session_given;
      few_sessions = c.pass.invariant.few_sessions;
      below = subst (λ (ks : List ℕ). AreBelow (length c.learn.new.self.entries) ks) (sym items)
          (below_push (length c.pass.inside.front.entries) (length c.learn.new.self.entries)
          c.pass.inside.own.items c.len-number.result c.pass.invariant.below (search rules)
          (search rules));
      rising = subst (λ (ks : List ℕ). AreRising ks) (sym items)
          (rising_push (length c.pass.inside.front.entries) c.pass.inside.own.items
          c.len-number.result c.pass.invariant.below c.pass.invariant.rising (search rules));
      of_caller = subst (λ (es : List Entry). AreOf c.pass.inside.session c.pass.inside.role es)
          (sym own)
          (of_caller_push c.pass.inside.session c.pass.inside.role
          (entries_at c.pass.inside.front.entries c.pass.inside.own.items) e
          c.pass.invariant.of_caller
          (c.requires.session ∙ sym (ap (λ (p : PassView). p.session) c.pass.view_is))
          (c.requires.role ∙ sym (ap (λ (p : PassView). p.role) c.pass.view_is)));
      legal = same_legal _ _ _ _ row all c.requires.legal;
    }

pub returns-clause-own : goal.returns-clause-own
returns-clause-own c =
    let e : Entry = c.args.entry in
    let xs = c.pass.inside.front.entries in
    let journal = c.self.inside.front.entries in
    let entries : c.learn.new.self.entries ≡ journal ++ e ∷ [] = search rules in
    let items : c.push_reserved.new.self.items ≡ c.pass.inside.own.items
    ++ length journal ∷ [] = search rules in
    let begins : xs ≡ take (length xs) (journal ++ e ∷ []) = search rules in
    let grown = entries_grown xs journal e c.pass.inside.own.items c.pass.invariant.below (search
    rules) begins in
    (λ i. entries_at (entries i) (items i)) ∙ grown ∙ (λ i. (c.pass.view_is i).own ++ e ∷ [])
