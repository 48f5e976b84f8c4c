use Rattle.std.proofs.Common.{◌≡◌, ◌++◌, ℕ, List, ap, sym, length, ◌∙◌}
use Rattle.std.specs.Prelude.{reverse}
use Rattle.std.proofs.lemmas.List.{length-reverse}
use Rattle.acdm_feed.specs.Resumed.{journal_text}
use Rattle.acdm_displays.proofs.Written.{entry_told, line_of_none, line_of_some}
use Rattle.acdm_displays.proofs.telling.begin_journal.Goals as goal

pub returns-then-next-eq0-clause-begins : goal.returns-then-next-eq0-clause-begins
returns-then-next-eq0-clause-begins c before =
    let K = reverse c.args.watch.now.seen in
    let room = c.args.teller.now.room in
    let count : c.len-next.result ≡ length K =
    ◌∙◌ {A = ℕ} c.len-next.ensures (sym (length-reverse c.args.watch.now.seen)) in
    entry_told room c.args.watch.now.seen c.args.teller.now.known before _ c.requires.knows
    (ap (λ l. before ++ l) (◌∙◌ {A = List ℕ} c.requires.empty
    (sym (line_of_none (length K) room K (sym count ∙ c.if-next-eq0.true)))))

pub returns-clause-begins : goal.returns-clause-begins
returns-clause-begins c before =
    let K = reverse c.args.watch.now.seen in
    let room = c.args.teller.now.room in
    let count : c.len-next.result ≡ length K =
    ◌∙◌ {A = ℕ} c.len-next.ensures (sym (length-reverse c.args.watch.now.seen)) in
    entry_told room c.args.watch.now.seen c.args.teller.now.known before _ c.requires.knows
    (ap (λ l. before ++ l) (◌∙◌ {A = List ℕ}
    (c.in_ok-push_journal.ensures K c.requires.knows) (◌∙◌ {A = List ℕ}
    (ap (λ t. t ++ journal_text c.len-next.result room K) c.requires.empty) (◌∙◌ {A = List ℕ}
    (ap (λ n. journal_text n room K) count)
    (sym (line_of_some (length K) room K (λ none. c.if-next-eq0.false (count ∙ none))))))))
