use Rattle.std.proofs.Common.{◌≡◌, ℕ, List, ◌∷◌, ◌++◌, take, sym, ap, subst, ◌∙◌}
use Rattle.acdm_lines.proofs.Feeds.{FeedAt, feed_found, feed_missing}
use Rattle.acdm_sessions.specs.Stream.{kept}
use Rattle.acdm_sessions.proofs.next.take_whole.Goals as goal

pub returns-in-Some-clause-taken : goal.returns-in-Some-clause-taken
returns-in-Some-clause-taken c =
    let window = c.args.lines.now.window in
    let f : FeedAt window c.in-Some.end =
    feed_found window c.in-Some.end (sym c.in-Some.ensures.place) c.in-Some.ensures.inside in
    let first : List ℕ = take c.in-Some.end c.as_slice.result.now in
    let same_bytes : first ≡ take c.in-Some.end window =
    ap (λ l. take c.in-Some.end l) c.as_slice.ensures.bytes in
    let from_none : c.add.new.self ≡ kept first = rw c.clear.ensures at c.add.ensures in
    let added : c.add.new.self ≡ kept (take c.in-Some.end window) =
    subst (λ l. c.add.new.self ≡ kept l) same_bytes from_none in
    λ same. (
      take c.in-Some.end window,
      f.before,
      f.split ∙ ap (λ l. take c.in-Some.end window ++ 10 ∷ l) (sym c.consume.ensures),
      added,
    )

pub returns-in-None-clause-held : goal.returns-in-None-clause-held
returns-in-None-clause-held c =
    λ same. feed_missing c.args.lines.now.window (sym c.in-None.ensures.place)
