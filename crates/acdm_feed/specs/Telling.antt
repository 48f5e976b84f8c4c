-- What a watch has seen is told as it comes.
use Rattle.std.specs.Prelude.{ℕ, ◌≡◌, List, ◌++◌, reverse}
use Rattle.acdm_step.specs.declared.entry.Entry.{Entry}
use Rattle.acdm_watch.specs.Watching.{WatchView}
use Rattle.acdm_feed.specs.declared.known.Known.{Known}
use Rattle.acdm_feed.specs.Knowing.{Knows}
use Rattle.acdm_feed.specs.Resumed.{feed_from}

-- A watch has seen what it had seen, and maybe more; and where what is known was that of the board of
-- what it had seen, it is that of the board of what it has seen then.
pub record Passes (old new : WatchView) (known known_after : Known) : Type 0 where
  pub grows : (more : List Entry) × (new.seen ≡ old.seen ++ more)
  pub knows : Knows (reverse old.seen) known → Knows (reverse new.seen) known_after

-- The same, and where the feed from an entry on, of what it had seen, stood behind any bytes, that of
-- what it has seen then does.
pub record Tells (from : ℕ) (old new : WatchView) (known known_after : Known) (text text_after : List ℕ)
    : Type 0 where
  pub passes : Passes old new known known_after
  pub told : Knows (reverse old.seen) known → (before start : List ℕ)
      → before ++ text ≡ start ++ feed_from from (reverse old.seen)
      → before ++ text_after ≡ start ++ feed_from from (reverse new.seen)
