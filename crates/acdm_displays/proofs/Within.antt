-- How far entries are shown.
use Rattle.std.proofs.Common.{◌≡◌, ◌≤◌, List, [], length, arith, subst, sym}
use Rattle.std.proofs.Common.{ℕ, false}
use Rattle.std.specs.Prelude.{IfSome, Option, Some, None, reverse}
use Rattle.acdm_lines.specs.Counted.{SinkView}
use Rattle.acdm_row.specs.Views.{RowView}
use Rattle.acdm_step.specs.History.{IsLegal}
use Rattle.acdm_watch.specs.Watching.{WatchView}
use Rattle.acdm_displays.specs.Displayed.{Took}
use Rattle.acdm_displays.specs.declared.following.Shown.{Shown}
use Rattle.acdm_keeping.specs.declared.reach.Extent.{Extent}
use Rattle.acdm_step.specs.declared.entry.Entry.{Entry}
use Rattle.acdm_displays.specs.Within.{IsAsKept, IsNoLess, IsWithin, StaysWithin}

-- where nothing was seen, no more was than is kept
pub nothing_within : (extent : Option Extent) (seen : List Entry) → seen ≡ [] → IsWithin extent seen
nothing_within None seen none = tt
nothing_within (Some extent) seen none =
    subst (λ l. length l ≤ extent.count) (sym none) (omega arith)

-- a later extent is there where the first one is
pub still_kept : {X : Type 0} (reach : Option X) (old new : Option Extent) → IsAsKept reach old
    → IsNoLess old new → IsAsKept reach new
still_kept None None None kept less = tt
still_kept (Some x) (Some old) (Some new) kept less = tt
still_kept None None (Some new) kept less = absurd less
still_kept None (Some old) new kept less = absurd kept
still_kept (Some x) None new kept less = absurd kept
still_kept (Some x) (Some old) None kept less = absurd less

-- where nothing was seen before, no more is seen than is kept
pub within_shown : (extent : Option Extent) (most : ℕ) (seen later : List Entry) → IfSome extent (λ r. most ≡ r.count)
    → seen ≡ [] → StaysWithin most seen later → IsWithin extent later
within_shown None most seen later is none stays = tt
within_shown (Some extent) most seen later is none stays =
    let few : length seen ≤ most = subst (λ l. length l ≤ most) (sym none) (omega arith) in
    subst (λ n. length later ≤ n) is (stays few)

-- what was shown, by what was seen and written
pub took : {W X : Type 0} (Says : List Entry → List ℕ → List ℕ → Type 0) (row : RowView) (reach : Option X)
    (before : List ℕ) (shown : Shown W) (watch : WatchView) (first extent : Option Extent)
    (writer : SinkView W) → shown.watch ≡ watch → shown.extent ≡ extent → shown.writer ≡ writer
    → watch.row ≡ row → IsLegal watch.row.sigs (reverse watch.seen) → Says watch.seen before writer.log
    → writer.waits ≡ false → IsAsKept reach first → IsNoLess first extent → IsWithin extent watch.seen
    → Took Says row reach before shown
took Says row reach before shown watch first extent writer w r s same legal text flushed kept less within =
    record {
      same = rw w same;
      legal = rw w (subst (λ (r : RowView). IsLegal r.sigs (reverse watch.seen)) same legal);
      text = rw (w, s) text;
      flushed = rw s flushed;
      kept = rw r (still_kept reach first extent kept less);
      within = rw (w, r) within;
    }
