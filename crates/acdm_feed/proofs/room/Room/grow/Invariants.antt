use Rattle.std.proofs.Common.{◌-◌, ◌≡◌, ◌≤◌, length, take}
use Rattle.acdm_feed.proofs.room.Room.grow.Given as goal

abbrev pub invariant-loop-ready : goal.invariant-loop-ready
invariant-loop-ready l = record {
  within : l.self-inside.len ≤ length l.self-inside.bytes.items;
  ready : l.ready ≡ length l.self-inside.bytes.items - l.self-inside.len;
  items : take l.self-inside.len l.self-inside.bytes.items ≡ l.fn.self.items;
}

abbrev pub decreases-loop-ready : goal.decreases-loop-ready
decreases-loop-ready l = l.count - l.ready
