use Rattle.std.proofs.Common.{◌≡◌, ◌≤◌, ◌++◌, length}
use Rattle.std.specs.List.{flat_map}
use Rattle.acdm_wire.specs.Replies.{next_text}
use Rattle.acdm_wire.proofs.text.TextBuffer.push_more.Given as goal

abbrev pub invariant-loop-item : goal.invariant-loop-item
invariant-loop-item g l = record {
  whole : l.self ++ flat_map (next_text g.T.ListItem.item_text) l.rest
      ≡ l.initial.self ++ flat_map (next_text g.T.ListItem.item_text) l.items;
  fewer : length l.rest ≤ length l.items;
}

abbrev pub decreases-loop-item : goal.decreases-loop-item
decreases-loop-item g l = length l.rest
