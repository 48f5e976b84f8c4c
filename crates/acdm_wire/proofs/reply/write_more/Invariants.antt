use Rattle.std.proofs.Common.{◌≡◌, ◌++◌, ℕ, List, length}
use Rattle.std.specs.List.{flat_map}
use Rattle.acdm_wire.specs.Replies.{next_text}
use Rattle.acdm_wire.specs.Writes.{Wrote}
use Rattle.acdm_wire.proofs.reply.write_more.Given as goal

abbrev pub invariant-loop-item : goal.invariant-loop-item
invariant-loop-item g l = record {
  done : List ℕ;
  wrote : Wrote l.initial.writer l.writer done;
  whole : done ++ flat_map (next_text g.T.ListItem.item_text) l.rest
      ≡ flat_map (next_text g.T.ListItem.item_text) l.items;
}

abbrev pub decreases-loop-item : goal.decreases-loop-item
decreases-loop-item g l = length l.rest
