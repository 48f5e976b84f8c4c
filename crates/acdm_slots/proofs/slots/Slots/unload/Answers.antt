use Rattle.std.proofs.Common.{None}
use Rattle.acdm_slots.specs.Loaded.{Loaded}
use Rattle.acdm_slots.proofs.PlaceLemmas.{board_after, none_fits, stored_as}
use Rattle.acdm_slots.proofs.slots.Slots.unload.Goals as goal

pub invariant_of-self : goal.invariant_of-self
invariant_of-self c =
    let l : Loaded = record {
      sigs = c.self.inside.sigs;
      record_length = c.self.inside.record_length;
      programs = c.self.inside.programs.items;
    } in
    board_after l c.args.milestone c.args.kind None c.place_of-place.result
    c.place_of-place.ensures.value c.place_of-place.ensures.within c.self.invariant
    (none_fits l.sigs l.record_length)

pub returns-clause-unloaded : goal.returns-clause-unloaded
returns-clause-unloaded c =
    let l : Loaded = record {
      sigs = c.self.inside.sigs;
      record_length = c.self.inside.record_length;
      programs = c.self.inside.programs.items;
    } in
    rw (← c.self.view_is)
    (stored_as l c.args.milestone c.args.kind None c.place_of-place.result
    c.place_of-place.ensures.value c.place_of-place.ensures.within c.self.invariant)
