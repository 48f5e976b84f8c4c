use Rattle.std.proofs.Common.{Some, ap, sym, ◌∙◌}
use Rattle.acdm_slots.specs.Loaded.{Loaded}
use Rattle.acdm_slots.proofs.PlaceLemmas.{board_after, some_fits, stored_as}
use Rattle.acdm_slots.proofs.slots.Slots.put.Goals as goal

pub invariant_of-self : goal.invariant_of-self
invariant_of-self c =
    let l : Loaded = record {
      sigs = c.self.inside.sigs;
      record_length = c.self.inside.record_length;
      programs = c.self.inside.programs.items;
    } in
    board_after l c.args.milestone c.args.kind (Some c.args.program) c.place_of.result
    c.place_of.ensures.value c.place_of.ensures.within c.self.invariant
    (some_fits l.sigs l.record_length c.args.program
    (c.requires.same ∙ sym (ap (λ (x : Loaded). x.sigs) c.self.view_is))
    (c.requires.long ∙ sym (ap (λ (x : Loaded). x.record_length) c.self.view_is)) c.sigs-own.ensures.accepted)

pub returns : goal.returns
returns c =
    let l : Loaded = record {
      sigs = c.self.inside.sigs;
      record_length = c.self.inside.record_length;
      programs = c.self.inside.programs.items;
    } in
    rw (← c.self.view_is)
    (stored_as l c.args.milestone c.args.kind (Some c.args.program) c.place_of.result
    c.place_of.ensures.value c.place_of.ensures.within c.self.invariant)
