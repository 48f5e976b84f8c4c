use Rattle.std.proofs.Common.{◌≡◌, Some, ap, sym, subst, ◌∙◌}
use Rattle.bpf_helpers.specs.Same.{same_sigs}
use Rattle.bpf_helpers.proofs.SameSigs.{is_same_sigs}
use Rattle.bpf_regstate.specs.Lengths.{same_length}
use Rattle.acdm_slots.specs.declared.error.SlotError.TheVariants.{OtherLength, OtherSignatures}
use Rattle.acdm_slots.specs.Loaded.{Loaded, load_error}
use Rattle.acdm_slots.proofs.PlaceLemmas.{other_length, other_sigs}
use Rattle.acdm_slots.proofs.slots.Slots.load.Goals as goal

pub returns-then-not-is-clause-told : goal.returns-then-not-is-clause-told
returns-then-not-is-clause-told c =
    let l : Loaded = record {
      sigs = c.self.inside.sigs;
      record_length = c.self.inside.record_length;
      programs = c.self.inside.programs.items;
    } in
    subst (λ (x : Loaded). load_error x c.args.program ≡ Some OtherLength) c.self.view_is
    (other_length l c.args.program
    (ap (λ r. same_length r l.record_length) (sym c.record_length.ensures)
    ∙ sym c.is.ensures.value ∙ c.if-not-is.true))

pub returns-then-not-is_same-clause-told : goal.returns-then-not-is_same-clause-told
returns-then-not-is_same-clause-told c =
    let l : Loaded = record {
      sigs = c.self.inside.sigs;
      record_length = c.self.inside.record_length;
      programs = c.self.inside.programs.items;
    } in
    subst (λ (x : Loaded). load_error x c.args.program ≡ Some OtherSignatures) c.self.view_is
    (other_sigs l c.args.program
    (ap (λ r. same_length r l.record_length) (sym c.record_length.ensures)
    ∙ sym c.is.ensures.value ∙ c.if-not-is.false)
    (ap (λ s. same_sigs s l.sigs) (sym c.sigs.ensures.value)
    ∙ sym (is_same_sigs c.is_same.result c.sigs.result.now l.sigs c.is_same.ensures)
    ∙ c.if-not-is_same.true))
