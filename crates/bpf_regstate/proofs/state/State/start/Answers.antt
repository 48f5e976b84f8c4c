use Rattle.std.proofs.Common.{refl, arith}
use Rattle.bpf_regstate.specs.Lengths.{bytes_in}
use Rattle.bpf_regstate.specs.States.{start_shape}
use Rattle.bpf_regstate.proofs.FewBytes.{few_bytes}
use Rattle.bpf_regstate.proofs.Marking.{none_marked}
use Rattle.bpf_regstate.proofs.StatesAreShapes.{start_is_shape}
use Rattle.bpf_regstate.proofs.state.State.start.Goals as goal

pub invariant_of-result : goal.invariant_of-result
unfolding start_shape
invariant_of-result c =
    rw (
      c.single.ensures.value,
      c.single-2.ensures.value,
      c.single-3.ensures.value,
      none_marked,
      c.new.ensures.items,
      c.bytes.ensures.value,
    )
    (start_is_shape (bytes_in c.args.record_length)
    (omega (arith, few_bytes c.args.record_length)))

pub returns : goal.returns
unfolding start_shape
returns c = rw (
  c.single.ensures.value,
  c.single-2.ensures.value,
  c.single-3.ensures.value,
  none_marked,
  c.new.ensures.items,
  c.bytes.ensures.value,
) refl
