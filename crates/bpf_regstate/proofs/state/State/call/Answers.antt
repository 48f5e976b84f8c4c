use Rattle.bpf_regstate.specs.Marks.{marks_of}
use Rattle.bpf_regstate.proofs.Shapes.{call_is_shape}
use Rattle.bpf_regstate.proofs.state.State.call.Goals as goal

pub invariant_of-self : goal.invariant_of-self
invariant_of-self c =
    rw c.after_call.ensures
    (call_is_shape (record {
      registers = c.self.inside.registers;
      marks = marks_of c.self.inside.marks;
      words = c.self.inside.words.items;
    }) c.answer_of.result c.answer_of.ensures.range
    c.self.invariant)
