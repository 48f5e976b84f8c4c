use Rattle.bpf_regstate.specs.Marks.{marks_of}
use Rattle.bpf_regstate.proofs.Shapes.{join_is_shape}
use Rattle.bpf_regstate.proofs.state.State.join.Goals as goal

pub invariant_of-self : goal.invariant_of-self
invariant_of-self c =
    rw (c.join_each.ensures, c.join_words.ensures, c.join_kept.ensures, c.as_slice.ensures.value)
    (join_is_shape (record {
      registers = c.self.inside.registers;
      marks = marks_of c.self.inside.marks;
      words = c.self.inside.words.items;
    })
    (record {
      registers = c.other.inside.registers;
      marks = marks_of c.other.inside.marks;
      words = c.other.inside.words.items;
    })
    c.self.invariant c.other.invariant)
