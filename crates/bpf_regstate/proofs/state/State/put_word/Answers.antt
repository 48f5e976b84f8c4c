use Rattle.std.proofs.Common.{◌∙◌, refl, sym}
use Rattle.bpf_regstate.specs.Marks.{marks_of}
use Rattle.bpf_regstate.proofs.StatesAreShapes.{kept_is_shape, untouched_is_shape}
use Rattle.bpf_regstate.proofs.WordsHold.{store_leaves}
use Rattle.bpf_regstate.proofs.state.State.put_word.Goals as goal

pub invariant_of-self : goal.invariant_of-self
invariant_of-self c =
    rw c.in_ok-keep.ensures
    (kept_is_shape (record {
      registers = c.self.inside.registers;
      marks = marks_of c.self.inside.marks;
      words = c.self.inside.words.items;
    }) c.word_at.result c.args.value c.self.invariant c.requires.value c.word_at.ensures.few)

pub invariant_of-self-else-is_word : goal.invariant_of-self-else-is_word
invariant_of-self-else-is_word c =
    rw c.forget.ensures
    (untouched_is_shape (record {
      registers = c.self.inside.registers;
      marks = marks_of c.self.inside.marks;
      words = c.self.inside.words.items;
    }) _ _ c.self.invariant)

pub returns-else-is_word : goal.returns-else-is_word
returns-else-is_word c =
    let new = store_leaves c.self.inside.words.items c.forget.new.words.items c.args.address
    c.args.count c.args.at c.word_at-else-is_word.result _ c.args.value
    (sym c.is_word.ensures ∙ c.if-is_word.false) c.word_at-else-is_word.ensures.value refl
    c.forget.ensures in
    rw (← c.self.view_is, new) refl
