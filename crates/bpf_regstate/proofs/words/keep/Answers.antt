use Rattle.std.proofs.Common.{arith, ap, ◌∙◌, set, Vec, Global}
use Rattle.bpf_regstate.specs.declared.reg.Reg.{Reg}
use Rattle.bpf_regstate.specs.declared.reg.Reg.TheVariants.{Known}
use Rattle.bpf_regstate.proofs.KeptWords.{with_inside, with_room}
use Rattle.bpf_regstate.proofs.words.keep.Goals as goal
use Rattle.bpf_regstate.proofs.words.keep.Goals.{then-len-word+in_ok-resize, else-len-word}

pub returns : goal.returns
returns c = elim c.if-len-word.branch [
  | then-len-word+in_ok-resize w ↦
      ap (λ (v : Vec Reg Global). set v.items c.args.word (Known c.args.range)) w.words-is
      ∙ with_room c.args.words.now.items w.resize.new.self.items c.args.word
      c.args.words.now.len c.args.range (omega (arith, c.args.words.now.ok))
      (omega (arith, c.len.ensures, w.if-len-word.true))
      w.in_ok-resize.ensures.items
  | else-len-word w ↦
      ap (λ (v : Vec Reg Global). set v.items c.args.word (Known c.args.range)) w.words-is
      ∙ with_inside c.args.words.now.items c.args.word c.args.range
      (omega (arith, w.if-len-word.false, c.len.ensures, c.args.words.now.ok))
]
