use Rattle.bpf_regstate.proofs.Marking.{marked_one}
use Rattle.bpf_regstate.proofs.marks.mark.Goals as goal

pub returns : goal.returns
returns c = marked_one c.args.words.now c.args.place c.requires.eight c.requires.inside
