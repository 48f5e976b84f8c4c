use Rattle.std.proofs.Common.{drop, ap, ◌∙◌, arith}
use Rattle.std.proofs.lemmas.List.{take_all, length-drop}
use Rattle.acdm_record.specs.Fields.{are_zeros}
use Rattle.acdm_record.proofs.fault.has_spare.Goals as goal

pub returns : goal.returns
returns c = c.are_zeros.ensures ∙ ap are_zeros (take_all 16 (drop 144 c.args.bytes.now)
    (omega (arith, length-drop 144 c.args.bytes.now, c.told-bytes)))
