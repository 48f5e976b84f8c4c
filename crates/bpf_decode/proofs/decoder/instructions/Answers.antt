use Rattle.std.proofs.lemmas.List.{take_rest}
use Rattle.std.proofs.lemmas.Result.{err_from_is_err_and}
use Rattle.bpf_decode.proofs.WholeLemmas.{goes_on, refuses_behind}
use Rattle.bpf_decode.proofs.decoder.instructions.Goals as goal

pub returns-in_err-len-clause-refused : goal.returns-in_err-len-clause-refused
returns-in_err-len-clause-refused c =
    let p = err_from_is_err_and c.from_residual-in_err-len.result
    c.from_residual-in_err-len.ensures.1 in
    rw (p.1, p.2) (refuses_behind c.args.bytes.now c.loop-rest.rest.now c.loop-rest.ops.items
    c.in_err-len.field-0.0 c.requires.few c.requires.slots
    c.loop-rest.invariant c.in_err-len.ensures)

pub loop-rest-preserved : goal.loop-rest-preserved
loop-rest-preserved c =
    rw (take_rest c.loop-rest.rest.now c.in_ok-len.len)
    (goes_on c.args.bytes.now c.loop-rest.rest.now c.loop-rest.ops.items c.push_first.new.ops.items
    c.in_ok-len.len c.loop-rest.invariant c.in_ok-len.ensures).0
