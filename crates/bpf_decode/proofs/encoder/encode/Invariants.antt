use Rattle.std.proofs.Common.{◌≡◌, take}
use Rattle.bpf_decode.specs.Encoding.{encoding}
use Rattle.bpf_decode.proofs.encoder.encode.Given as goal

abbrev pub invariant-loop-op : goal.invariant-loop-op
invariant-loop-op l = l.bytes.items ≡ encoding (take l.op-index l.ops)
