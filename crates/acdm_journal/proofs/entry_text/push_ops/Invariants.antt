use Rattle.std.proofs.Common.{◌≡◌, ◌++◌, length}
use Rattle.std.specs.List.{AllByRecursion}
use Rattle.hex.specs.Hex.{encode_lower}
use Rattle.bpf_decode.specs.Encoding.{encoding}
use Rattle.acdm_journal.specs.Ranges.{IsByte}
use Rattle.acdm_journal.proofs.entry_text.push_ops.Given as goal

abbrev pub invariant-loop-op : goal.invariant-loop-op
invariant-loop-op l = record {
  before : l.text.before ≡ l.initial.text.before;
  adds : l.text.added ++ encode_lower (encoding l.rest)
      ≡ l.initial.text.added ++ encode_lower (encoding l.initial.rest);
  ranges : AllByRecursion IsByte (encoding l.rest)
      → AllByRecursion IsByte (encoding l.initial.rest);
}

abbrev pub decreases-loop-op : goal.decreases-loop-op
decreases-loop-op l = length l.rest
