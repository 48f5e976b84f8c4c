use Rattle.std.proofs.Common.{◌≡◌, ◌++◌, drop, string_bytes}
use Rattle.acdm_partners.specs.Came.{by_code, by_code_from}
use Rattle.acdm_partners.proofs.counts.add_by_code.Given as goal

abbrev pub invariant-loop-count : goal.invariant-loop-count
invariant-loop-count l =
    string_bytes l.text ++ by_code_from l.code l.is_first (drop l.count-index l.counts)
    ≡ string_bytes l.fn.text ++ by_code l.counts
