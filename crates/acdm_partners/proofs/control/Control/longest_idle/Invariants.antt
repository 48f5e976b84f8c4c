use Rattle.std.proofs.Common.{◌<◌, vec_len}
use Rattle.acdm_partners.proofs.control.Control.longest_idle.Given as goal

abbrev pub invariant-loop-at : goal.invariant-loop-at
invariant-loop-at l = 0 < vec_len l.fn.self.callers → l.found < vec_len l.fn.self.callers
