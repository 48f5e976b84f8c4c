use Rattle.std.proofs.Common.{◌+◌, ◌<◌, arith}
use Rattle.acdm_alerts.proofs.Sums.{word_fits, word_allowed}
use Rattle.acdm_alerts.proofs.conditions.builtin.Goals as goal

pub overflow_add-word : goal.overflow_add-word
overflow_add-word c =
    let fits = word_fits c.args.record.now c.args.moment c.word.result c.word.type_inv in
    let small : c.kept_bits-word.result + c.computed.result < 4294967296 =
    rw (c.kept_bits-word.ensures, c.computed.ensures) fits in
    omega arith

pub from_word-requires : goal.from_word-requires
from_word-requires c = rw (c.kept_bits-word.ensures, c.computed.ensures)
    (word_allowed c.args.record.now c.args.moment c.word.result)
