use Rattle.std.proofs.Common.{rules}
use Rattle.acdm_journal.proofs.Digits.{digits-more, digits-end}
use Rattle.acdm_journal.proofs.entry_text.push_digits.Goals as goal

pub loop-byte-preserved : goal.loop-byte-preserved
loop-byte-preserved c = record {
  before = search rules;
  adds = digits-more c.args.text.now.added c.loop-byte.text.added c.push_byte.new.text.added
      c.args.bytes.now c.loop-byte.rest.now c.in-Some.byte.now c.in-Some.more.now (search rules)
      c.in_ok-push_byte.ensures.adds c.loop-byte.invariant.adds;
}

pub returns-clause-adds : goal.returns-clause-adds
returns-clause-adds c =
    digits-end c.loop-byte.text.added _ c.loop-byte.rest.now c.in_default.ensures.cases
    c.loop-byte.invariant.adds
