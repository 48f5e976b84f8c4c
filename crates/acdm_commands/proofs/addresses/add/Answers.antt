use Rattle.std.proofs.Common.{rules}
use Rattle.acdm_commands.proofs.addresses.add.Goals as goal

pub returns-clause-added : goal.returns-clause-added
returns-clause-added g c = record {
  partner = c.in_ok-partner.partner;
  added = search rules;
  named = search rules;
}
