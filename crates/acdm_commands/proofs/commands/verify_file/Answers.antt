use Rattle.std.proofs.Common.{Err, inl, inr, refl}
use Rattle.acdm_failures.specs.declared.failure.Failure.TheVariants.{Read}
use Rattle.acdm_tables.specs.Helpers.{helpers_by}
use Rattle.acdm_commands.specs.Completed.{read_from}
use Rattle.acdm_commands.proofs.Files.{verified_any}
use Rattle.acdm_commands.proofs.commands.verify_file.Goals as goal

pub returns-in-Some : goal.returns-in-Some
returns-in-Some g c =
    let e = c.verify_on.ensures in
    let file = c.new.result in
    let later = c.verify_on.new.reader in
    record {
      work = e.work;
      comes = inl (
        read_from file,
        read_from later,
        rw c.new.ensures (refl, refl, refl),
        verified_any (helpers_by c.args.tables.now) file later _ _ _ e.work e.comes,
      );
      ends = e.ends;
    }

pub returns-in-None : goal.returns-in-None
returns-in-None g c =
    record { work = Err Read; comes = inr (refl, refl); ends = c.ended.ensures }
