-- Names of worked journals, computed by the definitions alone. Those that are wanted are by `sha256sum` of the first line.
use Rattle.std.proofs.Common.{◌≡◌, ℕ, List, [], ◌∷◌, codes, Some, None, refl}
use Rattle.std.specs.Fmt.{digits}
use Rattle.hex.specs.Hex.{encode_with}
use Rattle.sha2.specs.Sha256.{compress, digest_bytes, first_words, hash_after, rounds, schedule, sha256}
use Rattle.acdm_milestones.specs.declared.role.Role.TheVariants.{AirportOperator}
use Rattle.acdm_step.specs.declared.command.Command.{Command}
use Rattle.acdm_step.specs.declared.command.Command.TheVariants as commands
use Rattle.acdm_step.specs.declared.entry.Verdict.TheVariants.{Accepted}
use Rattle.acdm_step.specs.declared.entry.Entry.{Entry}
use Rattle.acdm_feed.specs.Naming.{journal_name, name_of}

-- an entry of the airport
of_airport : ℕ → ℕ → Command → Entry
of_airport number moment command = record {
  number = number;
  session = 1;
  role = AirportOperator;
  moment = moment;
  command = command;
  verdict = Accepted;
  answers = [];
}

-- `0 1 7 APT 0 0 tick`
of_a_tick : journal_name (of_airport 0 7 commands.Tick ∷ []) ≡ codes "c0b427712fc5e9818a1f171ebf555ecb"
unfolding of_airport digits name_of encode_with first_words schedule rounds compress hash_after digest_bytes sha256
of_a_tick = refl

-- a second entry changes nothing
of_two : journal_name (of_airport 1 9 commands.Tick ∷ of_airport 0 7 commands.Tick ∷ [])
    ≡ journal_name (of_airport 0 7 commands.Tick ∷ [])
of_two = refl

-- `0 1 29000580 APT 0 0 schedule 7 DLH7 A320 DAIBC EDDM 29000760 40 5 10 12`, two blocks of the digest
of_a_schedule : journal_name (of_airport 0 29000580
    (commands.Schedule record {
      flight = 7;
      plan = record {
        callsign = codes "DLH7";
        aircraft = codes "A320";
        registration = codes "DAIBC";
        destination = codes "EDDM";
      };
      sobt = 29000760;
      mttt = 40;
      exit = 5;
      exot = 10;
      stand = 12;
    }) ∷ []) ≡ codes "6abe04311b32002c070188a1583c019d"
unfolding of_airport digits name_of encode_with first_words schedule rounds compress hash_after digest_bytes sha256
of_a_schedule = refl

-- none yet
of_none : journal_name [] ≡ []
of_none = refl
