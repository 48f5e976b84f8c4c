-- Lines that are read, computed by the definitions alone.
use Rattle.std.proofs.Common.{◌≡◌, [], ◌∷◌, codes, None, Ok, Err, refl}
use Rattle.acdm_milestones.specs.declared.role.Role.TheVariants.{AirTrafficControl, AirportOperator}
use Rattle.acdm_milestones.specs.declared.role.Role.TheVariants.{DeicingCompany}
use Rattle.acdm_milestones.specs.declared.milestone.Milestone.TheVariants.{Landed, InBlock}
use Rattle.acdm_milestones.specs.declared.milestone.Milestone.TheVariants.{TobtUpdate}
use Rattle.acdm_milestones.specs.declared.deicing.DeicingTime.TheVariants.{EstimatedCommencement}
use Rattle.acdm_milestones.specs.declared.deicing.DeicingTime.TheVariants.{ActualEnd}
use Rattle.acdm_step.specs.declared.command.Command.TheVariants.{Unload, Migrate}
use Rattle.acdm_step.specs.declared.command.Command.TheVariants.{Schedule, Report, Deice}
use Rattle.acdm_slots.specs.declared.kind.Kind.TheVariants.{Tobt, Alert}
use Rattle.bpf_regstate.specs.declared.length.Length.TheVariants.{L128, L160}
use Rattle.acdm_step.specs.declared.stated.StatedCommand.TheVariants.{Plain, Load}
use Rattle.acdm_wire.specs.declared.fault.RequestFault.TheVariants.{Prefix, NoJson, UnknownCommand, Kind}
use Rattle.acdm_wire.specs.declared.fault.RequestFault.TheVariants.{Range}
use Rattle.acdm_wire.specs.Meant.{meant}
use Rattle.acdm_wire.proofs.OnLiterals.{lines_on_literals}

landed_line : meant (codes "3 29000700 ATC {\"cmd\":\"report\",\"flight\":7,\"milestone\":6,\"time\":\"2025-02-20T09:00:00Z\"}")
    ≡ Ok record {
      session = 3;
      moment = 29000700;
      role = AirTrafficControl;
      asked = Plain (Report record { flight = 7; milestone = Landed; time = 29000700; plan = None });
    }
unfolding lines_on_literals
landed_line = refl

bad_prefix : meant (codes "65 29000580 APT {\"cmd\":\"alerts\"}") ≡ Err Prefix
unfolding lines_on_literals
bad_prefix = refl

no_json : meant (codes "1 29000580 APT {\"cmd\":\"tick\"") ≡ Err NoJson
unfolding lines_on_literals
no_json = refl

schedule_line : meant (codes "1 29000580 APT {\"cmd\":\"schedule\",\"flight\":7,\"callsign\":\"DLH7\",\"type\":\"A320\",\"reg\":\"DAIBC\",\"dest\":\"EDDM\",\"sobt\":\"2025-02-20T10:00:00Z\",\"mttt\":40,\"exit\":5,\"exot\":10,\"stand\":12}")
    ≡ Ok record {
      session = 1;
      moment = 29000580;
      role = AirportOperator;
      asked = Plain (Schedule record {
        flight = 7;
        plan = record {
          callsign = codes "DLH7";
          aircraft = codes "A320";
          registration = codes "DAIBC";
          destination = codes "EDDM";
        };
        sobt = 29000760;
        mttt = 40;
        exit = 5;
        exot = 10;
        stand = 12;
      });
    }
unfolding lines_on_literals
schedule_line = refl

wrong_kind : meant (codes "1 29000580 ATC {\"cmd\":\"report\",\"flight\":\"7\",\"milestone\":6}")
    ≡ Err Kind
unfolding lines_on_literals
wrong_kind = refl

negative_flight : meant (codes "1 29000580 ATC {\"cmd\":\"report\",\"flight\":-7,\"milestone\":6}")
    ≡ Err Kind
unfolding lines_on_literals
negative_flight = refl

no_such_milestone : meant (codes "1 29000580 ATC {\"cmd\":\"report\",\"flight\":7,\"milestone\":17,\"time\":\"2025-02-20T10:00:00Z\"}") ≡ Err Range
unfolding lines_on_literals
no_such_milestone = refl

-- digits of either case
load_line : meant (codes "1 29000700 APT {\"cmd\":\"load\",\"milestone\":7,\"kind\":\"tobt\",\"program\":\"bF3000fF\"}")
    ≡ Ok record {
      session = 1;
      moment = 29000700;
      role = AirportOperator;
      asked = Load record {
        milestone = InBlock;
        kind = Tobt;
        program = 0xbf ∷ 0x30 ∷ 0 ∷ 0xff ∷ [];
        record_length = L128;
      };
    }
unfolding lines_on_literals
load_line = refl

-- no byte at all is read, and faulty only as a program
empty_program : meant
    (codes "1 29000700 APT {\"cmd\":\"load\",\"milestone\":9,\"kind\":\"alert\",\"program\":\"\"}")
    ≡ Ok record {
      session = 1;
      moment = 29000700;
      role = AirportOperator;
      asked = Load record { milestone = TobtUpdate; kind = Alert; program = []; record_length = L128 };
    }
unfolding lines_on_literals
empty_program = refl

unload_line : meant (codes "1 29000700 APT {\"cmd\":\"unload\",\"milestone\":9,\"kind\":\"alert\"}")
    ≡ Ok record {
      session = 1;
      moment = 29000700;
      role = AirportOperator;
      asked = Plain (Unload record { milestone = TobtUpdate; kind = Alert });
    }
unfolding lines_on_literals
unload_line = refl

-- the milestone is looked at first, then the kind, then the program
no_slot_at_all : meant (codes "1 29000700 APT {\"cmd\":\"load\",\"milestone\":0,\"program\":7}")
    ≡ Err Range
unfolding lines_on_literals
no_slot_at_all = refl

no_such_kind : meant
    (codes "1 29000700 APT {\"cmd\":\"load\",\"milestone\":7,\"kind\":\"Tobt\",\"program\":7}")
    ≡ Err Range
unfolding lines_on_literals
no_such_kind = refl

kind_missing : meant (codes "1 29000700 APT {\"cmd\":\"unload\",\"milestone\":7}")
    ≡ Err Kind
unfolding lines_on_literals
kind_missing = refl

kind_no_text : meant (codes "1 29000700 APT {\"cmd\":\"unload\",\"milestone\":7,\"kind\":9}")
    ≡ Err Kind
unfolding lines_on_literals
kind_no_text = refl

program_no_text : meant (codes
    "1 29000700 APT {\"cmd\":\"load\",\"milestone\":7,\"kind\":\"tobt\",\"program\":95}")
    ≡ Err Kind
unfolding lines_on_literals
program_no_text = refl

no_digits : meant
    (codes "1 29000700 APT {\"cmd\":\"load\",\"milestone\":7,\"kind\":\"tobt\",\"program\":\"zz\"}")
    ≡ Err Range
unfolding lines_on_literals
no_digits = refl

half_a_byte : meant (codes "1 29000700 APT {\"cmd\":\"load\",\"milestone\":7,\"kind\":\"tobt\",\"program\":\"950\"}")
    ≡ Err Range
unfolding lines_on_literals
half_a_byte = refl

-- ---- how long records are beside which a program is to run

long_records : meant (codes "1 29000580 APT {\"cmd\":\"load\",\"milestone\":7,\"kind\":\"alert\",\"program\":\"95\",\"length\":160}")
    ≡ Ok record {
      session = 1;
      moment = 29000580;
      role = AirportOperator;
      asked = Load record { milestone = InBlock; kind = Alert; program = 0x95 ∷ []; record_length = L160 };
    }
unfolding lines_on_literals
long_records = refl

short_records : meant (codes "1 29000580 APT {\"cmd\":\"load\",\"milestone\":7,\"kind\":\"alert\",\"program\":\"95\",\"length\":128}")
    ≡ Ok record {
      session = 1;
      moment = 29000580;
      role = AirportOperator;
      asked = Load record { milestone = InBlock; kind = Alert; program = 0x95 ∷ []; record_length = L128 };
    }
unfolding lines_on_literals
short_records = refl

no_length : meant (codes "1 29000580 APT {\"cmd\":\"load\",\"milestone\":7,\"kind\":\"alert\",\"program\":\"95\"}")
    ≡ Ok record {
      session = 1;
      moment = 29000580;
      role = AirportOperator;
      asked = Load record { milestone = InBlock; kind = Alert; program = 0x95 ∷ []; record_length = L128 };
    }
unfolding lines_on_literals
no_length = refl

null_length : meant (codes "1 29000580 APT {\"cmd\":\"load\",\"milestone\":7,\"kind\":\"alert\",\"program\":\"95\",\"length\":null}")
    ≡ Err Kind
unfolding lines_on_literals
null_length = refl

length_as_text : meant (codes "1 29000580 APT {\"cmd\":\"load\",\"milestone\":7,\"kind\":\"alert\",\"program\":\"95\",\"length\":\"160\"}")
    ≡ Err Kind
unfolding lines_on_literals
length_as_text = refl

negative_length : meant (codes "1 29000580 APT {\"cmd\":\"load\",\"milestone\":7,\"kind\":\"alert\",\"program\":\"95\",\"length\":-160}")
    ≡ Err Kind
unfolding lines_on_literals
negative_length = refl

length_with_a_point : meant (codes "1 29000580 APT {\"cmd\":\"load\",\"milestone\":7,\"kind\":\"alert\",\"program\":\"95\",\"length\":160.0}")
    ≡ Err Kind
unfolding lines_on_literals
length_with_a_point = refl

another_length : meant (codes "1 29000580 APT {\"cmd\":\"load\",\"milestone\":7,\"kind\":\"alert\",\"program\":\"95\",\"length\":129}")
    ≡ Err Range
unfolding lines_on_literals
another_length = refl

no_bytes_at_all : meant (codes "1 29000580 APT {\"cmd\":\"load\",\"milestone\":7,\"kind\":\"alert\",\"program\":\"95\",\"length\":0}")
    ≡ Err Range
unfolding lines_on_literals
no_bytes_at_all = refl

-- the program is looked at before the length
program_before_length : meant (codes "1 29000580 APT {\"cmd\":\"load\",\"milestone\":7,\"kind\":\"alert\",\"program\":\"9\",\"length\":null}")
    ≡ Err Range
unfolding lines_on_literals
program_before_length = refl

-- ---- the move to the second layout, and times of de-icing

migrate_line : meant (codes "1 29000580 APT {\"cmd\":\"migrate\"}")
    ≡ Ok record {
      session = 1;
      moment = 29000580;
      role = AirportOperator;
      asked = Plain Migrate;
    }
unfolding lines_on_literals
migrate_line = refl

migrate_in_capitals : meant (codes "1 29000580 APT {\"cmd\":\"MIGRATE\"}")
    ≡ Err UnknownCommand
unfolding lines_on_literals
migrate_in_capitals = refl

deice_line : meant (codes "6 29000580 DIC {\"cmd\":\"deice\",\"flight\":7,\"field\":\"eczt\",\"time\":\"2025-02-20T10:00:00Z\"}")
    ≡ Ok record {
      session = 6;
      moment = 29000580;
      role = DeicingCompany;
      asked = Plain (Deice record { flight = 7; which = EstimatedCommencement; time = 29000760 });
    }
unfolding lines_on_literals
deice_line = refl

cleared_time : meant (codes "6 29000580 DIC {\"cmd\":\"deice\",\"flight\":7,\"field\":\"aezt\",\"time\":null}")
    ≡ Ok record {
      session = 6;
      moment = 29000580;
      role = DeicingCompany;
      asked = Plain (Deice record { flight = 7; which = ActualEnd; time = 0 });
    }
unfolding lines_on_literals
cleared_time = refl

field_missing : meant (codes "6 29000580 DIC {\"cmd\":\"deice\",\"flight\":7,\"time\":\"2025-02-20T10:00:00Z\"}")
    ≡ Err Kind
unfolding lines_on_literals
field_missing = refl

field_no_text : meant (codes "6 29000580 DIC {\"cmd\":\"deice\",\"flight\":7,\"field\":1,\"time\":null}")
    ≡ Err Kind
unfolding lines_on_literals
field_no_text = refl

no_time_of_deicing : meant (codes "6 29000580 DIC {\"cmd\":\"deice\",\"flight\":7,\"field\":\"aobt\",\"time\":null}")
    ≡ Err Range
unfolding lines_on_literals
no_time_of_deicing = refl

time_missing : meant (codes "6 29000580 DIC {\"cmd\":\"deice\",\"flight\":7,\"field\":\"eezt\"}")
    ≡ Err Kind
unfolding lines_on_literals
time_missing = refl

time_no_instant : meant (codes "6 29000580 DIC {\"cmd\":\"deice\",\"flight\":7,\"field\":\"aczt\",\"time\":\"10:00\"}")
    ≡ Err Range
unfolding lines_on_literals
time_no_instant = refl

-- the flight is looked at first, then the field, then the time
flight_before_field : meant (codes "6 29000580 DIC {\"cmd\":\"deice\",\"flight\":0,\"time\":7}")
    ≡ Err Range
unfolding lines_on_literals
flight_before_field = refl

field_before_time : meant (codes "6 29000580 DIC {\"cmd\":\"deice\",\"flight\":7,\"field\":\"ECZT\",\"time\":7}")
    ≡ Err Range
unfolding lines_on_literals
field_before_time = refl
