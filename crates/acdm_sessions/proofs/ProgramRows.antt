-- Streams that load programs, with their replies, computed by the definitions alone.
use Rattle.std.proofs.Common.{◌≡◌, ℕ, zero, suc, pos, negsuc, List, [], ◌∷◌, codes, Ok, Err, refl}
use Rattle.std.proofs.Common.{arith, inr}
use Rattle.std.specs.Fmt.{digits}
use Rattle.acdm_record.specs.Fields.{bytes_of}
use Rattle.acdm_alerts.specs.Names.{names_text}
use Rattle.bpf_decode.specs.Encoding.{Encodes}
use Rattle.bpf_decode.specs.declared.op.Op.{Op}
use Rattle.bpf_decode.specs.declared.op.Op.TheVariants.{Arith, Jump, Call, Exit, Load}
use Rattle.bpf_decode.specs.declared.op.Operand.TheVariants.{From, Immediate}
use Rattle.bpf_decode.specs.declared.op.Code.TheVariants.{Add, And, Mov}
use Rattle.bpf_decode.specs.declared.op.Size.TheVariants.{Half, Word}
use Rattle.bpf_decode.specs.declared.op.Condition.TheVariants.{Above}
use Rattle.bpf_decode.specs.declared.op.Width.TheVariants.{W64}
use Rattle.bpf_helpers.specs.Known.{taxi}
use Rattle.bpf_semantics.specs.Machine.{start}
use Rattle.bpf_regstate.specs.declared.length.Length.TheVariants.{L128, L160}
use Rattle.bpf_regstate.specs.Lengths.{bytes_in}
use Rattle.bpf_regstate.specs.States.{Accepts, states, start_shape}
use Rattle.bpf_verifier.specs.Reading.{Reading, IsReading}
use Rattle.acdm_slots.specs.Migration.{fault_beside}
use Rattle.acdm_wire.proofs.OnLiterals.{lines_on_literals}
use Rattle.acdm_sessions.specs.Output.{Supply, no_supply, output}

-- ---- readings

-- an exit before r0 is set
exit_alone : IsReading [] L128 (0x95 ∷ 0 ∷ 0 ∷ 0 ∷ 0 ∷ 0 ∷ 0 ∷ 0 ∷ []) (Err (308, 0))
unfolding states start_shape bytes_in
exit_alone = inr record {
  ops = Exit ∷ [];
  encoded =
      record {
        program = record {
          some = omega arith;
          few = omega arith;
          whole = (refl, ((tt, tt, tt), tt));
        };
        bytes_are = refl;
      };
  fault = record { inside = omega arith; fault = refl; before = λ k h. absurd (omega arith) };
}

-- a minute before the moment of the report
abbrev a_minute_before : List Op
a_minute_before = Arith W64 Mov 0 (From 3) ∷ Arith W64 Add 0 (Immediate (negsuc 0)) ∷ Exit ∷ []

-- the moment of the report
abbrev the_moment : List Op
the_moment = Arith W64 Mov 0 (From 3) ∷ Exit ∷ []

-- the taxi time from the stand of the record, which helper 2 answers
abbrev taxi_time : List Op
taxi_time = Load Half 1 1 (pos 60) ∷ Arith W64 And 1 (Immediate (pos 511)) ∷ Call 2 ∷ Exit ∷ []

the_moment_accepted : Accepts (bytes_in L128) the_moment []
unfolding states start_shape bytes_in
the_moment_accepted zero h = refl
the_moment_accepted (suc zero) h = refl
the_moment_accepted (suc (suc k)) h = absurd (omega arith)

the_moment_read : IsReading [] L128
    (0xbf ∷ 0x30 ∷ 0 ∷ 0 ∷ 0 ∷ 0 ∷ 0 ∷ 0 ∷ 0x95 ∷ 0 ∷ 0 ∷ 0 ∷ 0 ∷ 0 ∷ 0 ∷ 0 ∷ [])
    (Ok record { record_length = L128; ops = the_moment; sigs = [] })
the_moment_read = record {
  encoded =
      record {
        program = record {
          some = omega arith;
          few = omega arith;
          whole = (refl, ((tt, (omega arith, omega arith), tt), ((tt, tt, tt), tt)));
        };
        bytes_are = refl;
      };
  accepted = the_moment_accepted;
  checked = refl;
  long = refl;
}

-- the four bytes of a record of layout 2 before its zeros
abbrev the_last_time : List Op
the_last_time = Load Word 0 1 (pos 140) ∷ Exit ∷ []

abbrev last_time_bytes : List ℕ
last_time_bytes = 0x61 ∷ 0x10 ∷ 0x8c ∷ 0 ∷ 0 ∷ 0 ∷ 0 ∷ 0 ∷ 0x95 ∷ 0 ∷ 0 ∷ 0 ∷ 0 ∷ 0 ∷ 0 ∷ 0 ∷ []

last_time_encoded : Encodes last_time_bytes the_last_time
last_time_encoded = record {
  program = record {
    some = omega arith;
    few = omega arith;
    whole = (refl, ((tt, (omega arith, omega arith), omega arith), ((tt, tt, tt), tt)));
  };
  bytes_are = refl;
}

last_time_accepted : Accepts (bytes_in L160) the_last_time []
unfolding states start_shape bytes_in
last_time_accepted zero h = refl
last_time_accepted (suc zero) h = refl
last_time_accepted (suc (suc k)) h = absurd (omega arith)

-- for long records it is a program, and for short ones it has a fault
last_time_read : IsReading [] L160 last_time_bytes
    (Ok record { record_length = L160; ops = the_last_time; sigs = [] })
last_time_read = record {
  encoded = last_time_encoded;
  accepted = last_time_accepted;
  checked = refl;
  long = refl;
}

last_time_refused : IsReading [] L128 last_time_bytes (Err (309, 0))
unfolding states start_shape bytes_in
last_time_refused = inr record {
  ops = the_last_time;
  encoded = last_time_encoded;
  fault = record { inside = omega arith; fault = refl; before = λ k h. absurd (omega arith) };
}

-- r0 is set where a record has at most 128 bytes
abbrev for_short_records : List Op
for_short_records =
    Jump W64 Above 2 (Immediate (pos 128)) (pos 1) ∷ Arith W64 Mov 0 (Immediate (pos 0)) ∷ Exit ∷ []

abbrev no_alert : List Op
no_alert = Arith W64 Mov 0 (Immediate (pos 0)) ∷ Exit ∷ []

-- ---- streams

abbrev loading : Reading → Supply
loading reading = record no_supply { reading = reading }

abbrev answering : List ℕ → Supply
answering answers = record no_supply { answers = answers }

refused_load : output (record { history = []; capacity = 1; sigs = []; cells = [] }) (loading (Err (308, 0)) ∷ []) (codes "1 29000580 APT {\"cmd\":\"load\",\"milestone\":7,\"kind\":\"tobt\",\"program\":\"9500000000000000\"}\n2 29000580 NM {\"cmd\":\"tick\"}\n") ≡ codes "bad 308 0\nno 0 201\n"
unfolding digits lines_on_literals
refused_load = refl

-- a refused program is told where the journal is full too
refused_before_full : output (record { history = []; capacity = 0; sigs = []; cells = [] }) (loading (Err (308, 0)) ∷ []) (codes "1 29000580 APT {\"cmd\":\"load\",\"milestone\":7,\"kind\":\"tobt\",\"program\":\"9500000000000000\"}\n2 29000580 NM {\"cmd\":\"tick\"}\n") ≡ codes "bad 308 0\nbad 502\n"
unfolding digits lines_on_literals
refused_before_full = refl

nothing_to_unload : output (record { history = []; capacity = 5; sigs = []; cells = [] }) []
    (codes "1 29000580 APT {\"cmd\":\"unload\",\"milestone\":9,\"kind\":\"alert\"}\n")
    ≡ codes "no 0 321\n"
unfolding digits lines_on_literals
nothing_to_unload = refl

-- a TOBT that cannot be, and then one that can
suggested_target : output (record { history = []; capacity = 100; sigs = []; cells = [] }) (loading (Ok record { record_length = L128; ops = a_minute_before; sigs = [] }) ∷ no_supply ∷ no_supply ∷ no_supply ∷ no_supply ∷ no_supply ∷ loading (Ok record { record_length = L128; ops = the_moment; sigs = [] }) ∷ []) (codes "1 29000700 APT {\"cmd\":\"load\",\"milestone\":7,\"kind\":\"tobt\",\"program\":\"bf3000000000000007000000ffffffff9500000000000000\"}\n1 29000700 APT {\"cmd\":\"schedule\",\"flight\":7,\"callsign\":\"DLH7\",\"type\":\"A320\",\"reg\":\"DAIBC\",\"dest\":\"EDDM\",\"sobt\":\"2025-02-20T10:00:00Z\",\"mttt\":40,\"exit\":5,\"exot\":10,\"stand\":12}\n2 29000700 NM {\"cmd\":\"report\",\"flight\":7,\"milestone\":1,\"time\":\"2025-02-20T10:00:00Z\",\"callsign\":\"DLH7\",\"type\":\"A320\",\"reg\":\"DAIBC\",\"dest\":\"EDDM\"}\n3 29000700 ATC {\"cmd\":\"report\",\"flight\":7,\"milestone\":6,\"time\":\"2025-02-20T09:00:00Z\"}\n1 29000700 APT {\"cmd\":\"report\",\"flight\":7,\"milestone\":7,\"time\":\"2025-02-20T09:00:00Z\"}\n1 29000700 APT {\"cmd\":\"alerts\"}\n1 29000700 APT {\"cmd\":\"load\",\"milestone\":7,\"kind\":\"tobt\",\"program\":\"bf300000000000009500000000000000\"}\n1 29000700 APT {\"cmd\":\"report\",\"flight\":7,\"milestone\":7,\"time\":\"2025-02-20T09:00:00Z\"}\n1 29000700 APT {\"cmd\":\"alerts\"}\n") ≡ codes "ok 0\nok 1\nok 2\nok 3\nok 4\nalerts 5 7:CDM14\nok 6\nok 7\nalerts 8 7:CDM08,CDM09,CDM07a\n"
unfolding digits bytes_of names_text start lines_on_literals
suggested_target = refl

-- local alerts stay when their program is gone
local_alerts_stay : output (record { history = []; capacity = 100; sigs = (2, taxi) ∷ []; cells = [] }) (loading (Ok record { record_length = L128; ops = taxi_time; sigs = (2, taxi) ∷ [] }) ∷ no_supply ∷ no_supply ∷ answering (10 ∷ []) ∷ []) (codes "1 29000580 APT {\"cmd\":\"load\",\"milestone\":9,\"kind\":\"alert\",\"program\":\"69113c000000000057010000ff01000085000000020000009500000000000000\"}\n1 29000580 APT {\"cmd\":\"schedule\",\"flight\":7,\"callsign\":\"DLH7\",\"type\":\"A320\",\"reg\":\"DAIBC\",\"dest\":\"EDDM\",\"sobt\":\"2025-02-20T10:00:00Z\",\"mttt\":40,\"exit\":5,\"exot\":10,\"stand\":12}\n2 29000580 NM {\"cmd\":\"report\",\"flight\":7,\"milestone\":1,\"time\":\"2025-02-20T10:00:00Z\",\"callsign\":\"DLH7\",\"type\":\"A320\",\"reg\":\"DAIBC\",\"dest\":\"EDDM\"}\n5 29000580 GH {\"cmd\":\"report\",\"flight\":7,\"milestone\":9,\"time\":\"2025-02-20T10:00:00Z\"}\n1 29000580 APT {\"cmd\":\"alerts\"}\n1 29000580 APT {\"cmd\":\"unload\",\"milestone\":9,\"kind\":\"alert\"}\n5 29000580 GH {\"cmd\":\"report\",\"flight\":7,\"milestone\":9,\"time\":\"2025-02-20T10:00:00Z\"}\n1 29000580 APT {\"cmd\":\"alerts\"}\n") ≡ codes "ok 0\nok 1\nok 2\nok 3\nalerts 4 7:LOC01,LOC03\nok 5\nok 6\nalerts 7 7:LOC01,LOC03\n"
unfolding digits bytes_of names_text start lines_on_literals
local_alerts_stay = refl

-- after a migrate programs are loaded for the longer records alone
lengths_of_loads : output (record { history = []; capacity = 100; sigs = []; cells = [] }) (no_supply ∷ loading (Ok record { record_length = L128; ops = no_alert; sigs = [] }) ∷ loading (Ok record { record_length = L160; ops = no_alert; sigs = [] }) ∷ []) (codes "1 29000580 APT {\"cmd\":\"migrate\"}\n1 29000580 APT {\"cmd\":\"load\",\"milestone\":9,\"kind\":\"alert\",\"program\":\"b7000000000000009500000000000000\"}\n1 29000580 APT {\"cmd\":\"load\",\"milestone\":9,\"kind\":\"alert\",\"program\":\"b7000000000000009500000000000000\",\"length\":160}\n") ≡ codes "migrated 0 -\nno 1 323\nok 2\n"
unfolding digits lines_on_literals
lengths_of_loads = refl

-- before one, for the shorter records alone
too_long_records : output (record { history = []; capacity = 100; sigs = []; cells = [] }) (loading (Ok record { record_length = L160; ops = no_alert; sigs = [] }) ∷ []) (codes "1 29000580 APT {\"cmd\":\"load\",\"milestone\":9,\"kind\":\"alert\",\"program\":\"b7000000000000009500000000000000\",\"length\":160}\n") ≡ codes "no 0 323\n"
unfolding digits lines_on_literals
too_long_records = refl

-- a migrate tells which program it unloads, and keeps the other
one_unloaded : output (record { history = []; capacity = 100; sigs = []; cells = [] }) (loading (Ok record { record_length = L128; ops = for_short_records; sigs = [] }) ∷ loading (Ok record { record_length = L128; ops = no_alert; sigs = [] }) ∷ []) (codes "1 29000580 APT {\"cmd\":\"load\",\"milestone\":7,\"kind\":\"tobt\",\"program\":\"2502010080000000b7000000000000009500000000000000\"}\n1 29000580 APT {\"cmd\":\"load\",\"milestone\":9,\"kind\":\"alert\",\"program\":\"b7000000000000009500000000000000\"}\n1 29000580 APT {\"cmd\":\"migrate\"}\n1 29000580 APT {\"cmd\":\"unload\",\"milestone\":7,\"kind\":\"tobt\"}\n1 29000580 APT {\"cmd\":\"unload\",\"milestone\":9,\"kind\":\"alert\"}\n") ≡ codes "ok 0\nok 1\nmigrated 2 7:tobt:308:2\nno 3 321\nok 4\n"
unfolding digits states start_shape bytes_in fault_beside lines_on_literals
one_unloaded = refl
