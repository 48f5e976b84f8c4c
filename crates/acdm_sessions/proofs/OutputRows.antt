-- Streams of lines with their replies, computed by the definitions alone.
use Rattle.std.proofs.Common.{◌≡◌, [], ◌∷◌, codes, refl}
use Rattle.std.specs.Fmt.{digits}
use Rattle.hex.specs.Hex.{encode_with}
use Rattle.acdm_record.specs.Fields.{bytes_of}
use Rattle.acdm_alerts.specs.Names.{names_text}
use Rattle.acdm_milestones.specs.declared.refusal.Refusal.TheVariants.{TimeOrder}
use Rattle.acdm_step.specs.declared.outcome.Outcome.TheVariants.{Done, Refused}
use Rattle.acdm_wire.specs.declared.fault.RequestFault.TheVariants.{TooLong}
use Rattle.acdm_wire.specs.declared.fault.Bad.TheVariants.{Faulty, Program}
use Rattle.acdm_sessions.specs.declared.answer.Answer.TheVariants.{Entered, Rejected}
use Rattle.acdm_lines.specs.Lines.{lines_of}
use Rattle.acdm_wire.proofs.OnLiterals.{lines_on_literals}
use Rattle.acdm_sessions.specs.Output.{reply_text, output}

-- an empty rest is no line, and an empty line is one
no_lines : lines_of [] ≡ []
no_lines = refl

ended_lines : lines_of (codes "a\n\nb\n") ≡ codes "a" ∷ [] ∷ codes "b" ∷ []
ended_lines = refl

last_line : lines_of (codes "a\nb") ≡ codes "a" ∷ codes "b" ∷ []
last_line = refl

accepted_reply : reply_text (Entered record { number = 4; outcome = Done }) ≡ codes "ok 4\n"
unfolding digits
accepted_reply = refl

refused_reply : reply_text (Entered record { number = 3; outcome = Refused TimeOrder })
    ≡ codes "no 3 206\n"
unfolding digits
refused_reply = refl

bad_reply : reply_text (Rejected (Faulty TooLong)) ≡ codes "bad 105\n"
unfolding digits
bad_reply = refl

refused_program : reply_text (Rejected (Program 308 0)) ≡ codes "bad 308 0\n"
unfolding digits
refused_program = refl

faulty_lines : output (record { history = []; capacity = 1; sigs = []; cells = [] }) []
    (codes "65 29000580 APT {}\n1 29000580 APT {\"cmd\":\"tick\"") ≡ codes "bad 100\nbad 101\n"
unfolding digits lines_on_literals
faulty_lines = refl

-- a journal of one entry
one_entry : output (record { history = []; capacity = 1; sigs = []; cells = [] }) [] (codes "1 29000580 APT {\"cmd\":\"schedule\",\"flight\":7,\"callsign\":\"DLH7\",\"type\":\"A320\",\"reg\":\"DAIBC\",\"dest\":\"EDDM\",\"sobt\":\"2025-02-20T10:00:00Z\",\"mttt\":40,\"exit\":5,\"exot\":10,\"stand\":12}\n2 29000580 NM {\"cmd\":\"report\",\"flight\":7,\"milestone\":1,\"time\":\"2025-02-20T10:00:00Z\",\"callsign\":\"DLH7\",\"type\":\"A320\",\"reg\":\"DAIBC\",\"dest\":\"EDDM\"}\n") ≡ codes "ok 0\nbad 502\n"
unfolding digits lines_on_literals
one_entry = refl

-- a turn-round: an in-block time before the landing is refused, and so is a landing after the
-- in-block time
turn_round : output (record { history = []; capacity = 100000; sigs = []; cells = [] }) [] (codes "1 29000700 APT {\"cmd\":\"schedule\",\"flight\":7,\"callsign\":\"DLH7\",\"type\":\"A320\",\"reg\":\"DAIBC\",\"dest\":\"EDDM\",\"sobt\":\"2025-02-20T10:00:00Z\",\"mttt\":40,\"exit\":5,\"exot\":10,\"stand\":12}\n2 29000700 NM {\"cmd\":\"report\",\"flight\":7,\"milestone\":1,\"time\":\"2025-02-20T10:00:00Z\",\"callsign\":\"DLH7\",\"type\":\"A320\",\"reg\":\"DAIBC\",\"dest\":\"EDDM\"}\n3 29000700 ATC {\"cmd\":\"report\",\"flight\":7,\"milestone\":6,\"time\":\"2025-02-20T09:00:00Z\"}\n1 29000700 APT {\"cmd\":\"report\",\"flight\":7,\"milestone\":7,\"time\":\"2025-02-20T08:59:00Z\"}\n1 29000700 APT {\"cmd\":\"report\",\"flight\":7,\"milestone\":7,\"time\":\"2025-02-20T09:00:00Z\"}\n3 29000700 ATC {\"cmd\":\"report\",\"flight\":7,\"milestone\":6,\"time\":\"2025-02-20T09:00:00Z\"}\n") ≡ codes "ok 0\nok 1\nok 2\nno 3 206\nok 4\nno 5 204\n"
unfolding digits lines_on_literals
turn_round = refl

-- a target off-block time is deleted: its alert comes, and the start-up time is gone
deleted_target : output (record { history = []; capacity = 100; sigs = []; cells = [] }) [] (codes "1 29000580 APT {\"cmd\":\"schedule\",\"flight\":7,\"callsign\":\"DLH7\",\"type\":\"A320\",\"reg\":\"DAIBC\",\"dest\":\"EDDM\",\"sobt\":\"2025-02-20T10:00:00Z\",\"mttt\":40,\"exit\":5,\"exot\":10,\"stand\":12}\n2 29000580 NM {\"cmd\":\"report\",\"flight\":7,\"milestone\":1,\"time\":\"2025-02-20T10:00:00Z\",\"callsign\":\"DLH7\",\"type\":\"A320\",\"reg\":\"DAIBC\",\"dest\":\"EDDM\"}\n5 29000580 GH {\"cmd\":\"report\",\"flight\":7,\"milestone\":9,\"time\":\"2025-02-20T10:00:00Z\"}\n3 29000580 ATC {\"cmd\":\"report\",\"flight\":7,\"milestone\":10,\"time\":\"2025-02-20T10:00:00Z\"}\n5 29000580 GH {\"cmd\":\"report\",\"flight\":7,\"milestone\":9,\"time\":null}\n1 29000580 APT {\"cmd\":\"alerts\"}\n3 29000580 ATC {\"cmd\":\"report\",\"flight\":7,\"milestone\":13,\"time\":\"2025-02-20T10:00:00Z\"}\n") ≡ codes "ok 0\nok 1\nok 2\nok 3\nok 4\nalerts 5 7:CDM10\nno 6 205\n"
unfolding digits bytes_of encode_with names_text lines_on_literals
deleted_target = refl

-- no flight has an alert, and the whole record is shown
whole_record : output (record { history = []; capacity = 100; sigs = []; cells = [] }) [] (codes "1 29000580 APT {\"cmd\":\"schedule\",\"flight\":7,\"callsign\":\"DLH7\",\"type\":\"A320\",\"reg\":\"DAIBC\",\"dest\":\"EDDM\",\"sobt\":\"2025-02-20T10:00:00Z\",\"mttt\":40,\"exit\":5,\"exot\":10,\"stand\":12}\n2 29000580 NM {\"cmd\":\"report\",\"flight\":7,\"milestone\":1,\"time\":\"2025-02-20T10:00:00Z\",\"callsign\":\"DLH7\",\"type\":\"A320\",\"reg\":\"DAIBC\",\"dest\":\"EDDM\"}\n1 29000580 APT {\"cmd\":\"alerts\"}\n1 29000580 APT {\"cmd\":\"show\",\"flight\":7}\n") ≡ codes "ok 0\nok 1\nalerts 2 -\nrec 3 0700000000000000444c4837000000004133323041333230444149424300000044414942430000004544444d4544444d030000000000000028000a000c0001053884ba013884ba010000000000000000000000000000000000000000000000000000000000000000000000000000000000000000000000000000000000000000\n"
unfolding digits bytes_of encode_with names_text lines_on_literals
whole_record = refl

-- flights with alerts, in order of creation
two_flights : output (record { history = []; capacity = 100; sigs = []; cells = [] }) [] (codes "1 29000580 APT {\"cmd\":\"schedule\",\"flight\":9,\"callsign\":\"DLH9\",\"type\":\"A320\",\"reg\":\"DAIBC\",\"dest\":\"EDDM\",\"sobt\":\"2025-02-20T10:00:00Z\",\"mttt\":40,\"exit\":5,\"exot\":10,\"stand\":12}\n2 29000580 NM {\"cmd\":\"report\",\"flight\":7,\"milestone\":1,\"time\":\"2025-02-20T10:00:00Z\",\"callsign\":\"DLH7\",\"type\":\"A320\",\"reg\":\"DAIBC\",\"dest\":\"EDDM\"}\n1 29000580 APT {\"cmd\":\"alerts\"}\n") ≡ codes "ok 0\nok 1\nalerts 2 9:CDM13;7:CDM01\n"
unfolding digits bytes_of encode_with names_text lines_on_literals
two_flights = refl

-- layout 1 has no times of de-icing; the second layout comes once, and keeps what is known
times_of_deicing : output (record { history = []; capacity = 100; sigs = []; cells = [] }) [] (codes "1 29000580 APT {\"cmd\":\"schedule\",\"flight\":7,\"callsign\":\"DLH7\",\"type\":\"A320\",\"reg\":\"DAIBC\",\"dest\":\"EDDM\",\"sobt\":\"2025-02-20T10:00:00Z\",\"mttt\":40,\"exit\":5,\"exot\":10,\"stand\":12}\n2 29000580 NM {\"cmd\":\"report\",\"flight\":7,\"milestone\":1,\"time\":\"2025-02-20T10:00:00Z\",\"callsign\":\"DLH7\",\"type\":\"A320\",\"reg\":\"DAIBC\",\"dest\":\"EDDM\"}\n6 29000580 DIC {\"cmd\":\"deice\",\"flight\":7,\"field\":\"eczt\",\"time\":\"2025-02-20T10:00:00Z\"}\n1 29000580 APT {\"cmd\":\"migrate\"}\n1 29000580 APT {\"cmd\":\"show\",\"flight\":7}\n6 29000580 DIC {\"cmd\":\"deice\",\"flight\":7,\"field\":\"eczt\",\"time\":\"2025-02-20T10:00:00Z\"}\n6 29000580 DIC {\"cmd\":\"deice\",\"flight\":7,\"field\":\"eezt\",\"time\":\"2025-02-20T09:59:00Z\"}\n6 29000580 DIC {\"cmd\":\"deice\",\"flight\":7,\"field\":\"eezt\",\"time\":\"2025-02-20T10:00:00Z\"}\n1 29000580 APT {\"cmd\":\"migrate\"}\n") ≡ codes "ok 0\nok 1\nno 2 325\nmigrated 3 -\nrec 4 0700000000000000444c4837000000004133323041333230444149424300000044414942430000004544444d4544444d030000000000000028000a000c0002053884ba013884ba0100000000000000000000000000000000000000000000000000000000000000000000000000000000000000000000000000000000000000000000000000000000000000000000000000000000000000000000000000000000\nok 5\nno 6 206\nok 7\nno 8 324\n"
unfolding digits bytes_of encode_with names_text lines_on_literals
times_of_deicing = refl
