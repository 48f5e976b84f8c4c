-- A command as an object: its fields by the names of the lines that ask for it.
use Rattle.std.specs.Prelude.{ℕ, List, [], ◌++◌, codes, Option, Some, None}
use Rattle.json.specs.Token.{Token}
use Rattle.bpf_regstate.specs.Lengths.{bytes_in}
use Rattle.bpf_regstate.specs.States.{instruction_count}
use Rattle.acdm_milestones.specs.Tables.{number}
use Rattle.acdm_milestones.specs.Deicing.{deicing_name}
use Rattle.acdm_slots.specs.Names.{kind_name}
use Rattle.acdm_step.specs.Facts.{ScheduleFacts, ReportFacts}
use Rattle.acdm_step.specs.declared.command.FlightPlan.{FlightPlan}
use Rattle.acdm_step.specs.declared.command.Load.{Load}
use Rattle.acdm_step.specs.declared.command.Unload.{Unload}
use Rattle.acdm_step.specs.declared.command.Deice.{Deice}
use Rattle.acdm_step.specs.declared.command.Command.{Command}
use Rattle.acdm_step.specs.declared.command.Command.TheVariants as commands
use Rattle.acdm_feed.specs.Names.{number_member, text_member, time_member}

abbrev pub cmd_member : List ℕ → List Token
cmd_member name = text_member (codes "cmd") name

abbrev pub flight_member : ℕ → List Token
flight_member flight = number_member (codes "flight") flight

abbrev pub plan_members : FlightPlan → List Token
plan_members p =
    text_member (codes "callsign") p.callsign ++ (text_member (codes "type") p.aircraft
    ++ (text_member (codes "reg") p.registration ++ text_member (codes "dest") p.destination))

abbrev pub plan_members_of : Option FlightPlan → List Token
plan_members_of None = []
plan_members_of (Some p) = plan_members p

abbrev pub planned_members : ScheduleFacts → List Token
planned_members s =
    time_member (codes "sobt") s.sobt ++ (number_member (codes "mttt") s.mttt
    ++ (number_member (codes "exit") s.exit ++ (number_member (codes "exot") s.exot
    ++ number_member (codes "stand") s.stand)))

abbrev pub schedule_members : ScheduleFacts → List Token
schedule_members s = cmd_member (codes "schedule")
    ++ (flight_member s.flight ++ (plan_members s.plan ++ planned_members s))

abbrev pub report_members : ReportFacts → List Token
report_members r = cmd_member (codes "report")
    ++ (flight_member r.flight ++ (number_member (codes "milestone") (number r.milestone)
    ++ (time_member (codes "time") r.time ++ plan_members_of r.plan)))

abbrev pub deice_members : Deice → List Token
deice_members d = cmd_member (codes "deice")
    ++ (flight_member d.flight ++ (text_member (codes "field") (deicing_name d.which)
    ++ time_member (codes "time") d.time))

-- of a program it is told how many instructions it has, and how long the records are beside which
-- it was checked
abbrev pub load_members : Load → List Token
load_members l = cmd_member (codes "load")
    ++ (number_member (codes "milestone") (number l.milestone)
    ++ (text_member (codes "kind") (kind_name l.kind)
    ++ (number_member (codes "instructions") (instruction_count l.program.ops)
    ++ number_member (codes "length") (bytes_in l.program.record_length))))

abbrev pub unload_members : Unload → List Token
unload_members u = cmd_member (codes "unload")
    ++ (number_member (codes "milestone") (number u.milestone)
    ++ text_member (codes "kind") (kind_name u.kind))

abbrev pub command_members : Command → List Token
command_members (commands.Schedule s) = schedule_members s
command_members (commands.Report r) = report_members r
command_members (commands.Deice d) = deice_members d
command_members (commands.Load l) = load_members l
command_members (commands.Unload u) = unload_members u
command_members commands.Tick = cmd_member (codes "tick")
command_members commands.Migrate =
    cmd_member (codes "migrate") ++ number_member (codes "layout") 2
command_members (commands.Show f) = cmd_member (codes "show") ++ flight_member f
command_members commands.Alerts = cmd_member (codes "alerts")
