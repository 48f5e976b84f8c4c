-- What a command says, and the ranges that its type keeps (this project's profile).
use Rattle.std.specs.Prelude.{ℕ, ◌≤◌, ◌≡◌, Bool, true, ◌==◌, not, Option, is_some}
use Rattle.acdm_milestones.specs.declared.milestone.Milestone.{Milestone}
use Rattle.acdm_milestones.specs.declared.milestone.Milestone.TheVariants.{FlightPlanActivated}
use Rattle.acdm_milestones.specs.declared.milestone.Milestone.TheVariants.{TwoHoursBeforeEobt}
use Rattle.acdm_milestones.specs.declared.milestone.Milestone.TheVariants.{TobtUpdate}
use Rattle.acdm_step.specs.declared.command.TheConstants.{MINUTES_OF_DAY}
use Rattle.acdm_step.specs.declared.command.FlightPlan.{FlightPlan}

pub record ScheduleFacts : Type 0 where
  pub flight : ℕ
  pub plan : FlightPlan
  pub sobt : ℕ
  pub mttt : ℕ
  pub exit : ℕ
  pub exot : ℕ
  pub stand : ℕ

pub record IsSchedule (flight sobt mttt exot : ℕ) : Type 0 where
  pub flight_given : 1 ≤ flight
  pub sobt_given : 1 ≤ sobt
  pub mttt_in_range : mttt ≤ MINUTES_OF_DAY
  pub exot_in_range : exot ≤ MINUTES_OF_DAY

pub record ReportFacts : Type 0 where
  pub flight : ℕ
  pub milestone : Milestone
  pub time : ℕ
  pub plan : Option FlightPlan

-- a plan comes with the first milestone, and with it alone
abbrev pub has_its_plan : Milestone → Option FlightPlan → Bool
has_its_plan FlightPlanActivated p = is_some p
has_its_plan _ p = not (is_some p)

-- milestones 2 and 9 alone may come without a time
abbrev pub has_its_time : Milestone → ℕ → Bool
has_its_time TwoHoursBeforeEobt time = true
has_its_time TobtUpdate time = true
has_its_time _ time = not (time == 0)

pub record IsReport (flight : ℕ) (milestone : Milestone) (time : ℕ) (plan : Option FlightPlan) : Type 0
  where
    pub flight_given : 1 ≤ flight
    pub plan_with_first : has_its_plan milestone plan ≡ true
    pub timed : has_its_time milestone time ≡ true
