-- Members of objects, and names (this project's profile).
use Rattle.std.specs.Prelude.{ℕ, ◌==◌, if◌then◌else◌, List, [], ◌∷◌, ◌++◌, codes}
use Rattle.std.specs.Fmt.{decimal}
use Rattle.json.specs.Token.{Token, begin_object, end_object, begin_array, end_array, key, string}
use Rattle.json.specs.Token.{number, null}
use Rattle.acdm_milestones.specs.declared.refusal.Refusal.{Refusal}
use Rattle.acdm_milestones.specs.declared.refusal.Refusal.TheVariants.{NotOwner, UnknownFlight}
use Rattle.acdm_milestones.specs.declared.refusal.Refusal.TheVariants.{MissingMilestone, Barred}
use Rattle.acdm_milestones.specs.declared.refusal.Refusal.TheVariants.{NotSet, TimeOrder}
use Rattle.acdm_milestones.specs.declared.refusal.Refusal.TheVariants.{AlreadyPlanned, FullBoard}
use Rattle.acdm_milestones.specs.declared.refusal.Refusal.TheVariants.{EmptySlot, OtherSignatures}
use Rattle.acdm_milestones.specs.declared.refusal.Refusal.TheVariants.{OtherLength, AlreadyMigrated}
use Rattle.acdm_milestones.specs.declared.refusal.Refusal.TheVariants.{FirstLayout, Unanswered}
use Rattle.acdm_milestones.specs.Codes.{refusal_code}
use Rattle.acdm_step.specs.declared.entry.Verdict.{Verdict}
use Rattle.acdm_step.specs.declared.entry.Verdict.TheVariants.{Accepted, Refused}
use Rattle.acdm_feed.specs.Minutes.{minute_text}

-- a member of an object: its name and its value
unfoldable pub number_member : List ℕ → ℕ → List Token
number_member name n = key name ∷ number (decimal n) ∷ []

unfoldable pub text_member : List ℕ → List ℕ → List Token
text_member name text = key name ∷ string text ∷ []

-- no time is null
abbrev pub time_token : ℕ → Token
time_token t = if t == 0 then null else string (minute_text t)

unfoldable pub time_member : List ℕ → ℕ → List Token
time_member name t = key name ∷ time_token t ∷ []

abbrev pub list_member : List ℕ → List Token → List Token
list_member name items = key name ∷ begin_array ∷ (items ++ end_array ∷ [])

abbrev pub object_of : List Token → List Token
object_of members = begin_object ∷ (members ++ end_object ∷ [])

-- the name of a refusal
abbrev pub refusal_name : Refusal → List ℕ
refusal_name NotOwner = codes "not_owner"
refusal_name UnknownFlight = codes "unknown_flight"
refusal_name MissingMilestone = codes "missing_milestone"
refusal_name Barred = codes "barred"
refusal_name NotSet = codes "not_set"
refusal_name TimeOrder = codes "time_order"
refusal_name AlreadyPlanned = codes "already_planned"
refusal_name FullBoard = codes "full_board"
refusal_name EmptySlot = codes "empty_slot"
refusal_name OtherSignatures = codes "other_signatures"
refusal_name OtherLength = codes "other_length"
refusal_name AlreadyMigrated = codes "already_migrated"
refusal_name FirstLayout = codes "first_layout"
refusal_name Unanswered = codes "unanswered"

-- `"ok"`, or the number of the refusal and its name
abbrev pub outcome_tokens : Verdict → List Token
outcome_tokens Accepted = string (codes "ok") ∷ []
outcome_tokens (Refused x) =
    object_of (number_member (codes "code") (refusal_code x)
    ++ text_member (codes "name") (refusal_name x))
