-- The texts of replies (this project's profile).
use Rattle.std.specs.Prelude.{ℕ, List, [], ◌∷◌, ◌++◌, codes}
use Rattle.std.specs.Fmt.{decimal}
use Rattle.std.specs.List.{flat_map}
use Rattle.hex.specs.Hex.{encode_lower}
use Rattle.acdm_record.specs.Fields.{bytes_of}
use Rattle.acdm_alerts.specs.Names.{names_text}
use Rattle.acdm_milestones.specs.Codes.{refusal_code}
use Rattle.acdm_milestones.specs.Tables.{number}
use Rattle.acdm_slots.specs.declared.migration.Unloaded.{Unloaded}
use Rattle.acdm_slots.specs.Names.{kind_name}
use Rattle.acdm_step.specs.declared.outcome.Alerted.{Alerted}
use Rattle.acdm_step.specs.declared.outcome.Outcome.{Outcome}
use Rattle.acdm_step.specs.declared.outcome.Outcome.TheVariants.{Done, Shown, Listed, Refused}
use Rattle.acdm_step.specs.declared.outcome.Outcome.TheVariants.{Migrated}
use Rattle.acdm_wire.specs.declared.fault.Bad.{Bad}
use Rattle.acdm_wire.specs.declared.fault.Bad.TheVariants.{Program}
use Rattle.acdm_wire.specs.Codes.{bad_code}

-- a flight with its alerts: `ID:NAME,NAME`
abbrev pub alerted_text : Alerted → List ℕ
alerted_text a = decimal a.flight ++ 58 ∷ names_text a.alerts

-- a program that was unloaded, with its first fault: `M:KIND:CODE:SLOT`
abbrev pub unloaded_text : Unloaded → List ℕ
unloaded_text u = decimal (number u.milestone) ++ 58 ∷ kind_name u.kind ++ 58 ∷ decimal u.code
    ++ 58 ∷ decimal u.slot

-- an item more, after others
abbrev pub next_text : {A : Type 0} → (A → List ℕ) → A → List ℕ
next_text text item = 59 ∷ text item

-- the items of a list, `;` between them, and `-` where there is none
abbrev pub list_text : {A : Type 0} → (A → List ℕ) → List A → List ℕ
list_text text [] = codes "-"
list_text text (item ∷ more) = text item ++ flat_map (next_text text) more

-- what stands before a list in a reply
abbrev pub list_head : List ℕ → ℕ → List ℕ
list_head word n = word ++ 32 ∷ decimal n ++ 32 ∷ []

-- the reply: `ok N`, `rec N HEX`, `alerts N LIST`, `migrated N LIST`, `no N CODE`, `bad CODE` or
-- `bad CODE SLOT`, and a line feed
abbrev pub entry_text : ℕ → Outcome → List ℕ
entry_text n Done = codes "ok " ++ decimal n ++ 10 ∷ []
entry_text n (Shown r) = codes "rec " ++ decimal n ++ 32 ∷ encode_lower (bytes_of r) ++ 10 ∷ []
entry_text n (Listed flights) =
    list_head (codes "alerts") n ++ (list_text alerted_text flights ++ 10 ∷ [])
entry_text n (Migrated programs) =
    list_head (codes "migrated") n ++ (list_text unloaded_text programs ++ 10 ∷ [])
entry_text n (Refused x) =
    codes "no " ++ decimal n ++ 32 ∷ [] ++ decimal (refusal_code x) ++ 10 ∷ []

abbrev pub bad_text : Bad → List ℕ
bad_text (Program code slot) = codes "bad " ++ decimal code ++ 32 ∷ [] ++ decimal slot ++ 10 ∷ []
bad_text b = codes "bad " ++ decimal (bad_code b) ++ 10 ∷ []
