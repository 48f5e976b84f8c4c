-- The subcommand that a parse entered, by its name and its rows.
use Rattle.std.proofs.Common.{◌≡◌, codes, Bool, true, false, not, cond, List, Option, Some, None}
use Rattle.std.proofs.Common.{option_map, refl, ap, subst, ◌∙◌, ◌⊎◌, inl, inr}
use Rattle.std.specs.Str.{bytes_eq}
use Rattle.clap.proofs.OnLiterals.{clap_on_literals}
use Rattle.clap.specs.Words.{Row, Text, all_of, first_of, is_simple, subcommand_of}
use Rattle.bpf_regstate.specs.declared.length.Length.{Length}
use Rattle.acdm_command_line.specs.declared.command_line.Subcommand.{Subcommand}
use Rattle.acdm_command_line.specs.CommandLine.{Answers, Asks, AsksNothing, AsksWith, AuditsFile}
use Rattle.acdm_command_line.specs.CommandLine.{Explains, TellsFile}
use Rattle.acdm_command_line.specs.CommandLine.{Follows, IsJournal, IsRight, Runs, ServesAlone, Verifies}
use Rattle.acdm_command_line.specs.CommandLine.{board_app, program}
use Rattle.acdm_command_line.specs.CommandLine.{tables_in, value_in, values_in}

module _ {X : Type 0} (name : X → Text) (rows : X → List Row) where
  abbrev both : X → Text × List Row
  both b = (name b, rows b)

  pub named_rows : (o : Option X) (n : Text) (r : List Row) → Some n ≡ option_map name o
      → Some r ≡ option_map (λ (p : Text × List Row). p.1) (option_map both o)
      → option_map both o ≡ Some (n, r)
  named_rows None n r e f = absurd (cc)
  named_rows (Some x) n r e f =
      let n_is : name x ≡ n = cc in
      let r_is : rows x ≡ r = cc in
      λ i. Some (n_is i, r_is i)

is_true : (b : Bool) → not b ≡ false → b ≡ true
is_true true h = refl
is_true false h = absurd (cc)

-- the value of an argument of the subcommand that has this name
pub value_found : (o : Option (Text × List Row)) (name id n : Text) (r : List Row) → o ≡ Some (n, r)
    → not (bytes_eq n name) ≡ false → value_in name id o ≡ first_of id r
value_found o name id n r e h = ap (value_in name id) e
    ∙ ap (λ b. cond b (first_of id r) None) (is_true (bytes_eq n name) h)

-- the file of tables of the subcommand
pub tables_found : (o : Option (Text × List Row)) (n : Text) (r : List Row) → o ≡ Some (n, r)
    → tables_in o ≡ first_of (codes "tables") r
tables_found o n r e = ap tables_in e

-- all values of an argument of the subcommand that has this name
pub values_found : (o : Option (Text × List Row)) (name id n : Text) (r : List Row)
    → o ≡ Some (n, r) → not (bytes_eq n name) ≡ false → values_in name id o ≡ all_of id r
values_found o name id n r e h = ap (values_in name id) e
    ∙ ap (λ b. cond b (all_of id r) None) (is_true (bytes_eq n name) h)

-- ---- what is asked for

pub program_is_simple : is_simple program ≡ true
unfolding clap_on_literals board_app
program_is_simple = refl

none_asked : (found : Option (Text × List Row)) → AsksNothing found
    → ((text : Text) × Runs found text × IsJournal text)
    ⊎ ((text : Text) × ServesAlone found text × IsJournal text)
    ⊎ ((text : Text) × Follows found text × IsJournal text)
    ⊎ ((length : Length) × (file : Text) × Verifies found length file)
    ⊎ ((file : Text) × AuditsFile found file)
    ⊎ ((length : Length) × (file : Text) × Explains found length file)
    ⊎ ((file : Text) × TellsFile found file) → ⊥
none_asked found none (inl h) = none.run h.0 h.1 h.2
none_asked found none (inr (inl h)) = none.serve h.0 h.1 h.2
none_asked found none (inr (inr (inl h))) = none.follow h.0 h.1 h.2
none_asked found none (inr (inr (inr (inl h)))) = none.verify h.0 h.1 h.2
none_asked found none (inr (inr (inr (inr (inl h))))) = none.audit h.0 h.1
none_asked found none (inr (inr (inr (inr (inr (inl h)))))) = none.explain h.0 h.1 h.2
none_asked found none (inr (inr (inr (inr (inr (inr h)))))) = none.tell h.0 h.1

-- words of which something is answered ask for it
pub some_right : (words : List Text) (found : Option (Text × List Row)) (line : Option Subcommand) (l : Subcommand)
    (tables : Option Text) → found ≡ subcommand_of program words → Answers found line → line ≡ Some l
    → tables ≡ tables_in found → AsksWith (subcommand_of program words) l tables
some_right words found line l tables same answers is named = (
  subst (λ (o : Option (Text × List Row)). Asks o l) same
      (subst (λ (it : Option Subcommand). Answers found it) is answers),
  named ∙ ap tables_in same,
)

-- words of which nothing is answered are not right
pub none_right : (words : List Text) (found : Option (Text × List Row)) (line : Option Subcommand)
    → found ≡ subcommand_of program words → Answers found line → line ≡ None → IsRight words → ⊥
none_right words found line same answers none right =
    let nothing : Answers found None = subst (λ (l : Option Subcommand). Answers found l) none answers in
    none_asked (subcommand_of program words)
    (subst (λ (o : Option (Text × List Row)). Answers o None) same nothing) right.asks
