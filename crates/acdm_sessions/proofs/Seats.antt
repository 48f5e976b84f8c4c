-- Seats, and what is told of those who left them.
use Rattle.std.proofs.Common.{◌≡◌, ℕ, ◌+◌, ◌<◌, ◌≤◌, List, [], ◌∷◌, map, length, refl, sym, ap}
use Rattle.std.proofs.Common.{◌++◌, ◌∙◌, subst, arith, append_assoc, append-nil, length-append, Bool}
use Rattle.std.proofs.Common.{Result, Ok, Err}
use Rattle.std.proofs.lemmas.List.{map-append}
use Rattle.acdm_milestones.specs.declared.role.Role.{Role}
use Rattle.acdm_jobs.specs.Each.{Each}
use Rattle.acdm_row.specs.Views.{PassView, RowView}
use Rattle.acdm_lines.specs.Counted.{SinkView, SourceView}
use Rattle.acdm_lines.specs.declared.run_error.RunError.{RunError}
use Rattle.acdm_lines.specs.declared.run_error.RunError.TheVariants.{Memory, Read, Write}
use Rattle.acdm_sessions.specs.Sessions.{SessionEnd, numbered, HaveEnded, EndsAs}
use Rattle.acdm_sessions.specs.Sessions.{HasServed, ServesAs, SessionAnswers, end_for, new_pass}
use Rattle.acdm_sessions.specs.Sessions.{session_end, session_left, session_start}
use Rattle.acdm_sessions.specs.Announced.{TellsMade}
use Rattle.acdm_sessions.specs.Stream.{AnswersLines, EndsSo, serving_by}
use Rattle.acdm_sessions.proofs.Announcing.{tells_all}

pub map_map : {X Y Z : Type 0} (g : Y → Z) (f : X → Y) (xs : List X)
    → map (λ x. g (f x)) xs ≡ map g (map f xs)
map_map g f [] = refl
map_map g f (x ∷ xs) = ap (λ ys. g (f x) ∷ ys) (map_map g f xs)

pub empty_of : {X : Type 0} (xs : List X) → length xs ≡ 0 → xs ≡ []
empty_of [] h = refl
empty_of (x ∷ xs) h = absurd (omega arith)

pub longer_by_one : {X : Type 0} (xs ys : List X) (x : X) → ys ≡ xs ++ x ∷ []
    → length ys ≡ length xs + 1
longer_by_one xs ys x h = ap length h ∙ length-append xs (x ∷ [])

-- one more of a list was taken, and what came of it stands behind the others
module _ {W S : Type 0} (f : W → S) where
  pub taken_as : (done now : List W) (w : W) (items rest all : List S) → now ≡ done ++ w ∷ []
      → items ≡ f w ∷ rest → map f done ++ items ≡ all → map f now ++ rest ≡ all
  taken_as done now w items rest all added next h =
      ap (λ ws. map f ws ++ rest) added
      ∙ ap (λ xs. xs ++ rest) (map-append f done (w ∷ []))
      ∙ append_assoc (map f done) (f w ∷ []) rest ∙ ap (λ xs. map f done ++ xs) (sym next) ∙ h

  -- none is left
  pub all_taken_as : (done : List W) (items all : List S) → length items ≡ 0
      → map f done ++ items ≡ all → map f done ≡ all
  all_taken_as done items all none h =
      sym (append-nil (map f done)) ∙ ap (λ xs. map f done ++ xs) (sym (empty_of items none)) ∙ h

-- the same, where both are looked at
module _ {W S X : Type 0} (f : W → X) (h : S → X) where
  pub taken_both : (done now : List W) (w : W) (s : S) (items rest : List S) (all : List X)
      → now ≡ done ++ w ∷ [] → items ≡ s ∷ rest → f w ≡ h s → map f done ++ map h items ≡ all
      → map f now ++ map h rest ≡ all
  taken_both done now w s items rest all added next same kept =
      ap (λ ws. map f ws ++ map h rest) added
      ∙ ap (λ xs. xs ++ map h rest) (map-append f done (w ∷ []))
      ∙ append_assoc (map f done) (f w ∷ []) (map h rest)
      ∙ ap (λ x. map f done ++ x ∷ map h rest) same
      ∙ ap (λ xs. map f done ++ map h xs) (sym next) ∙ kept

  -- none was taken yet
  pub none_taken : (done : List W) (items all : List S) → done ≡ [] → items ≡ all
      → map f done ++ map h items ≡ map h all
  none_taken done items all none same =
      ap (λ ws. map f ws ++ map h items) none ∙ ap (λ xs. map h xs) same

  -- none is left
  pub all_taken : (done : List W) (items : List S) (all : List X) → length items ≡ 0
      → map f done ++ map h items ≡ all → map f done ≡ all
  all_taken done items all none kept =
      sym (append-nil (map f done))
      ∙ ap (λ xs. map f done ++ map h xs) (sym (empty_of items none)) ∙ kept

-- the same, where what is taken has its number
module _ {W S X : Type 0} (f : W → ℕ × X) (h : S → X) (n : ℕ) where
  pub taken_numbered : (done now : List W) (w : W) (s : S) (items rest : List S)
      (all : List (ℕ × X)) → now ≡ done ++ w ∷ [] → items ≡ s ∷ rest → f w ≡ (n, h s)
      → map f done ++ numbered n (map h items) ≡ all
      → map f now ++ numbered (n + 1) (map h rest) ≡ all
  taken_numbered done now w s items rest all added next same kept =
      ap (λ ws. map f ws ++ numbered (n + 1) (map h rest)) added
      ∙ ap (λ xs. xs ++ numbered (n + 1) (map h rest)) (map-append f done (w ∷ []))
      ∙ append_assoc (map f done) (f w ∷ []) (numbered (n + 1) (map h rest))
      ∙ ap (λ x. map f done ++ x ∷ numbered (n + 1) (map h rest)) same
      ∙ ap (λ xs. map f done ++ numbered n (map h xs)) (sym next) ∙ kept

  pub none_numbered : (done : List W) (items all : List S) → done ≡ [] → items ≡ all
      → map f done ++ numbered n (map h items) ≡ numbered n (map h all)
  none_numbered done items all none same =
      ap (λ ws. map f ws ++ numbered n (map h items)) none
      ∙ ap (λ xs. numbered n (map h xs)) same

  pub all_numbered : (done : List W) (items : List S) (all : List (ℕ × X)) → length items ≡ 0
      → map f done ++ numbered n (map h items) ≡ all → map f done ≡ all
  all_numbered done items all none kept =
      sym (append-nil (map f done))
      ∙ ap (λ xs. map f done ++ numbered n (map h xs)) (sym (empty_of items none)) ∙ kept

-- what is so of each that is looked at through f
pub each_through : {X Y Z : Type 0} (f : X → Y) (P : Y → Z → Type 0) (xs : List X) (zs : List Z)
    → Each (λ x z. P (f x) z) xs zs → Each P (map f xs) zs
each_through f P [] [] e = tt
each_through f P (x ∷ xs) (z ∷ zs) e = (e.0, each_through f P xs zs e.1)
each_through f P [] (z ∷ zs) e = absurd e
each_through f P (x ∷ xs) [] e = absurd e

-- what is so of each is so of each that it implies
pub each_as : {X Y : Type 0} (P Q : X → Y → Type 0) (xs : List X) (ys : List Y)
    → ((x : X) (y : Y) → P x y → Q x y) → Each P xs ys → Each Q xs ys
each_as P Q [] [] h e = tt
each_as P Q (x ∷ xs) (y ∷ ys) h e = (h x y e.0, each_as P Q xs ys h e.1)
each_as P Q [] (y ∷ ys) h e = absurd e
each_as P Q (x ∷ xs) [] h e = absurd e

-- what is so of each of the others that is looked at through f
each_onto : {X Y Z : Type 0} (f : Y → Z) (P : X → Z → Type 0) (xs : List X) (ys : List Y)
    → Each (λ x y. P x (f y)) xs ys → Each P xs (map f ys)
each_onto f P [] [] e = tt
each_onto f P (x ∷ xs) (y ∷ ys) e = (e.0, each_onto f P xs ys e.1)
each_onto f P [] (y ∷ ys) e = absurd e
each_onto f P (x ∷ xs) [] e = absurd e

-- what is so of works and of what they gave, told of their seats and of what was left
pub each_seated : {S W X Y Z : Type 0} (P : X → Z → Type 0) (seat : W → S) (place : S → X)
    (left_of : Y → Z) (works : List W) (seats : List S) (ys : List Y) (xs : List X) (zs : List Z)
    → Each (λ w y. P (place (seat w)) (left_of y)) works ys → map seat works ≡ seats
    → map place seats ≡ xs → zs ≡ map left_of ys → Each P xs zs
each_seated {S} {W} {X} {Y} {Z} P seat place left_of works seats ys xs zs e on placed left =
    let first : Each (λ s y. P (place s) (left_of y)) (map seat works) ys =
    each_through seat (λ s y. P (place s) (left_of y)) works ys e in
    let second : Each (λ x y. P x (left_of y)) (map place (map seat works)) ys =
    each_through place (λ x y. P x (left_of y)) (map seat works) ys first in
    let third : Each P (map place (map seat works)) (map left_of ys) =
    each_onto left_of P (map place (map seat works)) ys second in
    subst (λ vs. Each P xs vs) (sym left)
    (subst (λ vs. Each P vs (map left_of ys)) (ap (map place) on ∙ placed) third)

-- sessions that sat on numbered seats have ended
pub have_ended : (n : ℕ) (roles : List Role) (ts : List SessionEnd)
    → Each (λ s t. EndsAs s.0 s.1 t) (numbered n roles) ts → HaveEnded n roles ts
have_ended n [] [] e = tt
have_ended n (r ∷ rs) (t ∷ ts) e =
    (e.0.same_number, e.0.same_role, e.0.not_started, have_ended (n + 1) rs ts e.1)
have_ended n [] (t ∷ ts) e = absurd e
have_ended n (r ∷ rs) [] e = absurd e

-- one more was counted of those that are left
pub count_on : (n left later all : ℕ) → later + 1 ≡ left → n + left ≡ all → n + 1 + later ≡ all
count_on n left later all one h = omega arith

-- one part less is left of those that there were
pub part_less : (n now before all : ℕ) → now + 1 ≡ before → before + n ≡ all
    → now + (n + 1) ≡ all
part_less n now before all one h = omega arith

-- what the next of them asks for is there
pub few_so_far : (n left later all : ℕ) → later + 1 ≡ left → n + left ≡ all → all ≤ 64
    → (1 ≤ n + 1) × (n + 1 ≤ 64)
few_so_far n left later all one h few = (omega arith, omega arith)

pub parts_so_far : (n left later all parts whole : ℕ) → later + 1 ≡ left → n + left ≡ all
    → parts + n ≡ whole → all < whole → 1 < parts
parts_so_far n left later all parts whole one h kept more = omega arith

pub room_so_far : (n left later all len cap : ℕ) → later + 1 ≡ left → n + left ≡ all → len ≡ n
    → all ≤ cap → len < cap
room_so_far n left later all len cap one h same room = omega arith

-- where none is left
pub len_of_all : (n left all len : ℕ) → left ≡ 0 → n + left ≡ all → len ≡ n → len ≡ all
len_of_all n left all len none h same = omega arith

pub parts_of_all : (n left all parts whole : ℕ) → left ≡ 0 → n + left ≡ all → parts + n ≡ whole
    → parts + all ≡ whole
parts_of_all n left all parts whole none h kept = omega arith

-- all parts are there when the ledger is opened
pub parts_any : (opened named blank len : ℕ) → opened ≡ named → blank ≡ named → blank ≡ len + 1
    → 0 < opened
parts_any opened named blank len on given all = omega arith

pub parts_there : (now opened named blank len : ℕ) → now ≡ opened → opened ≡ named
    → blank ≡ named → blank ≡ len + 1 → len < now
parts_there now opened named blank len same on given all = omega arith

-- the share has what was added, and no more
pub amount_there : (now added opened more there : ℕ) → now ≡ added → added ≡ opened + more
    → opened ≡ 0 → more ≡ there → now ≡ there
amount_there now added opened more there same grew none is = omega arith

-- ---- what a session leaves

module _ {R W T : Type 0} (row : RowView) (number : ℕ) (role : Role) (gives : ℕ → Bool)
    (r r' : SourceView R) (w w' : SinkView W) (p' : PassView) where
  serves_as : (result : Result T RunError)
      → EndsSo (serving_by (SessionAnswers gives row.sigs)) r r' w w' (new_pass row number role) p'
      result
      → ServesAs row number (session_start role r w gives) (session_left (end_for result) r' w' p')
      (end_for result)
  serves_as (Ok x) h = (h.output, h.flushed)
  serves_as (Err Read) h = (h.read, h.quiet)
  serves_as (Err Write) h = (h.written_in_part, h.write)
  serves_as (Err Memory) h = (ap (λ v. v.log) h.0, ap (λ v. v.log) h.1, h.2)

  -- its lines were answered so, from a pass that had seen nothing
  pub has_served : (result : Result T RunError)
      → AnswersLines (serving_by (SessionAnswers gives row.sigs)) r r' w w' (new_pass row number role)
      p' result
      → (made : List ℕ) → made ≡ [] → TellsMade made p'.numbers w.told w'.told
      → HasServed row number (session_start role r w gives)
      (session_left (end_for result) r' w' p')
  has_served result h made none told = record {
    served = serves_as result h.ends;
    known = λ i. (h.same_reader i, h.same_writer i);
    told = tells_all none told;
  }

-- a session whose lines were answered was started
pub ends_as : {T : Type 0} (number : ℕ) (role : Role) (calls : ℕ) (result : Result T RunError)
    → EndsAs number role (session_end number role calls (end_for result))
ends_as number role calls (Ok x) = record { same_number = refl; same_role = refl; not_started = λ same. cc }
ends_as number role calls (Err Read) = record { same_number = refl; same_role = refl; not_started = λ same. cc }
ends_as number role calls (Err Write) = record { same_number = refl; same_role = refl; not_started = λ same. cc }
ends_as number role calls (Err Memory) = record { same_number = refl; same_role = refl; not_started = λ same. cc }
