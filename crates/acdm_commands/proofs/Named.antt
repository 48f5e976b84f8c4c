-- The words of partners, one after the other.
use Rattle.std.proofs.Common.{◌≡◌, ℕ, zero, suc, ◌+◌, ◌<◌, arith, take, drop, slice_index_or, List, [], ◌∷◌, ◌++◌, length, map, Option, Some, refl}
use Rattle.std.proofs.Common.{sym, ap, subst, ◌∙◌}
use Rattle.std.specs.Prelude.{IsSome}
use Rattle.std.specs.List.{AllByRecursion}
use Rattle.std.proofs.lemmas.List.{map-append}
use Rattle.acdm_milestones.specs.declared.role.Role.{Role}
use Rattle.acdm_failures.specs.declared.failure.Failure.{Failure}
use Rattle.acdm_failures.specs.declared.failure.Failure.TheVariants as failures
use Rattle.acdm_commands.specs.Partners.{FailsToListen, FailsToName, role_in}

-- a list around its element at a place
split_at : {X : Type 0} (xs : List X) (i : ℕ) (d : X) → i < length xs
    → xs ≡ take i xs ++ slice_index_or xs i d ∷ drop (suc i) xs
split_at [] i d below = absurd (omega (arith, below))
split_at (x ∷ xs) zero d below = refl
split_at (x ∷ xs) (suc i) d below = ap (λ ys. x ∷ ys) (split_at xs i d (omega (arith, below)))

module _ {P : Type 0} (role : P → Role) where
  abbrev roles_of : List P → List (Option Role)
  roles_of ps = map (λ p. Some (role p)) ps

  -- words that name the roles of these partners are as many
  same_count : (words : List (List ℕ)) (ps : List P) → map role_in words ≡ roles_of ps
      → length words ≡ length ps
  same_count [] [] same = refl
  same_count [] (p ∷ ps) same = absurd (cc)
  same_count (w ∷ words) [] same = absurd (cc)
  same_count (w ∷ words) (p ∷ ps) same =
      let rest : map role_in words ≡ roles_of ps = cc in
      ap suc (same_count words ps rest)

  all_name : (words : List (List ℕ)) (ps : List P) → map role_in words ≡ roles_of ps
      → AllByRecursion (λ w. IsSome (role_in w)) words
  all_name [] ps same = tt
  all_name (w ∷ words) [] same = absurd (cc)
  all_name (w ∷ words) (p ∷ ps) same =
      let first : Some (role p) ≡ role_in w = cc in
      let rest : map role_in words ≡ roles_of ps = cc in
      (subst (λ o. IsSome o) first refl, all_name words ps rest)

  named_as : (words front more : List (List ℕ)) (word : List ℕ) (n : ℕ) (failure : Failure)
      → words ≡ front ++ word ∷ more → AllByRecursion (λ w. IsSome (role_in w)) front
      → n ≡ length front + 1 → FailsToName n word failure → FailsToListen words failure
  named_as words front more word n (failures.Role k) split all count fails =
      (front, word, more, split, all, (fails.0 ∙ count, fails.1))
  named_as words front more word n (failures.Address k) split all count fails =
      (front, word, more, split, all, (fails.0 ∙ count, fails.1))
  named_as words front more word n failures.Read split all count fails = absurd fails
  named_as words front more word n failures.Write split all count fails = absurd fails
  named_as words front more word n failures.Untold split all count fails = absurd fails
  named_as words front more word n failures.Save split all count fails = absurd fails
  named_as words front more word n failures.Memory split all count fails = tt
  named_as words front more word n (failures.Accept k) split all count fails = absurd fails
  named_as words front more word n failures.Watch split all count fails = absurd fails
  named_as words front more word n failures.Follow split all count fails = absurd fails
  named_as words front more word n failures.Control split all count fails = absurd fails
  named_as words front more word n failures.Log split all count fails = absurd fails
  named_as words front more word n failures.Word split all count fails = absurd fails
  named_as words front more word n failures.Stream split all count fails = absurd fails
  named_as words front more word n failures.Keep split all count fails = absurd fails
  named_as words front more word n failures.InUse split all count fails = absurd fails
  named_as words front more word n failures.Room split all count fails = absurd fails
  named_as words front more word n failures.Peer split all count fails = absurd fails
  named_as words front more word n failures.Replaced split all count fails = absurd fails

  -- nobody listens for the next word
  pub fails_next : (words front more : List (List ℕ)) (word : List ℕ) (ps : List P)
      (failure : Failure) → words ≡ front ++ word ∷ more → map role_in front ≡ roles_of ps
      → FailsToName (length ps + 1) word failure → FailsToListen words failure
  fails_next words front more word ps failure split same fails =
      named_as words front more word (length ps + 1) failure split (all_name front ps same)
      (ap (λ k. k + 1) (sym (same_count front ps same))) fails

  -- nobody listens for the word at a place
  pub fails_at : {X : Type 0} (text : X → List ℕ) (xs : List X) (i : ℕ) (d : X) (ps : List P)
      (failure : Failure) → i < length xs → map role_in (map text (take i xs)) ≡ roles_of ps
      → FailsToName (length ps + 1) (text (slice_index_or xs i d)) failure
      → FailsToListen (map text xs) failure
  fails_at text xs i d ps failure below same fails =
      fails_next (map text xs) (map text (take i xs)) (map text (drop (suc i) xs))
      (text (slice_index_or xs i d)) ps failure
      (ap (map text) (split_at xs i d below)
      ∙ map-append text (take i xs) (slice_index_or xs i d ∷ drop (suc i) xs)) same fails
