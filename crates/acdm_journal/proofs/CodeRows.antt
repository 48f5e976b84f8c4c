-- The numbers of the clauses that an entry may break, as the profile's list of codes has them.
use Rattle.std.proofs.Common.{◌≡◌, map, [], ◌∷◌, refl}
use Rattle.acdm_journal.specs.declared.judge.Clause.TheVariants.{Unreadable, Number, Program}
use Rattle.acdm_journal.specs.declared.judge.Clause.TheVariants.{Answers, Outcome}
use Rattle.acdm_journal.specs.Audit.{clause_code}

clauses : map clause_code (Unreadable ∷ Number ∷ Program ∷ Answers ∷ Outcome ∷ [])
    ≡ 401 ∷ 402 ∷ 403 ∷ 404 ∷ 405 ∷ []
clauses = refl
