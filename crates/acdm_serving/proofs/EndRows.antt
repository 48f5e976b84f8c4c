-- How the ends of sessions are told, as the profile has their words.
use Rattle.std.proofs.Common.{◌≡◌, map, [], ◌∷◌, codes, true, false, refl}
use Rattle.acdm_sessions.specs.declared.session.End.TheVariants.{End, Read, Write, Memory, Start}
use Rattle.acdm_serving.specs.Partners.{end_text}

ends : map (λ end. end_text end false) (End ∷ Read ∷ Write ∷ Memory ∷ Start ∷ [])
    ≡ codes "end" ∷ codes "read" ∷ codes "write" ∷ codes "memory" ∷ codes "start" ∷ []
ends = refl

-- of a session that is torn that alone is told
torn : map (λ end. end_text end true) (End ∷ Read ∷ Write ∷ Memory ∷ Start ∷ [])
    ≡ codes "torn" ∷ codes "torn" ∷ codes "torn" ∷ codes "torn" ∷ codes "torn" ∷ []
torn = refl
