-- The journal of command lines, computed by the definitions alone.
use Rattle.std.proofs.Common.{◌≡◌, [], ◌∷◌, codes, Some, refl}
use Rattle.clap.proofs.OnLiterals.{clap_on_literals}
use Rattle.acdm_command_line.specs.CommandLine.{board_app, value_of}

usual : value_of (codes "run") (codes "journal") (codes "acdm" ∷ codes "run" ∷ [])
    ≡ Some (codes "100000")
unfolding clap_on_literals board_app
usual = refl

apart : value_of (codes "run") (codes "journal")
    (codes "acdm" ∷ codes "run" ∷ codes "--journal" ∷ codes "7" ∷ []) ≡ Some (codes "7")
unfolding clap_on_literals board_app
apart = refl

joined : value_of (codes "run") (codes "journal")
    (codes "acdm" ∷ codes "run" ∷ codes "--journal=7" ∷ []) ≡ Some (codes "7")
unfolding clap_on_literals board_app
joined = refl

-- ---- the first board of `follow`

first : value_of (codes "follow") (codes "first")
    (codes "acdm" ∷ codes "follow" ∷ codes "127.0.0.1:4100" ∷ codes "--keep" ∷ codes "day" ∷ codes "APT=4001" ∷ [])
    ≡ Some (codes "127.0.0.1:4100")
unfolding clap_on_literals board_app
first = refl

behind : value_of (codes "follow") (codes "first")
    (codes "acdm" ∷ codes "follow" ∷ codes "--keep" ∷ codes "day" ∷ codes "127.0.0.1:4100" ∷ codes "APT=4001" ∷ [])
    ≡ Some (codes "127.0.0.1:4100")
unfolding clap_on_literals board_app
behind = refl
