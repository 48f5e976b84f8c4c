-- The numbers of the desk's errors in replies (this project's profile).
use Rattle.std.specs.Prelude.{ℕ}
use Rattle.acdm_board.specs.declared.error.DeskError.{DeskError}
use Rattle.acdm_board.specs.declared.error.DeskError.TheVariants.{Full, OtherSignatures, Memory}

abbrev pub error_code : DeskError → ℕ
error_code Full = 502
error_code OtherSignatures = 322
error_code Memory = 501
