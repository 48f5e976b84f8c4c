use Rattle.acdm_web.proofs.Names.{is_bytes_eq}
use Rattle.acdm_web.proofs.request.is_name.Goals as goal

pub returns : goal.returns
returns c = is_bytes_eq _ _ _ c.eq_ignore_ascii_case.ensures.test
