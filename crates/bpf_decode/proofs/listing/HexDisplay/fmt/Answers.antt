use Rattle.std.proofs.Common.{rules}
use Rattle.std.proofs.Output.{has_written_of_eq}
use Rattle.bpf_decode.proofs.ListingLemmas.{hex_text-is}
use Rattle.bpf_decode.proofs.listing.HexDisplay.fmt.Goals as goal

pub returns-clause-writes : goal.returns-clause-writes
returns-clause-writes g c = λ plain ok. has_written_of_eq _ _ _ _ _ (hex_text-is c.args.self.now.0)
    (search rules)
