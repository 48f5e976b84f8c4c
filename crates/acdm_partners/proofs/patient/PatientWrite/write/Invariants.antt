use Rattle.std.specs.Io.KnownBytes.{Keeps}
use Rattle.acdm_partners.proofs.patient.PatientWrite.write.Given as goal

abbrev pub invariant-loop : goal.invariant-loop
invariant-loop g l = Keeps (g.W.Write.contents l.fn.self.stream) (g.W.Write.contents l.self.stream)
