use Rattle.acdm_slots.proofs.PlaceLemmas.{elsewhere_after, given, same_place, there_after}
use Rattle.acdm_slots.proofs.law.places_are_apart.Goals as goal

pub returns-clause-apart : goal.returns-clause-apart
returns-clause-apart c = same_place

pub returns-clause-there : goal.returns-clause-there
returns-clause-there c = there_after

pub returns-clause-elsewhere : goal.returns-clause-elsewhere
returns-clause-elsewhere c = elsewhere_after

pub returns-clause-given : goal.returns-clause-given
returns-clause-given c = given
