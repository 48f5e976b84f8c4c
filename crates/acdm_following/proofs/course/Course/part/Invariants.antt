use Rattle.acdm_following.specs.Courses.{parted_as}
use Rattle.acdm_following.proofs.course.Course.part.Given as goal

abbrev pub ghost-of : goal.ghost-of
ghost-of g = parted_as g._value.now.0.now.course g._value.now.1.now.course.parted g._value.now.2
