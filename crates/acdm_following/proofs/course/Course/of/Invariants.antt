use Rattle.acdm_following.specs.declared.first_board.Parting.TheVariants.{Ended}
use Rattle.acdm_following.specs.Courses.{parted, unasked}
use Rattle.acdm_following.proofs.course.Course.of.Given as goal

abbrev pub ghost-of : goal.ghost-of
ghost-of g a = parted unasked a._value.now.faults a._value.now.log a._value.now.ended Ended
