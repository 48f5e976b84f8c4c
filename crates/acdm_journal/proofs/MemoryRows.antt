-- Lines that need memory to be read, and some that need none, computed by the definitions alone.
use Rattle.std.proofs.Common.{◌≡◌, [], codes, true, false, refl}
use Rattle.acdm_journal.specs.Reading.{natural_of, number_at, role_at, kind_at, milestone_at}
use Rattle.acdm_journal.specs.Reading.{answers_at}
use Rattle.acdm_journal.specs.Memory.{bytes_need_memory, load_needs_memory, command_needs_memory}
use Rattle.acdm_journal.specs.Memory.{asked_needs_memory, answers_need_memory}
use Rattle.acdm_journal.specs.Memory.{stated_needs_memory, line_needs_memory}

a_load : line_needs_memory (codes "0 1 29000580 APT 0 0 load 9 alert 9500") ≡ true
unfolding line_needs_memory stated_needs_memory answers_need_memory asked_needs_memory
    command_needs_memory load_needs_memory bytes_need_memory natural_of number_at role_at kind_at
    milestone_at answers_at
a_load = refl

answers : line_needs_memory (codes "3 5 29000580 GH 0 1 10 report 7 9 29000760") ≡ true
unfolding line_needs_memory stated_needs_memory answers_need_memory asked_needs_memory
    command_needs_memory load_needs_memory bytes_need_memory natural_of number_at role_at kind_at
    milestone_at answers_at
answers = refl

-- the first answer is read before the line is found to be no line
cut_answers : line_needs_memory (codes "3 5 29000580 GH 0 2 10") ≡ true
unfolding line_needs_memory stated_needs_memory answers_need_memory asked_needs_memory
    command_needs_memory load_needs_memory bytes_need_memory natural_of number_at role_at kind_at
    milestone_at answers_at
cut_answers = refl

odd_load : line_needs_memory (codes "0 1 29000580 APT 0 0 load 9 alert 950") ≡ false
unfolding line_needs_memory stated_needs_memory answers_need_memory asked_needs_memory
    command_needs_memory load_needs_memory bytes_need_memory natural_of number_at role_at kind_at
    milestone_at answers_at
odd_load = refl

no_kind : line_needs_memory (codes "0 1 29000580 APT 0 0 load 9 alarm 9500") ≡ false
unfolding line_needs_memory stated_needs_memory answers_need_memory asked_needs_memory
    command_needs_memory load_needs_memory bytes_need_memory natural_of number_at role_at kind_at
    milestone_at answers_at
no_kind = refl

no_answer : line_needs_memory (codes "0 1 29000580 APT 0 1 tick") ≡ false
unfolding line_needs_memory stated_needs_memory answers_need_memory asked_needs_memory
    command_needs_memory load_needs_memory bytes_need_memory natural_of number_at role_at kind_at
    milestone_at answers_at
no_answer = refl

a_tick : line_needs_memory (codes "0 1 29000580 APT 0 0 tick") ≡ false
unfolding line_needs_memory stated_needs_memory answers_need_memory asked_needs_memory
    command_needs_memory load_needs_memory bytes_need_memory natural_of number_at role_at kind_at
    milestone_at answers_at
a_tick = refl

a_report : line_needs_memory (codes "3 5 29000580 GH 0 0 report 7 9 29000760") ≡ false
unfolding line_needs_memory stated_needs_memory answers_need_memory asked_needs_memory
    command_needs_memory load_needs_memory bytes_need_memory natural_of number_at role_at kind_at
    milestone_at answers_at
a_report = refl

no_session : line_needs_memory (codes "0 65 29000580 APT 0 1 10 tick") ≡ false
unfolding line_needs_memory stated_needs_memory answers_need_memory asked_needs_memory
    command_needs_memory load_needs_memory bytes_need_memory natural_of number_at role_at kind_at
    milestone_at answers_at
no_session = refl

empty_line : line_needs_memory ([]) ≡ false
unfolding line_needs_memory stated_needs_memory answers_need_memory asked_needs_memory
    command_needs_memory load_needs_memory bytes_need_memory natural_of number_at role_at kind_at
    milestone_at answers_at
empty_line = refl
