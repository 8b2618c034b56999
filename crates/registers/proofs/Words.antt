-- The registers as words.
use mathlib.Core.Path.{refl}
use Rattle.registers.specs.State.{registers_in, ReadsBack}

pub reads_back : ReadsBack
unfolding registers_in
reads_back q = refl
