-- The numbers of each call's checks, in their order.
-- Assumes nothing.
use mathlib.Core.Path.{refl}
use Rattle.steps.specs.Orders.{Numbered}

pub numbered : Numbered
numbered =
    record {
      load = λ bytes fits scratch. refl;
      state = λ othersFit bytes was scratch. refl;
      act = λ t was x c. refl;
      propagate = λ t was x k. refl;
      confirm = λ t was x k. refl;
      run = λ schedule answers. refl;
      save = λ t shelf name. refl;
      restore_drop = λ t shelf name. refl;
    }
