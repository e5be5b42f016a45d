use Rattle.std.proofs.Common.{arith, refl}
use Rattle.place_numbers.proofs.reach.may_go.Goals as goal

pub returns-in-true : goal.returns-in-true
returns-in-true c = ((λ t le. absurd (omega (arith, le, c.is_forward.ensures.forward c.in-true.is))), (λ h. refl))

pub returns-in-false : goal.returns-in-false
returns-in-false c = ((λ t le. c.is_tick_at.ensures.0 t), (λ h. c.is_tick_at.ensures.1 (h (c.is_forward.ensures.back c.in-false.is))))
