-- What a box owns that is kept as its pointer.
use base.Fml.{Fml, fsep, fex}
use base.Fraction.{full_share}
use mir.Syntax.{Ty}
use mir.Raw.{raw}
use denote.Memory.{lone}
use denote.RattleType.{RattleType}
use denote.RawPtr.{Ptr, lies_at}
use Rattle.std.specs.declared.alloc.Global.{Global}
use Rattle.std.specs.contracts.impls.GlobalAllocator.TheImpl.{ghosts}

-- the right to free a block that was made for a τ
abbrev pub may_free : Ty → Ptr → Fml
may_free τ p = fex Global (λ g. ghosts.dealloc_token g τ p)

abbrev pub whole_owns : (R : RattleType) → Ptr → R.Denot → Fml
whole_owns R p x = fsep (lies_at R full_share p x) (may_free (raw (lone R.mir)) p)
