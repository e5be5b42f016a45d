-- A call of `Box`'s functions with the allocator `Global`.
use Rattle.std.proofs.Common.{[], ◌∷◌, refl}
use mir.Raw.{raw}
use mir.Syntax.{Dict, impl, tcons, tnil, dnil}
use denote.Exit.{no}
use denote.Memory.{lone}
use denote.Param.{arg, layout}
use denote.Param.Laws.{Laws, arg_laws}
use denote.RattleType.{RattleType}
use Rattle.std.specs.contracts.alloc.Global.{the_row as global_row}
use Rattle.std.proofs.alloc.Global.TheLaws as global

abbrev pub Alloc : RattleType
Alloc = arg (raw (lone global_row.mir)) no global_row

pub alloc_laws : Laws Alloc
alloc_laws = arg_laws (raw (lone global_row.mir)) no global_row global.the_row_laws refl

-- a handle needs no drop
abbrev pub no_drop : Dict
no_drop = impl ("shared_string::Destruct++none::drop" ∷ []) (tcons (layout Alloc) tnil) dnil
