-- Each type that the check of isolation looks at names atoms that are there.
use Rattle.std.specs.Prelude.{ℕ, ◌<◌, List, All}
use Rattle.type_model.specs.Defined.{TyBelow}
use Rattle.typed_tree.specs.declared.package.TypedPackage.{TypedPackage}
use Rattle.typed_tree.specs.declared.unit.TypedFunction.{TypedFunction}
use Rattle.isolation_check.specs.Isolated.{own_parts, promises}
use Rattle.isolation_check.specs.Parts.{Calls, CallsValue, Captures, Does, Part, Reads, Stores, function_parts}

module _ (n : ℕ) where
  abbrev pub DoesBelow : Does → Type 0
  DoesBelow (Reads m) = Unit {0}
  DoesBelow Stores = Unit {0}
  DoesBelow (Calls u) = Unit {0}
  DoesBelow (CallsValue t) = TyBelow n t.value
  DoesBelow (Captures cs) = All (λ c. TyBelow n c.ty.value) cs

  abbrev pub PartBelow : Part → Type 0
  PartBelow part = DoesBelow part.does

  abbrev pub OwnBelow : TypedFunction → Type 0
  OwnBelow f = All PartBelow (own_parts (function_parts f))

  pub record AreTyped (p : TypedPackage) : Type 0 where
    pub variables : All (λ v. TyBelow n v.ty.value) p.variables.items
    pub functions : All OwnBelow p.functions.items
    pub promised : All PartBelow (promises p)
