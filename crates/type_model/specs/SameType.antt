-- Types that are the same but for where their parts lie in memory.
use Rattle.std.specs.Prelude.{◌≡◌}
use Rattle.type_model.specs.declared.basic.SemType.{SemType, Basic, Atom, Or', And', Not'}

abbrev pub IsSameType : SemType → SemType → Type 0
IsSameType (Basic b) (Basic c) = b ≡ c
IsSameType (Basic b) _ = ⊥
IsSameType (Atom m) (Atom n) = m ≡ n
IsSameType (Atom m) _ = ⊥
IsSameType (Or' _ s _ t) (Or' _ s' _ t') = IsSameType s s' × IsSameType t t'
IsSameType (Or' _ s _ t) _ = ⊥
IsSameType (And' _ s _ t) (And' _ s' _ t') = IsSameType s s' × IsSameType t t'
IsSameType (And' _ s _ t) _ = ⊥
IsSameType (Not' _ t) (Not' _ t') = IsSameType t t'
IsSameType (Not' _ t) _ = ⊥
