-- Which shapes are anydata.
use Rattle.std.specs.Prelude.{⊤}
use Rattle.bal_base.specs.declared.shape.Shape.{Shape, Nil, Bool as BoolShape, Int, Str, List', Mapping', Error', Function, Future', Row_of-Shape, end_of-Shape, more_of-Shape, Row_of-Fields-items-2 as Row_of-Field, end_of-Fields-items-2 as end_of-Field, more_of-Fields-items-2 as more_of-Field}

-- nil, booleans, ints, strings, lists and mappings of anydata
abbrev mutual
  pub IsAnydata : Shape → Type 0
  IsAnydata Nil = ⊤
  IsAnydata (BoolShape b) = ⊤
  IsAnydata (Int i) = ⊤
  IsAnydata (Str t) = ⊤
  IsAnydata (List' mark _ items) = AreAnydata items
  IsAnydata (Mapping' mark _ fields) = MembersAreAnydata fields
  IsAnydata (Error' _ detail) = ⊥
  IsAnydata (Function isolated graph) = ⊥
  IsAnydata (Future' _ results) = ⊥

  pub AreAnydata : {n : _} → Row_of-Shape n → Type 0
  AreAnydata end_of-Shape = ⊤
  AreAnydata (more_of-Shape x rest) = IsAnydata x × AreAnydata rest

  pub MembersAreAnydata : {n : _} → Row_of-Field n → Type 0
  MembersAreAnydata end_of-Field = ⊤
  MembersAreAnydata (more_of-Field key x rest) = IsAnydata x × MembersAreAnydata rest
