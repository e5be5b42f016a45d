-- The kinds of shapes that rows of the language name.
use Rattle.std.specs.Prelude.{◌⊎◌, Bool, true, false, [], ⊤}
use Rattle.bal_base.specs.declared.shape.Shape.{Shape}
use Rattle.operations.specs.Kinds.{IsBoolean, IsError, IsFunction, IsFuture, IsInteger, IsList, IsMapping, IsNil, IsSendable, IsString}
use Rattle.type_model.specs.declared.basic.SemType.{SemType}
use Rattle.type_model.specs.Anydata.{IsAnydata}
use Rattle.type_model.specs.Defined.{IsDefined}
use Rattle.expr_needs.specs.declared.kind.Kind.{Kind}
use Rattle.expr_needs.specs.declared.kind.Kind.TheVariants.{Integer, Text, IntOrText, Truth, Nothing, Anydata, Sendable, AnyList, AnyMapping, MappingOrNil, AnyFunction, AnyError, ErrorOrNil, AnyFuture}

-- the shapes of the kind
abbrev pub IsOfKind : Kind → Shape → Type 0
IsOfKind Integer x = IsInteger x
IsOfKind Text x = IsString x
IsOfKind IntOrText x = IsInteger x ⊎ IsString x
IsOfKind Truth x = IsBoolean x
IsOfKind Nothing x = IsNil x
IsOfKind Anydata x = IsAnydata x
IsOfKind Sendable x = IsSendable x
IsOfKind AnyList x = IsList x
IsOfKind AnyMapping x = IsMapping x
IsOfKind MappingOrNil x = IsMapping x ⊎ IsNil x
IsOfKind AnyFunction x = IsFunction x
IsOfKind AnyError x = IsError x
IsOfKind ErrorOrNil x = IsError x ⊎ IsNil x
IsOfKind AnyFuture x = IsFuture x

-- whether the language has a word for the kind, or words, that names no atom
abbrev pub is_simple : Kind → Bool
is_simple Integer = true
is_simple Text = true
is_simple IntOrText = true
is_simple Truth = true
is_simple Nothing = true
is_simple Anydata = false
is_simple Sendable = false
is_simple AnyList = true
is_simple AnyMapping = true
is_simple MappingOrNil = true
is_simple AnyFunction = true
is_simple AnyError = true
is_simple ErrorOrNil = true
is_simple AnyFuture = true

-- Where so, a type of the kind names no atom either. All types with these shapes that name none lead to the same questions: so whether a
-- question passes a limit hangs on what is asked of, and not on how the kind is written.
abbrev pub IsWrittenSo : Bool → SemType → Type 0
IsWrittenSo true s = IsDefined [] s
IsWrittenSo false s = ⊤
