-- What there may be between points of a way through a tree, with what a point is left open.
use Rattle.std.specs.Prelude.{ℕ, Option, Bool, ⊤}
use Rattle.type_model.specs.declared.basic.SemType.{SemType}
use Rattle.operations.specs.declared.operation.Operation.{Operation}

pub record Ways (Pt : Type 0) : Type 1 where
  -- nothing is done between the two
  pub comes : Pt → Pt → Type 0
  pub does : Operation → Pt → Pt → Type 0
  -- a local variable is loaded, which here may be of a narrower type
  pub gets : ℕ → Option SemType → Pt → Pt → Type 0
  -- the last operand is taken, and is this
  pub takes : Bool → Pt → Pt → Type 0
  -- what a trap at p guards goes from a to b, and it goes on at q
  pub guards : (p a b q : Pt) → Type 0
  -- behind p nothing is done, and q stands behind it in the text
  pub stops : (p q : Pt) → Type 0
  -- what a trap guards ends at b, and it goes on at q
  pub closes : (b q : Pt) → Type 0
  -- nothing is done any more, not even a return: a body whose end isn't reached may stop here
  pub ends : Pt → Type 0
  -- at p a trap may be opened, and a is where what it guards begins
  pub arrives : (p a : Pt) → Type 0

-- where the turns of a loop begin, and what is behind it
pub record Turns (Pt : Type 0) : Type 0 where
  pub head : Pt
  pub exit : Pt

-- doing nothing goes on so, a trap's beginning and its end are where it guards, and what comes before an end is one
pub record AreWays {Pt : Type 0} (w : Ways Pt) : Type 0 where
  pub here : (p : Pt) → w.comes p p
  pub come : (p q r : Pt) → w.comes p q → w.comes q r → w.comes p r
  pub stays : (p : Pt) → w.arrives p p
  pub opens : (p a b q : Pt) → w.guards p a b q → w.arrives p a
  pub closes : (p a b q : Pt) → w.guards p a b q → w.closes b q
  pub ends : (p q : Pt) → w.comes p q → w.ends q → w.ends p

-- everything is a way
abbrev pub all_ways : Ways (Unit {0})
all_ways =
    record {
      comes = λ p q. ⊤;
      does = λ op p q. ⊤;
      gets = λ slot narrowed p q. ⊤;
      takes = λ way p q. ⊤;
      guards = λ p a b q. ⊤;
      stops = λ p q. ⊤;
      closes = λ b q. ⊤;
      ends = λ p. ⊤;
      arrives = λ p a. ⊤;
    }
