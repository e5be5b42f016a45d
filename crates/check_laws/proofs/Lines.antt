-- Each line of the tables leaves one part, where those of its operands do.
use Rattle.std.proofs.Common.{◌+◌, ℕ, Bool, true, false, List, Option, None, Some, arith, refl}
use Rattle.bal_base.specs.declared.place.Place.{Place}
use Rattle.bal_base.specs.declared.text.Name.{Name}
use Rattle.bal_tree.specs.declared.expr.PrefixOp.{PrefixOp}
use Rattle.bal_tree.specs.declared.expr.PrefixOp.TheVariants as prefix
use Rattle.bal_tree.specs.declared.name.QualifiedName.{QualifiedName}
use Rattle.bal_tree.specs.declared.params.Param.{Param}
use Rattle.bal_tree.specs.declared.params.Params.{Params}
use Rattle.bal_tree.specs.declared.types.TypeTree.{TypeTree}
use Rattle.typed_tree.specs.Listed.{Listed, nothing, ◌&◌, if_there}
use Rattle.expr_needs.specs.declared.expected.Expected.{Expected}
use Rattle.expr_needs.specs.declared.expected.Expected.TheVariants.{Nothing, Immutable, Wanted}
use Rattle.expr_needs.specs.declared.kind.Kind.{Kind}
use Rattle.expr_needs.specs.declared.kind.Kind.TheVariants as kind
use Rattle.expr_needs.specs.declared.operators.Family.{Family}
use Rattle.expr_needs.specs.declared.operators.Family.TheVariants.{Arithmetic, Sum, Order, Equality, Identity, Condition, Elvis}
use Rattle.expr_needs.specs.ExprTable.{Reading, against, anonymous_needs, argument_needs, binary_needs, callee_needs, condition_needs, conditional_needs, element_needs, freely, item_needs, parameter_needs, rest_needs, signature_needs}
use Rattle.expr_needs.specs.Needs.{Need}
use Rattle.expr_needs.specs.Operators.{expectation, prefix_expects, prefix_needs}
use Rattle.check_laws.specs.Heights.{Heights, ◌⊕◌, parts, wants, sorts, accesses, constructors, calls, choices, units}
use Rattle.check_laws.specs.Laws.{IsWantedBy}
use Rattle.check_laws.proofs.Leading.{Base, Leads, in-turn}

module _ (workers : List Name) (base : Base) where
  abbrev Lead : Heights → Listed Need → Heights → Type 0
  Lead = Leads workers base

  -- ---- what is claimed of readings

  -- one part more, where a type is wanted if that counts
  abbrev pub One : Reading → Type 0
  One a = (e : Expected) (h : Heights) → IsWantedBy e (base.wants + h.wants) → Lead h (a.needs e) (h ⊕ parts 1)

  -- as a call that is started it is a call more
  abbrev pub Started : Reading → Type 0
  Started a = (h : Heights) → Lead h a.starts (h ⊕ calls 1)

  -- where a constructor is open: the key of a member, and a member or a detail, which is a key and a value
  abbrev pub OneKey : Reading → Type 0
  OneKey a = (e : Expected) (h : Heights) → Lead (h ⊕ constructors 1) (a.needs e) (h ⊕ (constructors 1 ⊕ parts 1))

  abbrev pub OnePair : Reading → Type 0
  OnePair a = (e : Expected) (h : Heights) → Lead (h ⊕ constructors 1) (a.needs e) (h ⊕ (constructors 1 ⊕ parts 2))

  -- ---- operands

  none-wanted : (k : Kind) (many : ℕ) → IsWantedBy (expectation k) many
  none-wanted kind.Integer many = tt
  none-wanted k many = tt

  pub of-kind : (k : Kind) (a : Reading) → One a → (h : Heights) → Lead h (against k a) (h ⊕ parts 1)
  of-kind k a c h = (h ⊕ parts 1, c (expectation k) h (none-wanted k _), (h, refl, refl))

  pub of-any : (a : Reading) → One a → (h : Heights) → Lead h (freely a) (h ⊕ parts 1)
  of-any a c h = c Nothing h tt

  -- ---- operators

  pub prefixed : (o : PrefixOp) (a : Reading) (at : Place) → One a → (h : Heights)
      → Lead h (a.needs (prefix_expects o) & prefix_needs o a.at at) (h ⊕ parts 1)
  prefixed prefix.Negate a at c h = (h ⊕ parts 1, c _ h tt, (h ⊕ parts 1, (h, refl, refl), (h, refl, refl)))
  prefixed prefix.Not a at c h = (h ⊕ parts 1, c _ h tt, (h ⊕ parts 1, (h, refl, refl), (h, refl, refl)))
  prefixed prefix.Check a at c h = (h ⊕ parts 1, c _ h tt, (h, refl, refl))
  prefixed prefix.CheckPanic a at c h = (h ⊕ parts 1, c _ h tt, (h, refl, refl))

  pub binary : (f : Family) (a b : Reading) (at : Place) → One a → One b → (e : Expected) (h : Heights) → IsWantedBy e (base.wants + h.wants)
      → Lead h (binary_needs f a b at e) (h ⊕ parts 1)
  binary (Arithmetic o) a b at ca cb e h w =
      let k : Heights = h ⊕ parts 1 in
      (k, (k, ca _ h tt, (h, refl, refl)), (h ⊕ parts 2, (h ⊕ parts 2, cb _ k tt, (k, refl, refl)), (h, refl, refl)))
  binary Sum a b at ca cb e h w =
      let k : Heights = h ⊕ parts 1 in let l : Heights = h ⊕ (parts 1 ⊕ sorts 1) in
      (l, (k, ca _ h tt, (k, (h, refl, refl), (h, refl, refl))), (l ⊕ parts 1, (l ⊕ parts 1, cb _ l tt, (k, refl, refl)), (h, refl, refl)))
  binary (Order o) a b at ca cb e h w =
      let k : Heights = h ⊕ parts 1 in let l : Heights = h ⊕ (parts 1 ⊕ sorts 1) in
      (l, (k, ca _ h tt, (k, (h, refl, refl), (h, refl, refl))), (l ⊕ parts 1, (l ⊕ parts 1, cb _ l tt, (k, refl, refl)), (h, refl, refl)))
  binary (Equality o) a b at ca cb e h w =
      let k : Heights = h ⊕ parts 1 in
      (k, (k, ca _ h tt, (h, refl, refl)), (h ⊕ parts 2, (h ⊕ parts 2, cb _ k tt, (k, refl, refl)), (h, refl, refl)))
  binary (Identity o) a b at ca cb e h w =
      let k : Heights = h ⊕ parts 1 in
      (k, (k, ca _ h tt, refl), (h ⊕ parts 2, (h ⊕ parts 2, cb _ k tt, refl), (h, refl, refl)))
  binary (Condition true) a b at ca cb e h w =
      let k : Heights = h ⊕ parts 1 in let l : Heights = h ⊕ (parts 1 ⊕ choices 1) in
      (l, (k, ca _ h tt, (k, (h, refl, refl), (h, refl, refl))), (l ⊕ parts 1, (l ⊕ parts 1, cb _ l tt, (l, refl, refl)), (h, refl, refl)))
  binary (Condition false) a b at ca cb e h w =
      let k : Heights = h ⊕ parts 1 in let l : Heights = h ⊕ (parts 1 ⊕ choices 1) in
      (l, (k, ca _ h tt, (k, (h, refl, refl), (h, refl, refl))), (l ⊕ parts 1, (l ⊕ parts 1, cb _ l tt, (l, refl, refl)), (h, refl, refl)))
  binary Elvis a b at ca cb e h w =
      let k : Heights = h ⊕ parts 1 in
      (k, (k, ca _ h tt, refl), (h ⊕ parts 2, (h ⊕ parts 2, cb e k w, refl), (h, refl, refl)))

  pub condition : (c : Reading) → One c → (h : Heights) → Lead h (condition_needs c) (h ⊕ (parts 1 ⊕ choices 1))
  condition c claim h = (h ⊕ parts 1, of-kind kind.Truth c claim h, (h, refl, refl))

  pub conditional : (c a b : Reading) (at : Place) → One c → One a → One b → (h : Heights) → Lead h (conditional_needs c a b at) (h ⊕ parts 1)
  conditional c a b at cc ca cb h =
      let k : Heights = h ⊕ (parts 1 ⊕ choices 1) in let l : Heights = h ⊕ (parts 2 ⊕ choices 1) in
      (k, condition c cc h, (l, (l, of-any a ca k, (h ⊕ parts 1, refl, refl)), (l ⊕ parts 1, of-any b cb l, (h, refl, refl))))

  -- ---- members

  pub element : (texts : Bool) (a i : Reading) → One a → One i → (h : Heights) → Lead h (element_needs texts a i) (h ⊕ (parts 2 ⊕ accesses 1))
  element texts a i ca ci h =
      let k : Heights = h ⊕ (parts 1 ⊕ accesses 1) in
      (k, (h ⊕ parts 1, of-any a ca h, (h, refl, refl)), (k ⊕ parts 1, ci Immutable k tt, (h, refl, refl)))

  -- ---- anonymous functions

  one-parameter : (h : Heights) (p : Param) → Lead (h ⊕ units 1) (parameter_needs p) (h ⊕ units 1)
  one-parameter h p = (h ⊕ (units 1 ⊕ wants 1), (h ⊕ units 1, refl, refl), (h, refl, refl))

  rest : (h : Heights) (p : Option Param) → Lead (h ⊕ units 1) (if_there rest_needs p) (h ⊕ units 1)
  rest h None = refl
  rest h (Some p) = (h ⊕ (units 1 ⊕ wants 1), (h ⊕ units 1, refl, refl), (h, refl, refl))

  signature : (h : Heights) (ps : Params) (t : TypeTree) → Lead (h ⊕ units 1) (signature_needs ps t) (h ⊕ (units 1 ⊕ wants 1))
  signature h ps t =
      let k : Heights = h ⊕ units 1 in
      (k, (k, in-turn workers base parameter_needs k (one-parameter h) ps.params.items k nothing refl, rest h ps.rest), (k, refl, refl))

  pub anonymous : (isolated : Bool) (ps : Params) (t : TypeTree) (v : Reading) (at : Place) → One v → (h : Heights)
      → Lead h (anonymous_needs isolated ps t v at) (h ⊕ parts 1)
  anonymous isolated ps t v at cv h =
      let k : Heights = h ⊕ (units 1 ⊕ wants 1) in (
        k,
        (h ⊕ units 1, (h, refl, refl), signature h ps t),
        (k ⊕ parts 1, (k, (h, refl, refl), (k ⊕ parts 1, cv Wanted k (omega arith), (h ⊕ units 1, refl, refl))), (h, refl, refl)),
      )

  -- ---- calls

  pub callee : (name : Option QualifiedName) (f : Reading) → One f → (started : Bool) (count : ℕ) (at : Place) (h : Heights)
      → Lead h (callee_needs started name f count at) (h ⊕ calls 1)
  callee (Some q) f c started count at h = (h, refl, refl)
  callee None f c started count at h = (h ⊕ parts 1, of-kind kind.AnyFunction f c h, (h, refl, refl))

  pub argument : (at : Place) (a : Reading) → One a → (h : Heights) → Lead (h ⊕ calls 1) (argument_needs at a) (h ⊕ calls 1)
  argument at a c h =
      let k : Heights = h ⊕ (calls 1 ⊕ wants 1) in
      (k, (h, refl, refl), (k ⊕ parts 1, c Wanted k (omega arith), (h, refl, refl)))

  -- ---- constructors

  pub item : (a : Reading) → One a → (h : Heights) → Lead (h ⊕ constructors 1) (item_needs a) (h ⊕ (constructors 1 ⊕ parts 1))
  item a c h =
      let k : Heights = h ⊕ (constructors 1 ⊕ wants 1) in
      (k, (h, refl, refl), (k ⊕ parts 1, c Wanted k (omega arith), (h, refl, refl)))
