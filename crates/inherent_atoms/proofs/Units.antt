-- What is made for the units of a package names what the package names.
use Rattle.std.proofs.Common.{◌≡◌, ◌∙◌, ◌↔◌, ◌⊎◌, ◌++◌, ℕ, List, [], ◌∷◌, Option, Some, None, refl, sym, subst, ap, map, true, false, inl, inr}
use Rattle.std.specs.Prelude.{◌==◌, Any, Bool, Contains, IsSomeAnd, find, if◌then◌else◌, option_map, option_to_list, slice_get}
use Rattle.std.proofs.lemmas.Bool.{cases_Bool}
use Rattle.operations.specs.declared.operation.Constant.TheVariants as constant
use Rattle.operations.specs.declared.operation.Operation.TheVariants.{Const, StoreModule, Tick, Workers, Return as ReturnOp}
use Rattle.operations.specs.Uses.{Use, MakesStructure, CallsUnit, StartsUnit, MakesFunction, NoUse, atoms_made, units_valued}
use Rattle.type_model.specs.declared.atoms.AtomDef.{AtomDef}
use Rattle.typed_tree.specs.declared.expr.TypedExpr.{TypedExpr}
use Rattle.typed_tree.specs.declared.package.Initial.{Initial}
use Rattle.typed_tree.specs.declared.package.TypedPackage.{TypedPackage}
use Rattle.typed_tree.specs.declared.stmt.TypedStmt.{TypedStmt}
use Rattle.typed_tree.specs.declared.unit.TypedBody.TheVariants.{Block as BlockBody, Expr as ValueBody}
use Rattle.typed_tree.specs.declared.unit.TypedWorker.{TypedWorker}
use Rattle.typed_tree.specs.Listed.{Listed, nothing, one, ◌&◌, joined, members}
use Rattle.typed_tree.specs.Units.{UnitBody, OfFunction, OfWorker, OfAnonymous, OfInitialiser, UnitTree, unit_at, units_of}
use Rattle.op_model.specs.Inherent.{IsInherent, named, fills}
use Rattle.eval_model.specs.Inherent.{IsNamed, IsInherentIn, makes as named_makes, rest as named_rest, words as named_words, values as named_values, body_uses, expr_uses, stmts_uses, uses_of}
use Rattle.machine_model.specs.Machine.{words_of}
use Rattle.eval_model.specs.Trees.{launch_of, unit_facts}
use Rattle.stack_code.specs.Commands.{Command, GoTo}
use Rattle.lower_model.specs.Assembled.{HasUnits, bodies_of, made_of}
use Rattle.lower_model.specs.Making.{Making, bind, block_made, body_made, does, end_made, expr_made, fresh, initial_made, initials_made, named_made, next_label, stmt_made, unit_made, units_made, unmade}
use Rattle.package_units.specs.Noted.{AreAll}
use Rattle.inherent_atoms.specs.Named.{all_named, atoms_named, own_atoms, rests_named, steps_named, use_at, words_named}
use Rattle.inherent_atoms.proofs.Adding.{Adds, add-adds, alike, does-adds, named_before, nothing-adds, ops-add, then-adds, turn-adds, uses_before}
use Rattle.inherent_atoms.proofs.Expressions.{expr-adds}
use Rattle.inherent_atoms.proofs.Members.{Has, HasOne, get-has, has-all, has-any, has-back, has-contains, has-either, has-flat, has-front, has-get, has-joined, has-parts, of-any, of-contains}
use Rattle.inherent_atoms.proofs.Statements.{stmt-adds}

module _ (us : List UnitTree) where
  block-adds : (ss : List TypedStmt) → Adds us (block_made ss) (stmts_uses ss)
  block-adds [] = nothing-adds us
  block-adds (s ∷ ss) = alike us (then-adds us (stmt_made s None) (block_made ss) (stmt-adds us s None) (block-adds ss)) (λ k. refl)

  named-adds : (ws : List TypedWorker) → Adds us (named_made ws) nothing
  named-adds [] = nothing-adds us
  named-adds (w ∷ ws) = alike us (does-adds us Workers) (λ k. refl)

  initials-add : (is : List Initial) → Adds us (initials_made is) (joined (map (λ i. expr_uses i.value.value) is))
  initials-add is =
      turn-adds us initial_made (λ i. expr_uses i.value.value) (λ i. alike us (then-adds us (expr_made i.value.value) (does (StoreModule i.variable)) (expr-adds us i.value.value) (does-adds us (StoreModule i.variable))) (λ k. refl)) is

  end-adds : (ends : Bool) → Adds us (end_made ends) nothing
  end-adds true = alike us (ops-add us (Const constant.Nil ∷ ReturnOp ∷ [])) (λ k. refl)
  end-adds false = record { adds = made }
    where
      made : (m : Making) (k : List ℕ) → named_before us (end_made false m).steps k ≡ named_before us m.steps k
      made m k =
          let m2 = bind (next_label m) (fresh m) in
          (add-adds us (GoTo (next_label m))).adds (does Tick m2) k ∙ (does-adds us Tick).adds m2 k

  value-adds : (e : TypedExpr) → Adds us (λ m. does ReturnOp (expr_made e m)) (expr_uses e)
  value-adds e = alike us (then-adds us (expr_made e) (does ReturnOp) (expr-adds us e) (does-adds us ReturnOp)) (λ k. refl)

  body-adds : (body : UnitBody) → Adds us (body_made body) (body_uses body)
  body-adds (OfFunction (BlockBody initial workers rest ends close)) =
      alike us
      (then-adds us (block_made initial.items) (λ m. end_made ends (block_made rest.items (named_made workers.items m))) (block-adds initial.items)
      (then-adds us (named_made workers.items) (λ m. end_made ends (block_made rest.items m)) (named-adds workers.items)
      (then-adds us (block_made rest.items) (end_made ends) (block-adds rest.items) (end-adds ends)))) (λ k. refl)
  body-adds (OfFunction (ValueBody value)) = value-adds value.value
  body-adds (OfWorker stmts ends) = alike us (then-adds us (block_made stmts) (end_made ends) (block-adds stmts) (end-adds ends)) (λ k. refl)
  body-adds (OfAnonymous value) = value-adds value
  body-adds (OfInitialiser values) = alike us (then-adds us (initials_made values) (end_made true) (initials-add values) (end-adds true)) (λ k. refl)

  unit-adds : (body : UnitBody) → Adds us (unit_made body) (body_uses body)
  unit-adds body = alike us (then-adds us (does Tick) (body_made body) (does-adds us Tick) (body-adds body)) (λ k. refl)

  units-add : (vs : List UnitTree) → Adds us (units_made (bodies_of vs)) (joined (map (λ u. body_uses u.body) vs))
  units-add [] = nothing-adds us
  units-add (u ∷ vs) = then-adds us (unit_made u.body) (units_made (bodies_of vs)) (unit-adds u.body) (units-add vs)

  -- ---- as lists

  flat-before : (cs : List Command) → steps_named us cs ≡ named_before us cs []
  flat-before [] = refl
  flat-before (c ∷ cs) = ap (λ l. atoms_named us (use_at c) ++ l) (flat-before cs)

  abbrev Naming : ℕ → Use → Type 0
  Naming a x = HasOne (atoms_named us x) a

  before-to : (a : ℕ) (l : Listed Use) (k : List ℕ) → HasOne (uses_before us l k) a → Has (Naming a) (members l) ⊎ HasOne k a
  before-to a nothing k h = inr h
  before-to a (one x) k h = elim (has-parts (λ b. b ≡ a) (atoms_named us x) k h) [ inl y ↦ inl (inl y) | inr z ↦ inr z ]
  before-to a (p & q) k h =
      elim (before-to a p (uses_before us q k) h) [
        | inl y ↦ inl (has-front (Naming a) (members p) (members q) y)
        | inr z ↦ elim (before-to a q k z) [ inl y ↦ inl (has-back (Naming a) (members p) (members q) y) | inr w ↦ inr w ]
      ]

  before-from : (a : ℕ) (l : Listed Use) (k : List ℕ) → Has (Naming a) (members l) ⊎ HasOne k a → HasOne (uses_before us l k) a
  before-from a nothing k (inl h) = absurd h
  before-from a nothing k (inr h) = h
  before-from a (one x) k (inl (inl y)) = has-front (λ b. b ≡ a) (atoms_named us x) k y
  before-from a (one x) k (inl (inr y)) = absurd y
  before-from a (one x) k (inr h) = has-back (λ b. b ≡ a) (atoms_named us x) k h
  before-from a (p & q) k (inl h) =
      elim (has-parts (Naming a) (members p) (members q) h)
      [ inl y ↦ before-from a p (uses_before us q k) (inl y) | inr z ↦ before-from a p (uses_before us q k) (inr (before-from a q k (inl z))) ]
  before-from a (p & q) k (inr h) = before-from a p (uses_before us q k) (inr (before-from a q k (inr h)))

  -- what all units name, unit by unit
  pub steps-to : (a : ℕ) → HasOne (steps_named us (made_of us).steps) a → Has (λ u. Has (Naming a) (members (body_uses u.body))) us
  steps-to a h =
      let e : steps_named us (made_of us).steps ≡ uses_before us (joined (map (λ u. body_uses u.body) us)) [] = flat-before (made_of us).steps ∙ (units-add us).adds unmade [] in
      elim (before-to a (joined (map (λ u. body_uses u.body) us)) [] (subst (λ l. HasOne l a) e h))
      [ inl y ↦ (has-joined (Naming a) (λ u. body_uses u.body) us).0 y | inr z ↦ absurd z ]

  pub steps-from : (a : ℕ) → Has (λ u. Has (Naming a) (members (body_uses u.body))) us → HasOne (steps_named us (made_of us).steps) a
  steps-from a h =
      let e : steps_named us (made_of us).steps ≡ uses_before us (joined (map (λ u. body_uses u.body) us)) [] = flat-before (made_of us).steps ∙ (units-add us).adds unmade [] in
      subst (λ l. HasOne l a) (sym e) (before-from a (joined (map (λ u. body_uses u.body) us)) [] (inl ((has-joined (Naming a) (λ u. body_uses u.body) us).1 h)))

-- ---- of a package

find-has : (P : UnitTree → Bool) (us : List UnitTree) (u : UnitTree) → find P us ≡ Some u → Has (λ v. v ≡ u) us
find-has P [] u e = absurd (let bad : ⊥ = cc in bad)
find-has P (v ∷ us) u e = elim (cases_Bool (P v)) [ inl t ↦ inl (here t) | inr f ↦ inr (find-has P us u (there f)) ]
  where
    here : P v ≡ true → v ≡ u
    here t = let s : Some v ≡ Some u = ap (λ b. if b then Some v else find P us) (sym t) ∙ e in cc

    there : P v ≡ false → find P us ≡ Some u
    there f = ap (λ b. if b then Some v else find P us) (sym f) ∙ e

pub inherent-map : (defs : List AtomDef) {N M : ℕ → Type 0} → ((a : ℕ) → N a → M a) → (a : ℕ) → IsInherent defs N a → IsInherent defs M a
inherent-map defs go a (named a' n) = named a' (go a' n)
inherent-map defs go b (fills a b' i f) = fills a b' (inherent-map defs go a i) f

module _ (p : TypedPackage) (us : List UnitTree) (has : HasUnits p us) (all : AreAll p us) where
  -- the same units, in whatever order
  in-package : (P : UnitTree → Type 0) → Has P us → Has P (units_of p)
  in-package P h =
      let (k, u, at, q) = has-get P us h in
      has-all (units_of p) (λ v e. subst P (sym e) q) (find-has _ (units_of p) u (has.units k ∙ at))

  by-number : (P : UnitTree → Type 0) → Has P (units_of p) → Has P us
  by-number P h =
      let (k, u, at, q) = has-get P (units_of p) h in
      get-has P us u.unit.number u (all.each k u at) q

  abbrev IsOwn : ℕ → UnitTree → Type 0
  IsOwn a u = (a ≡ u.unit.arrow) ⊎ (a ≡ u.unit.future)

  own-to : (a : ℕ) (o : Option UnitTree) → HasOne (own_atoms o) a → IsSomeAnd o (IsOwn a)
  own-to a (Some u) (inl e) = inl (sym e)
  own-to a (Some u) (inr (inl e)) = inr (sym e)
  own-to a (Some u) (inr (inr z)) = absurd z
  own-to a None h = absurd h

  own-from : (a : ℕ) (o : Option UnitTree) → IsSomeAnd o (IsOwn a) → HasOne (own_atoms o) a
  own-from a (Some u) (inl e) = inl (sym e)
  own-from a (Some u) (inr e) = inr (inl (sym e))
  own-from a None h = absurd h

  abbrev Makes : ℕ → Use → Type 0
  Makes a x = Contains (atoms_made x) a

  abbrev Values : ℕ → Use → Type 0
  Values a x = Any (λ n. IsSomeAnd (unit_at p n) (IsOwn a)) (units_valued x)

  valued : (a n : ℕ) → HasOne (own_atoms (slice_get us n)) a → Any (λ n. IsSomeAnd (unit_at p n) (IsOwn a)) (n ∷ [])
  valued a n h =
      has-any (λ n. IsSomeAnd (unit_at p n) (IsOwn a)) (n ∷ []) (inl (subst (λ o. IsSomeAnd o (IsOwn a)) (sym (has.units n)) (own-to a (slice_get us n) h)))

  naming-to : (a : ℕ) (x : Use) → Naming us a x → Makes a x ⊎ Values a x
  naming-to a (MakesStructure atom) h = inl (has-contains (option_to_list atom) a h)
  naming-to a (CallsUnit unit) h = absurd h
  naming-to a (StartsUnit unit) h = inr (valued a unit h)
  naming-to a (MakesFunction unit) h = inr (valued a unit h)
  naming-to a NoUse h = absurd h

  makes-from : (a : ℕ) (x : Use) → Makes a x → Naming us a x
  makes-from a (MakesStructure atom) h = of-contains (option_to_list atom) a h
  makes-from a (CallsUnit unit) h = of-contains [] a h
  makes-from a (StartsUnit unit) h = absurd (of-contains [] a h)
  makes-from a (MakesFunction unit) h = absurd (of-contains [] a h)
  makes-from a NoUse h = of-contains [] a h

  own-of : (a n : ℕ) → Has (λ n. IsSomeAnd (unit_at p n) (IsOwn a)) (n ∷ []) → HasOne (own_atoms (slice_get us n)) a
  own-of a n (inl h) = own-from a (slice_get us n) (subst (λ o. IsSomeAnd o (IsOwn a)) (has.units n) h)
  own-of a n (inr z) = absurd z

  values-from : (a : ℕ) (x : Use) → Values a x → Naming us a x
  values-from a (MakesStructure atom) h = absurd (of-any (λ n. IsSomeAnd (unit_at p n) (IsOwn a)) [] h)
  values-from a (CallsUnit unit) h = absurd (of-any (λ n. IsSomeAnd (unit_at p n) (IsOwn a)) [] h)
  values-from a (StartsUnit unit) h = own-of a unit (of-any (λ n. IsSomeAnd (unit_at p n) (IsOwn a)) (unit ∷ []) h)
  values-from a (MakesFunction unit) h = own-of a unit (of-any (λ n. IsSomeAnd (unit_at p n) (IsOwn a)) (unit ∷ []) h)
  values-from a NoUse h = absurd (of-any (λ n. IsSomeAnd (unit_at p n) (IsOwn a)) [] h)

  -- what the package uses, unit by unit
  uses-to : (P : Use → Type 0) → Has P (uses_of p) → Has (λ u. Has P (members (body_uses u.body))) (units_of p)
  uses-to P h = (has-joined P (λ u. body_uses u.body) (units_of p)).0 h

  uses-from : (P : Use → Type 0) → Has (λ u. Has P (members (body_uses u.body))) (units_of p) → Has P (uses_of p)
  uses-from P h = (has-joined P (λ u. body_uses u.body) (units_of p)).1 h

  steps-name : (a : ℕ) → HasOne (steps_named us (made_of us).steps) a → IsNamed p a
  steps-name a h =
      let in_uses : Has (Naming us a) (uses_of p) = uses-from (Naming us a) (in-package (λ u. Has (Naming us a) (members (body_uses u.body))) (steps-to us a h)) in
      elim (has-either (uses_of p) (naming-to a) in_uses)
      [ inl m ↦ named_makes (has-any (Makes a) (uses_of p) m) | inr v ↦ named_values (has-any (Values a) (uses_of p) v) ]

  named-steps : (a : ℕ) → Has (Naming us a) (uses_of p) → HasOne (steps_named us (made_of us).steps) a
  named-steps a h = steps-from us a (by-number (λ u. Has (Naming us a) (members (body_uses u.body))) (uses-to (Naming us a) h))

  -- ---- rest parameters

  one-option : (o : Option ℕ) (a : ℕ) → HasOne (option_to_list o) a → o ≡ Some a
  one-option (Some b) a (inl e) = ap Some e
  one-option (Some b) a (inr z) = absurd z
  one-option None a h = absurd h

  option-one : (o : Option ℕ) (a : ℕ) → o ≡ Some a → HasOne (option_to_list o) a
  option-one o a e = subst (λ x. HasOne (option_to_list x) a) (sym e) (inl refl)

  rests-name : (a : ℕ) → HasOne (rests_named us) a → IsNamed p a
  rests-name a h =
      let in_units : Has (λ u. HasOne (option_to_list u.unit.rest) a) us = (has-flat (λ b. b ≡ a) (λ u. option_to_list u.unit.rest) us).0 h in
      named_rest (has-any (λ u. u.unit.rest ≡ Some a) (units_of p) (in-package (λ u. u.unit.rest ≡ Some a) (has-all us (λ u. one-option u.unit.rest a) in_units)))

  named-rests : (a : ℕ) → Has (λ u. u.unit.rest ≡ Some a) (units_of p) → HasOne (rests_named us) a
  named-rests a h =
      (has-flat (λ b. b ≡ a) (λ u. option_to_list u.unit.rest) us).1 (has-all us (λ u. option-one u.unit.rest a) (by-number (λ u. u.unit.rest ≡ Some a) h))

  -- ---- main's arguments

  if-list : (b : Bool) (w : ℕ) → option_to_list (if b then None else Some w) ≡ (if b then [] else w ∷ [])
  if-list true w = refl
  if-list false w = refl

  words-list : (o : Option UnitTree) (w : ℕ) → option_to_list (words_of (option_map (λ u. unit_facts (Some u)) o) w) ≡ words_named o w
  words-list (Some u) w = if-list (u.unit.params == 0) w
  words-list None w = refl

  words-name : (a : ℕ) → HasOne (words_named (slice_get us p.start) p.words) a → IsNamed p a
  words-name a h =
      named_words (one-option (launch_of p).words a (subst (λ l. HasOne l a) (sym (words-list (unit_at p p.start) p.words)) (subst (λ o. HasOne (words_named o p.words) a) (sym (has.units p.start)) h)))

  name-words : (a : ℕ) → (launch_of p).words ≡ Some a → HasOne (words_named (slice_get us p.start) p.words) a
  name-words a e =
      subst (λ o. HasOne (words_named o p.words) a) (has.units p.start) (subst (λ l. HasOne l a) (words-list (unit_at p p.start) p.words) (option-one (launch_of p).words a e))

  -- ---- all that is named

  abbrev Names : List ℕ
  Names = all_named us (made_of us).steps p.start p.words

  abbrev steps : List ℕ
  steps = steps_named us (made_of us).steps

  abbrev others : List ℕ
  others = words_named (slice_get us p.start) p.words

  names-to : (a : ℕ) → HasOne Names a → IsNamed p a
  names-to a h =
      elim (has-parts (λ b. b ≡ a) steps (rests_named us ++ others) h)
      [ inl y ↦ steps-name a y | inr z ↦ elim (has-parts (λ b. b ≡ a) (rests_named us) others z) [ inl y ↦ rests-name a y | inr w ↦ words-name a w ] ]

  of-steps : (a : ℕ) → HasOne steps a → HasOne Names a
  of-steps a h = has-front (λ b. b ≡ a) steps (rests_named us ++ others) h

  names-from : (a : ℕ) → IsNamed p a → HasOne Names a
  names-from a (named_makes m) = of-steps a (named-steps a (has-all (uses_of p) (makes-from a) (of-any (Makes a) (uses_of p) m)))
  names-from a (named_values v) = of-steps a (named-steps a (has-all (uses_of p) (values-from a) (of-any (Values a) (uses_of p) v)))
  names-from a (named_rest r) =
      has-back (λ b. b ≡ a) steps (rests_named us ++ others) (has-front (λ b. b ≡ a) (rests_named us) others (named-rests a (of-any (λ u. u.unit.rest ≡ Some a) (units_of p) r)))
  names-from a (named_words e) = has-back (λ b. b ≡ a) steps (rests_named us ++ others) (has-back (λ b. b ≡ a) (rests_named us) others (name-words a e))

  -- so the inherent atoms are those of the package
  pub inherent-in : (defs : List AtomDef) (a : ℕ) → IsInherent defs (Contains Names) a ↔ IsInherentIn p defs a
  inherent-in defs a =
      (inherent-map defs (λ b h. names-to b (of-contains Names b h)) a, inherent-map defs (λ b h. has-contains Names b (names-from b h)) a)
