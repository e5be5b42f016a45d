-- What is added to the code that is being made names what the tree names that it is added for: steps and operations put together.
use Rattle.std.proofs.Common.{◌≡◌, ◌∙◌, ◌++◌, ℕ, List, [], ◌∷◌, Option, Some, None, refl, sym, subst, ap, map}
use Rattle.type_model.specs.declared.basic.SemType.{SemType}
use Rattle.operations.specs.declared.operation.Operation.{Operation}
use Rattle.operations.specs.declared.operation.Operation.TheVariants.{Tick, Load, Cast}
use Rattle.operations.specs.Uses.{Use, use_of}
use Rattle.typed_tree.specs.declared.unit.Captured.{Captured}
use Rattle.typed_tree.specs.Listed.{Listed, nothing, one, ◌&◌, joined}
use Rattle.typed_tree.specs.Units.{UnitTree}
use Rattle.eval_model.specs.Expressions.{narrowed_to}
use Rattle.eval_model.specs.Ways.{Turns}
use Rattle.stack_code.specs.Commands.{Command, Do, GoTo, GoToIfNot, OpenTrap, CloseTrap}
use Rattle.lower_model.specs.Making.{Making, add, all_do, bind, captures_made, does, fresh, gets, guards, in_turn, keeps, loops, next_label, parts}
use Rattle.inherent_atoms.specs.Named.{atoms_named, use_at}

module _ (us : List UnitTree) where
  -- the atoms that commands name, in front of others
  abbrev pub named_before : List Command → List ℕ → List ℕ
  named_before [] k = k
  named_before (c ∷ cs) k = atoms_named us (use_at c) ++ named_before cs k

  -- and so of uses
  abbrev pub uses_before : Listed Use → List ℕ → List ℕ
  uses_before nothing k = k
  uses_before (one x) k = atoms_named us x ++ k
  uses_before (p & q) k = uses_before p (uses_before q k)

  -- what is added names just what is listed
  pub record Adds (F : Making → Making) (l : Listed Use) : Type 0 where
    pub adds : (m : Making) (k : List ℕ) → named_before (F m).steps k ≡ named_before m.steps (uses_before l k)

  before-more : (cs : List Command) (c : Command) (k : List ℕ) → named_before (cs ++ c ∷ []) k ≡ named_before cs (atoms_named us (use_at c) ++ k)
  before-more [] c k = refl
  before-more (d ∷ cs) c k = ap (λ l. atoms_named us (use_at d) ++ l) (before-more cs c k)

  -- ---- pieces

  pub nothing-adds : Adds (λ m. m) nothing
  nothing-adds = record { adds = λ m k. refl }

  pub add-adds : (c : Command) → Adds (add c) (one (use_at c))
  add-adds c = record { adds = λ m k. before-more m.steps c k }

  pub then-adds : {p q : Listed Use} (F G : Making → Making) → Adds F p → Adds G q → Adds (λ m. G (F m)) (p & q)
  then-adds {q = q} F G f g = record { adds = λ m k. g.adds (F m) k ∙ f.adds m (uses_before q k) }

  -- what names the same, in other words
  pub alike : {F : Making → Making} {p q : Listed Use} → Adds F p → ((k : List ℕ) → uses_before p k ≡ uses_before q k) → Adds F q
  alike f same = record { adds = λ m k. f.adds m k ∙ ap (named_before m.steps) (same k) }

  -- the same, said in two ways
  pub both : {F G : Making → Making} {p q r : Listed Use} → F ≡ G → p ≡ q → Adds G r → ((k : List ℕ) → uses_before r k ≡ uses_before q k) → Adds F p
  both {G = G} {p = p} e f g same = subst (λ h. Adds h p) (sym e) (subst (Adds G) (sym f) (alike g same))

  -- ---- operations

  abbrev pub ops_uses : List Operation → Listed Use
  ops_uses ops = joined (map (λ op. one (use_of op)) ops)

  pub does-adds : (op : Operation) → Adds (does op) (one (use_of op))
  does-adds op = add-adds (Do op)

  pub ops-add : (ops : List Operation) → Adds (all_do ops) (ops_uses ops)
  ops-add [] = nothing-adds
  ops-add (op ∷ ops) = then-adds (does op) (all_do ops) (does-adds op) (ops-add ops)

  pub gets-adds : (slot : ℕ) (narrowed : Option SemType) → Adds (gets slot narrowed) nothing
  gets-adds slot None = alike (does-adds (Load slot)) (λ k. refl)
  gets-adds slot (Some t) = alike (then-adds (does (Load slot)) (does (Cast t)) (does-adds (Load slot)) (does-adds (Cast t))) (λ k. refl)

  pub keeps-add : (slot : ℕ) (t : SemType) (ops : List Operation) → Adds (keeps slot t ops) (ops_uses ops)
  keeps-add slot t ops = alike (then-adds (gets slot (Some t)) (all_do ops) (gets-adds slot (Some t)) (ops-add ops)) (λ k. refl)

  pub captures-add : (cs : List Captured) → Adds (captures_made cs) nothing
  captures-add [] = nothing-adds
  captures-add (c ∷ cs) =
      alike (then-adds (gets c.slot (narrowed_to c.narrowed c.ty)) (captures_made cs) (gets-adds c.slot (narrowed_to c.narrowed c.ty)) (captures-add cs)) (λ k. refl)

  -- one after another
  pub turn-adds : {X : Type 0} (F : X → Making → Making) (f : X → Listed Use) → ((x : X) → Adds (F x) (f x)) → (xs : List X) → Adds (in_turn (map F xs)) (joined (map f xs))
  turn-adds F f each [] = nothing-adds
  turn-adds F f each (x ∷ xs) = then-adds (F x) (in_turn (map F xs)) (each x) (turn-adds F f each xs)

  -- ---- ways that part, traps and loops

  pub parts-add : {p q : Listed Use} (First Second : Making → Making) → Adds First p → Adds Second q → Adds (parts First Second) (p & q)
  parts-add {p} {q} First Second first second = record { adds = made }
    where
      made : (m : Making) (k : List ℕ) → named_before (parts First Second m).steps k ≡ named_before m.steps (uses_before p (uses_before q k))
      made m k =
          let m3 = add (GoToIfNot (next_label m)) (fresh (fresh m)) in
          let m4 = First m3 in
          let m6 = bind (next_label m) (add (GoTo (next_label (fresh m))) m4) in
          second.adds m6 k ∙ before-more m4.steps (GoTo (next_label (fresh m))) (uses_before q k) ∙ first.adds m3 (uses_before q k)
          ∙ before-more m.steps (GoToIfNot (next_label m)) (uses_before p (uses_before q k))

  pub guards-adds : {p : Listed Use} (F : Making → Making) → Adds F p → Adds (guards F) p
  guards-adds {p} F f = record { adds = made }
    where
      made : (m : Making) (k : List ℕ) → named_before (guards F m).steps k ≡ named_before m.steps (uses_before p k)
      made m k =
          let end = next_label (fresh m) in
          let m3 = add (OpenTrap (next_label m)) (fresh (fresh m)) in
          let m4 = F m3 in
          let m5 = add CloseTrap m4 in
          let m6 = add (GoTo end) m5 in
          before-more m6.steps (GoTo end) k ∙ before-more m5.steps (GoTo end) k ∙ before-more m4.steps CloseTrap k ∙ f.adds m3 k
          ∙ before-more m.steps (OpenTrap (next_label m)) (uses_before p k)

  pub loops-add : {p q r : Listed Use} (Tries Prepares : Making → Making) (Body : Turns ℕ → Making → Making) → Adds Tries p → Adds Prepares q → ((l : Turns ℕ) → Adds (Body l) r) → Adds (loops Tries Prepares Body) (p & q & r)
  loops-add {p} {q} {r} Tries Prepares Body tries prepares body = record { adds = made }
    where
      made : (m : Making) (k : List ℕ) → named_before (loops Tries Prepares Body m).steps k ≡ named_before m.steps (uses_before p (uses_before q (uses_before r k)))
      made m k =
          let head = next_label m in
          let exit = next_label (fresh m) in
          let l : Turns ℕ = record { head = head; exit = exit } in
          let m4 = does Tick (bind head (fresh (fresh m))) in
          let m5 = Tries m4 in
          let m6 = add (GoToIfNot exit) m5 in
          let m7 = Prepares m6 in
          let m8 = Body l m7 in
          before-more m8.steps (GoTo head) k ∙ (body l).adds m7 k ∙ prepares.adds m6 (uses_before r k) ∙ before-more m5.steps (GoToIfNot exit) (uses_before q (uses_before r k))
          ∙ tries.adds m4 (uses_before q (uses_before r k)) ∙ before-more m.steps (Do Tick) (uses_before p (uses_before q (uses_before r k)))
