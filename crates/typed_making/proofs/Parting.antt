-- Ways that part and meet, traps and loops have maps where what they are made of has.
use Rattle.std.proofs.Common.{◌++◌, ℕ, List, [], ◌∷◌, Option, Some, None, refl, arith, length-append}
use Rattle.type_model.specs.declared.atoms.AtomDef.{AtomDef}
use Rattle.type_model.specs.declared.basic.SemType.{SemType}
use Rattle.operations.specs.declared.operation.Operation.{Operation}
use Rattle.operations.specs.declared.operation.Operation.TheVariants.{Cast, Load, Tick}
use Rattle.operations.specs.Rows.{AreBelow, Surroundings}
use Rattle.eval_model.specs.Expressions.{error_type}
use Rattle.eval_model.specs.Walk.{ForkOver, KeptOver, OpsOver}
use Rattle.eval_model.specs.Ways.{Turns}
use Rattle.stack_code.specs.Commands.{Do, GoTo, GoToIfNot, OpenTrap, CloseTrap}
use Rattle.tree_promises.specs.Types.{DoesTypes, GetsTypes, Stack, TakesTypes, type_ways}
use Rattle.lower_model.specs.Making.{Making, all_do, does, fresh, gets, guards, keeps, loops, next_label, parts}
use Rattle.lower_model.proofs.Laying.{get-front}
use Rattle.typed_making.specs.Mapped.{Leads}
use Rattle.typed_making.proofs.Mapping.{below-itself, comes, in-more, mapped-then, takes-wider, then-add, then-bind, then-comes, then-fresh, then-leads, wanted}

module _ (env : List AtomDef) (place : Surroundings) (labels : Option (Turns ℕ)) (loop : Option (Turns Stack)) where
  abbrev Lead : (Making → Making) → Stack → Stack → Type 0
  Lead F p q = Leads env place labels loop F p q

  -- ---- one behind another

  pub then-lead : (F G : Making → Making) (p q r : Stack) → Lead F p q → Lead G q r → Lead (λ m. G (F m)) p r
  then-lead F G p q r f g m old many inside =
      let (wants, a) = f m old many inside in
      let (more, b) = g (F m) wants a.many (in-more env place old wants a.grown labels loop inside) in
      (more, mapped-then env place a b)

  pub come-lead : (p q : Stack) → AreBelow env p q → Lead (λ m. m) p q
  come-lead p q b m old many inside = (old, comes env place m old p q many b)

  pub does-lead : (op : Operation) (p q : Stack) → DoesTypes env place op p q → Lead (does op) p q
  does-lead op p q d m old many inside = (old, then-add env place (comes env place m old p p many (below-itself env place p)) (Do op) q d)

  pub ops-lead : (ops : List Operation) (p q : Stack) → OpsOver (type_ways env place) ops p q → Lead (all_do ops) p q
  ops-lead [] p q c = come-lead p q c
  ops-lead (op ∷ ops) p q (m, d, more) = then-lead (does op) (all_do ops) p m q (does-lead op p m d) (ops-lead ops m q more)

  pub gets-lead : (slot : ℕ) (narrowed : Option SemType) (p q : Stack) → GetsTypes env place slot narrowed p q → Lead (gets slot narrowed) p q
  gets-lead slot None p q d = does-lead (Load slot) p q d
  gets-lead slot (Some t) p q (m, d, k) = then-lead (does (Load slot)) (does (Cast t)) p m q (does-lead (Load slot) p m d) (does-lead (Cast t) m q k)

  pub keeps-lead : (slot : ℕ) (t : SemType) (ops : List Operation) (p q : Stack) → KeptOver (type_ways env place) slot t ops p q → Lead (keeps slot t ops) p q
  keeps-lead slot t ops p q (m, g, more) = then-lead (gets slot (Some t)) (all_do ops) p m q (gets-lead slot (Some t) p m g) (ops-lead ops m q more)

  -- ---- ways that part

  pub parts-lead : (First Second : Making → Making) (p a m b n q : Stack) → TakesTypes env place p a → Lead First a m → AreBelow env m q → TakesTypes env place p b → Lead Second b n → AreBelow env n q → Lead (parts First Second) p q
  parts-lead First Second p a m b n q holds first x fails second y base old many inside =
      let s0 = comes env place base old p p many (below-itself env place p) in
      let v1 = wanted env place s0 b in
      let s1 = then-fresh env place s0 b in
      let v2 = wanted env place s1 q in
      let s2 = then-fresh env place s1 q in
      let w1 = get-front (old ++ b ∷ []) (q ∷ []) (next_label base) b v1 in
      let s3 = then-add env place s2 (GoToIfNot (next_label base)) a (holds, (b, w1, fails)) in
      let in3 = in-more env place old ((old ++ b ∷ []) ++ q ∷ []) s3.grown labels loop inside in
      let (more, grown, s4) = then-leads env place s3 labels loop in3 First m first in
      let s5 = then-add env place {wants = more} s4 (GoTo (next_label (fresh base))) b (q, grown (next_label (fresh base)) q v2, x) in
      let s6 = then-bind env place {wants = more} s5 (next_label base) b (omega arith) (grown (next_label base) b w1) (below-itself env place b) in
      let (last, later, s7) = then-leads env place s6 labels loop (in-more env place old more s6.grown labels loop inside) Second n second in
      (last, then-bind env place {wants = last} s7 (next_label (fresh base)) q (omega (arith, length-append base.labels (None ∷ []))) (later (next_label (fresh base)) q (grown (next_label (fresh base)) q v2)) y)

  pub fork-lead : {Yes No : Stack → Stack → Type 0} (First Second : Making → Making) (p q : Stack) → ((a m : Stack) → Yes a m → Lead First a m) → ((b n : Stack) → No b n → Lead Second b n) →
      ForkOver (type_ways env place) Yes No p q → Lead (parts First Second) p q
  fork-lead First Second p q first second (a, m, b, n, holds, f, x, fails, g, y) = parts-lead First Second p a m b n q holds (first a m f) x fails (second b n g) y

  -- ---- traps

  pub guards-lead : (F : Making → Making) (p b q : Stack) → Lead F p b → AreBelow env b q → AreBelow env (p ++ error_type ∷ []) q → Lead (guards F) p q
  guards-lead F p b q f x y base old many inside =
      let error : Stack = p ++ error_type ∷ [] in
      let s0 = comes env place base old p p many (below-itself env place p) in
      let v1 = wanted env place s0 error in
      let s1 = then-fresh env place s0 error in
      let v2 = wanted env place s1 q in
      let s2 = then-fresh env place s1 q in
      let w1 = get-front (old ++ error ∷ []) (q ∷ []) (next_label base) error v1 in
      let s3 = then-add env place s2 (OpenTrap (next_label base)) p (below-itself env place p, (error, w1, refl)) in
      let in3 = in-more env place old ((old ++ error ∷ []) ++ q ∷ []) s3.grown labels loop inside in
      let (more, grown, s4) = then-leads env place s3 labels loop in3 F b f in
      let s5 = then-add env place {wants = more} s4 CloseTrap b (below-itself env place b) in
      let s6 = then-add env place {wants = more} s5 (GoTo (next_label (fresh base))) error (q, grown (next_label (fresh base)) q v2, x) in
      let s7 = then-bind env place {wants = more} s6 (next_label base) error (omega arith) (grown (next_label base) error w1) (below-itself env place error) in
      let s8 = then-add env place {wants = more} s7 (GoTo (next_label (fresh base))) q (q, grown (next_label (fresh base)) q v2, y) in
      (more, then-bind env place {wants = more} s8 (next_label (fresh base)) q (omega (arith, length-append base.labels (None ∷ []))) (grown (next_label (fresh base)) q v2) (below-itself env place q))

  -- ---- loops

  pub loops-lead : (Tries Prepares : Making → Making) (Body : Turns ℕ → Making → Making) (p q : Stack) (l : Turns Stack) (t m a b n k : Stack) → AreBelow env p l.head → DoesTypes env place Tick l.head t → Lead Tries t m →
      TakesTypes env place m a → TakesTypes env place m b → AreBelow env b l.exit → Lead Prepares a n → ((x : Turns ℕ) → Leads env place (Some x) (Some l) (Body x) n k) → AreBelow env k l.head → AreBelow env l.exit q → Lead (loops Tries Prepares Body) p q
  loops-lead Tries Prepares Body p q l t m a b n k begins tick tries holds fails out prepares body back ends base old many inside =
      let head = next_label base in
      let exit = next_label (fresh base) in
      let s0 = comes env place base old p p many (below-itself env place p) in
      let v1 = wanted env place s0 l.head in
      let s1 = then-fresh env place s0 l.head in
      let v2 = wanted env place s1 l.exit in
      let s2 = then-fresh env place s1 l.exit in
      let w1 = get-front (old ++ l.head ∷ []) (l.exit ∷ []) head l.head v1 in
      let s3 = then-bind env place s2 head l.head (omega arith) w1 begins in
      let s4 = then-add env place s3 (Do Tick) t tick in
      let (more, g1, s5) = then-leads env place s4 labels loop (in-more env place old ((old ++ l.head ∷ []) ++ l.exit ∷ []) s4.grown labels loop inside) Tries m tries in
      let s6 = then-add env place {wants = more} s5 (GoToIfNot exit) a (holds, (l.exit, g1 exit l.exit v2, takes-wider env place b l.exit fails out)) in
      let (again, g2, s7) = then-leads env place s6 labels loop (in-more env place old more s6.grown labels loop inside) Prepares n prepares in
      let x : Turns ℕ = record { head = head; exit = exit } in
      let (last, g3, s8) = then-leads env place s7 (Some x) (Some l) (g2 head l.head (g1 head l.head w1), g2 exit l.exit (g1 exit l.exit v2)) (Body x) k (body x) in
      let s9 = then-add env place {wants = last} s8 (GoTo head) l.exit (l.head, g3 head l.head (g2 head l.head (g1 head l.head w1)), back) in
      let s10 = then-bind env place {wants = last} s9 exit l.exit (omega (arith, length-append base.labels (None ∷ []))) (g3 exit l.exit (g2 exit l.exit (g1 exit l.exit v2))) (below-itself env place l.exit) in
      (last, then-comes env place s10 q ends)
