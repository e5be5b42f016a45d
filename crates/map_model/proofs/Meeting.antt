-- Operations one behind another, ways that part and meet, traps and loops have just these maps where what they are made of has.
use Rattle.std.proofs.Common.{◌≡◌, ◌++◌, ℕ, List, [], ◌∷◌, Option, Some, None, refl, sym, subst, arith, length-append}
use Rattle.type_model.specs.declared.atoms.AtomDef.{AtomDef}
use Rattle.type_model.specs.declared.basic.SemType.{SemType}
use Rattle.operations.specs.declared.operation.Operation.{Operation}
use Rattle.operations.specs.declared.operation.Operation.TheVariants.{Cast, Load, Tick}
use Rattle.operations.specs.Rows.{AreBelow, Surroundings}
use Rattle.eval_model.specs.Expressions.{error_type}
use Rattle.eval_model.specs.Ways.{Turns}
use Rattle.stack_code.specs.Commands.{Do, GoTo, GoToIfNot, OpenTrap, CloseTrap}
use Rattle.tree_promises.specs.Types.{DoesTypes, Stack, TakesTypes}
use Rattle.lower_model.specs.Making.{Making, all_do, does, fresh, gets, guards, loops, next_label, parts}
use Rattle.lower_model.proofs.Laying.{get-front}
use Rattle.typed_making.specs.Mapped.{at_or}
use Rattle.typed_making.proofs.Mapping.{below-itself, in-more, wanted}
use Rattle.map_model.specs.Maps.{Marks, along, gets_maps, mark}
use Rattle.map_model.specs.Marked.{LeadsBy}
use Rattle.map_model.specs.Points.{PlainTypes, slot_type}
use Rattle.map_model.specs.Written.{BeginsAt, GetsWritten, Runs}
use Rattle.map_model.proofs.Marking.{by-add, by-bind, by-comes, by-fresh, by-leads, by-then}

module _ (plain : PlainTypes) (env : List AtomDef) (place : Surroundings) (labels : Option (Turns ℕ)) (loop : Option (Turns Stack)) where
  abbrev Lead : (Making → Making) → Marks → Stack → Stack → Type 0
  Lead F f p q = LeadsBy env place labels loop F f p q

  -- ---- one behind another

  pub then-lead : (F G : Making → Making) (f g : Marks) (p q r : Stack) → Lead F f p q → Lead G g q r → Lead (λ m. G (F m)) (λ k. g (f k)) p r
  then-lead F G f g p q r x y m old many inside =
      let (wants, a) = x m old many inside in
      let (more, b) = y (F m) wants a.typed.many (in-more env place old wants a.typed.grown labels loop inside) in
      (more, by-then env place a b)

  pub come-lead : (p q : Stack) → AreBelow env p q → Lead (λ m. m) (λ k. k) p q
  come-lead p q b m old many inside = (old, by-comes env place m old p q many b)

  -- from types that are equal
  pub from-same : (F : Making → Making) (f : Marks) (p q r : Stack) → p ≡ q → Lead F f q r → Lead F f p r
  from-same F f p q r e x = subst (λ s. Lead F f s r) (sym e) x

  pub does-lead : (op : Operation) (p q : Stack) → DoesTypes env place op p q → Lead (does op) (mark p) p q
  does-lead op p q d m old many inside = (old, by-add env place (by-comes env place m old p p many (below-itself env place p)) (Do op) q d)

  pub runs-lead : (ops : List Operation) (points : List Stack) (p q : Stack) → Runs plain env place ops points p q → Lead (all_do ops) (along points) p q
  runs-lead [] [] p q h = come-lead p q h.0
  runs-lead [] (s ∷ ss) p q h = absurd h.1
  runs-lead (op ∷ ops) [] p q h = absurd h.1
  runs-lead (op ∷ ops) (s ∷ ss) p q (e, (d, more)) =
      from-same (all_do (op ∷ ops)) (along (s ∷ ss)) p s q e
      (then-lead (does op) (all_do ops) (mark s) (along ss) s (at_or ss q 0) q (does-lead op s (at_or ss q 0) d) (runs-lead ops ss (at_or ss q 0) q (begun ss, more)))
    where
      begun : (ss : List Stack) → BeginsAt plain env place ss (at_or ss q 0) q
      begun [] = below-itself env place q
      begun (r ∷ rs) = refl

  pub gets-lead : (slot : ℕ) (narrowed : Option SemType) (p q : Stack) → GetsWritten plain env place slot narrowed p q → Lead (gets slot narrowed) (gets_maps plain place slot narrowed p) p q
  gets-lead slot None p q d = does-lead (Load slot) p q d
  gets-lead slot (Some t) p q (d, k) =
      let m : Stack = p ++ slot_type place slot ∷ [] in
      then-lead (does (Load slot)) (does (Cast t)) (mark p) (mark m) p m q (does-lead (Load slot) p m d) (does-lead (Cast t) m q k)

  -- ---- ways that part

  pub parts-lead : (First Second : Making → Making) (f g : Marks) (p a m b n q : Stack) → TakesTypes env place p a → Lead First f a m → AreBelow env m q → TakesTypes env place p b → Lead Second g b n → AreBelow env n q →
      Lead (parts First Second) (λ k. g (mark m (f (mark p k)))) p q
  parts-lead First Second f g p a m b n q holds first x fails second y base old many inside =
      let s0 = by-comes env place base old p p many (below-itself env place p) in
      let v1 = wanted env place s0.typed b in
      let s1 = by-fresh env place s0 b in
      let v2 = wanted env place s1.typed q in
      let s2 = by-fresh env place s1 q in
      let w1 = get-front (old ++ b ∷ []) (q ∷ []) (next_label base) b v1 in
      let s3 = by-add env place s2 (GoToIfNot (next_label base)) a (holds, (b, w1, fails)) in
      let in3 = in-more env place old ((old ++ b ∷ []) ++ q ∷ []) s3.typed.grown labels loop inside in
      let (more, grown, s4) = by-leads env place s3 labels loop in3 First f m first in
      let s5 = by-add env place {wants = more} s4 (GoTo (next_label (fresh base))) b (q, grown (next_label (fresh base)) q v2, x) in
      let s6 = by-bind env place {wants = more} s5 (next_label base) b (omega arith) (grown (next_label base) b w1) (below-itself env place b) in
      let (last, later, s7) = by-leads env place s6 labels loop (in-more env place old more s6.typed.grown labels loop inside) Second g n second in
      (last, by-bind env place {wants = last} s7 (next_label (fresh base)) q (omega (arith, length-append base.labels (None ∷ []))) (later (next_label (fresh base)) q (grown (next_label (fresh base)) q v2)) y)

  -- ---- traps

  pub guards-lead : (F : Making → Making) (f : Marks) (p b q : Stack) → Lead F f p b → AreBelow env b q → AreBelow env (p ++ error_type ∷ []) q →
      Lead (guards F) (λ k. mark (p ++ error_type ∷ []) (mark b (mark b (f (mark p k))))) p q
  guards-lead F f p b q x ends lands base old many inside =
      let error : Stack = p ++ error_type ∷ [] in
      let s0 = by-comes env place base old p p many (below-itself env place p) in
      let v1 = wanted env place s0.typed error in
      let s1 = by-fresh env place s0 error in
      let v2 = wanted env place s1.typed q in
      let s2 = by-fresh env place s1 q in
      let w1 = get-front (old ++ error ∷ []) (q ∷ []) (next_label base) error v1 in
      let s3 = by-add env place s2 (OpenTrap (next_label base)) p (below-itself env place p, (error, w1, refl)) in
      let in3 = in-more env place old ((old ++ error ∷ []) ++ q ∷ []) s3.typed.grown labels loop inside in
      let (more, grown, s4) = by-leads env place s3 labels loop in3 F f b x in
      let s5 = by-add env place {wants = more} s4 CloseTrap b (below-itself env place b) in
      let s6 = by-add env place {wants = more} s5 (GoTo (next_label (fresh base))) error (q, grown (next_label (fresh base)) q v2, ends) in
      let s7 = by-bind env place {wants = more} s6 (next_label base) error (omega arith) (grown (next_label base) error w1) (below-itself env place error) in
      let s8 = by-add env place {wants = more} s7 (GoTo (next_label (fresh base))) q (q, grown (next_label (fresh base)) q v2, lands) in
      (more, by-bind env place {wants = more} s8 (next_label (fresh base)) q (omega (arith, length-append base.labels (None ∷ []))) (grown (next_label (fresh base)) q v2) (below-itself env place q))

  -- ---- loops, over operands that stay

  pub loops-lead : (Tries Prepares : Making → Making) (Body : Turns ℕ → Making → Making) (tries prepares body : Marks) (p m : Stack) → DoesTypes env place Tick p p → Lead Tries tries p m → TakesTypes env place m p → Lead Prepares prepares p p →
      ((x : Turns ℕ) → LeadsBy env place (Some x) (Some (record { head = p; exit = p })) (Body x) body p p) → Lead (loops Tries Prepares Body) (λ k. mark p (body (prepares (mark m (tries (mark p k)))))) p p
  loops-lead Tries Prepares Body tries prepares body p m tick tried holds prepared bodied base old many inside =
      let head = next_label base in
      let exit = next_label (fresh base) in
      let b = below-itself env place p in
      let s0 = by-comes env place base old p p many b in
      let v1 = wanted env place s0.typed p in
      let s1 = by-fresh env place s0 p in
      let v2 = wanted env place s1.typed p in
      let s2 = by-fresh env place s1 p in
      let w1 = get-front (old ++ p ∷ []) (p ∷ []) head p v1 in
      let s3 = by-bind env place s2 head p (omega arith) w1 b in
      let s4 = by-add env place s3 (Do Tick) p tick in
      let (more, g1, s5) = by-leads env place s4 labels loop (in-more env place old ((old ++ p ∷ []) ++ p ∷ []) s4.typed.grown labels loop inside) Tries tries m tried in
      let s6 = by-add env place {wants = more} s5 (GoToIfNot exit) p (holds, (p, g1 exit p v2, holds)) in
      let (again, g2, s7) = by-leads env place s6 labels loop (in-more env place old more s6.typed.grown labels loop inside) Prepares prepares p prepared in
      let x : Turns ℕ = record { head = head; exit = exit } in
      let (last, g3, s8) = by-leads env place s7 (Some x) (Some (record { head = p; exit = p })) (g2 head p (g1 head p w1), g2 exit p (g1 exit p v2)) (Body x) body p (bodied x) in
      let s9 = by-add env place {wants = last} s8 (GoTo head) p (p, g3 head p (g2 head p (g1 head p w1)), b) in
      (last, by-bind env place {wants = last} s9 exit p (omega (arith, length-append base.labels (None ∷ []))) (g3 exit p (g2 exit p (g1 exit p v2))) b)
