-- Maps put together, one piece behind another.
use Rattle.std.proofs.Common.{◌≡◌, ◌∙◌, ◌≤◌, ◌++◌, ℕ, List, [], ◌∷◌, Option, length, sym, ap}
use Rattle.std.proofs.lemmas.List.{append-nil, append_assoc}
use Rattle.std.specs.Prelude.{Some, slice_get}
use Rattle.type_model.specs.declared.atoms.AtomDef.{AtomDef}
use Rattle.operations.specs.Rows.{AreBelow, Surroundings}
use Rattle.eval_model.specs.Ways.{Turns}
use Rattle.stack_code.specs.Commands.{Command}
use Rattle.tree_promises.specs.Types.{Stack}
use Rattle.lower_model.specs.Making.{Making, add, bind, fresh}
use Rattle.typed_making.specs.Mapped.{InLoop, IsTyped, More}
use Rattle.typed_making.proofs.Mapping.{comes, mapped-then, then-add, then-bind, then-fresh}
use Rattle.map_model.specs.Maps.{Marks, mark}
use Rattle.map_model.specs.Marked.{LeadsBy, Marked}

module _ (env : List AtomDef) (place : Surroundings) where
  pub by-comes : (m : Making) (old : List Stack) (p q : Stack) → length m.labels ≡ length old → AreBelow env p q → Marked env place m m old old (λ k. k) p q
  by-comes m old p q many b = record { typed = comes env place m old p q many b; are = λ k. sym (append-nil k) }

  pub by-then : {m n o : Making} {old wants more : List Stack} {f g : Marks} {p q r : Stack} → Marked env place m n old wants f p q → Marked env place n o wants more g q r → Marked env place m o old more (λ k. g (f k)) p r
  by-then {f = f} a b =
      record { typed = mapped-then env place a.typed b.typed; are = λ k. b.are (f k) ∙ ap (λ x. x ++ b.typed.stacks) (a.are k) ∙ append_assoc k a.typed.stacks b.typed.stacks }

  pub by-add : {m n : Making} {old wants : List Stack} {f : Marks} {p q : Stack} → Marked env place m n old wants f p q → (c : Command) (r : Stack) → IsTyped env place wants c q r → Marked env place m (add c n) old wants (λ k. mark q (f k)) p r
  by-add {q = q} a c r typed = record { typed = then-add env place a.typed c r typed; are = λ k. ap (mark q) (a.are k) ∙ append_assoc k a.typed.stacks (q ∷ []) }

  pub by-fresh : {m n : Making} {old wants : List Stack} {f : Marks} {p q : Stack} → Marked env place m n old wants f p q → (want : Stack) → Marked env place m (fresh n) old (wants ++ want ∷ []) f p q
  by-fresh a want = record { typed = then-fresh env place a.typed want; are = λ k. a.are k ∙ ap (λ x. k ++ x) (sym (append-nil a.typed.stacks)) }

  pub by-bind : {m n : Making} {old wants : List Stack} {f : Marks} {p q : Stack} → Marked env place m n old wants f p q → (l : ℕ) (want : Stack) → length m.labels ≤ l → slice_get wants l ≡ Some want → AreBelow env q want → Marked env place m (bind l n) old wants f p want
  by-bind a l want ge w b = record { typed = then-bind env place a.typed l want ge w b; are = λ k. a.are k ∙ ap (λ x. k ++ x) (sym (append-nil a.typed.stacks)) }

  -- behind a piece what was wanted is wanted
  abbrev pub BehindBy : Making → Making → List Stack → List Stack → Marks → Stack → Stack → Type 0
  BehindBy m n old wants f p r = (more : List Stack) × More wants more × Marked env place m n old more f p r

  pub by-leads : {m n : Making} {old wants : List Stack} {f : Marks} {p q : Stack} → Marked env place m n old wants f p q → (labels : Option (Turns ℕ)) (loop : Option (Turns Stack)) → InLoop env place wants labels loop → (F : Making → Making) (g : Marks) (r : Stack) →
      LeadsBy env place labels loop F g q r → BehindBy m (F n) old wants (λ k. g (f k)) p r
  by-leads {n = n} {wants = wants} a labels loop inside F g r x = let (more, b) = x n wants a.typed.many inside in (more, b.typed.grown, by-then a b)
