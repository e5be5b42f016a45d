-- A place is typed exactly where its numbers pass and its needs are met.
use Rattle.std.proofs.Common.{◌≡◌, ◌⊎◌, ◌↔◌, ◌-◌, ◌+◌, ◌∙◌, ℕ, Bool, true, false, List, [], ◌∷◌, ◌++◌, Option, Some, None, inl, inr, length, refl, sym, ap, subst}
use Rattle.std.specs.Prelude.{IsSomeAnd, if◌then◌else◌, not, option_to_list}
use Rattle.std.proofs.lemmas.List.{take-append-drop}
use Rattle.type_model.specs.declared.basic.BasicSet.TheVariants.{ErrorAll}
use Rattle.type_model.specs.declared.basic.SemType.{SemType, Basic}
use Rattle.type_model.specs.Inclusion.{HaveSameShapes}
use Rattle.type_model.specs.Membership.{In}
use Rattle.operations.specs.declared.operation.Operation.{Operation}
use Rattle.operations.specs.declared.operation.Operation.TheVariants as op
use Rattle.operations.specs.Rows.{AreBelow, IsWithin, Surroundings}
use Rattle.operations.specs.Typing.{OpTyped}
use Rattle.machine_model.specs.Following.{EndsFrame}
use Rattle.stack_code.specs.declared.code.Code.{Code}
use Rattle.stack_code.specs.declared.code.Unit.{Unit as CodeUnit}
use Rattle.stack_code.specs.Commands.{Command, Do, GoTo, GoToIfNot, OpenTrap, CloseTrap, command_at}
use Rattle.stack_code.specs.Flow.{AreSame, BeginsBelow, BranchesTyped, DoesTyped, IsLandingOf, IsTypedAt, IsTypedBy, KeepsBelow}
use Rattle.stack_code.specs.Places.{Station, stack_at, surroundings, traps_at}
use Rattle.code_needs.specs.Combining.{AreMet, Needs, ◌&◌, need, of_some, only_if}
use Rattle.code_needs.specs.Laws.{NeedsDecidePlaces}
use Rattle.code_needs.specs.declared.kind.Kind.TheVariants.{Booleans, Errors}
use Rattle.code_needs.specs.Needs.{Below, Has, Within}
use Rattle.code_needs.specs.PlaceNeeds.{BranchPasses, CommandPasses, DoesPass, PlacePasses, begins_below, branch_needs, command_needs, does_needs, landing_needs, place_needs, same_each, trap_needs}
use Rattle.code_needs.specs.RowNeeds.{below_each, row_needs, within}
use Rattle.code_needs.specs.Stacks.{ends, front_of, gives, last_of, operand_count, operands_of, rest_of, result_of, stay_of}
use Rattle.code_needs.proofs.Combined.{Decided, and-two, met-both, met-back, met-each, met-each_zip, met-front, met-need, met-nothing, met-some, never, otherwise}
use Rattle.code_needs.proofs.Counted.{GivesAs}
use Rattle.code_needs.proofs.Ends.{drop-front, front-is, last-is, read-back, read-so, read_off, stays, take-front, with-last}
use Rattle.code_needs.proofs.Rows.{met-below, met-row}
use Rattle.code_needs.proofs.Shaped.{typed-shape}
use Rattle.code_needs.proofs.Widened.{widen}

-- ---- lists of types

module _ (code : Code) where
  pub same-decided : (ss ts : List SemType) → Decided code.atoms (AreSame code ss ts) (same_each ss ts)
  same-decided ss ts =
      met-each_zip code.atoms (HaveSameShapes code.atoms) (λ s t. need (Below s t) & need (Below t s)) ss ts (λ s t.
      otherwise code.atoms (λ h. ((λ x k. (h x k.0).0 k.1), (λ x k. (h x k.0).1 k.1))) (λ h x v. ((λ i. h.0 x (v, i)), (λ i. h.1 x (v, i))))
      (and-two code.atoms (met-need code.atoms (Below s t)) (met-need code.atoms (Below t s))))

  abbrev BeginsSo : List SemType → List SemType → Type 0
  BeginsSo types ts = (front : List SemType) × (back : List SemType) × (types ≡ front ++ back) × AreBelow code.atoms front ts

  begins-decided : (types ts : List SemType) → Decided code.atoms (BeginsSo types ts) (begins_below types ts)
  begins-decided types [] = otherwise code.atoms (λ h. tt) (λ h. ([], types, refl, tt)) (met-nothing code.atoms)
  begins-decided [] (t ∷ ts) = never code.atoms none-begins
    where
      none-begins : BeginsSo [] (t ∷ ts) → ⊥
      none-begins ([], back, e, h) = h
      none-begins (s ∷ front, back, e, h) = let q : ⊥ = cc in q
  begins-decided (s ∷ types) (t ∷ ts) = otherwise code.atoms parts whole (and-two code.atoms (met-need code.atoms (Below s t)) (begins-decided types ts))
    where
      parts : BeginsSo (s ∷ types) (t ∷ ts) → IsWithin code.atoms (λ x. In code.atoms x t) s × BeginsSo types ts
      parts ([], back, e, h) = absurd h
      parts (r ∷ front, back, e, (h, more)) =
          let q : s ≡ r = cc in
          (subst (λ w. IsWithin code.atoms (λ x. In code.atoms x t) w) (sym q) h, (front, back, (let w : types ≡ front ++ back = cc in w), more))

      whole : IsWithin code.atoms (λ x. In code.atoms x t) s × BeginsSo types ts → BeginsSo (s ∷ types) (t ∷ ts)
      whole (h, (front, back, e, more)) = (s ∷ front, back, ap (λ ws. s ∷ ws) e, (h, more))

-- ---- operations that go on

goes-or-ends : (o : Operation) → (EndsFrame o × (ends o ≡ true) × (gives o ≡ false)) ⊎ ((¬ (EndsFrame o)) × (ends o ≡ false))
goes-or-ends op.Return = inl (tt, refl, refl)
goes-or-ends op.Panic = inl (tt, refl, refl)
goes-or-ends o = inr ((λ h. h), refl)

module _ (code : Code) (u : CodeUnit) (station : Station) (p : ℕ) where
  abbrev place : Surroundings
  place = surroundings code u station

  abbrev here : List SemType
  here = stack_at code p

  abbrev next_stack : List SemType
  next_stack = stack_at code (p + 1)

  -- the row at the operands and the result that are read, and what stays
  abbrev RowSo : Operation → Type 0
  RowSo o = OpTyped code.atoms place o (operands_of o here) (result_of o next_stack) × ((¬ (EndsFrame o)) → AreBelow code.atoms (rest_of o here) (stay_of o next_stack))

  row-decided : (o : Operation) → Decided code.atoms (RowSo o) (does_needs code u station p o)
  row-decided o = by (goes-or-ends o)
    where
      by : (EndsFrame o × (ends o ≡ true) × (gives o ≡ false)) ⊎ ((¬ (EndsFrame o)) × (ends o ≡ false)) → Decided code.atoms (RowSo o) (does_needs code u station p o)
      by (inl (end, e, g)) =
          subst (λ b. Decided code.atoms (RowSo o) (row_needs code.atoms place o (operands_of o here) (result_of o next_stack) & only_if (not b) (below_each (rest_of o here) (stay_of o next_stack)))) (sym e)
          (otherwise code.atoms (λ h. (h.0, tt)) (λ h. (h.0, (λ goes. absurd (goes end)))) (and-two code.atoms (met-row code.atoms place o (operands_of o here) (result_of o next_stack)) (met-nothing code.atoms)))
      by (inr (goes, e)) =
          subst (λ b. Decided code.atoms (RowSo o) (row_needs code.atoms place o (operands_of o here) (result_of o next_stack) & only_if (not b) (below_each (rest_of o here) (stay_of o next_stack)))) (sym e)
          (otherwise code.atoms (λ h. (h.0, h.1 goes)) (λ h. (h.0, (λ k. h.1))) (and-two code.atoms (met-row code.atoms place o (operands_of o here) (result_of o next_stack)) (met-below code.atoms (rest_of o here) (stay_of o next_stack))))

  -- what is read off, by the words of the lemmas on ends
  result-read : (o : Operation) → result_of o next_stack ≡ read_off (gives o) next_stack
  result-read o = by (gives o)
    where
      by : (b : Bool) → (if b then last_of next_stack else None) ≡ read_off b next_stack
      by true = refl
      by false = refl

  stay-read : (o : Operation) → stay_of o next_stack ≡ stays (gives o) next_stack
  stay-read o = by (gives o)
    where
      by : (b : Bool) → (if b then front_of next_stack else next_stack) ≡ stays b next_stack
      by true = refl
      by false = refl

  does-so : (o : Operation) → DoesTyped code u station p o → DoesPass code u station p o × AreMet code.atoms (does_needs code u station p o)
  does-so o t =
      let shape = typed-shape code.atoms place o t.operands t.result t.typed in
      let rest-is : rest_of o here ≡ t.rest = take-front here t.rest t.operands (operand_count o) t.stack shape.0 in
      let operands-are : operands_of o here ≡ t.operands = drop-front here t.rest t.operands (operand_count o) t.stack shape.0 in (
        record { kept = subst (KeepsBelow code u station p) (sym rest-is) t.kept; unstarted = t.unstarted; next = (λ goes. let n = t.next goes in (n.0, n.2)) },
        (row-decided o).so (by (goes-or-ends o) shape rest-is operands-are),
      )
    where
      by : (EndsFrame o × (ends o ≡ true) × (gives o ≡ false)) ⊎ ((¬ (EndsFrame o)) × (ends o ≡ false)) → (length t.operands ≡ operand_count o) × GivesAs (gives o) t.result → rest_of o here ≡ t.rest → operands_of o here ≡ t.operands → RowSo o
      by (inl (end, e, g)) shape rest-is operands-are =
          let none-given : t.result ≡ None = subst (λ b. GivesAs b t.result) g shape.1 in
          let none-read : result_of o next_stack ≡ None = result-read o ∙ ap (λ b. read_off b next_stack) g in (
            subst (λ r. OpTyped code.atoms place o (operands_of o here) r) (sym none-read) (subst (λ ts. OpTyped code.atoms place o ts None) (sym operands-are) (subst (λ r. OpTyped code.atoms place o t.operands r) none-given t.typed)),
            (λ goes. absurd (goes end)),
          )
      by (inr (goes, e)) shape rest-is operands-are =
          let n = t.next goes in
          let q = read-so code.atoms (λ r. OpTyped code.atoms place o t.operands r) (λ r s sub typed. widen code.atoms r s sub place o t.operands typed) (gives o) t.rest next_stack t.result shape.1 n.1 t.typed in (
            subst (λ r. OpTyped code.atoms place o (operands_of o here) r) (sym (result-read o)) (subst (λ ts. OpTyped code.atoms place o ts (read_off (gives o) next_stack)) (sym operands-are) q.0),
            (λ k. subst (λ ts. AreBelow code.atoms ts (stay_of o next_stack)) (sym rest-is) (subst (λ ts. AreBelow code.atoms t.rest ts) (sym (stay-read o)) q.1)),
          )

  does-back : (o : Operation) → DoesPass code u station p o → AreMet code.atoms (does_needs code u station p o) → DoesTyped code u station p o
  does-back o d m =
      let row = (row-decided o).back m in
      record {
        rest = rest_of o here;
        operands = operands_of o here;
        result = result_of o next_stack;
        stack = sym (take-append-drop (length here - operand_count o) here);
        typed = row.0;
        kept = d.kept;
        unstarted = d.unstarted;
        next = (λ goes. let n = d.next goes in (n.0, below (row.1 goes) (typed-shape code.atoms place o (operands_of o here) (result_of o next_stack) row.0).1, n.1));
      }
    where
      below : AreBelow code.atoms (rest_of o here) (stay_of o next_stack) → GivesAs (gives o) (result_of o next_stack) → AreBelow code.atoms (rest_of o here ++ option_to_list (result_of o next_stack)) next_stack
      below h given =
          subst (λ r. AreBelow code.atoms (rest_of o here ++ option_to_list r) next_stack) (sym (result-read o))
          (read-back code.atoms (gives o) (rest_of o here) next_stack (subst (GivesAs (gives o)) (result-read o) given) (subst (λ ts. AreBelow code.atoms (rest_of o here) ts) (stay-read o) h))

  -- ---- branches

  branch-so : (to : ℕ) → BranchesTyped code u station p to → BranchPasses code u station p to × AreMet code.atoms (branch_needs code u station p to)
  branch-so to t =
      let front : front_of here ≡ t.rest = ap front_of t.stack ∙ front-is t.rest t.condition in
      let last : last_of here ≡ Some t.condition = ap last_of t.stack ∙ last-is t.rest t.condition in
      let first : AreMet code.atoms (of_some (last_of here) (λ c. within c Booleans)) = subst (λ o. AreMet code.atoms (of_some o (λ c. within c Booleans))) (sym last) ((met-need code.atoms (Within t.condition Booleans)).so t.boolean) in
      let one : AreMet code.atoms (below_each (front_of here) next_stack) = subst (λ ts. AreMet code.atoms (below_each ts next_stack)) (sym front) ((met-below code.atoms t.rest next_stack).so t.next.1) in
      let other : AreMet code.atoms (below_each (front_of here) (stack_at code to)) = subst (λ ts. AreMet code.atoms (below_each ts (stack_at code to))) (sym front) ((met-below code.atoms t.rest (stack_at code to)).so t.other.1) in (
        record { kept = subst (KeepsBelow code u station p) (sym front) t.kept; lands = t.lands; next = (t.next.0, t.next.2); other = (t.other.0, t.other.2) },
        met-both code.atoms (of_some (last_of here) (λ c. within c Booleans)) (below_each (front_of here) next_stack & below_each (front_of here) (stack_at code to)) first
            (met-both code.atoms (below_each (front_of here) next_stack) (below_each (front_of here) (stack_at code to)) one other),
      )

  branch-back : (to : ℕ) → BranchPasses code u station p to → AreMet code.atoms (branch_needs code u station p to) → BranchesTyped code u station p to
  branch-back to d m =
      let later = met-back code.atoms (of_some (last_of here) (λ c. within c Booleans)) (below_each (front_of here) next_stack & below_each (front_of here) (stack_at code to)) m in
      by (last_of here) refl (met-front code.atoms (of_some (last_of here) (λ c. within c Booleans)) (below_each (front_of here) next_stack & below_each (front_of here) (stack_at code to)) m)
      ((met-below code.atoms (front_of here) next_stack).back (met-front code.atoms (below_each (front_of here) next_stack) (below_each (front_of here) (stack_at code to)) later))
      ((met-below code.atoms (front_of here) (stack_at code to)).back (met-back code.atoms (below_each (front_of here) next_stack) (below_each (front_of here) (stack_at code to)) later))
    where
      by : (o : Option SemType) → last_of here ≡ o → AreMet code.atoms (of_some o (λ c. within c Booleans)) → AreBelow code.atoms (front_of here) next_stack → AreBelow code.atoms (front_of here) (stack_at code to) → BranchesTyped code u station p to
      by (Some c) e h one other =
          record {
            rest = front_of here;
            condition = c;
            stack = with-last here c e;
            boolean = (met-need code.atoms (Within c Booleans)).back h;
            kept = d.kept;
            lands = d.lands;
            next = (d.next.0, one, d.next.1);
            other = (d.other.0, other, d.other.1);
          }
      by None e h one other = absurd h

  -- ---- traps

  abbrev error_needs : SemType → Needs
  error_needs e = need (Within e Errors) & need (Has e Errors)

  error-decided : (e : SemType) → Decided code.atoms (HaveSameShapes code.atoms e (Basic ErrorAll)) (error_needs e)
  error-decided e =
      otherwise code.atoms (λ h. ((λ x k. (h x k.0).0 k.1), (λ x v k. (h x v).1 k))) (λ h x v. ((λ i. h.0 x (v, i)), (λ i. h.1 x v i)))
      (and-two code.atoms (met-need code.atoms (Within e Errors)) (met-need code.atoms (Has e Errors)))

  landing-decided : (to : ℕ) → Decided code.atoms (IsLandingOf code u station p to) (landing_needs code u station p to)
  landing-decided to = record { so = so; back = back }
    where
      there : List SemType
      there = stack_at code to

      so : IsLandingOf code u station p to → AreMet code.atoms (landing_needs code u station p to)
      so (own, error, stack, same, is) =
          met-both code.atoms (of_some (last_of (stack_at code to)) error_needs) (same_each (front_of (stack_at code to)) here)
          (subst (λ o. AreMet code.atoms (of_some o error_needs)) (sym (ap last_of stack ∙ last-is own error)) ((error-decided error).so is))
          (subst (λ ts. AreMet code.atoms (same_each ts here)) (sym (ap front_of stack ∙ front-is own error)) ((same-decided code own here).so same))

      by : (o : Option SemType) → last_of (stack_at code to) ≡ o → AreMet code.atoms (of_some o error_needs) → AreSame code (front_of (stack_at code to)) here → IsLandingOf code u station p to
      by (Some e) last h same = (front_of (stack_at code to), e, with-last (stack_at code to) e last, same, (error-decided e).back h)
      by None last h same = absurd h

      back : AreMet code.atoms (landing_needs code u station p to) → IsLandingOf code u station p to
      back m =
          by (last_of (stack_at code to)) refl (met-front code.atoms (of_some (last_of (stack_at code to)) error_needs) (same_each (front_of (stack_at code to)) here) m)
          ((same-decided code (front_of (stack_at code to)) here).back (met-back code.atoms (of_some (last_of (stack_at code to)) error_needs) (same_each (front_of (stack_at code to)) here) m))

  begins-here : Decided code.atoms (BeginsBelow code u station p) (trap_needs code u station p)
  begins-here = met-some code.atoms (traps_at code u p) (λ traps. met-each code.atoms _ _ traps (λ t. begins-decided code here (stack_at code t)))

  -- ---- commands

  goes-so : (to : ℕ) → Decided code.atoms (AreBelow code.atoms here (stack_at code to)) (below_each here (stack_at code to))
  goes-so to = met-below code.atoms here (stack_at code to)

  command-so : (c : Command) → IsTypedBy code u station p c → CommandPasses code u station p c × AreMet code.atoms (command_needs code u station p c)
  command-so (Do o) t = does-so o t
  command-so (GoTo to) t = ((t.0, (t.1.0, t.1.2)), (goes-so to).so t.1.1)
  command-so (GoToIfNot to) t = branch-so to t
  command-so (OpenTrap to) t =
      ((t.0, t.2, (t.3.0, t.3.2)), met-both code.atoms (landing_needs code u station p to) (below_each here next_stack) ((landing-decided to).so t.1) ((goes-so (p + 1)).so t.3.1))
  command-so CloseTrap t = ((t.0, (t.1.0, t.1.2)), (goes-so (p + 1)).so t.1.1)

  command-back : (c : Command) → CommandPasses code u station p c → AreMet code.atoms (command_needs code u station p c) → IsTypedBy code u station p c
  command-back (Do o) d m = does-back o d m
  command-back (GoTo to) d m = (d.0, (d.1.0, (goes-so to).back m, d.1.1))
  command-back (GoToIfNot to) d m = branch-back to d m
  command-back (OpenTrap to) d m = (
    d.0,
    (landing-decided to).back (met-front code.atoms (landing_needs code u station p to) (below_each here next_stack) m),
    d.1,
    (d.2.0, (goes-so (p + 1)).back (met-back code.atoms (landing_needs code u station p to) (below_each here next_stack) m), d.2.1),
  )
  command-back CloseTrap d m = (d.0, (d.1.0, (goes-so (p + 1)).back m, d.1.1))

  at-command-so : (o : Option Command) → IsSomeAnd o (IsTypedBy code u station p) → IsSomeAnd o (CommandPasses code u station p) × AreMet code.atoms (of_some o (command_needs code u station p))
  at-command-so (Some c) h = command-so c h
  at-command-so None h = absurd h

  at-command-back : (o : Option Command) → IsSomeAnd o (CommandPasses code u station p) → AreMet code.atoms (of_some o (command_needs code u station p)) → IsSomeAnd o (IsTypedBy code u station p)
  at-command-back (Some c) d m = command-back c d m
  at-command-back None d m = absurd d

  abbrev command_needs_here : Needs
  command_needs_here = of_some (command_at code p) (command_needs code u station p)

  pub place-decided : IsTypedAt code u station p ↔ (PlacePasses code u station p × AreMet code.atoms (place_needs code u station p))
  place-decided = (
    (λ t. let q = at-command-so (command_at code p) t.command in
        (record { command = q.0; defined = t.defined }, met-both code.atoms command_needs_here (trap_needs code u station p) q.1 (begins-here.so t.begins))),
    (λ h. record {
      command = at-command-back (command_at code p) h.0.command (met-front code.atoms command_needs_here (trap_needs code u station p) h.1);
      begins = begins-here.back (met-back code.atoms command_needs_here (trap_needs code u station p) h.1);
      defined = h.0.defined;
    }),
  )

pub places-decided : NeedsDecidePlaces
places-decided code u station p = place-decided code u station p
