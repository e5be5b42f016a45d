-- Operations, ways that part, traps and loops lead where they should, where what they are made of does.
use Rattle.std.proofs.Common.{◌≡◌, ◌≤◌, ◌++◌, ◌⊎◌, ℕ, suc, List, [], ◌∷◌, Option, Some, None, inl, inr, length, refl, sym, subst, arith, length-append}
use Rattle.type_model.specs.declared.basic.SemType.{SemType}
use Rattle.operations.specs.declared.operation.Operation.{Operation}
use Rattle.operations.specs.declared.operation.Operation.TheVariants.{Cast, Load, Tick}
use Rattle.eval_model.specs.Ways.{Turns}
use Rattle.stack_code.specs.Commands.{Do, GoTo, GoToIfNot, OpenTrap, CloseTrap}
use Rattle.lower_model.specs.Making.{Making, add, all_do, bind, does, fresh, gets, guards, loops, parts}
use Rattle.lowered_typing.proofs.Nesting.{Traps, all-names-so}
use Rattle.lowered_typing.proofs.Tidy.{MayJump, TidyBy, added, ahead-of, at-head, bound, comes, just, labelled, may-bind, may-fresh, may-later, none, tidied-then}

pub one-more : (m : Making) → length (fresh m).labels ≡ suc (length m.labels)
one-more m = omega (arith, length-append m.labels (None ∷ []))

-- one of two labels
abbrev pub Either : ℕ → ℕ → ℕ → Type 0
Either a b l = (l ≡ a) ⊎ (l ≡ b)

-- whatever else may be jumped to
pub wider : (few ctx : ℕ → Type 0) → ((l : ℕ) → few l → ctx l) → (F : Making → Making) → TidyBy few F → TidyBy ctx F
wider few ctx f F x m old ts many may =
    let (wants, a) = x m old ts many (λ l c. may l (f l c)) in (
      wants,
      record {
        news = a.news;
        steps = a.steps;
        nested = a.nested;
        ahead = a.ahead;
        names = all-names-so (λ l. (length m.labels ≤ l) ⊎ few l) (λ l. (length m.labels ≤ l) ⊎ ctx l) so a.news a.names;
        grown = a.grown;
        many = a.many;
        fewer = a.fewer;
        keeps = a.keeps;
        lands = a.lands;
        placed = a.placed;
      },
    )
  where
    so : (l : ℕ) → (length m.labels ≤ l) ⊎ few l → (length m.labels ≤ l) ⊎ ctx l
    so l (inl le) = inl le
    so l (inr c) = inr (f l c)

module _ (ctx : ℕ → Type 0) where
  -- ---- one behind another

  pub tidy-nothing : TidyBy ctx (λ m. m)
  tidy-nothing m old ts many may = (old, comes ctx m old ts many)

  pub tidy-then : (F G : Making → Making) → TidyBy ctx F → TidyBy ctx G → TidyBy ctx (λ m. G (F m))
  tidy-then F G x y m old ts many may =
      let (mid, a) = x m old ts many may in
      let (wants, b) = y (F m) mid ts a.many (λ l c. may-later ctx none m (F m) old mid ts ts a ts l (may l c)) in
      (wants, tidied-then ctx none ctx none none m (F m) (G (F m)) old mid wants ts ts ts a b (λ l c. inr c) (λ l d. d) (λ l d. d))

  pub tidy-does : (op : Operation) → TidyBy ctx (does op)
  tidy-does op m old ts many may = (old, added ctx (Do op) m old ts many tt tt tt)

  pub tidy-all : (ops : List Operation) → TidyBy ctx (all_do ops)
  tidy-all [] = tidy-nothing
  tidy-all (op ∷ ops) = tidy-then (does op) (all_do ops) (tidy-does op) (tidy-all ops)

  pub tidy-gets : (slot : ℕ) (narrowed : Option SemType) → TidyBy ctx (gets slot narrowed)
  tidy-gets slot None = tidy-does (Load slot)
  tidy-gets slot (Some t) = tidy-then (does (Load slot)) (does (Cast t)) (tidy-does (Load slot)) (tidy-does (Cast t))

  -- a jump to what may be jumped to
  pub tidy-goes : (l : ℕ) → ctx l → TidyBy ctx (add (GoTo l))
  tidy-goes l c m old ts many may = (old, added ctx (GoTo l) m old ts many (may l c).1 (ahead-of (GoTo l) m old ts l (may l c)) c)

  -- ---- ways that part

  pub tidy-parts : (First Second : Making → Making) → TidyBy ctx First → TidyBy ctx Second → TidyBy ctx (parts First Second)
  tidy-parts First Second x y m old ts many may =
      let other : ℕ = length m.labels in
      let end : ℕ = length (fresh m).labels in
      let m1 : Making = fresh m in
      let m2 : Making = fresh m1 in
      let m3 : Making = add (GoToIfNot other) m2 in
      let w1 : List Traps = old ++ ts ∷ [] in
      let w2 : List Traps = w1 ++ ts ∷ [] in
      let a1 = labelled ctx ts m old ts many in
      let a2 = labelled ctx ts m1 w1 ts a1.many in
      let other1 = may-fresh ts m old many in
      let other2 = may-later ctx (just end) m1 m2 w1 w2 ts ts a2 ts other other1 in
      let end2 = may-fresh ts m1 w1 a1.many in
      let a3 = added (just other) (GoToIfNot other) m2 w2 ts a2.many other2.1 (ahead-of (GoToIfNot other) m2 w2 ts other other2) refl in
      let end3 = may-later (just other) none m2 m3 w2 w2 ts ts a3 ts end end2 in
      let may3 : (l : ℕ) → ctx l → MayJump m3 w2 ts l =
      λ l c. may-later (just other) none m2 m3 w2 w2 ts ts a3 ts l (may-later ctx (just end) m1 m2 w1 w2 ts ts a2 ts l (may-later ctx (just other) m m1 old w1 ts ts a1 ts l (may l c))) in
      let (w4, a4) = x m3 w2 ts a3.many may3 in
      let m4 : Making = First m3 in
      let end4 = may-later ctx none m3 m4 w2 w4 ts ts a4 ts end end3 in
      let m5 : Making = add (GoTo end) m4 in
      let a5 = added (just end) (GoTo end) m4 w4 ts a4.many end4.1 (ahead-of (GoTo end) m4 w4 ts end end4) refl in
      let b2 = tidied-then ctx (just other) ctx (just end) (Either other end) m m1 m2 old w1 w2 ts ts ts a1 a2 (λ l c. inr c) (λ l d. inl d) (λ l d. inr d) in
      let b3 = tidied-then ctx (Either other end) (just other) none (Either other end) m m2 m3 old w2 w2 ts ts ts b2 a3 (λ l c. inl (omega (arith, c))) (λ l d. d) (λ l d. absurd d) in
      let b4 = tidied-then ctx (Either other end) ctx none (Either other end) m m3 m4 old w2 w4 ts ts ts b3 a4 (λ l c. inr c) (λ l d. d) (λ l d. absurd d) in
      let b5 = tidied-then ctx (Either other end) (just end) none (Either other end) m m4 m5 old w4 w4 ts ts ts b4 a5 (λ l c. inl (omega (arith, c, one-more m))) (λ l d. d) (λ l d. absurd d) in
      let m6 : Making = bind other m5 in
      let other3 = may-later (just other) none m2 m3 w2 w2 ts ts a3 ts other other2 in
      let other5 = may-later (just end) none m4 m5 w4 w4 ts ts a5 ts other (may-later ctx none m3 m4 w2 w4 ts ts a4 ts other other3) in
      let b6 = bound ctx (Either other end) (just end) m m5 old w4 ts ts other b5 (omega arith) other5.0 other5.1 (λ i d. d) in
      let end6 = may-bind m5 w4 ts other end (λ e. omega (arith, e, one-more m)) (may-later (just end) none m4 m5 w4 w4 ts ts a5 ts end end4) in
      let may5 : (l : ℕ) → ctx l → MayJump m5 w4 ts l =
      λ l c. may-later (just end) none m4 m5 w4 w4 ts ts a5 ts l (may-later ctx none m3 m4 w2 w4 ts ts a4 ts l (may3 l c)) in
      let may6 : (l : ℕ) → ctx l → MayJump m6 w4 ts l = λ l c. may-bind m5 w4 ts other l (λ e. omega (arith, e, (may l c).0)) (may5 l c) in
      let (w7, a7) = y m6 w4 ts b6.many may6 in
      let m7 : Making = Second m6 in
      let b7 = tidied-then ctx (just end) ctx none (just end) m m6 m7 old w4 w7 ts ts ts b6 a7 (λ l c. inr c) (λ l d. d) (λ l d. absurd d) in
      let end7 = may-later ctx none m6 m7 w4 w7 ts ts a7 ts end end6 in
      (w7, bound ctx (just end) none m m7 old w7 ts ts end b7 (omega (arith, one-more m)) end7.0 end7.1 (λ i d. inl d))

  -- ---- traps

  pub tidy-guards : (F : Making → Making) → TidyBy none F → TidyBy ctx (guards F)
  tidy-guards F x m old ts many may =
      let landing : ℕ = length m.labels in
      let end : ℕ = length (fresh m).labels in
      let m1 : Making = fresh m in
      let m2 : Making = fresh m1 in
      let m3 : Making = add (OpenTrap landing) m2 in
      let w1 : List Traps = old ++ ts ∷ [] in
      let w2 : List Traps = w1 ++ ts ∷ [] in
      let a1 = labelled ctx ts m old ts many in
      let a2 = labelled ctx ts m1 w1 ts a1.many in
      let landing1 = may-fresh ts m old many in
      let landing2 = may-later ctx (just end) m1 m2 w1 w2 ts ts a2 ts landing landing1 in
      let end2 = may-fresh ts m1 w1 a1.many in
      let opened : Traps = length m2.steps ∷ ts in
      let a3 = added (just landing) (OpenTrap landing) m2 w2 ts a2.many landing2.1 (ahead-of (OpenTrap landing) m2 w2 ts landing landing2) refl in
      let end3 = may-later (just landing) none m2 m3 w2 w2 ts opened a3 ts end end2 in
      let (w4, a4) = x m3 w2 opened a3.many (λ l c. absurd c) in
      let m4 : Making = F m3 in
      let m5 : Making = add CloseTrap m4 in
      let a5 = added ctx CloseTrap m4 w4 opened a4.many tt tt tt in
      let end4 = may-later none none m3 m4 w2 w4 opened opened a4 ts end end3 in
      let end5 = may-later ctx none m4 m5 w4 w4 opened ts a5 ts end end4 in
      let m6 : Making = add (GoTo end) m5 in
      let a6 = added (just end) (GoTo end) m5 w4 ts a5.many end5.1 (ahead-of (GoTo end) m5 w4 ts end end5) refl in
      let end6 = may-later (just end) none m5 m6 w4 w4 ts ts a6 ts end end5 in
      let b2 = tidied-then ctx (just landing) ctx (just end) (Either landing end) m m1 m2 old w1 w2 ts ts ts a1 a2 (λ l c. inr c) (λ l d. inl d) (λ l d. inr d) in
      let b3 = tidied-then ctx (Either landing end) (just landing) none (Either landing end) m m2 m3 old w2 w2 ts ts opened b2 a3 (λ l c. inl (omega (arith, c))) (λ l d. d) (λ l d. absurd d) in
      let b4 = tidied-then ctx (Either landing end) none none (Either landing end) m m3 m4 old w2 w4 ts opened opened b3 a4 (λ l c. absurd c) (λ l d. d) (λ l d. absurd d) in
      let b5 = tidied-then ctx (Either landing end) ctx none (Either landing end) m m4 m5 old w4 w4 ts opened ts b4 a5 (λ l c. inr c) (λ l d. d) (λ l d. absurd d) in
      let b6 = tidied-then ctx (Either landing end) (just end) none (Either landing end) m m5 m6 old w4 w4 ts ts ts b5 a6 (λ l c. inl (omega (arith, c, one-more m))) (λ l d. d) (λ l d. absurd d) in
      let m7 : Making = bind landing m6 in
      let landing3 = may-later (just landing) none m2 m3 w2 w2 ts opened a3 ts landing landing2 in
      let landing4 = may-later none none m3 m4 w2 w4 opened opened a4 ts landing landing3 in
      let landing6 = may-later (just end) none m5 m6 w4 w4 ts ts a6 ts landing (may-later ctx none m4 m5 w4 w4 opened ts a5 ts landing landing4) in
      let b7 = bound ctx (Either landing end) (just end) m m6 old w4 ts ts landing b6 (omega arith) landing6.0 landing6.1 (λ i d. d) in
      let end7 = may-bind m6 w4 ts landing end (λ e. omega (arith, e, one-more m)) end6 in
      let m8 : Making = add (GoTo end) m7 in
      let a8 = added (just end) (GoTo end) m7 w4 ts b7.many end7.1 (ahead-of (GoTo end) m7 w4 ts end end7) refl in
      let b8 = tidied-then ctx (just end) (just end) none (just end) m m7 m8 old w4 w4 ts ts ts b7 a8 (λ l c. inl (omega (arith, c, one-more m))) (λ l d. d) (λ l d. absurd d) in
      (w4, bound ctx (just end) none m m8 old w4 ts ts end b8 (omega (arith, one-more m)) end7.0 end7.1 (λ i d. inl d))

  -- ---- loops

  pub tidy-loops : (Tries Prepares : Making → Making) (Body : Turns ℕ → Making → Making) → TidyBy none Tries → TidyBy none Prepares → ((x : Turns ℕ) → TidyBy (Either x.head x.exit) (Body x)) → TidyBy ctx (loops Tries Prepares Body)
  tidy-loops Tries Prepares Body tries prepares body m old ts many may =
      let head : ℕ = length m.labels in
      let exit : ℕ = length (fresh m).labels in
      let m1 : Making = fresh m in
      let m2 : Making = fresh m1 in
      let w1 : List Traps = old ++ ts ∷ [] in
      let w2 : List Traps = w1 ++ ts ∷ [] in
      let a1 = labelled ctx ts m old ts many in
      let a2 = labelled ctx ts m1 w1 ts a1.many in
      let head1 = may-fresh ts m old many in
      let head2 = may-later ctx (just exit) m1 m2 w1 w2 ts ts a2 ts head head1 in
      let exit2 = may-fresh ts m1 w1 a1.many in
      let b2 = tidied-then ctx (just head) ctx (just exit) (Either head exit) m m1 m2 old w1 w2 ts ts ts a1 a2 (λ l c. inr c) (λ l d. inl d) (λ l d. inr d) in
      let m3 : Making = bind head m2 in
      let b3 = bound ctx (Either head exit) (just exit) m m2 old w2 ts ts head b2 (omega arith) head2.0 head2.1 (λ i d. d) in
      let exit3 = may-bind m2 w2 ts head exit (λ e. omega (arith, e, one-more m)) exit2 in
      let m4 : Making = add (Do Tick) m3 in
      let a4 = added ctx (Do Tick) m3 w2 ts b3.many tt tt tt in
      let b4 = tidied-then ctx (just exit) ctx none (just exit) m m3 m4 old w2 w2 ts ts ts b3 a4 (λ l c. inr c) (λ l d. d) (λ l d. absurd d) in
      let exit4 = may-later ctx none m3 m4 w2 w2 ts ts a4 ts exit exit3 in
      let head4 : MayJump m4 w2 ts head = at-head m2 w2 ts head head2 in
      let (w5, a5) = tries m4 w2 ts a4.many (λ l c. absurd c) in
      let m5 : Making = Tries m4 in
      let b5 = tidied-then ctx (just exit) none none (just exit) m m4 m5 old w2 w5 ts ts ts b4 a5 (λ l c. absurd c) (λ l d. d) (λ l d. absurd d) in
      let exit5 = may-later none none m4 m5 w2 w5 ts ts a5 ts exit exit4 in
      let head5 = may-later none none m4 m5 w2 w5 ts ts a5 ts head head4 in
      let m6 : Making = add (GoToIfNot exit) m5 in
      let a6 = added (just exit) (GoToIfNot exit) m5 w5 ts a5.many exit5.1 (ahead-of (GoToIfNot exit) m5 w5 ts exit exit5) refl in
      let b6 = tidied-then ctx (just exit) (just exit) none (just exit) m m5 m6 old w5 w5 ts ts ts b5 a6 (λ l c. inl (omega (arith, c, one-more m))) (λ l d. d) (λ l d. absurd d) in
      let exit6 = may-later (just exit) none m5 m6 w5 w5 ts ts a6 ts exit exit5 in
      let head6 = may-later (just exit) none m5 m6 w5 w5 ts ts a6 ts head head5 in
      let (w7, a7) = prepares m6 w5 ts a6.many (λ l c. absurd c) in
      let m7 : Making = Prepares m6 in
      let b7 = tidied-then ctx (just exit) none none (just exit) m m6 m7 old w5 w7 ts ts ts b6 a7 (λ l c. absurd c) (λ l d. d) (λ l d. absurd d) in
      let exit7 = may-later none none m6 m7 w5 w7 ts ts a7 ts exit exit6 in
      let head7 = may-later none none m6 m7 w5 w7 ts ts a7 ts head head6 in
      let x : Turns ℕ = record { head = head; exit = exit } in
      let (w8, a8) = body x m7 w7 ts a7.many (either m7 w7 ts head exit head7 exit7) in
      let m8 : Making = Body x m7 in
      let b8 = tidied-then ctx (just exit) (Either head exit) none (just exit) m m7 m8 old w7 w8 ts ts ts b7 a8 (own m) (λ l d. d) (λ l d. absurd d) in
      let exit8 = may-later (Either head exit) none m7 m8 w7 w8 ts ts a8 ts exit exit7 in
      let head8 = may-later (Either head exit) none m7 m8 w7 w8 ts ts a8 ts head head7 in
      let m9 : Making = add (GoTo head) m8 in
      let a9 = added (just head) (GoTo head) m8 w8 ts a8.many head8.1 (ahead-of (GoTo head) m8 w8 ts head head8) refl in
      let b9 = tidied-then ctx (just exit) (just head) none (just exit) m m8 m9 old w8 w8 ts ts ts b8 a9 (λ l c. inl (omega (arith, c))) (λ l d. d) (λ l d. absurd d) in
      (w8, bound ctx (just exit) none m m9 old w8 ts ts exit b9 (omega (arith, one-more m)) exit8.0 exit8.1 (λ i d. inl d))
    where
      either : (n : Making) (wants : List Traps) (ts : Traps) (a b : ℕ) → MayJump n wants ts a → MayJump n wants ts b → (l : ℕ) → Either a b l → MayJump n wants ts l
      either n wants ts a b x y l (inl e) = subst (MayJump n wants ts) (sym e) x
      either n wants ts a b x y l (inr e) = subst (MayJump n wants ts) (sym e) y

      own : (m : Making) (l : ℕ) → Either (length m.labels) (length (fresh m).labels) l → (length m.labels ≤ l) ⊎ ctx l
      own m l (inl e) = inl (omega (arith, e))
      own m l (inr e) = inl (omega (arith, e, one-more m))
