-- The steps in which the cells of a product are found.
use Rattle.std.proofs.Common.{◌≡◌, ◌⊎◌, ⊎_elim, inl, inr, ◌||◌, ◌&&◌, not, ℕ, ◌≤◌, List, [], ◌∷◌, ◌++◌, map, length, get_or, All, Contains, Option, refl, sym, ap, subst, ◌∙◌, arith}
use Rattle.std.proofs.lemmas.List.{map-append}
use Rattle.std.proofs.lemmas.List.Elements.{All-nil, All-cons, All-head, All-map, All-tail, All-push, All-weaker, Contains-append_cases, Contains-append_left, Contains-append_right, Contains-push_cases}
use Rattle.bal_base.specs.declared.shape.Shape.{Shape}
use Rattle.type_model.specs.declared.atoms.AtomDef.{AtomDef}
use Rattle.type_diagrams.specs.declared.projection.Projection.{Projection}
use Rattle.type_diagrams.specs.declared.projection.Projection.TheVariants.{Parts, Ask}
use Rattle.type_diagrams.specs.Conditions.{Condition, AreOne, IsNothing, LooksAtKinds, Meets, nothing, or_of, without}
use Rattle.type_diagrams.specs.Tables.{Table, IsDiagram, condition}
use Rattle.type_diagrams.specs.Turns.{IsSound}
use Rattle.type_diagrams.specs.Whole.{Gives, Keeps}
use Rattle.type_diagrams.proofs.Asking.{Meets-decided, one_back}
use Rattle.type_diagrams.proofs.Elements.{All-parts, All-unmap, All-where, map-where}
use Rattle.type_diagrams.proofs.Keeping.{length-grows}
use Rattle.type_diagrams.proofs.Meeting.{Meets-nothing, Meets-or, Meets-same, Meets-without}
use Rattle.type_diagrams.proofs.Reaching.{one-Looks}
use Rattle.empty_product.specs.declared.avoid.Filling.TheVariants.{Empty, Ask as AskFilling}
use Rattle.empty_product.specs.declared.cells.Aimed.{Aimed}
use Rattle.empty_product.specs.declared.avoid.Filling.{Filling}
use Rattle.empty_product.specs.declared.slots.Demand.{Demand}
use Rattle.empty_product.specs.declared.slots.Slot.{Slot}
use Rattle.empty_product.specs.declared.slots.Unwanted.{Unwanted}
use Rattle.empty_product.specs.Cells.{Aim, AreCells, Completes, IsAimed, TellsCells, aim_of, aims_of, asked_elsewhere, demands_in}
use Rattle.empty_product.specs.Products.{AreSlots, AreUnwanted, AsksPart, Avoids, HasHeldPart, IsIn, TellsFilling, all_askings, askings_of, places_of}
use Rattle.empty_product.specs.Slots.{Asking, IsDemand, Place, asking_of}
use Rattle.empty_product.proofs.AvoidedFirst.{first-rest, rest_of}
use Rattle.empty_product.proofs.GrownPlaces.{all_askings-keep, askings-keep, demands-keep, part-keeps, places-keep}

-- a question that is asked of fewer atoms is asked of more
more-AsksPart : (places : List Place) (some more : List (List Asking)) (d : Condition) → ((a : List Asking) → Contains some a → Contains more a) → AsksPart places some d → AsksPart places more d
more-AsksPart places some more d among h = record {
  place = h.place;
  at = h.at;
  base = h.base;
  is_at = h.is_at;
  has = h.has;
  left = h.left;
  among = λ k e lt. let f = h.among k e lt in let c = among f.1 (f.0, f.2, f.3) in (c.0, f.1, c.1, c.2, f.4);
  asked = h.asked;
}

module _ (env : List AtomDef) (places : List Place) (table : Table) (kept : List (ℕ × Option Shape)) (part found : Condition) where
  -- all that may stand at the target was found
  pub within-AreCells : (undecided : List Aim) (decided : List (List Asking)) (q : ℕ) → Gives table found q → IsNothing (without part found) → AreCells env places table kept undecided decided part found q
  within-AreCells undecided decided q gives none = record {
    diagram = gives.diagram;
    found_too = λ y is. (Meets-same env (condition table q) found y is.0 gives.condition).1 is.1;
    from = λ y is. inl ((Meets-same env (condition table q) found y is.0 gives.condition).0 is.1);
    to = λ y parts h. inl (⊎_elim
        (λ (m : Meets env found y). (Meets-same env (condition table q) found y h.inside.0 gives.condition).1 m)
        (λ (n : ¬ Meets env found y). absurd (Meets-nothing env y ((Meets-same env (without part found) nothing y h.inside.0 none).0 ((Meets-without env part found y).1 (h.inside.1, n)))))
        (Meets-decided env found y));
  }

  -- no filling avoids the decided atoms
  pub empty-AreCells : (undecided : List Aim) (decided : List (List Asking)) (q : ℕ) → Gives table found q → TellsFilling env table kept places decided Empty → AreCells env places table kept undecided decided part found q
  empty-AreCells undecided decided q gives none = record {
    diagram = gives.diagram;
    found_too = λ y is. (Meets-same env (condition table q) found y is.0 gives.condition).1 is.1;
    from = λ y is. inl ((Meets-same env (condition table q) found y is.0 gives.condition).0 is.1);
    to = λ y parts h. inr (none parts h.fills h.avoided);
  }

  -- all atoms are decided, and a filling avoids them
  pub last-AreCells : (decided : List (List Asking)) (q : ℕ) (parts : List (Option Shape)) → Gives table (or_of found part) q → IsIn env places parts → All (λ a. Avoids env a parts) decided → AreCells env places table kept [] decided part found q
  last-AreCells decided q parts gives fills avoided = record {
    diagram = gives.diagram;
    found_too = λ y is. (Meets-same env (condition table q) (or_of found part) y is.0 gives.condition).1 ((Meets-or env found part y).1 (inl is.1));
    from = λ y is. ⊎_elim
        (λ (m : Meets env found y). inl m)
        (λ (m : Meets env part y). inr (parts, record { inside = (is.0, m); fills = fills; avoided = avoided; each = All-nil (λ a. Avoids env a.elsewhere parts ⊎ (¬ Meets env a.there y)) }))
        ((Meets-or env found part y).0 ((Meets-same env (condition table q) (or_of found part) y is.0 gives.condition).0 is.1));
    to = λ y others h. inl ((Meets-same env (condition table q) (or_of found part) y h.inside.0 gives.condition).1 ((Meets-or env found part y).1 (inr h.inside.1)));
  }

module _ (env : List AtomDef) (places : List Place) (old new : Table) (kept : List (ℕ × Option Shape)) (keeps : Keeps old new) (sound : All (IsSound env old) kept) (first : Aim) (rest : List Aim) (decided : List (List Asking)) (part found : Condition) where
  abbrev Either : List (Option Shape) → Shape → Aim → Type 0
  Either parts y a = Avoids env a.elsewhere parts ⊎ (¬ Meets env a.there y)

  -- one more atom: avoided elsewhere, and then by what stands at the target
  pub both-AreCells : (p q : ℕ) → AreCells env places old kept rest (decided ++ first.elsewhere ∷ []) part found p → AreCells env places new kept rest decided (without part first.there) (condition old p) q → AreCells env places new kept (first ∷ rest) decided part found q
  both-AreCells p q elsewhere there = record {
    diagram = there.diagram;
    found_too = λ y is. there.found_too y (is.0, elsewhere.found_too y is);
    from = λ y is. ⊎_elim
        (λ (m : Meets env (condition old p) y). ⊎_elim
        (λ (n : Meets env found y). inl n)
        (λ (c : (parts : List (Option Shape)) × Completes env places rest (decided ++ first.elsewhere ∷ []) part y parts). inr (c.0, avoided-Completes y c.0 c.1))
        (elsewhere.from y (is.0, m)))
        (λ (c : (parts : List (Option Shape)) × Completes env places rest decided (without part first.there) y parts). inr (c.0, outside-Completes y c.0 c.1))
        (there.from y is);
    to = λ y parts h. ⊎_elim
        (λ (a : Avoids env first.elsewhere parts). ⊎_elim
        (λ (m : Meets env (condition old p) y). inl (there.found_too y (h.inside.0, m)))
        (λ (held : HasHeldPart env old kept parts). inr (part-keeps old new keeps env kept sound parts held))
        (elsewhere.to y parts (record {
          inside = h.inside;
          fills = h.fills;
          avoided = All-push (λ b. Avoids env b parts) decided first.elsewhere h.avoided a;
          each = All-tail (Either parts y) first rest h.each;
        })))
        (λ (n : ¬ Meets env first.there y). there.to y parts (record {
          inside = (h.inside.0, (Meets-without env part first.there y).1 (h.inside.1, n));
          fills = h.fills;
          avoided = h.avoided;
          each = All-tail (Either parts y) first rest h.each;
        }))
        (All-head (Either parts y) first rest h.each);
  }
    where
      avoided-Completes : (y : Shape) (parts : List (Option Shape)) → Completes env places rest (decided ++ first.elsewhere ∷ []) part y parts → Completes env places (first ∷ rest) decided part y parts
      avoided-Completes y parts c =
          let all = All-parts (λ b. Avoids env b parts) decided (first.elsewhere ∷ []) c.avoided in record {
            inside = c.inside;
            fills = c.fills;
            avoided = all.0;
            each = All-cons (Either parts y) first rest (inl (All-head (λ b. Avoids env b parts) first.elsewhere [] all.1)) c.each;
          }

      outside-Completes : (y : Shape) (parts : List (Option Shape)) → Completes env places rest decided (without part first.there) y parts → Completes env places (first ∷ rest) decided part y parts
      outside-Completes y parts c =
          let m = (Meets-without env part first.there y).0 c.inside.1 in record {
            inside = (c.inside.0, m.0);
            fills = c.fills;
            avoided = c.avoided;
            each = All-cons (Either parts y) first rest (inr m.1) c.each;
          }

-- ---- questions

module _ (env : List AtomDef) (places : List Place) (table : Table) (kept : List (ℕ × Option Shape)) (part found : Condition) where
  -- a question of the decided atoms alone
  pub asked-TellsCells : (undecided : List Aim) (decided : List (List Asking)) (q : ℕ) → TellsFilling env table kept places decided (AskFilling q) → TellsCells env places table kept undecided decided part found (Ask q)
  asked-TellsCells undecided decided q h = (h.0, h.1, h.2, more-AsksPart places decided (asked_elsewhere undecided decided) (condition table q) (λ a c. Contains-append_right (map (λ b. b.elsewhere) undecided) decided a c) h.3)

  -- a question where an atom is avoided elsewhere, or by what stands at the target
  pub elsewhere-TellsCells : (first : Aim) (rest : List Aim) (decided : List (List Asking)) (q : ℕ) → TellsCells env places table kept rest (decided ++ first.elsewhere ∷ []) part found (Ask q) → TellsCells env places table kept (first ∷ rest) decided part found (Ask q)
  elsewhere-TellsCells first rest decided q h = (h.0, h.1, h.2, more-AsksPart places (asked_elsewhere rest (decided ++ first.elsewhere ∷ [])) (asked_elsewhere (first ∷ rest) decided) (condition table q) among h.3)
    where
      later : (a : List Asking) → Contains (asked_elsewhere rest decided) a → Contains (first.elsewhere ∷ asked_elsewhere rest decided) a
      later a c = Contains-append_right (first.elsewhere ∷ []) (asked_elsewhere rest decided) a c

      among : (a : List Asking) → Contains (asked_elsewhere rest (decided ++ first.elsewhere ∷ [])) a → Contains (asked_elsewhere (first ∷ rest) decided) a
      among a c = ⊎_elim
          (λ (l : Contains (map (λ b. b.elsewhere) rest) a). later a (Contains-append_left (map (λ b. b.elsewhere) rest) decided a l))
          (λ (r : Contains (decided ++ first.elsewhere ∷ []) a). ⊎_elim
          (λ (d : Contains decided a). later a (Contains-append_right (map (λ b. b.elsewhere) rest) decided a d))
          (λ (e : first.elsewhere ≡ a). (0, omega arith, e))
          (Contains-push_cases decided first.elsewhere a r))
          (Contains-append_cases (map (λ b. b.elsewhere) rest) (decided ++ first.elsewhere ∷ []) a c)

  pub there-TellsCells : (first : Aim) (rest : List Aim) (decided : List (List Asking)) (inner other : Condition) (q : ℕ) → TellsCells env places table kept rest decided inner other (Ask q) → TellsCells env places table kept (first ∷ rest) decided part found (Ask q)
  there-TellsCells first rest decided inner other q h =
      (h.0, h.1, h.2, more-AsksPart places (asked_elsewhere rest decided) (asked_elsewhere (first ∷ rest) decided) (condition table q) (λ a c. Contains-append_right (first.elsewhere ∷ []) (asked_elsewhere rest decided) a c) h.3)

-- ---- from numbers to conditions

-- the same in other words
pub told-TellsCells : (env : List AtomDef) (places places' : List Place) (table : Table) (kept : List (ℕ × Option Shape)) (undecided undecided' : List Aim) (decided decided' : List (List Asking)) (part part' found found' : Condition) (p : Projection)
    → places ≡ places' → undecided ≡ undecided' → decided ≡ decided' → part ≡ part' → found ≡ found' → TellsCells env places table kept undecided decided part found p → TellsCells env places' table kept undecided' decided' part' found' p
told-TellsCells env places places' table kept undecided undecided' decided decided' part part' found found' p a b c d e h =
    subst (λ x. TellsCells env x table kept undecided' decided' part' found' p) a
    (subst (λ x. TellsCells env places table kept x decided' part' found' p) b
    (subst (λ x. TellsCells env places table kept undecided x part' found' p) c
    (subst (λ x. TellsCells env places table kept undecided decided x found' p) d
    (subst (λ x. TellsCells env places table kept undecided decided part x p) e h))))

module _ (old new : Table) (keeps : Keeps old new) (places : ℕ) where
  pub aimed-keep : (aimed : List Aimed) → All (IsAimed old places) aimed → All (IsAimed new places) aimed
  aimed-keep = All-weaker (IsAimed old places) (IsAimed new places) (λ a is. record { there = length-grows old.diagrams new.diagrams a.there keeps.diagrams is.there; elsewhere = demands-keep old new keeps a.elsewhere.demands.items is.elsewhere; count = is.count })

  pub aims-keep : (aimed : List Aimed) → All (IsAimed old places) aimed → aims_of new aimed ≡ aims_of old aimed
  aims-keep = map-where (IsAimed old places) (aim_of new) (aim_of old) (λ a is i. record { there = keeps.conditions a.there is.there i; elsewhere = askings-keep old new keeps a.elsewhere.demands.items is.elsewhere i })

module _ (table : Table) where
  asking-rows : (us : List Unwanted) → all_askings table us ≡ map (map (asking_of table)) (demands_in us)
  asking-rows [] = refl
  asking-rows (u ∷ us) = ap (λ rows. askings_of table u ∷ rows) (asking-rows us)

  -- the atoms and one more
  pub one_more-askings : (us more : List Unwanted) (one : List Demand) → demands_in more ≡ demands_in us ++ one ∷ [] → all_askings table more ≡ all_askings table us ++ map (asking_of table) one ∷ []
  one_more-askings us more one is =
      asking-rows more ∙ ap (map (map (asking_of table))) is ∙ map-append (map (asking_of table)) (demands_in us) (one ∷ []) ∙ ap (λ rows. rows ++ map (asking_of table) one ∷ []) (sym (asking-rows us))

  pub one_more-AreUnwanted : (places : ℕ) (us more : List Unwanted) (one : List Demand) → demands_in more ≡ demands_in us ++ one ∷ [] → AreUnwanted table places us → All (IsDemand table) one → length one ≡ places → AreUnwanted table places more
  one_more-AreUnwanted places us more one is are demands count =
      let Is : List Demand → Type 0 = λ ds. All (IsDemand table) ds × (length ds ≡ places) in
      All-unmap Is (λ u. u.demands.items) more (subst (All Is) (sym is) (All-push Is (demands_in us) one (All-map Is (λ u. u.demands.items) us are) (demands, count)))

-- ---- in the words of the table with which a call begins

module _ (env : List AtomDef) (old mid fin : Table) (kept : List (ℕ × Option Shape)) (keeps : Keeps old mid) (slots : List Slot) (is : AreSlots old slots) where
  pub told-TellsFilling : (us : List Unwanted) (filling : Filling) → AreUnwanted old (length slots) us → TellsFilling env fin kept (places_of mid slots) (all_askings mid us) filling → TellsFilling env fin kept (places_of old slots) (all_askings old us) filling
  told-TellsFilling us filling are h =
      subst (λ ps. TellsFilling env fin kept ps (all_askings old us) filling) (places-keep old mid keeps slots is)
      (subst (λ bs. TellsFilling env fin kept (places_of mid slots) bs filling) (all_askings-keep old mid keeps (length slots) us are) h)

-- the first atom and the rest
pub first-aims : (table : Table) (us : List Aimed) (f : Aimed) → 1 ≤ length us → f ≡ get_or us 0 f → aims_of table us ≡ aim_of table f ∷ aims_of table (rest_of us)
first-aims table us f some at = ap (aims_of table) (first-rest us f some) ∙ ap (λ g. aim_of table g ∷ aims_of table (rest_of us)) (sym at)

pub first-All : (P : Aimed → Type 0) (us : List Aimed) (f : Aimed) → 1 ≤ length us → f ≡ get_or us 0 f → All P us → P f × All P (rest_of us)
first-All P us f some at h =
    let both = subst (All P) (first-rest us f some) h in
    (subst P (sym at) (All-head P (get_or us 0 f) (rest_of us) both), All-tail P (get_or us 0 f) (rest_of us) both)

-- the same of another condition that counts as one
one-Completes : (env : List AtomDef) (places : List Place) (undecided : List Aim) (decided : List (List Asking)) (c d : Condition) (y : Shape) (parts : List (Option Shape)) → AreOne c d → Completes env places undecided decided c y parts → Completes env places undecided decided d y parts
one-Completes env places undecided decided c d y parts one h = record {
  inside = (h.inside.0, (Meets-same env c d y h.inside.0 one).0 h.inside.1);
  fills = h.fills;
  avoided = h.avoided;
  each = h.each;
}

pub one-TellsCells : (env : List AtomDef) (places : List Place) (table : Table) (kept : List (ℕ × Option Shape)) (undecided : List Aim) (decided : List (List Asking)) (c d found : Condition) (p : Projection) → AreOne c d → TellsCells env places table kept undecided decided c found p → TellsCells env places table kept undecided decided d found p
one-TellsCells env places table kept undecided decided c d found (Parts q) one h = record {
  diagram = h.diagram;
  found_too = h.found_too;
  from = λ y is. ⊎_elim
      (λ (m : Meets env found y). inl m)
      (λ (f : (parts : List (Option Shape)) × Completes env places undecided decided c y parts). inr (f.0, one-Completes env places undecided decided c d y f.0 one f.1))
      (h.from y is);
  to = λ y parts f. h.to y parts (one-Completes env places undecided decided d c y parts (one_back c d one) f);
}
one-TellsCells env places table kept undecided decided c d found (Ask q) one h = h

-- one more atom, whatever is told where what stands at the target avoids it
pub both-TellsCells : (env : List AtomDef) (places : List Place) (old new : Table) (kept : List (ℕ × Option Shape)) → Keeps old new → All (IsSound env old) kept → (first : Aim) (rest : List Aim) (decided : List (List Asking)) (part found : Condition) (p : ℕ)
    → AreCells env places old kept rest (decided ++ first.elsewhere ∷ []) part found p → (r : Projection) → TellsCells env places new kept rest decided (without part first.there) (condition old p) r → TellsCells env places new kept (first ∷ rest) decided part found r
both-TellsCells env places old new kept keeps sound first rest decided part found p elsewhere (Parts q) h = both-AreCells env places old new kept keeps sound first rest decided part found p q elsewhere h
both-TellsCells env places old new kept keeps sound first rest decided part found p elsewhere (Ask q) h = there-TellsCells env places new kept part found first rest decided (without part first.there) (condition old p) q h

module _ (env : List AtomDef) (old mid fin : Table) (kept : List (ℕ × Option Shape)) (keeps : Keeps old mid) (slots : List Slot) (is : AreSlots old slots) (us : List Aimed) (f : Aimed) (some : 1 ≤ length us) (at : f ≡ get_or us 0 f) (aimed : All (IsAimed old (length slots)) us) (decided : List Unwanted) (are : AreUnwanted old (length slots) decided) where
  abbrev rest_aimed : IsAimed old (length slots) f × All (IsAimed old (length slots)) (rest_of us)
  rest_aimed = first-All (IsAimed old (length slots)) us f some at aimed

  -- what is told where the first atom is avoided elsewhere
  pub told-elsewhere : (more items : List Unwanted) → items ≡ more → demands_in more ≡ demands_in decided ++ f.elsewhere.demands.items ∷ [] → (part found : ℕ) → IsDiagram old part → IsDiagram old found → (p : Projection)
      → TellsCells env (places_of mid slots) fin kept (aims_of mid (rest_of us)) (all_askings mid items) (condition mid part) (condition mid found) p
      → TellsCells env (places_of old slots) fin kept (aims_of old (rest_of us)) (all_askings old decided ++ askings_of old f.elsewhere ∷ []) (condition old part) (condition old found) p
  told-elsewhere more items same added part found part_is found_is p h =
      told-TellsCells env (places_of mid slots) (places_of old slots) fin kept (aims_of mid (rest_of us)) (aims_of old (rest_of us)) (all_askings mid items) (all_askings old decided ++ askings_of old f.elsewhere ∷ []) (condition mid part) (condition old part) (condition mid found) (condition old found) p
      (places-keep old mid keeps slots is)
      (aims-keep old mid keeps (length slots) (rest_of us) rest_aimed.1)
      (ap (all_askings mid) same ∙ one_more-askings mid decided more f.elsewhere.demands.items added
      ∙ (λ i. all_askings-keep old mid keeps (length slots) decided are i ++ askings-keep old mid keeps f.elsewhere.demands.items rest_aimed.0.elsewhere i ∷ []))
      (keeps.conditions part part_is)
      (keeps.conditions found found_is)
      h

  -- and where what stands at the target avoids it
  pub told-there : (part : Condition) (outside : ℕ) (found found' : Condition) → AreOne (condition mid outside) part → found ≡ found' → (p : Projection)
      → TellsCells env (places_of mid slots) fin kept (aims_of mid (rest_of us)) (all_askings mid decided) (condition mid outside) found p
      → TellsCells env (places_of old slots) fin kept (aims_of old (rest_of us)) (all_askings old decided) part found' p
  told-there part outside found found' one same p h =
      told-TellsCells env (places_of mid slots) (places_of old slots) fin kept (aims_of mid (rest_of us)) (aims_of old (rest_of us)) (all_askings mid decided) (all_askings old decided) part part found found' p
      (places-keep old mid keeps slots is)
      (aims-keep old mid keeps (length slots) (rest_of us) rest_aimed.1)
      (all_askings-keep old mid keeps (length slots) decided are)
      refl
      same
      (one-TellsCells env (places_of mid slots) fin kept (aims_of mid (rest_of us)) (all_askings mid decided) (condition mid outside) part found p one h)

-- ---- at what the questions look

module _ (env : List AtomDef) (table : Table) (c d : Condition) (q : ℕ) where
  pub or-Looks : Gives table (or_of c d) q → LooksAtKinds env c → LooksAtKinds env d → LooksAtKinds env (condition table q)
  or-Looks gives f g = one-Looks env (or_of c d) (condition table q) gives.condition (λ k v w agree i. f k v w agree i || g k v w agree i)

  pub without-Looks : Gives table (without c d) q → LooksAtKinds env c → LooksAtKinds env d → LooksAtKinds env (condition table q)
  without-Looks gives f g = one-Looks env (without c d) (condition table q) gives.condition (λ k v w agree i. f k v w agree i && not (g k v w agree i))

pub looks-keep : (env : List AtomDef) (old new : Table) (q : ℕ) → Keeps old new → IsDiagram old q → LooksAtKinds env (condition old q) → LooksAtKinds env (condition new q)
looks-keep env old new q keeps is = subst (LooksAtKinds env) (sym (keeps.conditions q is))

pub rest-Looks : (env : List AtomDef) (old new : Table) (places : ℕ) (us : List Aimed) (f : Aimed) → 1 ≤ length us → f ≡ get_or us 0 f → Keeps old new → All (IsAimed old places) us → All (λ a. LooksAtKinds env (condition old a.there)) us → All (λ a. LooksAtKinds env (condition new a.there)) (rest_of us)
rest-Looks env old new places us f some at keeps aimed looks =
    (first-All (λ a. LooksAtKinds env (condition new a.there)) us f some at
    (All-where (IsAimed old places) (λ a. LooksAtKinds env (condition old a.there)) (λ a. LooksAtKinds env (condition new a.there)) (λ a is l. looks-keep env old new a.there keeps is.there l) us aimed looks)).1
