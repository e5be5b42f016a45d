-- How questions are put together, and which shapes they ask for.
use Rattle.std.proofs.Common.{◌≡◌, ◌↔◌, ◌⊎◌, inl, inr, ℕ, List, [], ◌∷◌, ◌++◌, ◌&&◌, not, Bool, true, false, refl, sym, ap, ◌∙◌}
use Rattle.std.specs.List.{list_all}
use Rattle.std.proofs.lemmas.Bool.{false≢true}
use Rattle.std.proofs.lemmas.List.Folds.{list_all-append}
use Rattle.bal_base.specs.declared.shape.Shape.{Shape}
use Rattle.type_model.specs.declared.atoms.AtomDef.{AtomDef}
use Rattle.type_diagrams.specs.declared.kind.Kind.{Kind}
use Rattle.type_diagrams.specs.Conditions.{Condition, AreOne, Meets, everything, and_of, without, asks}
use Rattle.type_diagrams.proofs.Meeting.{Meets-meets, meets}
use Rattle.type_diagrams.proofs.Shapes.{one-further}

-- ---- what is asked at one shape or assignment

module _ (p : Condition → Bool) where
  abbrev all_asked : List Condition → List Condition → Bool
  all_asked cs ds = list_all p cs && list_all (λ d. not (p d)) ds

  and_last : (a b : Bool) → ((a && true) && b) ≡ ((a && (b && true)) && true)
  and_last true true = refl
  and_last true false = refl
  and_last false b = refl

  wanted_last : (cs : List Condition) (d : Condition) → (all_asked cs [] && p d) ≡ all_asked (cs ++ d ∷ []) []
  wanted_last cs d = and_last (list_all p cs) (p d) ∙ ap (λ b. b && true) (sym (list_all-append p cs (d ∷ [])))

  and_more : (a b c : Bool) → ((a && b) && c) ≡ (a && (b && (c && true)))
  and_more true true true = refl
  and_more true true false = refl
  and_more true false c = refl
  and_more false b c = refl

  unwanted_last : (cs ds : List Condition) (d : Condition) → (all_asked cs ds && not (p d)) ≡ all_asked cs (ds ++ d ∷ [])
  unwanted_last cs ds d =
      and_more (list_all p cs) (list_all (λ e. not (p e)) ds) (not (p d)) ∙ ap (λ b. list_all p cs && b) (sym (list_all-append (λ e. not (p e)) ds (d ∷ [])))

-- ---- questions

-- where an equation holds of each test, the conditions count as one
pub one_by : (c d : Condition) → ((x : Shape) → c.simple x ≡ d.simple x) → ((k : Kind) (v : ℕ → Bool) → c.by_kind k v ≡ d.by_kind k v) → AreOne c d
one_by c d f g = record { simple = λ x s v. f x; by_kind = g }

pub one_itself : (c : Condition) → AreOne c c
one_itself c = one_by c c (λ x. refl) (λ k v. refl)

pub one_back : (c d : Condition) → AreOne c d → AreOne d c
one_back c d e = record { simple = λ x s v. sym (e.simple x s v); by_kind = λ k v. sym (e.by_kind k v) }

pub asks_nothing : AreOne everything (asks [] [])
asks_nothing = one_by everything (asks [] []) (λ x. refl) (λ k v. refl)

and_along : (c d e : Condition) → AreOne c d → AreOne (and_of c e) (and_of d e)
and_along c d e p = record { simple = λ x s v. ap (λ b. b && e.simple x) (p.simple x s v); by_kind = λ k v. ap (λ b. b && e.by_kind k v) (p.by_kind k v) }

without_along : (c d e : Condition) → AreOne c d → AreOne (without c e) (without d e)
without_along c d e p =
    record { simple = λ x s v. ap (λ b. b && not (e.simple x)) (p.simple x s v); by_kind = λ k v. ap (λ b. b && not (e.by_kind k v)) (p.by_kind k v) }

-- one more is wanted, and one more unwanted
pub asks_one_more : (q : Condition) (cs : List Condition) (d : Condition) → AreOne q (asks cs []) → AreOne (and_of q d) (asks (cs ++ d ∷ []) [])
asks_one_more q cs d e =
    one-further (and_of q d) (and_of (asks cs []) d) (asks (cs ++ d ∷ []) []) (and_along q (asks cs []) d e)
    (one_by (and_of (asks cs []) d) (asks (cs ++ d ∷ []) []) (λ x. wanted_last (λ c. c.simple x) cs d) (λ k v. wanted_last (λ c. c.by_kind k v) cs d))

pub asks_one_less : (q : Condition) (cs ds : List Condition) (d : Condition) → AreOne q (asks cs ds) → AreOne (without q d) (asks cs (ds ++ d ∷ []))
asks_one_less q cs ds d e =
    one-further (without q d) (without (asks cs ds) d) (asks cs (ds ++ d ∷ [])) (without_along q (asks cs ds) d e)
    (one_by (without (asks cs ds) d) (asks cs (ds ++ d ∷ [])) (λ x. unwanted_last (λ c. c.simple x) cs ds d) (λ k v. unwanted_last (λ c. c.by_kind k v) cs ds d))

-- a question that begins with another question
pub asks_begun : (q : Condition) (cs ds : List Condition) → AreOne q (asks cs []) → AreOne (asks (q ∷ []) ds) (asks cs ds)
asks_begun q cs ds e = record {
  simple = λ x s v. begun (q.simple x) (list_all (λ c. c.simple x) cs) (list_all (λ d. not (d.simple x)) ds) (e.simple x s v);
  by_kind = λ k v. begun (q.by_kind k v) (list_all (λ c. c.by_kind k v) cs) (list_all (λ d. not (d.by_kind k v)) ds) (e.by_kind k v);
}
  where
    begun : (a b c : Bool) → a ≡ (b && true) → ((a && true) && c) ≡ (b && c)
    begun true true c h = refl
    begun true false c h = ap (λ z. z && c) h
    begun false true c h = ap (λ z. z && c) h
    begun false false c h = refl

-- a question for one condition
pub asks_itself : (q : Condition) → AreOne q (asks (q ∷ []) [])
asks_itself q = one_by q (asks (q ∷ []) []) (λ x. sym (alone (q.simple x))) (λ k v. sym (alone (q.by_kind k v)))
  where
    alone : (a : Bool) → ((a && true) && true) ≡ a
    alone true = refl
    alone false = refl

-- a question without something, and one for something more, asked by the whole
pub asks_first_unwanted : (q args d : Condition) (ds : List Condition) → AreOne q (without args d) → AreOne (asks (q ∷ []) ds) (asks (args ∷ []) (d ∷ ds))
asks_first_unwanted q args d ds e = record {
  simple = λ x s v. by (q.simple x) (args.simple x) (d.simple x) (list_all (λ f. not (f.simple x)) ds) (e.simple x s v);
  by_kind = λ k v. by (q.by_kind k v) (args.by_kind k v) (d.by_kind k v) (list_all (λ f. not (f.by_kind k v)) ds) (e.by_kind k v);
}
  where
    same : (a b c : Bool) → (((a && not b) && true) && c) ≡ ((a && true) && (not b && c))
    same true true c = refl
    same true false c = refl
    same false b c = refl

    by : (z a b c : Bool) → z ≡ (a && not b) → ((z && true) && c) ≡ ((a && true) && (not b && c))
    by z a b c h = ap (λ y. (y && true) && c) h ∙ same a b c

pub asks_first_wanted : (q results d : Condition) (ds : List Condition) → AreOne q (and_of results d) → AreOne (asks (q ∷ ds) []) (asks (results ∷ d ∷ ds) [])
asks_first_wanted q results d ds e = record {
  simple = λ x s v. by (q.simple x) (results.simple x) (d.simple x) (list_all (λ f. f.simple x) ds) (e.simple x s v);
  by_kind = λ k v. by (q.by_kind k v) (results.by_kind k v) (d.by_kind k v) (list_all (λ f. f.by_kind k v) ds) (e.by_kind k v);
}
  where
    same : (a b c : Bool) → (((a && b) && c) && true) ≡ ((a && (b && c)) && true)
    same true b c = refl
    same false b c = refl

    by : (z a b c : Bool) → z ≡ (a && b) → ((z && c) && true) ≡ ((a && (b && c)) && true)
    by z a b c h = ap (λ y. (y && c) && true) h ∙ same a b c

pub asks_along : (q r : Condition) (ds : List Condition) → AreOne q r → AreOne (asks (q ∷ []) ds) (asks (r ∷ []) ds)
asks_along q r ds e = record {
  simple = λ x s v. ap (λ y. (y && true) && list_all (λ f. not (f.simple x)) ds) (e.simple x s v);
  by_kind = λ k v. ap (λ y. (y && true) && list_all (λ f. not (f.by_kind k v)) ds) (e.by_kind k v);
}

pub asks_wanted_along : (q r : Condition) (cs : List Condition) → AreOne q r → AreOne (asks (q ∷ cs) []) (asks (r ∷ cs) [])
asks_wanted_along q r cs e = record {
  simple = λ x s v. ap (λ y. (y && list_all (λ f. f.simple x) cs) && true) (e.simple x s v);
  by_kind = λ k v. ap (λ y. (y && list_all (λ f. f.by_kind k v) cs) && true) (e.by_kind k v);
}

-- one more is wanted, before the others
pub asks_more_first : (q c d e : Condition) → AreOne q (asks (c ∷ []) (e ∷ [])) → AreOne (and_of q d) (asks (d ∷ c ∷ []) (e ∷ []))
asks_more_first q c d e h = record {
  simple = λ x s v. by (q.simple x) (c.simple x) (d.simple x) (e.simple x) (h.simple x s v);
  by_kind = λ k v. by (q.by_kind k v) (c.by_kind k v) (d.by_kind k v) (e.by_kind k v) (h.by_kind k v);
}
  where
    same : (a b n : Bool) → (((a && true) && (n && true)) && b) ≡ ((b && (a && true)) && (n && true))
    same true true true = refl
    same true true false = refl
    same true false true = refl
    same true false false = refl
    same false true n = refl
    same false false n = refl

    by : (z a b c : Bool) → z ≡ ((a && true) && (not c && true)) → (z && b) ≡ ((b && (a && true)) && (not c && true))
    by z a b c h = ap (λ y. y && b) h ∙ same a b (not c)

-- whether a shape meets a condition
pub Meets-decided : (env : List AtomDef) (c : Condition) (x : Shape) → Meets env c x ⊎ (¬ Meets env c x)
Meets-decided env c x = by (meets env c x) (Meets-meets env c x)
  where
    by : (b : Bool) → Meets env c x ↔ (b ≡ true) → Meets env c x ⊎ (¬ Meets env c x)
    by true e = inl (e.1 refl)
    by false e = inr (λ m. false≢true (e.0 m))
