-- Values by their numbers, no two of them equal: what is found, and what is new.
use Rattle.std.proofs.Common.{◌≡◌, ℕ, zero, suc, List, [], ◌∷◌, ◌++◌, map, Bool, true, false, ◌&&◌, ◌==◌, Some, None, slice_get, length, get_or, refl, sym, ◌∙◌, ap}
use Rattle.std.specs.List.{list_any, position}
use Rattle.std.specs.Bool.{Decides}
use Rattle.std.specs.Cmp.{booleans_Decides}
use Rattle.std.specs.Cmp.Rules.{signed_items}
use Rattle.std.specs.Cmp.Lexicographic.{pointwise_decides, bytes_decides}
use Rattle.std.proofs.lemmas.Bool.{false≢true, eqb-true, eq-eqb}
use Rattle.std.proofs.lemmas.Option.{slice_get-get_or}
use Rattle.std.proofs.lemmas.List.Quantifiers.{position-Some}
use Rattle.indexmap.specs.IndexSet.{insert_key}
use Rattle.type_diagrams.specs.contracts.node.DiagramPartialEq.TheImpl as same_diagram
use Rattle.type_diagrams.specs.contracts.simple.SimpleSetPartialEq.TheImpl as same_set
use Rattle.type_diagrams.specs.declared.node.Diagram.{Diagram}
use Rattle.type_diagrams.specs.declared.simple.SimpleSet.{SimpleSet}
use Rattle.type_diagrams.specs.Sets.{set_of}
use Rattle.type_diagrams.specs.Tables.{HasNoTwins}
use Rattle.type_diagrams.proofs.Interning.{or_false, inserted, no_twins-new}

-- ---- several tests, each of which decides an equation

both : {A B : Type 0} (a b : Bool) → Decides a A → Decides b B → Decides (a && b) (A × B)
both true b p q = (λ e. (p.0 refl, q.0 e), λ h. q.1 h.1)
both false b p q = (λ e. absurd (false≢true e), λ h. absurd (false≢true (p.1 h.0)))

through : {A B : Type 0} (a : Bool) → Decides a A → (A → B) → (B → A) → Decides a B
through a p f g = (λ e. f (p.0 e), λ h. p.1 (g h))

number_decides : (m n : ℕ) → Decides (m == n) (m ≡ n)
number_decides m n = (λ e. eqb-true m n e, λ e. eq-eqb m n e)

pub same_diagram-Decides : (d e : Diagram) → Decides (same_diagram.ghosts.eq d e) (d ≡ e)
same_diagram-Decides d e =
    through (same_diagram.ghosts.eq d e)
    (both (d.simple == e.simple) _ (number_decides d.simple e.simple) (both (d.list == e.list) _ (number_decides d.list e.list) (both (d.mapping == e.mapping) _ (number_decides d.mapping e.mapping)
    (both (d.error == e.error) _ (number_decides d.error e.error) (both (d.function == e.function) (d.future == e.future) (number_decides d.function e.function) (number_decides d.future e.future))))))
    (λ h. λ i. record { simple = h.0 i; list = h.1.0 i; mapping = h.1.1.0 i; error = h.1.1.1.0 i; function = h.1.1.1.1.0 i; future = h.1.1.1.1.1 i })
    (λ h. (ap (λ x. x.simple) h, (ap (λ x. x.list) h, (ap (λ x. x.mapping) h, (ap (λ x. x.error) h, (ap (λ x. x.function) h, ap (λ x. x.future) h))))))

pub same_set-Decides : (s t : SimpleSet) → Decides (same_set.ghosts.eq s t) (set_of s ≡ set_of t)
same_set-Decides s t =
    through (same_set.ghosts.eq s t)
    (both _ _ (booleans_Decides s.nil t.nil) (both _ _ (booleans_Decides s.no t.no) (both _ _ (booleans_Decides s.yes t.yes) (both _ _ (booleans_Decides s.first t.first)
    (both _ _ (signed_items s.flips.items t.flips.items) (both _ _ (booleans_Decides s.rest t.rest) (pointwise_decides bytes_decides s.texts.items t.texts.items)))))))
    (λ h. λ i. record { nil = h.0 i; no = h.1.0 i; yes = h.1.1.0 i; first = h.1.1.1.0 i; flips = h.1.1.1.1.0 i; rest = h.1.1.1.1.1.0 i; texts = h.1.1.1.1.1.1 i })
    (λ h. (ap (λ x. x.nil) h, (ap (λ x. x.no) h, (ap (λ x. x.yes) h, (ap (λ x. x.first) h, (ap (λ x. x.flips) h, (ap (λ x. x.rest) h, ap (λ x. x.texts) h)))))))

-- ---- values as they are seen

module _ {K V : Type 0} (same : K → K → Bool) (view : K → V) (decides : (x y : K) → Decides (same x y) (view x ≡ view y)) where
  pub seen_at : (ks : List K) (i : ℕ) (y : K) → slice_get ks i ≡ Some y → slice_get (map view ks) i ≡ Some (view y)
  seen_at [] i y e = cc
  seen_at (k ∷ ks) zero y e = let s : k ≡ y = cc in ap (λ z. Some (view z)) s
  seen_at (k ∷ ks) (suc i) y e = seen_at ks i y e

  pub numbered-found : (ks : List K) (x : K) (i : ℕ) → position (same x) ks ≡ Some i → slice_get (map view ks) i ≡ Some (view x)
  numbered-found ks x i e =
      let p = position-Some (same x) ks i x e in
      seen_at ks i (get_or ks i x) (slice_get-get_or ks i x p.0) ∙ ap Some (sym ((decides x (get_or ks i x)).0 p.1))

  -- a value that no other is the same as
  apart : (ks : List K) (x : K) → list_any (same x) ks ≡ false → (i : ℕ) (v : V) → slice_get (map view ks) i ≡ Some v → view x ≡ v → ⊥
  apart [] x none i v e s = bad e
    where
      bad : None ≡ Some v → ⊥
      bad p = cc
  apart (k ∷ ks) x none zero v e s =
      let is : view k ≡ v = cc in
      false≢true (sym (or_false (same x k) (list_any (same x) ks) none).0 ∙ (decides x k).1 (s ∙ sym is))
  apart (k ∷ ks) x none (suc i) v e s = apart ks x (or_false (same x k) (list_any (same x) ks) none).1 i v e s

  map_push : (ks : List K) (x : K) → map view (ks ++ x ∷ []) ≡ map view ks ++ view x ∷ []
  map_push [] x = refl
  map_push (k ∷ ks) x = ap (λ l. view k ∷ l) (map_push ks x)

  pub numbered-pushed : (ks : List K) (x : K) → list_any (same x) ks ≡ false → map view (insert_key same ks x) ≡ map view ks ++ view x ∷ []
  numbered-pushed ks x none = ap (map view) (inserted same ks x none) ∙ map_push ks x

  pub numbered-no_twins : (ks : List K) (x : K) → list_any (same x) ks ≡ false → HasNoTwins (map view ks) → HasNoTwins (map view ks ++ view x ∷ [])
  numbered-no_twins ks x none h = no_twins-new (map view ks) (view x) h (apart ks x none)

  pub length-seen : (ks : List K) → length (map view ks) ≡ length ks
  length-seen [] = refl
  length-seen (k ∷ ks) = ap (λ n. suc n) (length-seen ks)
