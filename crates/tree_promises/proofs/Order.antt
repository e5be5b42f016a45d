-- What follows from what, and that both promises are ways.
use Rattle.std.proofs.Common.{◌≡◌, ◌∙◌, ◌⊎◌, inl, inr, ⊎_elim, List, [], ◌∷◌, Option, Some, None, refl}
use Rattle.type_model.specs.declared.atoms.AtomDef.{AtomDef}
use Rattle.type_model.specs.declared.basic.SemType.{SemType}
use Rattle.operations.specs.Rows.{AreBelow, Surroundings}
use Rattle.eval_model.specs.Ways.{AreWays}
use Rattle.tree_promises.specs.Flows.{Around, Guards, flow_ways}
use Rattle.tree_promises.specs.Known.{Below, Flow, FlowBelow, HoldsNone, IsImpossible, Known, KnownBelow, KnownWithin, Point, SlotBelow}
use Rattle.tree_promises.specs.Types.{GuardsTypes, Stack, type_ways}

module _ (env : List AtomDef) where
  -- ---- types

  pub types-itself : (p : Stack) → AreBelow env p p
  types-itself [] = tt
  types-itself (t ∷ ts) = ((λ x is. is.1), types-itself ts)

  pub types-then : (p q r : Stack) → AreBelow env p q → AreBelow env q r → AreBelow env p r
  types-then [] [] [] f g = tt
  types-then (s ∷ ss) (t ∷ ts) (u ∷ us) f g = ((λ x is. g.0 x (is.0, f.0 x is)), types-then ss ts us f.1 g.1)
  types-then [] [] (u ∷ us) f g = absurd g
  types-then [] (t ∷ ts) r f g = absurd f
  types-then (s ∷ ss) [] r f g = absurd f
  types-then (s ∷ ss) (t ∷ ts) [] f g = absurd g

  none-left : (p q : Stack) → AreBelow env p q → q ≡ [] → p ≡ []
  none-left [] q f is = refl
  none-left (s ∷ ss) [] f is = absurd f
  none-left (s ∷ ss) (t ∷ ts) f is = absurd (let bad : ⊥ = cc in bad)

  pub types-are-ways : (place : Surroundings) → AreWays (type_ways env place)
  types-are-ways place =
      record {
        here = types-itself;
        come = types-then;
        stays = λ p. refl;
        opens = λ p a b q (g : GuardsTypes env place p a b q). g.begins;
        closes = λ p a b q (g : GuardsTypes env place p a b q). g.ends;
        ends = none-left;
      }

  -- ---- what is known of slots

  pub slot-itself : (k : Option SemType) → SlotBelow env k k
  slot-itself (Some t) = λ x valid is. is
  slot-itself None = tt

  pub known-itself : (ks : Known) → KnownBelow env ks ks
  known-itself [] = tt
  known-itself (k ∷ ks) = (slot-itself k, known-itself ks)

  pub flow-itself : (f : Flow) → FlowBelow env f f
  flow-itself None = tt
  flow-itself (Some ks) = inr (known-itself ks)

  slot-then : (i j k : Option SemType) → SlotBelow env i j → SlotBelow env j k → SlotBelow env i k
  slot-then (Some r) (Some s) (Some t) f g = λ x valid is. g x valid (f x valid is)
  slot-then (Some r) j None f g = tt
  slot-then None j None f g = tt
  slot-then (Some r) None (Some t) f g = absurd g
  slot-then None (Some s) (Some t) f g = absurd f
  slot-then None None (Some t) f g = absurd g

  known-then : (is js ks : Known) → KnownBelow env is js → KnownBelow env js ks → KnownBelow env is ks
  known-then [] [] [] f g = tt
  known-then (i ∷ is) (j ∷ js) (k ∷ ks) f g = (slot-then i j k f.0 g.0, known-then is js ks f.1 g.1)
  known-then [] [] (k ∷ ks) f g = absurd g
  known-then [] (j ∷ js) ks f g = absurd f
  known-then (i ∷ is) [] ks f g = absurd f
  known-then (i ∷ is) (j ∷ js) [] f g = absurd g

  -- what is below something impossible is so too
  slot-impossible : (i j : Option SemType) → SlotBelow env i j → HoldsNone env j → HoldsNone env i
  slot-impossible (Some s) (Some t) f none = λ x valid is. none x valid (f x valid is)
  slot-impossible None (Some t) f none = absurd f
  slot-impossible i None f none = absurd none

  pub known-impossible : (is js : Known) → KnownBelow env is js → IsImpossible env js → IsImpossible env is
  known-impossible (i ∷ is) (j ∷ js) f e =
      ⊎_elim (λ here. inl (slot-impossible i j f.0 here)) (λ later. inr (known-impossible is js f.1 later)) e
  known-impossible [] [] f e = absurd e
  known-impossible [] (j ∷ js) f e = absurd f
  known-impossible (i ∷ is) [] f e = absurd f

  within-then : (ks js : Known) (h : Flow) → KnownBelow env ks js → FlowBelow env (Some js) h → FlowBelow env (Some ks) h
  within-then ks js h f g = ⊎_elim (λ none. inl (known-impossible ks js f none)) (λ g. inr (by h g)) g
    where
      by : (h : Flow) → KnownWithin env js h → KnownWithin env ks h
      by None g = g
      by (Some is) g = known-then ks js is f g

  pub flow-then : (f g h : Flow) → FlowBelow env f g → FlowBelow env g h → FlowBelow env f h
  flow-then None g h x y = tt
  flow-then (Some ks) None h x y = ⊎_elim (λ none. inl none) (λ bad. absurd bad) x
  flow-then (Some ks) (Some js) h x y = ⊎_elim (λ none. inl none) (λ x. within-then ks js h x y) x

  of-then : {A : Type 0} (a b c : Option A) → ((b ≡ None) ⊎ (b ≡ a)) → ((c ≡ None) ⊎ (c ≡ b)) → (c ≡ None) ⊎ (c ≡ a)
  of-then a b c x (inl e) = inl e
  of-then a b c (inl e) (inr f) = inl (f ∙ e)
  of-then a b c (inr e) (inr f) = inr (f ∙ e)

  pub below-itself : (p : Point) → Below env p p
  below-itself p =
      record { flow = flow-itself p.flow; on_true = flow-itself p.on_true; on_false = flow-itself p.on_false; of = inr refl; twin = inr refl; base = refl }

  pub below-then : (p q r : Point) → Below env p q → Below env q r → Below env p r
  below-then p q r f g =
      record {
        flow = flow-then p.flow q.flow r.flow f.flow g.flow;
        on_true = flow-then p.on_true q.on_true r.on_true f.on_true g.on_true;
        on_false = flow-then p.on_false q.on_false r.on_false f.on_false g.on_false;
        of = of-then p.of q.of r.of f.of g.of;
        twin = of-then p.twin q.twin r.twin f.twin g.twin;
        base = g.base ∙ f.base;
      }

  pub flows-are-ways : (around : Around) → AreWays (flow_ways env around)
  flows-are-ways around =
      record {
        here = below-itself;
        come = below-then;
        stays = λ p. inl refl;
        opens = λ p a b q (g : Guards env around p a b q). inr (record { kept = g.kept; is = g.is; outer = g.outer; begins = g.begins });
        closes = λ p a b q (g : Guards env around p a b q). record { kept = g.kept; around_it = p.base; outer = g.outer; ends = g.ends; behind = g.behind };
        ends = λ p q c e. flow-then p.flow q.flow None c.flow e;
      }
