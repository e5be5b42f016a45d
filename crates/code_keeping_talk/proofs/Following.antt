-- What comes later than something that comes later comes later.
use Rattle.std.proofs.Common.{◌∙◌, List, ◌++◌, Option, Some, None, sym, ap, subst}
use Rattle.std.specs.Prelude.{IsFalse, slice_get}
use Rattle.value_model.specs.Heap.{AreAlike, Begins, Entries, Grows, Heap, Items, Members, Stays, Structure}
use Rattle.op_model.specs.Common.{Role}
use Rattle.stack_code.specs.Good.{IsSameCall, IsSameStrand, WorkerStays}
use Rattle.code_keeping.proofs.Lists.{assoc, some-there, some-to}
use Rattle.code_keeping_talk.specs.Laws.{LaterFollows}

alike-then : (a b d : Members) → AreAlike a b → AreAlike b d → AreAlike a d
alike-then (Items vs) (Items ws) (Items us) h k = tt
alike-then (Items vs) (Items ws) (Entries es) h k = absurd k
alike-then (Items vs) (Entries es) d h k = absurd h
alike-then (Entries es) (Items ws) d h k = absurd h
alike-then (Entries es) (Entries ds) (Items us) h k = absurd k
alike-then (Entries es) (Entries ds) (Entries fs) h k = tt

stays-then : (s t u : Structure) → Stays s t → Stays t u → Stays s u
stays-then s t u h k =
    record {
      kind = alike-then s.members t.members u.members h.kind k.kind;
      atom = k.atom ∙ h.atom;
      mutable = k.mutable ∙ h.mutable;
      frozen = λ f. k.frozen (subst IsFalse (sym h.mutable) f) ∙ h.frozen f;
    }

begins-then : {A : Type 0} (a b d : List A) → Begins a b → Begins b d → Begins a d
begins-then a b d (x, e) (y, f) = (x ++ y, f ∙ (ap (λ l. l ++ y) e ∙ assoc a x y))

pub grows-then : (a b d : Heap) → Grows a b → Grows b d → Grows a d
grows-then a b d h k =
    record {
      structures = λ n s e. let (t, et, st) = some-there (Stays s) (slice_get b.structures n) (h.structures n s e) in some-to (Stays t) (Stays s) (slice_get d.structures n) (λ u tu. stays-then s t u st tu) (k.structures n t et);
      errors = begins-then a.errors b.errors d.errors h.errors k.errors;
      functions = begins-then a.functions b.functions d.functions h.functions k.functions;
    }

pub later-follows : LaterFollows
later-follows q c d e h k =
    record {
      heap = grows-then c.world.heap d.world.heap e.world.heap h.heap k.heap;
      closed = λ z. k.closed (h.closed z);
      strands = λ n s es. let (t, et, st) = some-there (IsSameStrand s) (slice_get d.strands n) (h.strands n s es) in some-to (IsSameStrand t) (IsSameStrand s) (slice_get e.strands n) (λ u tu. (tu.0 ∙ st.0, tu.1 ∙ st.1, λ z. tu.2 (st.2 z))) (k.strands n t et);
      calls = λ a x ex. let (y, ey, xy) = some-there (IsSameCall x) (slice_get d.activations a) (h.calls a x ex) in some-to (IsSameCall y) (IsSameCall x) (slice_get e.activations a) (λ z yz. (yz.0 ∙ xy.0, yz.1 ∙ xy.1)) (k.calls a y ey);
      worker = stays q h.worker k.worker;
    }
  where
    stays : (q : Option Role) → WorkerStays q c d → WorkerStays q d e → WorkerStays q c e
    stays (Some r) h k = ((λ w. ((k.0 w).0 ∙ (h.0 w).0, (k.0 w).1 ∙ (h.0 w).1)), k.1 ∙ h.1)
    stays None h k = tt
