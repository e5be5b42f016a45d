-- The condition of a diagram that is put together of the parts of two.
use Rattle.std.proofs.Common.{◌≡◌, ◌≢◌, ℕ, zero, suc, ◌+◌, map, get_or, ◌<◌, lit<, if◌then◌else◌, List, Bool, true, false, Some, slice_get, length, refl, sym, subst, ◌∙◌, ap, arith}
use Rattle.std.proofs.lemmas.Bool.{false≢true, eqb-true, eq-eqb}
use Rattle.std.proofs.lemmas.Option.{slice_get_within, slice_get-get_or}
use Rattle.type_diagrams.specs.declared.kind.Kind.{Kind}
use Rattle.type_diagrams.specs.declared.kind.Kind.TheVariants.{List as Lists, Mapping as Mappings, Error as Errors, Function as Functions, Future as Futures}
use Rattle.type_diagrams.specs.declared.node.Diagram.{Diagram}
use Rattle.type_diagrams.specs.declared.operation.Operation.{Operation}
use Rattle.type_diagrams.specs.declared.operation.Step.{Step}
use Rattle.type_diagrams.specs.declared.kind.TheConstants.{KINDS}
use Rattle.type_diagrams.specs.declared.simple.SimpleSet.{SimpleSet}
use Rattle.type_diagrams.specs.contracts.simple.SimpleSetPartialEq.TheImpl as same_set
use Rattle.type_diagrams.specs.Sets.{Simples, IsSetOf, set_of, has_shape}
use Rattle.type_diagrams.specs.Decisions.{IsNumber, value_of}
use Rattle.type_diagrams.specs.Operations.{meaning, CanStep, IsResultOf}
use Rattle.type_diagrams.specs.Conditions.{Condition, kind_place, is_kind}
use Rattle.type_diagrams.specs.Tables.{Table, condition, condition_at, root_of, is_in_set}
use Rattle.type_diagrams.specs.Whole.{Keeps, Extends, IsDiagramOver, Gives, HasParts, combined, IsSetMade}
use Rattle.type_diagrams.proofs.NodeTrees.{member_at}
use Rattle.type_diagrams.proofs.Numbering.{same_set-Decides, seen_at, length-seen}
use Rattle.type_diagrams.proofs.Growing.{number-grows, value-grows}
use Rattle.type_diagrams.proofs.Keeping.{extends-on, slice_get-grows, length-grows}

-- what holds of each kind
pub by_kinds : (P : Kind → Type 0) → P Lists → P Mappings → P Errors → P Functions → P Futures → (k : Kind) → P k
by_kinds P l m e f u Lists = l
by_kinds P l m e f u Mappings = m
by_kinds P l m e f u Errors = e
by_kinds P l m e f u Functions = f
by_kinds P l m e f u Futures = u

-- the operation on the parts of a kind
abbrev pub on_roots : Operation → Diagram → Diagram → Kind → Step
on_roots o l r k = record { operation = o; left = root_of l k; right = root_of r k }

-- the parts that are made, when those of the first kinds are
pub record ArePartsOf (old : Table) (o : Operation) (l r : Diagram) (now : Table) (done : ℕ) (d : Diagram) : Type 0 where
  pub extends : Extends 0 old now
  pub left : IsDiagramOver old l
  pub right : IsDiagramOver old r
  pub set : IsSetMade old.sets o l.simple r.simple now.sets d.simple
  pub roots : (k : Kind) → IsNumber now.nodes (root_of d k)
  pub values : (k : Kind) → kind_place k < done → (v : ℕ → Bool) → value_of now.nodes (root_of d k) v ≡ meaning o (value_of old.nodes (root_of l k) v) (value_of old.nodes (root_of r k) v)

set-keeps : (old mid now : Table) (o : Operation) (left right n : ℕ) → Keeps mid now → IsSetMade old.sets o left right mid.sets n → IsSetMade old.sets o left right now.sets n
set-keeps old mid now o left right n k set =
    let s = member_at mid.sets n set.there in
    record {
      there = length-grows mid.sets now.sets n k.sets set.there;
      same = λ x v. ap (λ p. is_in_set p x) (slice_get-grows mid.sets now.sets n s.0 k.sets s.1 ∙ sym s.1) ∙ set.same x v;
    }

-- no kind yet
pub no_kinds : (old mid : Table) (o : Operation) (l r d : Diagram) (n : ℕ) → Extends 0 old mid → IsDiagramOver old l → IsDiagramOver old r → IsSetMade old.sets o l.simple r.simple mid.sets n
    → d ≡ record { simple = n; list = 0; mapping = 0; error = 0; function = 0; future = 0 } → ArePartsOf old o l r mid 0 d
no_kinds old mid o l r d n extends lo ro set is =
    subst (ArePartsOf old o l r mid 0) (sym is) (record {
      extends = extends;
      left = lo;
      right = ro;
      set = set;
      roots = by_kinds (λ k. IsNumber mid.nodes (root_of (record { simple = n; list = 0; mapping = 0; error = 0; function = 0; future = 0 }) k)) (omega arith) (omega arith) (omega arith) (omega arith) (omega arith);
      values = λ k lt v. absurd (omega (arith, lt));
    })

place-injective : (j k : Kind) → kind_place j ≡ kind_place k → j ≡ k
place-injective Lists Lists e = refl
place-injective Mappings Mappings e = refl
place-injective Errors Errors e = refl
place-injective Functions Functions e = refl
place-injective Futures Futures e = refl
place-injective j k e = cc

-- one more kind
pub one_kind : (old now new : Table) (o : Operation) (l r d e : Diagram) (kind : Kind) (done n : ℕ) → ArePartsOf old o l r now done d → kind_place kind ≡ done
    → Extends 0 now new → IsResultOf now.nodes (on_roots o l r kind) new.nodes n
    → e.simple ≡ d.simple → ((k : Kind) → root_of e k ≡ (if is_kind k kind then n else root_of d k)) → ArePartsOf old o l r new (done + 1) e
one_kind old now new o l r d e kind done n parts place extends made simple roots =
    record {
      extends = extends-on old now new parts.extends extends;
      left = parts.left;
      right = parts.right;
      set = subst (λ s. IsSetMade old.sets o l.simple r.simple new.sets s) (sym simple) (set-keeps old now new o l.simple r.simple d.simple extends.keeps parts.set);
      roots = λ k. subst (IsNumber new.nodes) (sym (roots k)) (number k (is_kind k kind));
      values = λ k lt v. ap (λ m. value_of new.nodes m v) (roots k) ∙ value k lt v (is_kind k kind) refl;
    }
  where
    number : (k : Kind) (b : Bool) → IsNumber new.nodes (if b then n else root_of d k)
    number k true = made.number
    number k false = number-grows now.nodes new.nodes extends.keeps.nodes (root_of d k) (parts.roots k)

    value : (k : Kind) → kind_place k < done + 1 → (v : ℕ → Bool) (b : Bool) → is_kind k kind ≡ b
        → value_of new.nodes (if b then n else root_of d k) v ≡ meaning o (value_of old.nodes (root_of l k) v) (value_of old.nodes (root_of r k) v)
    value k lt v true is =
        let same : k ≡ kind = place-injective k kind (eqb-true (kind_place k) (kind_place kind) is) in
        made.value v
        ∙ (λ i. meaning o (value-grows old.nodes now.nodes parts.extends.keeps.nodes (root_of l kind) v (parts.left.roots kind) i) (value-grows old.nodes now.nodes parts.extends.keeps.nodes (root_of r kind) v (parts.right.roots kind) i))
        ∙ ap (λ j. meaning o (value_of old.nodes (root_of l j) v) (value_of old.nodes (root_of r j) v)) (sym same)
    value k lt v false is =
        let apart : kind_place k ≢ kind_place kind = λ q. false≢true (sym is ∙ eq-eqb (kind_place k) (kind_place kind) q) in
        value-grows now.nodes new.nodes extends.keeps.nodes (root_of d k) v (parts.roots k) ∙ parts.values k (omega (arith, lt, place, apart)) v

-- a diagram of such parts has the condition
pub parts-Gives : (last new : Table) (d : Diagram) (c : Condition) (n : ℕ) → HasParts last d c → Keeps last new → slice_get new.diagrams n ≡ Some d → Gives new c n
parts-Gives last new d c n parts k there = record {
  diagram = slice_get_within new.diagrams n d there;
  condition =
      let set = slice_get-grows last.sets new.sets d.simple parts.set k.sets parts.set_is in
      record {
        simple = λ x s v. ap (λ o. (condition_at new o).simple x) there ∙ ap (λ o. is_in_set o x) set ∙ parts.simple x s v;
        by_kind = λ kind v. ap (λ o. (condition_at new o).by_kind kind v) there ∙ value-grows last.nodes new.nodes k.nodes (root_of d kind) v (parts.roots kind) ∙ parts.by_kind kind v;
      };
}

-- what an operation makes of all parts of two diagrams
pub combined-HasParts : (old last : Table) (o : Operation) (a b : ℕ) (l r d : Diagram)
    → slice_get old.diagrams a ≡ Some l → slice_get old.diagrams b ≡ Some r
    → ArePartsOf old o l r last 5 d → HasParts last d (combined o (condition old a) (condition old b))
combined-HasParts old last o a b l r d la rb parts =
    let s = member_at last.sets d.simple parts.set.there in
    record {
      set = s.0;
      set_is = s.1;
      simple = λ x _ v. ap (λ p. is_in_set p x) (sym s.1) ∙ parts.set.same x v ∙ (λ i. meaning o ((condition_at old (sym la i)).simple x) ((condition_at old (sym rb i)).simple x));
      roots = parts.roots;
      by_kind = λ kind v. parts.values kind (by_kinds (λ k. kind_place k < 5) (lit< tt) (lit< tt) (lit< tt) (lit< tt) (lit< tt) kind) v ∙ (λ i. meaning o ((condition_at old (sym la i)).by_kind kind v) ((condition_at old (sym rb i)).by_kind kind v));
    }

-- a step on roots of diagrams that are kept can be made
pub can-step : (old now : Table) (o : Operation) (l r d : Diagram) (done : ℕ) (k : Kind) → ArePartsOf old o l r now done d → CanStep now.nodes (on_roots o l r k)
can-step old now o l r d done k parts = record {
  left = number-grows old.nodes now.nodes parts.extends.keeps.nodes (root_of l k) (parts.left.roots k);
  right = number-grows old.nodes now.nodes parts.extends.keeps.nodes (root_of r k) (parts.right.roots k);
}

-- the kind at a place of their list
pub place-at : (i : ℕ) → i < 5 → kind_place (get_or KINDS i Lists) ≡ i
place-at zero lt = refl
place-at (suc zero) lt = refl
place-at (suc (suc zero)) lt = refl
place-at (suc (suc (suc zero))) lt = refl
place-at (suc (suc (suc (suc zero)))) lt = refl
place-at (suc (suc (suc (suc (suc i))))) lt = absurd (omega (arith, lt))

-- ---- sets

-- a set that is read at its place
pub set_at : (ks slice : List SimpleSet) (i : ℕ) (x : SimpleSet) → i < length (map set_of ks) → slice ≡ ks → x ≡ get_or slice i x → slice_get (map set_of ks) i ≡ Some (set_of x)
set_at ks slice i x lt e is =
    seen_at same_set.ghosts.eq set_of same_set-Decides ks i x
    (slice_get-get_or ks i x (subst (λ n. i < n) (length-seen same_set.ghosts.eq set_of same_set-Decides ks) lt) ∙ ap (λ xs. Some (get_or xs i x)) (sym e) ∙ ap Some (sym is))

-- the set that an operation makes of two
pub made-IsSetMade : (old new : List Simples) (o : Operation) (left right n : ℕ) (l r s : SimpleSet)
    → slice_get old left ≡ Some (set_of l) → slice_get old right ≡ Some (set_of r) → slice_get new n ≡ Some (set_of s)
    → IsSetOf (λ x. meaning o (has_shape (set_of l) x) (has_shape (set_of r) x)) s → IsSetMade old o left right new n
made-IsSetMade old new o left right n l r s la ra at is = record {
  there = slice_get_within new n (set_of s) at;
  same = λ x v. ap (λ p. is_in_set p x) at ∙ is.same x v ∙ (λ i. meaning o (is_in_set (sym la i) x) (is_in_set (sym ra i) x));
}
