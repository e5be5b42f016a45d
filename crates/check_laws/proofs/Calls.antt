-- How many the needs of calls and of anonymous functions leave.
use Rattle.std.proofs.Common.{◌≡◌, ◌++◌, ◌+◌, ℕ, suc, Bool, List, [], ◌∷◌, length, Option, None, Some, arith, sym, subst, ap, ◌∙◌, append_assoc, length-append}
use Rattle.bal_base.specs.declared.place.Place.{Place}
use Rattle.bal_tree.specs.declared.name.QualifiedName.{QualifiedName}
use Rattle.bal_tree.specs.declared.name.Word.{Word}
use Rattle.checks.specs.Checks.{Check, Gives, gives_some, ◌▷◌}
use Rattle.descriptors.specs.declared.names.Meaning.{Meaning}
use Rattle.descriptors.specs.declared.names.Meaning.TheVariants as meaning
use Rattle.descriptors.specs.declared.names.Names.{Names}
use Rattle.descriptors.specs.declared.names.Signature.{Signature}
use Rattle.needs.specs.Needs.{asks, does}
use Rattle.operations.specs.declared.library.LibraryCall.{LibraryCall}
use Rattle.operations.specs.declared.library.LibraryCall.TheVariants.{Println, Print, Readln, FromString, Abs, ToString, Clone, CloneReadOnly, StringLength, StartsWith, Trim, Substring, ToUpperAscii, ToLowerAscii, ToCodePointInts, ListLength, Push, Pop, RemoveItem, Slice, Reverse, MappingLength, Keys, HasKey, Get, RemoveKey, Message, Cause, Detail}
use Rattle.type_model.specs.declared.answers.TypeLimit.{TypeLimit}
use Rattle.type_model.specs.declared.atoms.AtomDef.{AtomDef}
use Rattle.type_model.specs.declared.basic.SemType.{SemType}
use Rattle.type_model.specs.declared.basic.Ty.{Ty}
use Rattle.type_model.specs.Calls.{Asked}
use Rattle.typed_tree.specs.declared.expr.TypedExpr.{TypedExpr}
use Rattle.typed_tree.specs.SharedTypes.{Shared}
use Rattle.expr_needs.specs.declared.kind.Kind.TheVariants as kind
use Rattle.check_words.specs.Calls.{applies_to, begins_anonymous, begins_value, calls as calling, calls_function, calls_library, calls_meaning, calls_method, calls_named, calls_seen, calls_seen_value, calls_value, closes_unit, expects_argument, expects_by, expects_of_library, expects_pushed, field_of, gives_by, has_parameter, has_rest, is_argument, is_new, is_receiver, lists_by, makes_anonymous, makes_call, makes_call_of, makes_library, member_of, new_number, one_more, opens_unit, picks, receivers, starts, starts_of, wants_copy, wants_kind}
use Rattle.check_words.specs.Library.{LibraryRow, Takes}
use Rattle.check_words.specs.Seen.{Seen, SeenVariable, SeenWorker, SeenConstant, SeenLibrary, SeenMeaning, SeenNothing}
use Rattle.check_words.specs.State.{CallAtWork, Called, IsLast, OfFunction, OfLibrary, OfValue, State, UnitAtWork, all_but, replaced}
use Rattle.check_words.specs.Words.{Atoms, Step, below_if, closes_call}
use Rattle.check_laws.specs.Heights.{Heights, ◌⊕◌, parts, wants, calls, units, plus}
use Rattle.check_laws.specs.Positions.{Above, OnTop, parts_called, parts_of_call, parts_received}
use Rattle.check_laws.proofs.Setting.{apart-from, with-calls, with-units}
use Rattle.check_laws.proofs.Stacks.{LastOn, all-but-last, as-on, last-on, parts-more, plus-is, unit-off, unit-on}
use Rattle.check_laws.proofs.Values.{goes-below-if, goes-is-of, goes-looks-up, goes-seen, goes-whether}
use Rattle.check_laws.proofs.Words.{Goes, goes-asking, goes-becomes, goes-done, goes-either, goes-fails, goes-handles, goes-makes, goes-no-more, goes-nothing, goes-sets-unit, goes-some, goes-then, goes-unless, goes-wants, goes-wants-some}

module _ (s : State) where
  -- ---- a call more, and one less

  -- one call more on these
  longer : (xs cs : List CallAtWork) (c : CallAtWork) (k : ℕ) (ys : List CallAtWork) → ys ≡ (xs ++ cs) ++ c ∷ [] → length cs ≡ k → OnTop xs (suc k) ys
  longer xs cs c k ys is many =
      record {
        more = cs ++ c ∷ [];
        is = is ∙ append_assoc xs cs (c ∷ []);
        many = length-append cs (c ∷ []) ∙ omega arith;
      }

  goes-calls : (r : Heights) (c : Called) → Goes s (r ⊕ parts (parts_called c)) (calling c) (r ⊕ calls 1)
  unfolding does longer
  goes-calls r c old new a p e =
      let call : CallAtWork = record { callee = c; args = 0 } in
      let on : OnTop s.calls (suc r.calls) (old.calls ++ call ∷ []) =
      longer s.calls p.calls.more call r.calls (old.calls ++ call ∷ []) (ap (λ l. l ++ call ∷ []) p.calls.is) p.calls.many in
      let many = plus-is r.parts (parts_called c) in let more = parts-more p.calls.more call in let own = plus-is 0 (parts_called c) in
      subst (Above s (r ⊕ calls 1)) (sym e) (with-calls s old r.parts (suc r.calls) (old.calls ++ call ∷ []) p on (as-on (omega arith) p.found))

  -- what belonged to the call is there
  closed : (r : Heights) (old new : State) (c : CallAtWork) → Above s (r ⊕ calls 1) old → closes_call old (Gives c) new
      → Above s (r ⊕ parts (parts_of_call c)) new
  unfolding ◌▷◌ gives_some does
  closed r old new c p (d, m1, (last, e1), (u, m2, e2, (same, e3))) =
      let top : LastOn s.calls r.calls d p.calls.more old.calls = last-on p.calls last in
      let left : all_but 1 old.calls ≡ s.calls ++ top.front = ap (all_but 1) top.is ∙ all-but-last (s.calls ++ top.front) d in
      let on : OnTop s.calls r.calls (all_but 1 old.calls) = record { more = top.front; is = left; many = top.many } in
      let many = plus-is r.parts (parts_of_call d) in let own = top.parts in
      let there : Above s (r ⊕ parts (parts_of_call d)) (record old { calls = all_but 1 old.calls }) =
      with-calls s old (plus r.parts (parts_of_call d)) r.calls (all_but 1 old.calls) p on (as-on (omega arith) p.found) in
      let is : new ≡ record old { calls = all_but 1 old.calls } = e3 ∙ e2 ∙ ap (λ (m : State). record m { calls = all_but 1 m.calls }) e1 in
      subst (λ (x : CallAtWork). Above s (r ⊕ parts (parts_of_call x)) new) (sym same) (subst (Above s (r ⊕ parts (parts_of_call d))) (sym is) there)

  pub goes-closed : {B : Type 0} (r : Heights) (k : Heights) (next : CallAtWork → Check State B)
      → ((c : CallAtWork) → Goes s (r ⊕ parts (parts_of_call c)) (next c) k) → Goes s (r ⊕ calls 1) (closes_call ▷ next) k
  unfolding ◌▷◌
  goes-closed r k next f old new b p (c, mid, x, y) = f c mid new b (closed r old mid c p x) y

  -- ---- calls that begin

  goes-function : (r : Heights) (f : Signature) (count : ℕ) (at : Place) → Goes s r (calls_function f count at) (r ⊕ calls 1)
  goes-function r f count at = goes-then s _ _ (goes-unless s r _ _ at) (λ u. goes-calls r (OfFunction f))

  goes-library : (r : Heights) (row : LibraryRow) (receiver : Option Shared) (count : ℕ) (at : Place)
      → Goes s (r ⊕ parts (parts_received receiver)) (calls_library row receiver count at) (r ⊕ calls 1)
  goes-library r row receiver count at =
      goes-then s _ _ (goes-unless s (r ⊕ parts (parts_received receiver)) _ _ at) (λ u. goes-calls r (OfLibrary row receiver))

  module _ (passes : List AtomDef → Asked → TypeLimit → Type 0) where
    pub goes-value : (r : Heights) → Goes s (r ⊕ parts 1) (calls_value passes) (r ⊕ calls 1)
    goes-value r = goes-calls r OfValue

    goes-seen-value : (r : Heights) (seen : Seen) (at : Place) → Goes s r (calls_seen_value passes seen at) (r ⊕ calls 1)
    goes-seen-value r seen at =
        goes-then s _ _ (goes-seen s r seen at) (λ u. goes-then s _ _ (goes-is-of s passes (r ⊕ parts 1) kind.AnyFunction at) (λ v. goes-value r))

    goes-called-meaning : (r : Heights) (m : Meaning) (count : ℕ) (name at : Place) → Goes s r (calls_meaning passes m count name at) (r ⊕ calls 1)
    goes-called-meaning r (meaning.Function f) count name at = goes-function r f count at
    goes-called-meaning r (meaning.TypeName t) count name at = goes-fails s r _ _ name
    goes-called-meaning r (meaning.Constant t) count name at = goes-seen-value r (SeenMeaning (meaning.Constant t)) name
    goes-called-meaning r (meaning.Variable number final t) count name at = goes-seen-value r (SeenMeaning (meaning.Variable number final t)) name

    goes-called : (r : Heights) (started : Bool) (seen : Seen) (count : ℕ) (name at : Place)
        → Goes s r (calls_seen passes started seen count name at) (r ⊕ calls 1)
    goes-called r started (SeenVariable v) count name at = goes-seen-value r (SeenVariable v) name
    goes-called r started (SeenWorker w) count name at = goes-fails s r _ _ name
    goes-called r started (SeenConstant c) count name at = goes-seen-value r (SeenConstant c) name
    goes-called r started (SeenLibrary row) count name at =
        goes-either s started _ _ (goes-fails s r _ _ name) (goes-library r row None count at)
    goes-called r started (SeenMeaning m) count name at = goes-called-meaning r m count name at
    goes-called r started (SeenNothing code) count name at = goes-fails s r _ code name

    pub goes-called-name : (names : Names) (r : Heights) (started : Bool) (q : QualifiedName) (count : ℕ) (at : Place)
        → Goes s r (calls_named passes names started q count at) (r ⊕ calls 1)
    goes-called-name names r started q count at = goes-then s _ _ (goes-looks-up s names r q) (λ seen. goes-called r started seen count q.at at)

    -- ---- methods

    goes-receiver : (h : Heights) (takes : Takes) (e : TypedExpr) (at : Place) → Goes s h (is_receiver passes takes e at) h
    goes-receiver h None e at = goes-some s h _
    goes-receiver h (Some k) e at = goes-whether s passes h _ _ at

    goes-picks : (h : Heights) (rows : List LibraryRow) (e : TypedExpr) (at : Place) → Goes s h (picks passes rows e at) h
    goes-picks h [] e at = goes-fails s h h _ at
    goes-picks h (row ∷ rows) e at =
        goes-then s _ _ (goes-receiver h row.receiver e at) (λ b. goes-either s b _ _ (goes-some s h _) (goes-picks h rows e at))

    pub goes-method : (r : Heights) (w : Word) (count : ℕ) (at : Place) → Goes s (r ⊕ parts 1) (calls_method passes w count at) (r ⊕ calls 1)
    goes-method r w count at =
        goes-then s _ _ (goes-some s (r ⊕ parts 1) _) (λ e. goes-then s _ _ (goes-picks (r ⊕ parts 1) _ e at) (λ row. goes-then s _ _ (goes-handles s (r ⊕ parts 1) _ _) (λ t. goes-library r row (Some t) count at)))

    -- ---- arguments

    goes-wants-copy : (r : Heights) (ts : List Ty) → Goes s r (wants_copy ts) (r ⊕ wants 1)
    goes-wants-copy r [] = goes-nothing s r _
    goes-wants-copy r (t ∷ ts) = goes-wants-some s r _

    goes-wants-kind : (r : Heights) (takes : Takes) → Goes s r (wants_kind takes) (r ⊕ wants 1)
    goes-wants-kind r None = goes-wants s r None
    goes-wants-kind r (Some k) = goes-wants-some s r _

    goes-pushed : (r : Heights) (receiver : Option Shared) (at : Place) → Goes s r (expects_pushed passes receiver at) (r ⊕ wants 1)
    goes-pushed r None at = goes-nothing s r _
    goes-pushed r (Some t) at = goes-then s _ _ (goes-asking s r _) (λ m. goes-wants-some s r _)

    goes-of-library : (r : Heights) (call : LibraryCall) (receiver : Option Shared) (takes : Takes) (at : Place)
        → Goes s r (expects_of_library passes call receiver takes at) (r ⊕ wants 1)
    goes-of-library r Push receiver takes at = goes-pushed r receiver at
    goes-of-library r call receiver takes at = goes-wants-kind r takes

    goes-expects-by : (r : Heights) (c : Called) (n : ℕ) (at : Place) → Goes s r (expects_by passes c n at) (r ⊕ wants 1)
    goes-expects-by r (OfFunction f) n at = goes-wants-copy r _
    goes-expects-by r OfValue n at = goes-wants s r None
    goes-expects-by r (OfLibrary row receiver) n at = goes-of-library r row.call receiver _ at

    pub goes-expects-argument : (r : Heights) (at : Place) → Goes s r (expects_argument passes at) (r ⊕ wants 1)
    goes-expects-argument r at = goes-then s _ _ (goes-some s r _) (λ c. goes-expects-by r c.callee c.args at)

    -- what is asked of an argument leaves the calls as they are
    keeps-calls : (w : Option Shared) (e : TypedExpr) (at : Place) (old new : State) (u : Unit {0}) → below_if passes w e at old (Gives u) new → new.calls ≡ old.calls
    unfolding asks gives_some
    keeps-calls None e at old new u x = ap (λ (m : State). m.calls) x.1
    keeps-calls (Some t) e at old new u x = ap (λ (m : State). m.calls) x.1

    -- one part more belongs to the call
    one-argued : (r : Heights) (old new : State) (c : CallAtWork) → Above s (r ⊕ (calls 1 ⊕ parts 1)) old → IsLast old.calls c
        → new ≡ record old { calls = replaced old.calls (one_more c) } → Above s (r ⊕ calls 1) new
    unfolding longer
    one-argued r old new c p last e =
        let d : CallAtWork = one_more c in
        let top : LastOn s.calls r.calls c p.calls.more old.calls = last-on p.calls last in
        let left : replaced old.calls d ≡ (s.calls ++ top.front) ++ d ∷ [] =
        ap (λ l. all_but 1 l ++ d ∷ []) top.is ∙ ap (λ l. l ++ d ∷ []) (all-but-last (s.calls ++ top.front) c) in
        let on : OnTop s.calls (suc r.calls) (replaced old.calls d) = longer s.calls top.front d r.calls (replaced old.calls d) left top.many in
        let more = parts-more top.front d in let own = top.parts in
        let before = plus-is c.args (parts_called c.callee) in let behind = plus-is (suc c.args) (parts_called c.callee) in
        subst (Above s (r ⊕ calls 1)) (sym e) (with-calls s old r.parts (suc r.calls) (replaced old.calls d) p on (as-on (omega arith) p.found))

    pub goes-argument : (r : Heights) (at : Place) → Goes s (r ⊕ (calls 1 ⊕ (parts 1 ⊕ wants 1))) (is_argument passes at) (r ⊕ calls 1)
    unfolding ◌▷◌ gives_some does
    goes-argument r at old new u p (c, m0, (last, e0), (w, m1, (x1, e1), (e, m2, (x2, e2), (u3, m3, x3, (u4, m4, e4, e5))))) =
        let same : m2 ≡ old = e2 ∙ e1 ∙ e0 in
        let h : Heights = r ⊕ (calls 1 ⊕ (parts 1 ⊕ wants 1)) in
        let p3 : Above s h m3 = goes-below-if s passes h w e at m2 m3 u3 (subst (Above s h) (sym same) p) x3 in
        let p4 : Above s (r ⊕ (calls 1 ⊕ parts 1)) m4 = goes-no-more s (r ⊕ (calls 1 ⊕ parts 1)) 1 m3 m4 u4 p3 e4 in
        let kept : m4.calls ≡ old.calls = ap (λ (m : State). m.calls) e4 ∙ keeps-calls w e at m2 m3 u3 x3 ∙ ap (λ (m : State). m.calls) same in
        one-argued r m4 new c p4 (record { kept = last.kept; is = kept ∙ last.is }) e5

    -- ---- calls as they are made

    goes-gives : (r : Heights) (n : ℕ) (call : LibraryCall) (P : Atoms → Ty → Type 0) (at : Place) → Goes s (r ⊕ parts n) (gives_by n call P at) (r ⊕ parts 1)
    goes-gives r n call P at = goes-makes s r n _

    goes-lists : (r : Heights) (n : ℕ) (call : LibraryCall) (P : Atoms → Ty → Type 0) (at : Place) → Goes s (r ⊕ parts n) (lists_by n call P at) (r ⊕ parts 1)
    goes-lists r n call P at = goes-then s _ _ (goes-asking s (r ⊕ parts n) _) (λ atom. goes-makes s r n _)

    goes-member-of : (r : Heights) (n : ℕ) (receiver : Option Shared) (next : SemType → Step) (at : Place)
        → ((m : SemType) → Goes s (r ⊕ parts n) (next m) (r ⊕ parts 1)) → Goes s (r ⊕ parts n) (member_of passes receiver next at) (r ⊕ parts 1)
    goes-member-of r n receiver next at f =
        goes-then s _ _ (goes-some s (r ⊕ parts n) _) (λ t. goes-then s _ _ (goes-asking s (r ⊕ parts n) _) (λ m. f m))

    goes-field-of : (r : Heights) (n : ℕ) (receiver : Option Shared) (next : SemType → Step) (at : Place)
        → ((m : SemType) → Goes s (r ⊕ parts n) (next m) (r ⊕ parts 1)) → Goes s (r ⊕ parts n) (field_of passes receiver next at) (r ⊕ parts 1)
    goes-field-of r n receiver next at f =
        goes-then s _ _ (goes-some s (r ⊕ parts n) _) (λ t. goes-then s _ _ (goes-asking s (r ⊕ parts n) _) (λ m. f m))

    goes-made : (r : Heights) (call : LibraryCall) (receiver : Option Shared) (n : ℕ) (at : Place)
        → Goes s (r ⊕ parts n) (makes_library passes call receiver n at) (r ⊕ parts 1)
    goes-made r Println receiver n at = goes-gives r n _ _ at
    goes-made r Print receiver n at = goes-gives r n _ _ at
    goes-made r Readln receiver n at = goes-gives r n _ _ at
    goes-made r FromString receiver n at = goes-gives r n _ _ at
    goes-made r Abs receiver n at = goes-gives r n _ _ at
    goes-made r ToString receiver n at = goes-gives r n _ _ at
    goes-made r Clone receiver n at = goes-then s _ _ (goes-some s (r ⊕ parts n) _) (λ t. goes-makes s r n _)
    goes-made r CloneReadOnly receiver n at =
        goes-then s _ _ (goes-some s (r ⊕ parts n) _) (λ t. goes-then s _ _ (goes-some s (r ⊕ parts n) _) (λ u. goes-makes s r n _))
    goes-made r StringLength receiver n at = goes-gives r n _ _ at
    goes-made r StartsWith receiver n at = goes-gives r n _ _ at
    goes-made r Trim receiver n at = goes-gives r n _ _ at
    goes-made r Substring receiver n at = goes-gives r n _ _ at
    goes-made r ToUpperAscii receiver n at = goes-gives r n _ _ at
    goes-made r ToLowerAscii receiver n at = goes-gives r n _ _ at
    goes-made r ToCodePointInts receiver n at = goes-lists r n _ _ at
    goes-made r ListLength receiver n at = goes-gives r n _ _ at
    goes-made r Push receiver n at = goes-gives r n _ _ at
    goes-made r Pop receiver n at = goes-member-of r n receiver _ at (λ m. goes-gives r n _ _ at)
    goes-made r RemoveItem receiver n at = goes-member-of r n receiver _ at (λ m. goes-gives r n _ _ at)
    goes-made r Slice receiver n at = goes-member-of r n receiver _ at (λ m. goes-lists r n _ _ at)
    goes-made r Reverse receiver n at = goes-member-of r n receiver _ at (λ m. goes-lists r n _ _ at)
    goes-made r MappingLength receiver n at = goes-gives r n _ _ at
    goes-made r Keys receiver n at = goes-lists r n _ _ at
    goes-made r HasKey receiver n at = goes-gives r n _ _ at
    goes-made r Get receiver n at = goes-field-of r n receiver _ at (λ m. goes-gives r n _ _ at)
    goes-made r RemoveKey receiver n at = goes-field-of r n receiver _ at (λ m. goes-gives r n _ _ at)
    goes-made r Message receiver n at = goes-gives r n _ _ at
    goes-made r Cause receiver n at = goes-gives r n _ _ at
    goes-made r Detail receiver n at = goes-gives r n _ _ at

    goes-applies : (h : Heights) (all : List TypedExpr) (at : Place) → Goes s h (applies_to passes all at) h
    goes-applies h [] at = goes-nothing s h h
    goes-applies h (f ∷ args) at = goes-then s _ _ (goes-asking s h _) (λ atom. goes-asking s h _)

    all-parts : (receiver : Option Shared) (n : ℕ) → receivers passes receiver + n ≡ plus n (parts_received receiver)
    all-parts None n = omega arith
    all-parts (Some t) n = omega arith

    goes-call-of : (r : Heights) (c : Called) (n : ℕ) (at : Place) → Goes s (r ⊕ parts (plus n (parts_called c))) (makes_call_of passes c n at) (r ⊕ parts 1)
    goes-call-of r (OfFunction f) n at = goes-makes s r n _
    goes-call-of r OfValue n at =
        goes-then s _ _ (goes-some s (r ⊕ parts (suc n)) _) (λ all. goes-then s _ _ (goes-applies (r ⊕ parts (suc n)) all at) (λ t. goes-makes s r (suc n) _))
    goes-call-of r (OfLibrary row receiver) n at =
        subst (λ k. Goes s (r ⊕ parts k) (makes_call_of passes (OfLibrary row receiver) n at) (r ⊕ parts 1)) (all-parts receiver n)
        (goes-made r row.call receiver (receivers passes receiver + n) at)

    pub goes-makes-call : (r : Heights) (at : Place) → Goes s (r ⊕ calls 1) (makes_call passes at) (r ⊕ parts 1)
    goes-makes-call r at = goes-closed r (r ⊕ parts 1) _ (λ c. goes-call-of r c.callee c.args at)

    goes-starts-of : (r : Heights) (c : Called) (n : ℕ) (here at : Place) → Goes s (r ⊕ parts (plus n (parts_called c))) (starts_of passes c n here at) (r ⊕ parts 1)
    goes-starts-of r (OfFunction f) n here at = goes-makes s r n _
    goes-starts-of r OfValue n here at =
        goes-then s _ _ (goes-some s (r ⊕ parts (suc n)) _) (λ all. goes-then s _ _ (goes-applies (r ⊕ parts (suc n)) all here) (λ t.
        goes-then s _ _ (goes-asking s (r ⊕ parts (suc n)) _) (λ atom. goes-makes s r (suc n) _)))
    goes-starts-of r (OfLibrary row receiver) n here at = goes-nothing s _ _

    pub goes-starts : (r : Heights) (here at : Place) → Goes s (r ⊕ calls 1) (starts passes here at) (r ⊕ parts 1)
    goes-starts r here at = goes-closed r (r ⊕ parts 1) _ (λ c. goes-starts-of r c.callee c.args here at)

  -- ---- anonymous functions

  pub goes-new-number : (h : Heights) → Goes s h new_number h
  goes-new-number h =
      goes-then s _ _ (goes-some s h _) (λ n. goes-then s _ _ (goes-becomes s h h _ (λ old p. apart-from s old old.atoms old.ways _ p)) (λ u. goes-some s h _))

  pub goes-opens-unit : (r : Heights) (u : UnitAtWork) → Goes s r (opens_unit u) (r ⊕ units 1)
  goes-opens-unit r u =
      goes-then s _ _ (goes-handles s r _ _) (λ v. goes-becomes s r (r ⊕ units 1) _ (λ old p. apart-from s _ old.atoms None old.done (with-units s old _ _ p (unit-on v p.units))))

  pub goes-closes-unit : (r : Heights) → Goes s (r ⊕ units 1) closes_unit r
  goes-closes-unit r =
      goes-then s _ _ (goes-some s (r ⊕ units 1) _) (λ c. goes-then s _ _
      (goes-becomes s (r ⊕ units 1) r _ (λ old p. apart-from s _ old.atoms None old.done (with-units s old _ _ p (unit-off p.units)))) (λ u. goes-some s r _))

  pub goes-begins-anonymous : (r : Heights) → Goes s r begins_anonymous (r ⊕ units 1)
  goes-begins-anonymous r = goes-then s _ _ (goes-some s r _) (λ around. goes-then s _ _ (goes-new-number r) (λ n. goes-opens-unit r _))

  pub goes-is-new : (h : Heights) (w : Word) → Goes s h (is_new w) h
  goes-is-new h w = goes-then s _ _ (goes-some s h _) (λ b. goes-either s b _ _ (goes-fails s h h _ _) (goes-done s h))

  pub goes-parameter : (r : Heights) (w : Word) → Goes s (r ⊕ wants 1) (has_parameter w) r
  goes-parameter r w =
      goes-then s _ _ (goes-is-new (r ⊕ wants 1) w) (λ u. goes-then s _ _ (goes-some s (r ⊕ wants 1) _) (λ t.
      goes-then s _ _ (goes-no-more s r 1) (λ v. goes-then s _ _ (goes-some s r _) (λ unit. goes-sets-unit s r _))))

  pub goes-rest : (r : Heights) (w : Word) → Goes s (r ⊕ wants 1) (has_rest w) r
  goes-rest r w =
      goes-then s _ _ (goes-is-new (r ⊕ wants 1) w) (λ u. goes-then s _ _ (goes-some s (r ⊕ wants 1) _) (λ t.
      goes-then s _ _ (goes-no-more s r 1) (λ v. goes-then s _ _ (goes-asking s r _) (λ atom.
      goes-then s _ _ (goes-some s r _) (λ l. goes-then s _ _ (goes-some s r _) (λ unit. goes-sets-unit s r _))))))

  pub goes-begins-value : (h : Heights) (used : List Word) → Goes s h (begins_value used) h
  goes-begins-value h used =
      goes-then s _ _ (goes-some s h _) (λ t. goes-then s _ _ (goes-some s h _) (λ around. goes-then s _ _ (goes-some s h _) (λ unit. goes-sets-unit s h _)))

  pub goes-makes-anonymous : (r : Heights) (isolated : Bool) (at : Place)
      → Goes s (r ⊕ (units 1 ⊕ (parts 1 ⊕ wants 1))) (makes_anonymous isolated at) (r ⊕ parts 1)
  goes-makes-anonymous r isolated at =
      goes-then s _ _ (goes-no-more s (r ⊕ (units 1 ⊕ parts 1)) 1) (λ v. goes-then s _ _ (goes-closes-unit (r ⊕ parts 1)) (λ u.
      goes-then s _ _ (goes-asking s (r ⊕ parts 1) _) (λ first. goes-makes s r 1 _)))
