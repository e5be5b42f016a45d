-- What single definitions mean, over drafts.
use Rattle.std.proofs.Common.{◌≡◌, ℕ, ◌<◌, List, [], ◌∷◌, map, Option, None, Some, Result, Ok, Err, refl, sym, subst, ap}
use Rattle.std.specs.List.{AllZip}
use Rattle.std.proofs.lemmas.List.Elements.{All-cons, All-head, All-nil, All-tail}
use Rattle.bal_base.specs.declared.fault.Fault.{Fault}
use Rattle.bal_base.specs.declared.place.Place.{Place}
use Rattle.bal_base.specs.declared.stop.Stop.{Stop}
use Rattle.bal_base.specs.declared.stop.Stop.TheVariants.{Memory}
use Rattle.bal_tree.specs.declared.def.ConstDef.{ConstDef}
use Rattle.bal_tree.specs.declared.def.Def.{Def}
use Rattle.bal_tree.specs.declared.def.Def.TheVariants.{«Type» as TypeOf, Const, Variable as VariableOf, Function as FunctionOf}
use Rattle.bal_tree.specs.declared.def.FunctionDef.{FunctionDef}
use Rattle.bal_tree.specs.declared.def.TypeDef.{TypeDef}
use Rattle.bal_tree.specs.declared.def.VariableDef.{VariableDef}
use Rattle.bal_tree.specs.declared.params.Param.{Param}
use Rattle.bal_tree.specs.declared.types.TypeTree.{TypeTree}
use Rattle.type_model.specs.declared.basic.SemType.{Atom, Basic}
use Rattle.type_model.specs.declared.basic.Ty.{Ty}
use Rattle.type_model.specs.Defined.{DefBelow, TyBelow}
use Rattle.type_model.specs.declared.atoms.AtomDef.{AtomDef}
use Rattle.type_model.specs.declared.atoms.AtomDef.TheVariants.{List as ListAtom, Arrow, Future as FutureAtom}
use Rattle.checks.specs.Checks.{Check, gives, ◌▷◌}
use Rattle.descriptors.specs.declared.draft.Draft.{Draft}
use Rattle.descriptors.specs.declared.names.Meaning.{Meaning}
use Rattle.descriptors.specs.declared.names.Meaning.TheVariants.{TypeName, Constant, Variable, Function}
use Rattle.descriptors.specs.declared.names.Names.{Names}
use Rattle.descriptors.specs.declared.names.Scope.{Scope}
use Rattle.descriptors.specs.declared.names.Signature.{Signature}
use Rattle.descriptors.specs.Described.{Atoms, IsRewritten, plain, value_set}
use Rattle.descriptors.specs.Descriptors.{descriptor_if, descriptor_of, in_a_row, present}
use Rattle.descriptors.specs.Drafts.{AreNamesBelow, Drafts, all_drafted, drafted, drafted_if, numbered_on, wherever}
use Rattle.descriptors.specs.Steps.{AllBelow, AreOwnTypes, IfBelow, IsAtom, MeaningBelow, SignatureBelow}
use Rattle.descriptors.proofs.Drafting.{drafts-given, drafts-just, drafts-on, drafts-ran_out, drafts-stops, given}
use Rattle.type_builder.proofs.Agreeing.{same-itself}
use Rattle.type_builder.specs.Flat.{IsFlatIf, IsFlatType}
use Rattle.type_builder.proofs.FlatShapes.{flat-rewritten, flat-type-below}
use Rattle.type_builder.specs.Meanings.{AreRewritten, IfRewritten, IsSignature, ValuesBelow, constant_drafted, kept_by, meaning_drafted, param_descriptor, rest_descriptor, signature_drafted, signed_drafted, values_drafted, values_of}
use Rattle.type_builder.specs.declared.earlier.Earlier.{Earlier}
use Rattle.type_builder.specs.declared.meanings.Values.{Values}

-- ---- flat unions

flats-rewritten : (env : Atoms) (ts us : List Ty) → AllZip IsFlatType ts us → AreRewritten env ts us
flats-rewritten env [] [] h = tt
flats-rewritten env [] (u ∷ us) h = absurd h
flats-rewritten env (t ∷ ts) [] h = absurd h
flats-rewritten env (t ∷ ts) (u ∷ us) h = (flat-rewritten env t u h.0, flats-rewritten env ts us h.1)

if-rewritten : (env : Atoms) (t u : Option Ty) → IsFlatIf t u → IfRewritten env t u
if-rewritten env None None h = tt
if-rewritten env None (Some u) h = absurd h
if-rewritten env (Some t) None h = absurd h
if-rewritten env (Some t) (Some u) h = flat-rewritten env t u h

flats-below : (n : ℕ) (ts us : List Ty) → AllZip IsFlatType ts us → AllBelow n ts → AllBelow n us
flats-below n [] [] h b = All-nil (TyBelow n)
flats-below n [] (u ∷ us) h b = absurd h
flats-below n (t ∷ ts) [] h b = absurd h
flats-below n (t ∷ ts) (u ∷ us) h b =
    All-cons (TyBelow n) u us (flat-type-below n t u h.0 (All-head (TyBelow n) t ts b)) (flats-below n ts us h.1 (All-tail (TyBelow n) t ts b))

if-below : (n : ℕ) (t u : Option Ty) → IsFlatIf t u → IfBelow n t → IfBelow n u
if-below n None None h b = tt
if-below n None (Some u) h b = absurd h
if-below n (Some t) None h b = absurd h
if-below n (Some t) (Some u) h b = flat-type-below n t u h b

-- ---- single definitions

-- by another definition of an atom that is the same
pub as-atom : (at : Place) (def other : AtomDef) (old : Draft) (r : Result ℕ (Stop Fault)) (new : Draft) → def ≡ other → Drafts (λ n. DefBelow n def) IsAtom (numbered_on def at) old r new
    → Drafts (λ n. DefBelow n other) IsAtom (numbered_on other at) old r new
as-atom at def other old r new same h = subst (λ d. Drafts (λ n. DefBelow n d) IsAtom (numbered_on d at) old r new) same h

module _ (names : Names) (scope : Scope) where
  abbrev Below : ℕ → Type 0
  Below = AreNamesBelow names

  -- by another tree that is the same
  pub of-tree : (tree other : TypeTree) (old : Draft) (r : Result Ty (Stop Fault)) (new : Draft) → tree ≡ other → Drafts Below TyBelow (drafted names scope (descriptor_of tree)) old r new
      → Drafts Below TyBelow (drafted names scope (descriptor_of other)) old r new
  of-tree tree other old r new same y = subst (λ x. Drafts Below TyBelow (drafted names scope (descriptor_of x)) old r new) same y

  -- what takes the rest
  module _ (rest : Option Param) where
    abbrev RestComes : Draft → Result (Option Ty) (Stop Fault) → Draft → Type 0
    RestComes = Drafts Below IfBelow (drafted_if names scope (rest_descriptor rest))

    pub no-rest : (d : Draft) → rest ≡ None → RestComes d (Ok None) d
    no-rest d is = subst (λ r. Drafts Below IfBelow (drafted_if names scope (rest_descriptor r)) d (Ok None) d) (sym is) (drafts-just Below IfBelow d None None refl (λ n le g. tt))

    module _ (p : Param) (is : rest ≡ Some p) where
      turned : (old : Draft) (r : Result (Option Ty) (Stop Fault)) (new : Draft) → Drafts Below IfBelow (drafted_if names scope (present (descriptor_of p.ty.value))) old r new → RestComes old r new
      turned old r new y = subst (λ o. Drafts Below IfBelow (drafted_if names scope (rest_descriptor o)) old r new) (sym is) y

      pub rest-given : (tree : TypeTree) (t : Ty) (old new : Draft) → tree ≡ p.ty.value → Drafts Below TyBelow (drafted names scope (descriptor_of tree)) old (Ok t) new → RestComes old (Ok (Some t)) new
      rest-given tree t old new same y = turned old (Ok (Some t)) new
          (drafts-on Below TyBelow IfBelow (drafted names scope (descriptor_of p.ty.value)) (λ t. gives (Some t)) old new new t (Ok (Some t)) (of-tree tree p.ty.value old (Ok t) new same y)
          (drafts-just (λ n. Below n × TyBelow n t) IfBelow new (Some t) (Some t) refl (λ n le g. g.1)))

      pub rest-stops : (tree : TypeTree) (stop : Stop Fault) (old new : Draft) → tree ≡ p.ty.value → Drafts Below TyBelow (drafted names scope (descriptor_of tree)) old (Err stop) new → RestComes old (Err stop) new
      rest-stops tree stop old new same y = turned old (Err stop) new
          (drafts-stops Below TyBelow IfBelow (drafted names scope (descriptor_of p.ty.value)) (λ t. gives (Some t)) old new stop (of-tree tree p.ty.value old (Err stop) new same y))

  -- a type is kept in another form
  kept-so : (G : ℕ → Type 0) (m : Ty → Meaning) → ((n : ℕ) (t : Ty) → TyBelow n t → MeaningBelow n (m t)) → (t u : Ty) (d : Draft) → ((env : Atoms) → IsRewritten t env u)
      → ((n : ℕ) → G n → TyBelow n u) → Drafts G MeaningBelow (kept_by numbered_on (wherever names) names t ▷ λ u. gives (m u)) d (Ok (m u)) d
  kept-so G m below t u d same over =
      drafts-on G TyBelow MeaningBelow (kept_by numbered_on (wherever names) names t) (λ u. gives (m u)) d d d u (Ok (m u))
      (drafts-given G TyBelow d (λ s u. (env : Atoms) → AreOwnTypes env names.own → IsRewritten t env u) u (λ env own. same env) (λ n le g. over n g))
      (drafts-just (λ n. G n × TyBelow n u) MeaningBelow d (m u) (m u) refl (λ n le g. below n u g.1))

  module _ (unit : Earlier) (def : Def) where
    abbrev MeaningComes : Draft → Result Meaning (Stop Fault) → Draft → Type 0
    MeaningComes = Drafts Below MeaningBelow (meaning_drafted names scope unit def)

    as-def : (other : Def) (old : Draft) (r : Result Meaning (Stop Fault)) (new : Draft) → def ≡ other → Drafts Below MeaningBelow (meaning_drafted names scope unit other) old r new → MeaningComes old r new
    as-def other old r new is y = subst (λ d. Drafts Below MeaningBelow (meaning_drafted names scope unit d) old r new) (sym is) y

    pub type-given : (d : TypeDef) (tree : TypeTree) (t : Ty) (old new : Draft) → def ≡ TypeOf d → tree ≡ d.ty.value → Drafts Below TyBelow (drafted names scope (descriptor_of tree)) old (Ok t) new
        → MeaningComes old (Ok (TypeName t)) new
    type-given d tree t old new is same y = as-def (TypeOf d) old (Ok (TypeName t)) new is
        (drafts-on Below TyBelow MeaningBelow (drafted names scope (descriptor_of d.ty.value)) (λ t. kept_by numbered_on (wherever names) names t ▷ λ u. gives (TypeName u)) old new new t (Ok (TypeName t))
        (of-tree tree d.ty.value old (Ok t) new same y) (kept-so (λ n. Below n × TyBelow n t) TypeName (λ n u h. h) t t new (λ env. same-itself env t t refl) (λ n g. g.1)))

    pub type-stops : (d : TypeDef) (tree : TypeTree) (stop : Stop Fault) (old new : Draft) → def ≡ TypeOf d → tree ≡ d.ty.value → Drafts Below TyBelow (drafted names scope (descriptor_of tree)) old (Err stop) new
        → MeaningComes old (Err stop) new
    type-stops d tree stop old new is same y = as-def (TypeOf d) old (Err stop) new is
        (drafts-stops Below TyBelow MeaningBelow (drafted names scope (descriptor_of d.ty.value)) (λ t. kept_by numbered_on (wherever names) names t ▷ λ u. gives (TypeName u)) old new stop
        (of-tree tree d.ty.value old (Err stop) new same y))

    pub variable-given : (d : VariableDef) (tree : TypeTree) (t u : Ty) (old new : Draft) → def ≡ VariableOf d → tree ≡ d.ty.value → IsFlatType t u
        → Drafts Below TyBelow (drafted names scope (descriptor_of tree)) old (Ok t) new → MeaningComes old (Ok (Variable unit.variables d.is_final u)) new
    variable-given d tree t u old new is same flat y = as-def (VariableOf d) old (Ok (Variable unit.variables d.is_final u)) new is
        (drafts-on Below TyBelow MeaningBelow (drafted names scope (descriptor_of d.ty.value)) (λ t. kept_by numbered_on (wherever names) names t ▷ λ u. gives (Variable unit.variables d.is_final u)) old new new t (Ok (Variable unit.variables d.is_final u))
        (of-tree tree d.ty.value old (Ok t) new same y) (kept-so (λ n. Below n × TyBelow n t) (Variable unit.variables d.is_final) (λ n u h. h) t u new (λ env. flat-rewritten env t u flat) (λ n g. flat-type-below n t u flat g.1)))

    pub variable-stops : (d : VariableDef) (tree : TypeTree) (stop : Stop Fault) (old new : Draft) → def ≡ VariableOf d → tree ≡ d.ty.value → Drafts Below TyBelow (drafted names scope (descriptor_of tree)) old (Err stop) new
        → MeaningComes old (Err stop) new
    variable-stops d tree stop old new is same y = as-def (VariableOf d) old (Err stop) new is
        (drafts-stops Below TyBelow MeaningBelow (drafted names scope (descriptor_of d.ty.value)) (λ t. kept_by numbered_on (wherever names) names t ▷ λ u. gives (Variable unit.variables d.is_final u)) old new stop
        (of-tree tree d.ty.value old (Err stop) new same y))

    -- memory was wanted behind the draft
    pub variable-lacks : (d : VariableDef) (tree : TypeTree) (t : Ty) (old new : Draft) → def ≡ VariableOf d → tree ≡ d.ty.value → Drafts Below TyBelow (drafted names scope (descriptor_of tree)) old (Ok t) new
        → MeaningComes old (Err Memory) new
    variable-lacks d tree t old new is same y = as-def (VariableOf d) old (Err Memory) new is
        (drafts-on Below TyBelow MeaningBelow (drafted names scope (descriptor_of d.ty.value)) (λ t. kept_by numbered_on (wherever names) names t ▷ λ u. gives (Variable unit.variables d.is_final u)) old new new t (Err Memory)
        (of-tree tree d.ty.value old (Ok t) new same y) (drafts-ran_out (λ n. Below n × TyBelow n t) MeaningBelow new _))

    pub const-comes : (d : ConstDef) (r : Result Meaning (Stop Fault)) (old new : Draft) → def ≡ Const d → Drafts Below MeaningBelow (constant_drafted names scope d) old r new → MeaningComes old r new
    const-comes d r old new is y = as-def (Const d) old r new is y

    pub function-given : (d : FunctionDef) (s : Signature) (old new : Draft) → def ≡ FunctionOf d → Drafts Below SignatureBelow (signature_drafted names scope unit.functions d) old (Ok s) new → MeaningComes old (Ok (Function s)) new
    function-given d s old new is y = as-def (FunctionOf d) old (Ok (Function s)) new is
        (drafts-on Below SignatureBelow MeaningBelow (signature_drafted names scope unit.functions d) (λ s. gives (Function s)) old new new s (Ok (Function s)) y
        (drafts-just (λ n. Below n × SignatureBelow n s) MeaningBelow new (Function s) (Function s) refl (λ n le g. g.1)))

    pub function-stops : (d : FunctionDef) (stop : Stop Fault) (old new : Draft) → def ≡ FunctionOf d → Drafts Below SignatureBelow (signature_drafted names scope unit.functions d) old (Err stop) new → MeaningComes old (Err stop) new
    function-stops d stop old new is y = as-def (FunctionOf d) old (Err stop) new is
        (drafts-stops Below SignatureBelow MeaningBelow (signature_drafted names scope unit.functions d) (λ s. gives (Function s)) old new stop y)

  pub constant-given : (d : ConstDef) (t : Ty) (declared : Option Ty) (old new : Draft) → t ≡ plain (Basic (value_set d.value)) → Drafts Below IfBelow (drafted_if names scope (descriptor_if d.ty)) old (Ok declared) new
      → Drafts Below MeaningBelow (constant_drafted names scope d) old (Ok (Constant t)) new
  constant-given d t declared old new is y =
      drafts-on Below IfBelow MeaningBelow (drafted_if names scope (descriptor_if d.ty)) (λ declared. gives (Constant (plain (Basic (value_set d.value))))) old new new declared (Ok (Constant t)) y
      (drafts-just (λ n. Below n × IfBelow n declared) MeaningBelow new (Constant (plain (Basic (value_set d.value)))) (Constant t) (ap Constant is) (λ n le g. (tt, All-nil _, All-nil _)))

  pub constant-stops : (d : ConstDef) (stop : Stop Fault) (old new : Draft) → Drafts Below IfBelow (drafted_if names scope (descriptor_if d.ty)) old (Err stop) new
      → Drafts Below MeaningBelow (constant_drafted names scope d) old (Err stop) new
  constant-stops d stop old new y =
      drafts-stops Below IfBelow MeaningBelow (drafted_if names scope (descriptor_if d.ty)) (λ declared. gives (Constant (plain (Basic (value_set d.value))))) old new stop y

  -- the signature of a function of these types
  module _ (unit : ℕ) (d : FunctionDef) (fixed : List Ty) (rest : Option Ty) (result : Ty) where
    abbrev pub Parts : ℕ → Type 0
    Parts n = (AllBelow n fixed × IfBelow n rest) × TyBelow n result

    pub signed-given : (s : Signature) (v : Values) (old new : Draft) → s.unit ≡ unit → s.isolated ≡ d.isolated → AllZip IsFlatType fixed s.params → IsFlatIf rest s.rest → IsFlatType result s.result
        → s.arrow ≡ v.arrow → s.lists ≡ v.lists → s.future ≡ v.future → Drafts Parts ValuesBelow (values_drafted names scope d fixed rest result) old (Ok v) new
        → Drafts Parts SignatureBelow (signed_drafted names scope unit d fixed rest result) old (Ok s) new
    signed-given s v old new unit_is isolated params others result_is arrow lists future y =
        drafts-on Parts ValuesBelow SignatureBelow (values_drafted names scope d fixed rest result) (λ atoms. wherever names Signature (IsSignature unit d.isolated fixed rest result atoms)) old new new v (Ok s) y
        (drafts-given (λ n. Parts n × ValuesBelow n v) SignatureBelow new (λ old x. (env : Atoms) → AreOwnTypes env names.own → IsSignature unit d.isolated fixed rest result v env x) s
        (λ env own. record {
          unit_is = unit_is;
          isolated_is = isolated;
          params = flats-rewritten env fixed s.params params;
          rest_is = if-rewritten env rest s.rest others;
          result_is = flat-rewritten env result s.result result_is;
          arrow_is = arrow;
          lists_is = lists;
          future_is = future;
        })
        (λ n le g. (
          flats-below n fixed s.params params g.0.0.0,
          if-below n rest s.rest others g.0.0.1,
          flat-type-below n result s.result result_is g.0.1,
          subst (λ k. k < n) (sym arrow) g.1.0,
          subst (λ k. k < n) (sym lists) g.1.1,
          subst (λ k. k < n) (sym future) g.1.2,
        )))

    pub signed-stops : (stop : Stop Fault) (old new : Draft) → Drafts Parts ValuesBelow (values_drafted names scope d fixed rest result) old (Err stop) new
        → Drafts Parts SignatureBelow (signed_drafted names scope unit d fixed rest result) old (Err stop) new
    signed-stops stop old new y =
        drafts-stops Parts ValuesBelow SignatureBelow (values_drafted names scope d fixed rest result) (λ atoms. wherever names Signature (IsSignature unit d.isolated fixed rest result atoms)) old new stop y

  -- ---- the atoms of a function as a value, one behind another: what comes behind the first so many of them

  module _ (d : FunctionDef) (fixed : List Ty) (rest : Option Ty) (result : Ty) where
    abbrev Given : ℕ → Type 0
    Given n = (AllBelow n fixed × IfBelow n rest) × TyBelow n result

    abbrev pub ValuesCome : Draft → Result Values (Stop Fault) → Draft → Type 0
    ValuesCome = Drafts Given ValuesBelow (values_drafted names scope d fixed rest result)

    abbrev AtomComes : AtomDef → Draft → Result ℕ (Stop Fault) → Draft → Type 0
    AtomComes def = Drafts (λ n. DefBelow n def) IsAtom (numbered_on def d.at)

    abbrev with_future : ℕ → ℕ → Ty → Check Draft Values
    with_future arrow lists given = numbered_on (FutureAtom given.sem) d.at ▷ λ future. gives (values_of arrow lists future)

    abbrev with_given : ℕ → ℕ → Check Draft Values
    with_given arrow lists = kept_by numbered_on (wherever names) names result ▷ with_future arrow lists

    abbrev with_lists : ℕ → Option Ty → Check Draft Values
    with_lists arrow others = numbered_on (ListAtom [] others) d.at ▷ with_given arrow

    abbrev with_others : ℕ → Check Draft Values
    with_others arrow = wherever names (Option Ty) (λ env. IfRewritten env rest) ▷ with_lists arrow

    abbrev with_arrow : ℕ → Check Draft Values
    with_arrow arguments = numbered_on (Arrow (Atom arguments) result.sem d.isolated) d.at ▷ with_others

    module _ (s : Draft) where
      pub arguments-stop : (stop : Stop Fault) (t : Draft) → AtomComes (ListAtom fixed rest) s (Err stop) t → ValuesCome s (Err stop) t
      arguments-stop stop t y = drafts-stops Given IsAtom ValuesBelow (numbered_on (ListAtom fixed rest) d.at) with_arrow s t stop (given Given (λ n. DefBelow n (ListAtom fixed rest)) IsAtom _ s (Err stop) t y (λ n h. h.0))

      module _ (mid : Draft) (arguments : ℕ) (first : AtomComes (ListAtom fixed rest) s (Ok arguments) mid) where
        abbrev Given1 : ℕ → Type 0
        Given1 n = Given n × IsAtom n arguments

        on-arguments : (r : Result Values (Stop Fault)) (t : Draft) → Drafts Given1 ValuesBelow (with_arrow arguments) mid r t → ValuesCome s r t
        on-arguments r t y =
            drafts-on Given IsAtom ValuesBelow (numbered_on (ListAtom fixed rest) d.at) with_arrow s mid t arguments r
            (given Given (λ n. DefBelow n (ListAtom fixed rest)) IsAtom _ s (Ok arguments) mid first (λ n h. h.0)) y

        abbrev arrow_def : AtomDef
        arrow_def = Arrow (Atom arguments) result.sem d.isolated

        pub arrow-stops : (stop : Stop Fault) (t : Draft) → AtomComes arrow_def mid (Err stop) t → ValuesCome s (Err stop) t
        arrow-stops stop t y = on-arguments (Err stop) t
            (drafts-stops Given1 IsAtom ValuesBelow (numbered_on arrow_def d.at) with_others mid t stop (given Given1 (λ n. DefBelow n arrow_def) IsAtom _ mid (Err stop) t y (λ n h. (h.1, h.0.1.0))))

        module _ (far : Draft) (arrow : ℕ) (second : AtomComes arrow_def mid (Ok arrow) far) (others : Option Ty) (flat_rest : IsFlatIf rest others) where
          abbrev Given2 : ℕ → Type 0
          Given2 n = Given1 n × IsAtom n arrow

          abbrev Given3 : ℕ → Type 0
          Given3 n = Given2 n × IfBelow n others

          on-others : (r : Result Values (Stop Fault)) (t : Draft) → Drafts Given3 ValuesBelow (with_lists arrow others) far r t → ValuesCome s r t
          on-others r t y = on-arguments r t
              (drafts-on Given1 IsAtom ValuesBelow (numbered_on arrow_def d.at) with_others mid far t arrow r
              (given Given1 (λ n. DefBelow n arrow_def) IsAtom _ mid (Ok arrow) far second (λ n h. (h.1, h.0.1.0)))
              (drafts-on Given2 IfBelow ValuesBelow (wherever names (Option Ty) (λ env. IfRewritten env rest)) (with_lists arrow) far far t others r
              (drafts-given Given2 IfBelow far (λ old x. (env : Atoms) → AreOwnTypes env names.own → IfRewritten env rest x) others (λ env own. if-rewritten env rest others flat_rest)
              (λ n le g. if-below n rest others flat_rest g.0.0.0.1)) y))

          abbrev lists_def : AtomDef
          lists_def = ListAtom [] others

          pub lists-stop : (stop : Stop Fault) (t : Draft) → AtomComes lists_def far (Err stop) t → ValuesCome s (Err stop) t
          lists-stop stop t y = on-others (Err stop) t
              (drafts-stops Given3 IsAtom ValuesBelow (numbered_on lists_def d.at) (with_given arrow) far t stop (given Given3 (λ n. DefBelow n lists_def) IsAtom _ far (Err stop) t y (λ n h. (All-nil (TyBelow n), h.1))))

          module _ (last : Draft) (lists : ℕ) (third : AtomComes lists_def far (Ok lists) last) (awaited : Ty) (flat_result : IsFlatType result awaited) where
            abbrev Given4 : ℕ → Type 0
            Given4 n = Given3 n × IsAtom n lists

            abbrev Given5 : ℕ → Type 0
            Given5 n = Given4 n × TyBelow n awaited

            on-awaited : (r : Result Values (Stop Fault)) (t : Draft) → Drafts Given5 ValuesBelow (with_future arrow lists awaited) last r t → ValuesCome s r t
            on-awaited r t y = on-others r t
                (drafts-on Given3 IsAtom ValuesBelow (numbered_on lists_def d.at) (with_given arrow) far last t lists r
                (given Given3 (λ n. DefBelow n lists_def) IsAtom _ far (Ok lists) last third (λ n h. (All-nil (TyBelow n), h.1)))
                (drafts-on Given4 TyBelow ValuesBelow (kept_by numbered_on (wherever names) names result) (with_future arrow lists) last last t awaited r
                (drafts-given Given4 TyBelow last (λ old x. (env : Atoms) → AreOwnTypes env names.own → IsRewritten result env x) awaited (λ env own. flat-rewritten env result awaited flat_result)
                (λ n le g. flat-type-below n result awaited flat_result g.0.0.0.0.1)) y))

            abbrev future_def : AtomDef
            future_def = FutureAtom awaited.sem

            pub future-stops : (stop : Stop Fault) (t : Draft) → AtomComes future_def last (Err stop) t → ValuesCome s (Err stop) t
            future-stops stop t y = on-awaited (Err stop) t
                (drafts-stops Given5 IsAtom ValuesBelow (numbered_on future_def d.at) (λ future. gives (values_of arrow lists future)) last t stop
                (given Given5 (λ n. DefBelow n future_def) IsAtom _ last (Err stop) t y (λ n h. h.1.0)))

            pub values-come : (future : ℕ) (t : Draft) → AtomComes future_def last (Ok future) t → ValuesCome s (Ok (values_of arrow lists future)) t
            values-come future t y = on-awaited (Ok (values_of arrow lists future)) t
                (drafts-on Given5 IsAtom ValuesBelow (numbered_on future_def d.at) (λ future. gives (values_of arrow lists future)) last t t future (Ok (values_of arrow lists future))
                (given Given5 (λ n. DefBelow n future_def) IsAtom _ last (Ok future) t y (λ n h. h.1.0))
                (drafts-just (λ n. Given5 n × IsAtom n future) ValuesBelow t (values_of arrow lists future) (values_of arrow lists future) refl (λ n le g. (g.0.0.0.0.1, g.0.0.1, g.1))))

  -- the types of the parameters, by another list of them that is the same
  pub of-params : (params others : List Param) (old : Draft) (r : Result (List Ty) (Stop Fault)) (new : Draft) → params ≡ others
      → Drafts Below AllBelow (all_drafted names scope [] (in_a_row (map param_descriptor params))) old r new → Drafts Below AllBelow (all_drafted names scope [] (in_a_row (map param_descriptor others))) old r new
  of-params params others old r new same y = subst (λ ps. Drafts Below AllBelow (all_drafted names scope [] (in_a_row (map param_descriptor ps))) old r new) same y
