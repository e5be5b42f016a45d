-- Input and output: what is shared stays good where only they change.
use Rattle.std.proofs.Common.{◌≡◌, ◌<◌, ◌≤◌, ◌++◌, ℕ, List, [], Option, Some, None, length, refl, subst}
use Rattle.std.proofs.lemmas.Str.{scalars-chars}
use Rattle.std.specs.Prelude.{IsTrue, IsUtf8, chars, drop, encode_utf8_all}
use Rattle.std.specs.List.{after_first}
use Rattle.bal_base.specs.declared.text.Text.{Text}
use Rattle.bal_io.specs.Content.{first_line, is_line_feed, line_text}
use Rattle.type_model.specs.declared.basic.SemType.{SemType}
use Rattle.operations.specs.declared.operation.Constant.TheVariants.{Nil as NilConstant}
use Rattle.operations.specs.Kinds.{IsNil, IsString}
use Rattle.operations.specs.Rows.{ResultHas}
use Rattle.value_model.specs.declared.panics.PanicName.TheVariants.{BadInput, TooLong}
use Rattle.value_model.specs.declared.value.Value.TheVariants.{Nil, Str}
use Rattle.value_model.specs.World.{Came, Gave, PassesCells, Threw}
use Rattle.op_model.specs.Common.{AllEnded, AnyGiven, Common, Message, Need, Received, Role}
use Rattle.op_model.specs.Effects.{lifted, with_world}
use Rattle.op_model.specs.Library.{Reads, ReadsAfter, ReadsAs, with_input, written}
use Rattle.op_model.specs.Limits.{most_code_points, most_line_bytes}
use Rattle.op_model.specs.Rows.{gives, panics}
use Rattle.op_model.specs.Strands.{end_in, met}
use Rattle.machine_model.specs.Runs.{Running}
use Rattle.stack_code.specs.declared.code.Code.{Code}
use Rattle.stack_code.specs.Good.{GoodCommon, IsLater, NeedIsThere, WorkerStays}
use Rattle.stack_code.specs.Values.{GoodHeap}
use Rattle.code_keeping.specs.Rows.{EffectTyped}
use Rattle.code_keeping.proofs.Coming.{Does, does-unless, does-where, gives-typed, panics-typed}
use Rattle.code_keeping.proofs.Itself.{its-shape}
use Rattle.code_keeping.proofs.Later.{activation-later, end-later, to-run-later, variables-later}
use Rattle.code_keeping.proofs.Staying.{same}
use Rattle.code_keeping.proofs.Valuing.{does-text, text-typed}

module _ (code : Code) (c : Common) (good : GoodCommon code c Running) (input output : List ℕ) where
  abbrev pub d : Common
  d = with_world c (record { heap = c.world.heap; input = input; output = output })

  later : (q : Option Role) → IsLater q c d
  later q = record { heap = (same q c).heap; closed = λ h. h; strands = (same q c).strands; calls = (same q c).calls; worker = stay q }
    where
      stay : (q : Option Role) → WorkerStays q c d
      stay (Some r) = ((λ w. (refl, refl)), refl)
      stay None = tt

  heap-so : GoodHeap code c → GoodHeap code d
  heap-so h = record { mutable = h.mutable; immutable = h.immutable; members = h.members; functions = h.functions; valid = h.valid; closed = h.closed; short = h.short; apart = h.apart }

  need-so : (need : Need) → NeedIsThere code c need → NeedIsThere code d need
  need-so (Message a from to) m = m
  need-so (Received a from to count) m = m
  need-so (AllEnded ns) m = m
  need-so (AnyGiven ns) m = m

  met-so : (need : Need) → met d need ≡ met c need
  met-so (Message a from to) = refl
  met-so (Received a from to count) = refl
  met-so (AllEnded ns) = refl
  met-so (AnyGiven ns) = refl

  pub beside-good : GoodCommon code d Running
  beside-good =
      let n = good.nearly in
      record {
        nearly = record {
          heap = heap-so n.heap;
          variables = variables-later code c d (later None) c.variables code.variables n.variables;
          strands = λ k s e. let fits = n.strands k s e in record { end = end-later code c d (later None) k s.unit (end_in s.status) fits.end; need = λ need m. need-so need (fits.need need m); before = fits.before; taken = fits.taken };
          activations = λ a x e. activation-later code c d (later None) a x (n.activations a x e);
          to_run = to-run-later code c d (later None) c.to_run n.to_run;
          ready = record { active = n.ready.active; once = n.ready.once; known = n.ready.known; running = n.ready.running; there = n.ready.there };
          main = n.main;
        };
        settled = λ k s e need is m. good.settled k s e need is (subst IsTrue (met-so need) m);
      }

  -- what comes later than the state beside comes later than the state before
  earlier : (q : Option Role) (e : Common) → IsLater q d e → IsLater q c e
  earlier q e l = record { heap = l.heap; closed = l.closed; strands = l.strands; calls = l.calls; worker = stays q l.worker }
    where
      stays : (q : Option Role) → WorkerStays q d e → WorkerStays q c e
      stays (Some r) h = h
      stays None h = h

  pub back : (result : Option SemType) (came : Came) → EffectTyped code d result (lifted d came) → EffectTyped code c result (lifted c came)
  back result (Gave vs w) (better, keeps, later, fit) = (better, (keeps.0, keeps.1), (λ q. earlier q (with_world c w) (later q)), fit)
  back result (Threw v w) (nearly, keeps, later, error) = (nearly, (keeps.0, keeps.1), (λ q. earlier q (with_world c w) (later q)), error)
  back result PassesCells h = tt

  -- what is done beside is done here
  pub does-beside : (result : Option SemType) (Q : Came → Type 0) → Does code d beside-good result Q → Does code c good result Q
  does-beside result Q h = ((λ came q. back result came (h.0 came q)), h.1)

-- a text is written, and nil is given
pub written-typed : (code : Code) (c : Common) (good : GoodCommon code c Running) (t : Text) (result : Option SemType) → ResultHas code.atoms result IsNil → EffectTyped code c result (lifted c (gives (written c.world t) Nil))
written-typed code c good t result has =
    let o = c.world.output ++ encode_utf8_all t in
    back code c good c.world.input o result (gives (written c.world t) Nil)
    (gives-typed code (d code c good c.world.input o) (beside-good code c good c.world.input o) result Nil IsNil has (tt, tt, tt) (λ x valid s. its-shape code (d code c good c.world.input o) NilConstant x s))

-- a line is read
pub does-read : (code : Code) (c : Common) (good : GoodCommon code c Running) (result : Option SemType) → ResultHas code.atoms result IsString → Does code c good result (Reads c.world)
does-read code c good result has =
    does-where code c good result (c.world.input ≡ []) (gives c.world (Str [])) _ (text-typed code c good result [] refl has)
    (λ some. does-where code c good result (most_line_bytes < length (first_line c.world.input)) (panics (with_input c.world rest) TooLong) _
    (back code c good rest c.world.output result (panics (with_input c.world rest) TooLong) (panics-typed code (d code c good rest c.world.output) (beside-good code c good rest c.world.output) result TooLong refl))
    (λ short. does-beside code c good behind c.world.output result (ReadsAs (with_input c.world behind) line)
    (does-unless code (d code c good behind c.world.output) (beside-good code c good behind c.world.output) result (IsUtf8 line) (panics (with_input c.world behind) BadInput) _
    (panics-typed code (d code c good behind c.world.output) (beside-good code c good behind c.world.output) result BadInput refl)
    (λ utf8. does-text code (d code c good behind c.world.output) (beside-good code c good behind c.world.output) result (chars line) (scalars-chars line utf8) has))))
  where
    rest : List ℕ
    rest = drop most_line_bytes c.world.input

    behind : List ℕ
    behind = after_first is_line_feed c.world.input

    line : List ℕ
    line = line_text c.world.input

-- also behind a prompt
pub does-ask : (code : Code) (c : Common) (good : GoodCommon code c Running) (result : Option SemType) (t : Text) → ResultHas code.atoms result IsString → Does code c good result (ReadsAfter c.world t)
does-ask code c good result t has =
    let o = c.world.output ++ encode_utf8_all t in
    does-unless code c good result (length t ≤ most_code_points) (panics c.world TooLong) _ (panics-typed code c good result TooLong refl)
    (λ short. does-beside code c good c.world.input o result (Reads (written c.world t)) (does-read code (d code c good c.world.input o) (beside-good code c good c.world.input o) result has))
