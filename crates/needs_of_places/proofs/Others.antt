-- What the instructions of other groups need.
use Rattle.std.proofs.Common.{◌≡◌, ℕ, Bool, List, Option, None, refl}
use Rattle.type_model.specs.declared.basic.SemType.{SemType}
use Rattle.stack_code.specs.declared.code.Code.{Code}
use Rattle.stack_code.specs.declared.instr.Instr.{Instr}
use Rattle.stack_code.specs.declared.instr.Instr.TheVariants as instr
use Rattle.stack_code.specs.Commands.{command_of}
use Rattle.needs_of_places.specs.declared.site.Site.{Site}
use Rattle.needs_of_places.specs.inner.Grouped.{made_command, named_command, plain_command, simple_command}
use Rattle.needs_of_places.specs.Sites.{row_at}

pub no-simple : (i : Instr) → (i ≡ instr.Add → ⊥) → (i ≡ instr.Sub → ⊥) → (i ≡ instr.Mul → ⊥) → (i ≡ instr.Div → ⊥) → (i ≡ instr.Rem → ⊥) → (i ≡ instr.Neg → ⊥) → (i ≡ instr.Concat → ⊥) → (i ≡ instr.Less → ⊥) → (i ≡ instr.LessEqual → ⊥) → (i ≡ instr.Not → ⊥) → (i ≡ instr.Equal → ⊥) → (i ≡ instr.Same → ⊥) → (i ≡ instr.GetChar → ⊥) → simple_command i ≡ None
no-simple instr.Add e0 e1 e2 e3 e4 e5 e6 e7 e8 e9 e10 e11 e12 = absurd (e0 refl)
no-simple instr.Sub e0 e1 e2 e3 e4 e5 e6 e7 e8 e9 e10 e11 e12 = absurd (e1 refl)
no-simple instr.Mul e0 e1 e2 e3 e4 e5 e6 e7 e8 e9 e10 e11 e12 = absurd (e2 refl)
no-simple instr.Div e0 e1 e2 e3 e4 e5 e6 e7 e8 e9 e10 e11 e12 = absurd (e3 refl)
no-simple instr.Rem e0 e1 e2 e3 e4 e5 e6 e7 e8 e9 e10 e11 e12 = absurd (e4 refl)
no-simple instr.Neg e0 e1 e2 e3 e4 e5 e6 e7 e8 e9 e10 e11 e12 = absurd (e5 refl)
no-simple instr.Concat e0 e1 e2 e3 e4 e5 e6 e7 e8 e9 e10 e11 e12 = absurd (e6 refl)
no-simple instr.Less e0 e1 e2 e3 e4 e5 e6 e7 e8 e9 e10 e11 e12 = absurd (e7 refl)
no-simple instr.LessEqual e0 e1 e2 e3 e4 e5 e6 e7 e8 e9 e10 e11 e12 = absurd (e8 refl)
no-simple instr.Not e0 e1 e2 e3 e4 e5 e6 e7 e8 e9 e10 e11 e12 = absurd (e9 refl)
no-simple instr.Equal e0 e1 e2 e3 e4 e5 e6 e7 e8 e9 e10 e11 e12 = absurd (e10 refl)
no-simple instr.Same e0 e1 e2 e3 e4 e5 e6 e7 e8 e9 e10 e11 e12 = absurd (e11 refl)
no-simple instr.GetChar e0 e1 e2 e3 e4 e5 e6 e7 e8 e9 e10 e11 e12 = absurd (e12 refl)
no-simple _ e0 e1 e2 e3 e4 e5 e6 e7 e8 e9 e10 e11 e12 = refl

pub no-plain : (i : Instr) → (i ≡ instr.Pop → ⊥) → (i ≡ instr.Tick → ⊥) → (i ≡ instr.GetItem → ⊥) → (i ≡ instr.GetKey → ⊥) → (i ≡ instr.SetItem → ⊥) → (i ≡ instr.SetKey → ⊥) → ((x : ℕ) → i ≡ instr.CallValue x → ⊥) → (i ≡ instr.Panic → ⊥) → ((x : ℕ) → i ≡ instr.StartValue x → ⊥) → (i ≡ instr.Workers → ⊥) → ((x : ℕ) → i ≡ instr.Send x → ⊥) → ((x : ℕ) → i ≡ instr.Post x → ⊥) → ((x : ℕ) → i ≡ instr.Done x → ⊥) → ((x : ℕ) → i ≡ instr.Receive x → ⊥) → ((x : ℕ) → i ≡ instr.Flush x → ⊥) → plain_command i ≡ simple_command i
no-plain instr.Pop e0 e1 e2 e3 e4 e5 e6 e7 e8 e9 e10 e11 e12 e13 e14 = absurd (e0 refl)
no-plain instr.Tick e0 e1 e2 e3 e4 e5 e6 e7 e8 e9 e10 e11 e12 e13 e14 = absurd (e1 refl)
no-plain instr.GetItem e0 e1 e2 e3 e4 e5 e6 e7 e8 e9 e10 e11 e12 e13 e14 = absurd (e2 refl)
no-plain instr.GetKey e0 e1 e2 e3 e4 e5 e6 e7 e8 e9 e10 e11 e12 e13 e14 = absurd (e3 refl)
no-plain instr.SetItem e0 e1 e2 e3 e4 e5 e6 e7 e8 e9 e10 e11 e12 e13 e14 = absurd (e4 refl)
no-plain instr.SetKey e0 e1 e2 e3 e4 e5 e6 e7 e8 e9 e10 e11 e12 e13 e14 = absurd (e5 refl)
no-plain (instr.CallValue x) e0 e1 e2 e3 e4 e5 e6 e7 e8 e9 e10 e11 e12 e13 e14 = absurd (e6 x refl)
no-plain instr.Panic e0 e1 e2 e3 e4 e5 e6 e7 e8 e9 e10 e11 e12 e13 e14 = absurd (e7 refl)
no-plain (instr.StartValue x) e0 e1 e2 e3 e4 e5 e6 e7 e8 e9 e10 e11 e12 e13 e14 = absurd (e8 x refl)
no-plain instr.Workers e0 e1 e2 e3 e4 e5 e6 e7 e8 e9 e10 e11 e12 e13 e14 = absurd (e9 refl)
no-plain (instr.Send x) e0 e1 e2 e3 e4 e5 e6 e7 e8 e9 e10 e11 e12 e13 e14 = absurd (e10 x refl)
no-plain (instr.Post x) e0 e1 e2 e3 e4 e5 e6 e7 e8 e9 e10 e11 e12 e13 e14 = absurd (e11 x refl)
no-plain (instr.Done x) e0 e1 e2 e3 e4 e5 e6 e7 e8 e9 e10 e11 e12 e13 e14 = absurd (e12 x refl)
no-plain (instr.Receive x) e0 e1 e2 e3 e4 e5 e6 e7 e8 e9 e10 e11 e12 e13 e14 = absurd (e13 x refl)
no-plain (instr.Flush x) e0 e1 e2 e3 e4 e5 e6 e7 e8 e9 e10 e11 e12 e13 e14 = absurd (e14 x refl)
no-plain _ e0 e1 e2 e3 e4 e5 e6 e7 e8 e9 e10 e11 e12 e13 e14 = refl

pub no-named : (code : Code) (i : Instr) → ((x : ℕ) → i ≡ instr.Const x → ⊥) → ((x : ℕ) → i ≡ instr.Load x → ⊥) → ((x : ℕ) → i ≡ instr.Store x → ⊥) → ((x : ℕ) → i ≡ instr.LoadModule x → ⊥) → ((x : ℕ) → i ≡ instr.StoreModule x → ⊥) → ((x : ℕ) → i ≡ instr.Test x → ⊥) → ((x : ℕ) → i ≡ instr.Cast x → ⊥) → ((x : ℕ) → i ≡ instr.Call x → ⊥) → (i ≡ instr.Return → ⊥) → named_command code i ≡ plain_command i
no-named code (instr.Const x) e0 e1 e2 e3 e4 e5 e6 e7 e8 = absurd (e0 x refl)
no-named code (instr.Load x) e0 e1 e2 e3 e4 e5 e6 e7 e8 = absurd (e1 x refl)
no-named code (instr.Store x) e0 e1 e2 e3 e4 e5 e6 e7 e8 = absurd (e2 x refl)
no-named code (instr.LoadModule x) e0 e1 e2 e3 e4 e5 e6 e7 e8 = absurd (e3 x refl)
no-named code (instr.StoreModule x) e0 e1 e2 e3 e4 e5 e6 e7 e8 = absurd (e4 x refl)
no-named code (instr.Test x) e0 e1 e2 e3 e4 e5 e6 e7 e8 = absurd (e5 x refl)
no-named code (instr.Cast x) e0 e1 e2 e3 e4 e5 e6 e7 e8 = absurd (e6 x refl)
no-named code (instr.Call x) e0 e1 e2 e3 e4 e5 e6 e7 e8 = absurd (e7 x refl)
no-named code instr.Return e0 e1 e2 e3 e4 e5 e6 e7 e8 = absurd (e8 refl)
no-named code _ e0 e1 e2 e3 e4 e5 e6 e7 e8 = refl

pub no-made : (code : Code) (i : Instr) → ((x : ℕ) (y : ℕ) (z : Bool) → i ≡ instr.MakeList x y z → ⊥) → ((x : ℕ) (y : ℕ) (z : Bool) → i ≡ instr.MakeMap x y z → ⊥) → ((x : ℕ) → i ≡ instr.MakeError x → ⊥) → ((x : ℕ) (y : ℕ) → i ≡ instr.MakeFunction x y → ⊥) → ((x : ℕ) → i ≡ instr.GetField x → ⊥) → ((x : ℕ) → i ≡ instr.GetOptional x → ⊥) → ((x : ℕ) → i ≡ instr.StartCall x → ⊥) → ((x : ℕ) → i ≡ instr.WaitWorker x → ⊥) → (i ≡ instr.WaitFuture → ⊥) → made_command code i ≡ named_command code i
no-made code (instr.MakeList x y z) e0 e1 e2 e3 e4 e5 e6 e7 e8 = absurd (e0 x y z refl)
no-made code (instr.MakeMap x y z) e0 e1 e2 e3 e4 e5 e6 e7 e8 = absurd (e1 x y z refl)
no-made code (instr.MakeError x) e0 e1 e2 e3 e4 e5 e6 e7 e8 = absurd (e2 x refl)
no-made code (instr.MakeFunction x y) e0 e1 e2 e3 e4 e5 e6 e7 e8 = absurd (e3 x y refl)
no-made code (instr.GetField x) e0 e1 e2 e3 e4 e5 e6 e7 e8 = absurd (e4 x refl)
no-made code (instr.GetOptional x) e0 e1 e2 e3 e4 e5 e6 e7 e8 = absurd (e5 x refl)
no-made code (instr.StartCall x) e0 e1 e2 e3 e4 e5 e6 e7 e8 = absurd (e6 x refl)
no-made code (instr.WaitWorker x) e0 e1 e2 e3 e4 e5 e6 e7 e8 = absurd (e7 x refl)
no-made code instr.WaitFuture e0 e1 e2 e3 e4 e5 e6 e7 e8 = absurd (e8 refl)
no-made code _ e0 e1 e2 e3 e4 e5 e6 e7 e8 = refl

pub no-row : (site : Site) (ts : List SemType) (r : Option SemType) (i : Instr) → ((x : ℕ) (y : ℕ) (z : ℕ) → i ≡ instr.Native x y z → ⊥) → ((x : List (Option ℕ)) → i ≡ instr.WaitAny x → ⊥) → ((x : ℕ) (y : List (Option ℕ)) → i ≡ instr.WaitAll x y → ⊥) → row_at site ts r (command_of site.code.now i) ≡ row_at site ts r (made_command site.code.now i)
no-row site ts r (instr.Native x y z) e0 e1 e2 = absurd (e0 x y z refl)
no-row site ts r (instr.WaitAny x) e0 e1 e2 = absurd (e1 x refl)
no-row site ts r (instr.WaitAll x y) e0 e1 e2 = absurd (e2 x y refl)
no-row site ts r _ e0 e1 e2 = refl
