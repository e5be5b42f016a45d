-- Worked texts.
use Rattle.std.specs.Prelude.{◌≡◌, true, false, [], ◌∷◌, Some, None, codes}
use Rattle.stack_code.specs.declared.instr.Instr.TheVariants.{Const, Pop, Tick, Add, Mul, MakeList, MakeMap, Test, Native, Return, Workers, Send, Receive, WaitAny, WaitAll}
use Rattle.code_texts.specs.CodeText.{lines_from}

-- that of `io:println(1 + 2 * 3);` as the body of main
abbrev pub SumIsPrinted : Type 0
SumIsPrinted =
    lines_from 0 (Tick ∷ Const 0 ∷ Const 1 ∷ Const 2 ∷ Mul ∷ Add ∷ Native 0 0 1 ∷ Pop ∷ Const 3 ∷ Return ∷ [])
    ≡ codes "0 Tick\n1 Const 0\n2 Const 1\n3 Const 2\n4 Mul\n5 Add\n6 Native 0 0 1\n7 Pop\n8 Const 3\n9 Return\n"

-- a wait for the worker 1 or a future, and one for a future and the worker 2
abbrev pub SendsAndWaits : Type 0
SendsAndWaits =
    lines_from 97 (Workers ∷ Send 1 ∷ Receive 2 ∷ WaitAny (Some 1 ∷ None ∷ []) ∷ WaitAll 40 (None ∷ Some 2 ∷ []) ∷ [])
    ≡ codes "97 Workers\n98 Send 1\n99 Receive 2\n100 WaitAny 1 -\n101 WaitAll 40 - 2\n"

-- a list of three items, an immutable mapping of one pair, and a test
abbrev pub MakesAndTests : Type 0
MakesAndTests =
    lines_from 5 (MakeList 16 3 false ∷ MakeMap 17 1 true ∷ Test 0 ∷ [])
    ≡ codes "5 MakeList 16 3 0\n6 MakeMap 17 1 1\n7 Test 0\n"
