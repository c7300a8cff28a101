-- Document 01, "Both sides of the edges": cases A to J as one table. Each row is what the definitions give and what the page says.
use Rattle.std.specs.Prelude.{ℕ, List, [], ◌∷◌, ◌++◌, cond, eqb, replicate}
use Rattle.rules.specs.declared.Line.TheVariants.{Copy, Tail, Cell as CellLine}
use Rattle.rules.specs.declared.Event.{Event}
use Rattle.rules.specs.declared.Event.TheVariants.{Put, Take, Go, Back, Cut as CutEvent}
use Rattle.rules.specs.declared.Answer.{Answer}
use Rattle.rules.specs.declared.Answer.TheVariants.{Refused, Begun, Drew, Looked, SawHead, Landed, Asked, Waiting, Ok, Closed, SetClosed, Took, Passed, SawTail, Lifted, Copied, Empty, Written, Cut}
use Rattle.rules.specs.Memory.{size}
use Rattle.rules.specs.Answers.{by, found}
use Rattle.rules.specs.Cut.{Entry, entry, finds, queue_of}
use Rattle.rules.specs.Refusals.{kept_refusal}
use Rattle.rules.specs.Events.{fresh_state, after, answers}

-- every answer of a run, and what a cut at its end queues
pub record Result : Type 0 where
  pub answers : List Answer
  pub queue : List Entry

abbrev pub gives : List Answer → List Entry → Result
gives a q = record { answers = a; queue = q }

pub record Case : Type 0 where
  pub worked : Result
  pub page : Result

abbrev pub case : Result → Result → Case
case w p = record { worked = w; page = p }

-- a run from a fresh ring over memory that held sevens
abbrev pub from_fresh : ℕ → ℕ → ℕ → List Event → Result
from_fresh R n S es =
    let m : List ℕ = replicate (size R n) 7 in
    gives (answers (fresh_state R n S m m) es) (queue_of R n (after (fresh_state R n S m m) es).kept)

-- a cut of a kept image at an event count
abbrev pub from_kept : ℕ → ℕ → ℕ → ℕ → List ℕ → Result
from_kept R n S e m = gives (cond (eqb (kept_refusal R n S e m) 0) (Cut (finds R n m) ∷ []) (Refused (kept_refusal R n S e m) ∷ [])) (queue_of R n m)

-- k steps of thread i
abbrev pub go : ℕ → ℕ → List Event
go i k = replicate k (Go i)

-- a put by thread 0 that lands at once in cell j and is confirmed
abbrev pub puts : ℕ → ℕ → List Event
puts j i = Put 0 i ∷ go 0 4 ++ Back (CellLine j) ∷ go 0 1

abbrev pub confirmed : ℕ → ℕ → ℕ → List Answer
confirmed x j i = Begun 0 ∷ Drew (by 0 x) ∷ Looked (by 0 x) j ∷ Landed (by 0 x) j i ∷ Asked (by 0 x) ∷ Written (CellLine j) ∷ Ok (by 0 x) i ∷ []

-- A's run up to its cut
abbrev pub run_a : List Event
run_a = puts 0 711 ++ Take 1 ∷ go 1 3

abbrev pub said_a : List Answer
said_a = confirmed 0 0 711 ++ Begun 1 ∷ Drew (by 1 0) ∷ Looked (by 1 0) 0 ∷ Took (by 1 0) 0 711 ∷ []

-- F with R 1: one put confirmed, a second draws 1 and sets closed; then CLOSED
abbrev pub run_f : List Event
run_f = puts 0 711 ++ Put 0 712 ∷ go 0 4

abbrev pub said_f : List Answer
said_f = confirmed 0 0 711 ++ Begun 0 ∷ Drew (by 0 1) ∷ Looked (by 0 1) 0 ∷ SawHead (by 0 1) 0 ∷ SetClosed (by 0 1) ∷ []

abbrev pub run_closed : List Event
run_closed = run_f ++ go 0 2 ++ Back Tail ∷ go 0 1

abbrev pub said_closed : List Answer
said_closed = said_f ++ Asked (by 0 1) ∷ Waiting (by 0 1) ∷ Written Tail ∷ Closed (by 0 1) ∷ []

-- G: a, b, c, d confirmed; a take draws 0; another draws 1 and takes b; a put of e draws 4, fails, draws 5, lands, is confirmed
abbrev pub run_g : List Event
run_g =
    puts 0 101 ++ puts 1 102 ++ puts 2 103 ++ puts 3 104 ++ Take 1 ∷ go 1 1 ++ Take 2 ∷ go 2 3
    ++ Put 0 105 ∷ go 0 7 ++ Back (CellLine 1) ∷ go 0 1 ++ CutEvent ∷ []

abbrev pub said_g : List Answer
said_g =
    confirmed 0 0 101 ++ confirmed 1 1 102 ++ confirmed 2 2 103 ++ confirmed 3 3 104
    ++ Begun 1 ∷ Drew (by 1 0) ∷ Begun 2 ∷ Drew (by 2 1) ∷ Looked (by 2 1) 1 ∷ Took (by 2 1) 1 102
    ∷ Begun 0 ∷ Drew (by 0 4) ∷ Looked (by 0 4) 0 ∷ SawHead (by 0 4) 2
    ∷ Drew (by 0 5) ∷ Looked (by 0 5) 1 ∷ Landed (by 0 5) 1 105 ∷ Asked (by 0 5) ∷ Written (CellLine 1) ∷ Ok (by 0 5) 105
    ∷ Cut (found 2 2 6 0 3) ∷ []

-- H: R 5, indexes 0, 1, 2, 8 occupied, cell 4 blank at 4, with this mark on cell 3; one copy, closed and a Tail that isn't read
abbrev pub kept_h : ℕ → List ℕ
kept_h mark =
    1 ∷ 0 ∷ 100 ∷ 0
    ∷ 1 ∷ 1 ∷ 101 ∷ 0
    ∷ 1 ∷ 2 ∷ 102 ∷ 0
    ∷ 1 ∷ 8 ∷ 108 ∷ mark
    ∷ 1 ∷ 4 ∷ 0 ∷ 0
    ∷ 0 ∷ 0 ∷ 3 ∷ []

-- J: R 4, indexes 5 and 6 occupied, index 0 too and cell 3 blank at 7; copies 0 and 4
abbrev pub kept_j : List ℕ
kept_j =
    1 ∷ 0 ∷ 100 ∷ 0
    ∷ 1 ∷ 5 ∷ 105 ∷ 0
    ∷ 1 ∷ 6 ∷ 106 ∷ 0
    ∷ 1 ∷ 7 ∷ 0 ∷ 0
    ∷ 0 ∷ 4 ∷ 0 ∷ 3 ∷ []

unfoldable pub cases : List Case
cases =
    -- A
    case (from_fresh 4 2 16 (run_a ++ CutEvent ∷ [])) (gives (said_a ++ Cut (found 0 0 1 0 1) ∷ []) (entry 0 711 ∷ []))
    -- B: two steps of thread 1 and its copy written back before the cut
    ∷ case (from_fresh 4 2 16 (run_a ++ go 1 2 ++ Back (Copy 1) ∷ CutEvent ∷ []))
    (gives (said_a ++ Copied (by 1 0) 1 ∷ Asked (by 1 0) ∷ Written (Copy 1) ∷ Cut (found 1 1 1 0 0) ∷ []) [])
    -- C: cell 0 written back before the cut
    ∷ case (from_fresh 4 2 16 (run_a ++ Back (CellLine 0) ∷ CutEvent ∷ [])) (gives (said_a ++ Written (CellLine 0) ∷ Cut (found 1 1 1 0 0) ∷ []) [])
    -- D: the put landed and never written back
    ∷ case (from_fresh 4 2 16 (Put 0 711 ∷ go 0 3 ++ CutEvent ∷ []))
    (gives (Begun 0 ∷ Drew (by 0 0) ∷ Looked (by 0 0) 0 ∷ Landed (by 0 0) 0 711 ∷ Cut (found 0 0 0 0 0) ∷ []) [])
    -- E: a take on a fresh ring
    ∷ case (from_fresh 4 2 16 (Take 0 ∷ go 0 8 ++ Back (Copy 0) ∷ go 0 1))
    (gives
    (Begun 0 ∷ Drew (by 0 0) ∷ Looked (by 0 0) 0 ∷ Passed (by 0 0) 0 ∷ SawTail (by 0 0) 0 ∷ Lifted (by 0 0) 1 ∷ Copied (by 0 0) 1
    ∷ Asked (by 0 0) ∷ Waiting (by 0 0) ∷ Written (Copy 0) ∷ Empty (by 0 0) ∷ [])
    [])
    -- F: with R 1 the second put is told CLOSED, with R 2 it lands
    ∷ case (from_fresh 1 1 16 run_closed) (gives said_closed (entry 0 711 ∷ []))
    ∷ case (from_fresh 2 1 16 (puts 0 711 ++ Put 0 712 ∷ go 0 3))
    (gives (confirmed 0 0 711 ++ Begun 0 ∷ Drew (by 0 1) ∷ Looked (by 0 1) 1 ∷ Landed (by 0 1) 1 712 ∷ []) (entry 0 711 ∷ []))
    -- G
    ∷ case (from_fresh 4 3 2 run_g) (gives said_g (entry 2 103 ∷ entry 3 104 ∷ entry 5 105 ∷ []))
    -- H: without the mark, and with mark 4 on cell 3
    ∷ case (from_kept 5 1 16 9 (kept_h 0)) (gives (Cut (found 0 0 9 0 4) ∷ []) (entry 0 100 ∷ entry 1 101 ∷ entry 2 102 ∷ entry 8 108 ∷ []))
    ∷ case (from_kept 5 1 16 9 (kept_h 4)) (gives (Cut (found 4 8 9 0 1) ∷ []) (entry 8 108 ∷ []))
    -- I: CLOSED answered, and closed set but never written
    ∷ case (from_fresh 1 1 16 (run_closed ++ CutEvent ∷ [])) (gives (said_closed ++ Cut (found 0 0 1 1 1) ∷ []) (entry 0 711 ∷ []))
    ∷ case (from_fresh 1 1 16 (run_f ++ CutEvent ∷ [])) (gives (said_f ++ Cut (found 0 0 1 0 1) ∷ []) (entry 0 711 ∷ []))
    -- J
    ∷ case (from_kept 4 2 16 40 kept_j) (gives (Cut (found 4 5 7 0 2) ∷ []) (entry 5 105 ∷ entry 6 106 ∷ []))
    ∷ []
