-- A block of input as the code runs it: a carry of 41 bytes, of which a full one means that the line is too long, and a buffer that can be full.
use Rattle.std.specs.Prelude.{ℕ, ◌+◌, ◌-◌, ◌/◌, List, [], ◌∷◌, Bool, cond, length, replicate, set, take, eqb, leb, ltb}
use Rattle.std.proofs.lemmas.List.Edits.{sets}
use Rattle.bench.specs.declared.carry.Carry.{Carry}
use Rattle.bench.specs.Bench.{Run, ran_line, line_says}
use Rattle.bench.specs.Stream.{last_ran, finish_says}

-- before the first byte
abbrev pub empty_carry : Carry
empty_carry = record { bytes = replicate 41 0; len = 0 }

-- a byte of a line that is not over
unfoldable pub keep_carry : List ℕ → ℕ → ℕ → List ℕ
keep_carry c n b = cond (ltb n 41) (set c n b) c

unfoldable pub keep_len : ℕ → ℕ
keep_len n = cond (ltb n 41) (n + 1) n

pub record Scanned : Type 0 where
  pub carry : List ℕ
  pub len : ℕ
  pub next : ℕ
  pub rest : List ℕ

-- up to the newline, or to the end
abbrev pub scan_of : List ℕ → ℕ → ℕ → List ℕ → Scanned
scan_of c n i [] = record { carry = c; len = n; next = i; rest = [] }
scan_of c n i (b ∷ bs) = cond (eqb b 10) (record { carry = c; len = n; next = i; rest = b ∷ bs }) (scan_of (keep_carry c n b) (keep_len n) (i + 1) bs)

-- there is room for that many bytes
abbrev pub has_room : ℕ → List ℕ → ℕ → Bool
has_room need out at = leb (at + need) (length out)

pub record Poured : Type 0 where
  pub run : Run
  pub carry : List ℕ
  pub len : ℕ
  pub next : ℕ
  pub out : List ℕ
  pub at : ℕ

abbrev pub poured : Run → List ℕ → ℕ → ℕ → List ℕ → ℕ → Poured
poured r c n i out at = record { run = r; carry = c; len = n; next = i; out = out; at = at }

-- how many lines have room for their output: each prints at most 2,048 bytes
unfoldable pub line_room : List ℕ → ℕ → ℕ
line_room out at = (length out - at) / 2048

-- a block from place i on, until it is over or m lines were run
abbrev pub pour : ℕ → Run → List ℕ → ℕ → ℕ → List ℕ → List ℕ → ℕ → Poured
pour m r c n i [] out at = poured r c n i out at
pour m r c n i (b ∷ bs) out at =
    cond (eqb b 10)
    (cond (eqb m 0)
    (poured r c n i out at)
    (pour (m - 1) (ran_line r (take n c)) c 0 (i + 1) bs (sets out at (line_says r (take n c))) (at + length (line_says r (take n c)))))
    (pour m r (keep_carry c n b) (keep_len n) (i + 1) bs out at)

pub record Finished : Type 0 where
  pub run : Run
  pub out : List ℕ
  pub at : ℕ

-- the end of the input: the last line and the event count, if there is room for both
unfoldable pub finished : Run → List ℕ → ℕ → List ℕ → ℕ → Finished
finished r c n out at =
    let t = finish_says r (take n c) n in
    cond (has_room 4096 out at)
    (record { run = last_ran r (take n c) n; out = sets out at t; at = at + length t })
    (record { run = r; out = out; at = at })
